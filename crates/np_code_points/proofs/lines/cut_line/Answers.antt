use Rattle.std.proofs.Common.{List, [], ℕ, Bor, option_map, sym, ap, ◌∙◌, ◌∷◌}
use Rattle.np_code_points.specs.inside.LineCuts.{is_byte, lines_of}
use Rattle.np_code_points.proofs.LineLemmas.{lines_cut, lines_lone, length-after_first, filled}
use Rattle.np_code_points.proofs.lines.cut_line.Goals as goal

pub returns-in-Some : goal.returns-in-Some
returns-in-Some c =
    let behind = sym c.cut.ensures.after ∙ ap (option_map (λ (r : Bor (List ℕ)). r.now)) c.in-Some.is in
    record {
      line = lines_cut c.args.bytes.now c.in-Some.rest.now c.requires behind
          ∙ ap (λ line. line ∷ lines_of c.in-Some.rest.now) (sym c.cut.ensures.before);
      shorter = length-after_first (is_byte 10) c.args.bytes.now c.in-Some.rest.now behind;
    }

pub returns-in-None : goal.returns-in-None
returns-in-None c = record {
  line = lines_lone c.args.bytes.now c.requires (sym c.cut.ensures.after ∙ ap (option_map (λ (r : Bor (List ℕ)). r.now)) c.in-None.is)
      ∙ ap (λ line. line ∷ lines_of []) (sym c.cut.ensures.before);
  shorter = filled c.args.bytes.now c.requires;
}
