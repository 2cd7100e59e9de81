use Rattle.std.proofs.Common.{[], ◌++◌, refl, sym, ap, ap₂, subst, ◌∙◌, append-nil}
use Rattle.std.proofs.lemmas.Bool.{eqb-true}
use Rattle.std.proofs.lemmas.List.{nil_from_length, take-append-drop}
use Rattle.np_lines.specs.Answers.{IsAnswerBy}
use Rattle.np_lines.specs.inside.Steps.{Goes}
use Rattle.np_lines.proofs.BegunLemmas.{taken-more}
use Rattle.np_lines.proofs.StepLemmas.{goes-none}
use Rattle.np_lines.proofs.whole.take_all.Goals as goal

pub pieces-init : goal.pieces-init
pieces-init g c = record { front = []; split = refl; goes = goes-none (IsAnswerBy (g.K.LineKeys.is_key c.args.keys.now) (g.K.LineKeys.version c.args.keys.now) c.args.end) c.args.end c.args.pending.now }

pub pieces-preserved : goal.pieces-preserved
pieces-preserved g c =
    let Is = IsAnswerBy (g.K.LineKeys.is_key c.args.keys.now) (g.K.LineKeys.version c.args.keys.now) c.args.end in
    let piece = c.split_at.result.0.now in
    let behind = c.split_at.result.1.now in
    taken-more Is c.args.end c.args.pending.now c.pieces.pending c.take_piece.new.self c.args.bytes.now c.pieces.rest.now behind c.pieces.invariant
    (record { front = piece; split = sym (take-append-drop _ c.pieces.rest.now) ∙ ap₂ (λ l m. l ++ m) (sym c.split_at.ensures.front) (sym c.split_at.ensures.back); goes = c.in_ok-take_piece.ensures })

pub returns : goal.returns
returns g c =
    let taken = c.pieces.invariant in
    let none = nil_from_length c.pieces.rest.now (eqb-true _ 0 (sym c.is_empty.ensures ∙ c.pieces-test.false)) in
    subst (Goes (IsAnswerBy (g.K.LineKeys.is_key c.args.keys.now) (g.K.LineKeys.version c.args.keys.now) c.args.end) c.args.end c.args.pending.now c.pieces.pending) (sym (taken.split ∙ ap (λ l. taken.front ++ l) none ∙ append-nil taken.front)) taken.goes
