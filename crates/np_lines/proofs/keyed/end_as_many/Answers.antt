use Rattle.std.proofs.Common.{◌≡◌, ℕ, eqb, List, sym, ap₂, ◌∙◌}
use Rattle.std.proofs.lemmas.Bool.{eqb-true}
use Rattle.std.specs.List.{count_by}
use Rattle.np_lines.specs.inside.Keyed.{ends_in}
use Rattle.np_lines.proofs.keyed.end_as_many.Goals as goal

pub returns : goal.returns
returns c = λ same.
    let of : ℕ → List ℕ → ℕ = λ n l. count_by (λ b. eqb b n) l in
    let keys : c.count.result ≡ ends_in c.args.end c.args.keys.now = c.count.ensures ∙ ap₂ of c.byte.ensures c.as_bytes.ensures.value in
    let lines : c.count-2.result ≡ ends_in c.args.end c.args.lines.now = c.count-2.ensures ∙ ap₂ of c.byte-2.ensures c.as_bytes-2.ensures.value in
    sym keys ∙ eqb-true c.count.result c.count-2.result same ∙ lines
