use Rattle.std.proofs.Common.{◌∷◌, [], ap, sym, ◌∙◌}
use Rattle.np_foldings.proofs.FieldGrammar.{fields_at, fields_fine, fields_other, said_as}
use Rattle.np_foldings.proofs.fields.fields_of.Goals as goal

pub returns-in_err-code : goal.returns-in_err-code
returns-in_err-code c = rw c.from_residual.ensures (sym (fields_at c.args.text.now (c.args.text.now ∷ []) c.in_err-code.ensures))

pub returns-in_err-status : goal.returns-in_err-status
returns-in_err-status c =
    let a = c.in_ok-code.code.now in
    let rest = c.in_ok-code.rest.now in
    rw c.from_residual-in_err-status.ensures
    (sym (fields_at c.args.text.now (a ∷ rest ∷ []) (c.in_ok-code.ensures ∙ ap (λ ps. a ∷ ps) c.in_err-status.ensures)))

pub returns-in_err-mapping : goal.returns-in_err-mapping
returns-in_err-mapping c =
    let a = c.in_ok-code.code.now in
    let b = c.in_ok-status.status.now in
    let rest = c.in_ok-status.rest.now in
    rw c.from_residual-in_err-mapping.ensures
    (sym (fields_at c.args.text.now (a ∷ b ∷ rest ∷ [])
    (c.in_ok-code.ensures ∙ ap (λ ps. a ∷ ps) (c.in_ok-status.ensures ∙ ap (λ ps. b ∷ ps) c.in_err-mapping.ensures))))

pub returns-then-not-is_empty_end : goal.returns-then-not-is_empty_end
returns-then-not-is_empty_end c =
    let a = c.in_ok-code.code.now in
    let b = c.in_ok-status.status.now in
    let m = c.in_ok-mapping.mapping.now in
    let last = c.in_ok-mapping.last.now in
    sym (fields_other c.args.text.now a b m last
    (c.in_ok-code.ensures ∙ ap (λ ps. a ∷ ps) (c.in_ok-status.ensures ∙ ap (λ ps. b ∷ ps) c.in_ok-mapping.ensures))
    (sym c.is_empty_end.ensures ∙ c.if-not-is_empty_end.true))

pub returns : goal.returns
returns c =
    let a = c.in_ok-code.code.now in
    let b = c.in_ok-status.status.now in
    let m = c.in_ok-mapping.mapping.now in
    let last = c.in_ok-mapping.last.now in
    said_as c.text_of.result.now c.text_of-2.result.now c.text_of-3.result.now a b m c.text_of.ensures c.text_of-2.ensures c.text_of-3.ensures
    ∙ sym (fields_fine c.args.text.now a b m last
    (c.in_ok-code.ensures ∙ ap (λ ps. a ∷ ps) (c.in_ok-status.ensures ∙ ap (λ ps. b ∷ ps) c.in_ok-mapping.ensures))
    (sym c.is_empty_end.ensures ∙ c.if-not-is_empty_end.false))
