use Rattle.std.proofs.Common.{◌≡◌, ℕ, ◌-◌, List, length, take, drop, Option, Some, None, Bor, IfOk, option_map, sym, ap, ◌∙◌, subst}
use Rattle.std.proofs.lemmas.List.{take_rest}
use Rattle.np_ucd.specs.Entries.{Plain}
use Rattle.np_ucd.proofs.ScalarLemmas.{mapping_empty, mapping_canonical, mapping_tagged}
use Rattle.np_ucd.specs.Mappings.{Mapping}
use Rattle.np_ucd.specs.inside.MappingValues.{mapping_of}
use Rattle.np_ucd.proofs.mappings.read_mapping.Goals as goal

pub returns-then-is_empty : goal.returns-then-is_empty
returns-then-is_empty c =
    let plain : List ℕ → Option Mapping = λ codes. Some (record { kind = Plain; codes = codes }) in
    ap plain c.new.ensures.items
    ∙ sym (mapping_empty c.args.field.now c.after_dividers-text.result.now c.after_dividers-text.ensures (sym c.is_empty.ensures ∙ c.if-is_empty.true))

pub returns-then-text-ne60 : goal.returns-then-text-ne60
returns-then-text-ne60 c =
    subst (λ (wanted : Option Mapping). IfOk c.listed.result (λ mapping. option_map mapping_of mapping ≡ wanted))
    (mapping_canonical c.args.field.now c.after_dividers-text.result.now c.after_dividers-text.ensures (sym c.is_empty.ensures ∙ c.if-is_empty.false) c.if-text-ne60.true)
    c.listed.ensures

pub returns-in-Some : goal.returns-in-Some
returns-in-Some c =
    let s = c.after_dividers-text.result.now in
    subst (λ (wanted : Option Mapping). IfOk c.listed-in-Some.result (λ mapping. option_map mapping_of mapping ≡ wanted))
    (mapping_tagged c.args.field.now s (take (length s - 1) (drop 1 s)) (Some c.in-Some.rest.now) c.after_dividers-text.ensures (sym c.is_empty.ensures ∙ c.if-is_empty.false) c.if-text-ne60.false
    (take_rest s 1) (sym c.cut.ensures.after ∙ ap (option_map (λ (r : Bor (List ℕ)). r.now)) c.in-Some.is))
    c.listed-in-Some.ensures

pub returns-in-None : goal.returns-in-None
returns-in-None c =
    let s = c.after_dividers-text.result.now in
    mapping_tagged c.args.field.now s (take (length s - 1) (drop 1 s)) None c.after_dividers-text.ensures (sym c.is_empty.ensures ∙ c.if-is_empty.false) c.if-text-ne60.false
    (take_rest s 1) (sym c.cut.ensures.after ∙ ap (option_map (λ (r : Bor (List ℕ)). r.now)) c.in-None.is)
