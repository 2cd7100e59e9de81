use Rattle.std.proofs.Common.{◌≡◌, ◌≢◌, Bool, true, false, not, ℕ, Option, Some, None, length, [], refl, sym, ap, subst, ◌∙◌, arith}
use Rattle.np_forms.proofs.Words.{drop_all, MayBegin, MayNotBegin}
use Rattle.std.specs.Option.{is_some}
use Rattle.std.specs.Str.Lossy.{utf8_error_len}
use Rattle.np_code_points.proofs.TextLemmas.{longest_valid_prefix}
use Rattle.np_forms.proofs.RunTextLemmas.{whole_prefix}
use Rattle.np_forms.proofs.utf8_prefixes.utf8_prefix_of.Goals as goal

nothing : utf8_error_len [] ≡ None
unfolding utf8_error_len
nothing = refl

pub returns-in-Ok-clause-begins : goal.returns-in-Ok-clause-begins
returns-in-Ok-clause-begins c = λ _.
    let same : length c.in-Ok.text.now ≡ length c.args.bytes.now = ap length c.in-Ok.ensures.cases.0 in
    record {
      prefix = whole_prefix c.args.bytes.now (length c.in-Ok.text.now) same c.in-Ok.ensures.cases.1;
      begins = ap utf8_error_len (drop_all (length c.in-Ok.text.now) c.args.bytes.now (omega arith)) ∙ nothing;
    }

none_from : (o : Option ℕ) (b : Bool) → is_some o ≡ not b → b ≡ true → o ≡ None
none_from None b e h = refl
none_from (Some k) b e h = let clash : true ≡ false = e ∙ ap not h in cc

pub returns-in-Err-clause-begins : goal.returns-in-Err-clause-begins
returns-in-Err-clause-begins c = λ h.
    let none = none_from c.error_len.result c.is_none.result c.is_none.ensures h in
    subst (MayBegin c.args.bytes.now) (sym c.valid_up_to.ensures)
    (record { prefix = longest_valid_prefix _ _ c.in-Err.ensures.cases.1; begins = sym c.in-Err.ensures.fault ∙ sym c.error_len.ensures ∙ none })

pub returns-in-Err-clause-ends : goal.returns-in-Err-clause-ends
returns-in-Err-clause-ends c = λ h.
    let some : c.error_len.result ≢ None = λ z. let clash : false ≡ true = sym (ap is_some z) ∙ c.is_none.ensures ∙ ap not h in cc in
    subst (MayNotBegin c.args.bytes.now) (sym c.valid_up_to.ensures)
    (record { prefix = longest_valid_prefix _ _ c.in-Err.ensures.cases.1; ends = λ z. some (c.error_len.ensures ∙ c.in-Err.ensures.fault ∙ z) })
