use Rattle.std.proofs.Common.{◌≡◌, true, false, chars, string_bytes, refl, sym, ap, ◌∙◌}
use Rattle.std.specs.Str.{bytes_eq}
use Rattle.std.proofs.lemmas.Str.{IsUtf8-string_bytes, chars-nil}
use Rattle.np_code_points.specs.inside.WordValues.{scalar_value, scalars_of}
use Rattle.np_code_points.proofs.ValueGrammar.{joined, joined_none, joined_more, joined_bad, joined_all}
use Rattle.np_schedules.specs.inside.LineValues.{is_slash, up_to_slash}
use Rattle.np_schedules.proofs.PayloadLemmas.{up_to_here, behind_here, up_to_later, behind_later, up_to_end, behind_end, one_more_char}
use Rattle.np_schedules.proofs.reading.payloads.part_in.Goals as goal

pub loop-word-init : goal.loop-word-init
loop-word-init c = record {
  codes = joined_none (chars (string_bytes c.in_ok-string.string)) (scalars_of (up_to_slash c.args.words.now)) (ap chars c.in_ok-string.ensures.bytes ∙ chars-nil);
  rest = refl;
}

pub returns-then-eq-clause-codes : goal.returns-then-eq-clause-codes
returns-then-eq-clause-codes c =
    let here : is_slash c.in-Some.word.now ≡ true = ap (bytes_eq c.in-Some.word.now) (sym c.as_slice.ensures) ∙ sym c.eq.ensures ∙ c.if-eq.true in
    joined_all scalar_value (scalars_of (up_to_slash c.args.words.now)) (chars (string_bytes c.loop-word.string)) (up_to_slash c.loop-word.words)
    c.loop-word.invariant.codes (up_to_here c.loop-word.words c.in-Some.word.now c.next.new.self c.in-Some.ensures.steps here)

pub returns-then-eq-clause-rest : goal.returns-then-eq-clause-rest
returns-then-eq-clause-rest c =
    let here : is_slash c.in-Some.word.now ≡ true = ap (bytes_eq c.in-Some.word.now) (sym c.as_slice.ensures) ∙ sym c.eq.ensures ∙ c.if-eq.true in
    c.loop-word.invariant.rest ∙ behind_here c.loop-word.words c.in-Some.word.now c.next.new.self c.in-Some.ensures.steps here

pub returns-in_default-scalar_of-clause-refused : goal.returns-in_default-scalar_of-clause-refused
returns-in_default-scalar_of-clause-refused c =
    let later : is_slash c.in-Some.word.now ≡ false = ap (bytes_eq c.in-Some.word.now) (sym c.as_slice.ensures) ∙ sym c.eq.ensures ∙ c.if-eq.false in
    joined_bad scalar_value (scalars_of (up_to_slash c.args.words.now)) (chars (string_bytes c.loop-word.string)) (up_to_slash c.loop-word.words) c.in-Some.word.now (up_to_slash c.next.new.self)
    c.loop-word.invariant.codes (up_to_later c.loop-word.words c.in-Some.word.now c.next.new.self c.in-Some.ensures.steps later)
    (sym c.scalar_of.ensures.value ∙ c.in_default-scalar_of.is)

pub loop-word-preserved : goal.loop-word-preserved
loop-word-preserved c =
    let later : is_slash c.in-Some.word.now ≡ false = ap (bytes_eq c.in-Some.word.now) (sym c.as_slice.ensures) ∙ sym c.eq.ensures ∙ c.if-eq.false in
    record {
      codes =
          joined_more scalar_value (scalars_of (up_to_slash c.args.words.now)) (chars (string_bytes c.loop-word.string)) (up_to_slash c.loop-word.words) c.in-Some.word.now (up_to_slash c.next.new.self) c.in-Some-scalar_of.code
          c.loop-word.invariant.codes (up_to_later c.loop-word.words c.in-Some.word.now c.next.new.self c.in-Some.ensures.steps later)
          (sym c.scalar_of.ensures.value ∙ c.in-Some-scalar_of.is)
          ∙ ap (λ done. joined done (scalars_of (up_to_slash c.next.new.self)))
          (sym (one_more_char (string_bytes c.loop-word.string) (string_bytes c.push.new.self) c.in-Some-scalar_of.code (IsUtf8-string_bytes c.loop-word.string) (IsUtf8-string_bytes c.push.new.self) c.in_ok-push.ensures.bytes));
      rest = c.loop-word.invariant.rest ∙ behind_later c.loop-word.words c.in-Some.word.now c.next.new.self c.in-Some.ensures.steps later;
    }

pub returns-clause-codes : goal.returns-clause-codes
returns-clause-codes c =
    joined_all scalar_value (scalars_of (up_to_slash c.args.words.now)) (chars (string_bytes c.loop-word.string)) (up_to_slash c.loop-word.words)
    c.loop-word.invariant.codes (up_to_end c.loop-word.words c.in_default.ensures.steps.0)

pub returns-clause-rest : goal.returns-clause-rest
returns-clause-rest c = c.loop-word.invariant.rest ∙ behind_end c.loop-word.words c.in_default.ensures.steps.0
