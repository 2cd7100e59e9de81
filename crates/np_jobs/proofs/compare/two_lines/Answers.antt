use Rattle.std.proofs.Common.{◌≢◌, ℕ, suc, ◌<◌, List, [], ◌∷◌, length, get_or, Some, None, inl, inr, refl, lit<, arith}
use Rattle.std.proofs.lemmas.List.Elements.{All-cons, All-nil}
use Rattle.std.proofs.lemmas.Str.Pattern.{split_parts, strip_suffix_char}
use Rattle.np_code_points.specs.Lines.{HasNo}
use Rattle.np_jobs.proofs.compare.two_lines.Goals as goal

has_none : (bytes : List ℕ) → ((i : ℕ) → i < length bytes → get_or bytes i 0 ≢ 10) → HasNo 10 bytes
has_none [] each = All-nil (λ b. b ≢ 10)
has_none (b ∷ bytes) each = All-cons (λ c. c ≢ 10) b bytes (each 0 (omega arith)) (has_none bytes (λ i lt. each (suc i) (omega (arith, lt))))

pub returns-in_default-clause-none : goal.returns-in_default-clause-none
returns-in_default-clause-none c = has_none c.args.text.now (split_parts 10 c.args.text.now None c.in_default.ensures.cases (lit< tt))

pub returns-in-Some-strip_suffix-clause-some : goal.returns-in-Some-strip_suffix-clause-some
returns-in-Some-strip_suffix-clause-some c =
    let parts = split_parts 10 c.args.text.now (Some (c.in-Some.first, c.in-Some.rest)) c.in-Some.ensures.cases (lit< tt) in
    let last = strip_suffix_char 10 c.in-Some.rest.now (Some c.in-Some-strip_suffix.second) c.in-Some-strip_suffix.ensures.cases (lit< tt) in
    record { rest = c.in-Some.rest.now; cut = parts.0; least = has_none c.in-Some.first.now parts.1; last = inl last }

pub returns-in-None-clause-some : goal.returns-in-None-clause-some
returns-in-None-clause-some c =
    let parts = split_parts 10 c.args.text.now (Some (c.in-Some.first, c.in-Some.rest)) c.in-Some.ensures.cases (lit< tt) in
    let last = strip_suffix_char 10 c.in-Some.rest.now None c.in-None.ensures.cases (lit< tt) in
    record { rest = c.in-Some.rest.now; cut = parts.0; least = has_none c.in-Some.first.now parts.1; last = inr (last, refl) }
