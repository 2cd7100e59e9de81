use Rattle.std.proofs.Common.{chars, sym, ap, subst, arith, ◌∙◌}
use Rattle.np_forms.specs.Assigned.{IsAssigned, IsFirstUnassigned}
use Rattle.np_c.specs.Streams.{IsFirstOf, StreamView}
use Rattle.np_c.proofs.StreamLemmas.{first_stays, first_within, found_now, none_yet}
use Rattle.np_c.proofs.kept_streams.KeptStream.first_with.Goals as goal

pub returns-then-is_some : goal.returns-then-is_some
returns-then-is_some c = λ before utf8 place is.
    let first = ap (λ (s : StreamView). s.first) c.self.view_is in
    first_stays _ before c.args.text.now utf8 c.self.inside.first (sym c.is_some.ensures ∙ c.if-is_some.true) (subst (IsFirstOf c.args.self.now.version (chars before)) (sym first) is)

pub overflow_add-result : goal.overflow_add-result
overflow_add-result c =
    let found = c.in-Some.ensures.some in
    let within = first_within _ c.args.text.now c.in-Some.at c.in-Some.c c.utf8.text found in
    let place = ap (λ (s : StreamView). s.place) c.self.view_is in
    omega (arith, within, place, c.requires)

pub returns-in-Some : goal.returns-in-Some
returns-in-Some c = λ before utf8 place is.
    let first = ap (λ (s : StreamView). s.first) c.self.view_is in
    let version = ap (λ (s : StreamView). s.version) c.self.view_is in
    let at = ap (λ (s : StreamView). s.place) c.self.view_is in
    let found : IsFirstUnassigned c.args.self.now.version (chars c.args.text.now) c.in-Some.at c.from.result =
    subst (IsFirstUnassigned c.args.self.now.version (chars c.args.text.now) c.in-Some.at) (sym c.from.ensures)
    (subst (λ w. IsFirstUnassigned w (chars c.args.text.now) c.in-Some.at c.in-Some.c) (c.deref.ensures ∙ version) c.in-Some.ensures.some) in
    found_now _ before c.args.text.now utf8 c.self.inside.first c.self.inside.place c.in-Some.at c.from.result (sym c.is_some.ensures ∙ c.if-is_some.false)
    (subst (IsFirstOf c.args.self.now.version (chars before)) (sym first) is) (at ∙ place) found

pub returns-in-None : goal.returns-in-None
returns-in-None c = λ before utf8 place is.
    let first = ap (λ (s : StreamView). s.first) c.self.view_is in
    let version = ap (λ (s : StreamView). s.version) c.self.view_is in
    let all : IsAssigned c.args.self.now.version (chars c.args.text.now) = subst (λ w. IsAssigned w (chars c.args.text.now)) (c.deref.ensures ∙ version) c.in-None.ensures.none in
    none_yet _ before c.args.text.now utf8 c.self.inside.first (sym c.is_some.ensures ∙ c.if-is_some.false) (subst (IsFirstOf c.args.self.now.version (chars before)) (sym first) is) all
