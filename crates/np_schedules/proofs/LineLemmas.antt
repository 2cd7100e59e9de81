-- A line says one thing, or nothing.
use Rattle.std.proofs.Common.{◌≡◌, ◌==◌, ℕ, ◌≤◌, ◌⊎◌, Bool, not, cond, List, [], length, Option, Some, None, option_and_then, MatchOption, Result, IfOk, IfErr, refl, sym, ap, ◌∙◌, inl, inr}
use Rattle.std.proofs.lemmas.Result.{IfOk-weaker, IfErr-weaker}
use Rattle.np_code_points.specs.declared.words.Dividers.TheVariants.{Blanks}
use Rattle.np_code_points.specs.inside.WordCuts.{words_of}
use Rattle.np_code_points.specs.inside.WordValues.{if_short, values_of}
use Rattle.np_code_points.proofs.ValueGrammar.{is_empty-length, joined, short_all}
use Rattle.np_schedules.specs.ScheduleLines.{IsEventLine, IsNodesLine, IsRoomLine}
use Rattle.np_schedules.specs.declared.reading.faults.LineFault.{LineFault}
use Rattle.np_schedules.specs.declared.reading.faults.LineFault.TheVariants.{Unfit, Memory}
use Rattle.np_schedules.specs.inside.LineReading.{IsNoneOf, Lacks, Refuses}
use Rattle.np_schedules.specs.inside.LineValues.{below_value, event_value, room_value, starts_value}
use Rattle.np_schedules.proofs.EventGrammar.{event_said, said_event}
use Rattle.np_schedules.proofs.LineGrammar.{room_said, said_room, starts_said, said_starts}

-- places are said by all the words, where there are any
pub places_said : (bound : ℕ) {all : Option (List ℕ)} (places : List ℕ) (words : List (List ℕ)) {n : ℕ} {t : Bool} → all ≡ joined places (values_of (below_value bound) words) → words ≡ [] → length places ≤ 64 → n ≡ length places → (n == 0) ≡ t
    → option_and_then (if_short 64) all ≡ cond (not t) (Some places) None
places_said bound {all} places words total none fits size empty =
    short_all (below_value bound) 64 all places words total none fits ∙ ap (λ b. cond (not b) (Some places) None) (is_empty-length places ∙ ap (λ k. k == 0) (sym size) ∙ empty)

-- What a function says, where a relation is the function's both ways.
pub record IsValueOf {A : Type 0} (Says : A → Type 0) (value : Option A) : Type 0 where
  pub from : (a : A) → value ≡ Some a → Says a
  pub to : (a : A) → Says a → value ≡ Some a

module _ {A : Type 0} {Says : A → Type 0} {value : Option A} (is : IsValueOf Says value) where
  pub one_value : (a b : A) → Says a → Says b → a ≡ b
  one_value a b h k = let both : Some a ≡ Some b = sym (is.to a h) ∙ is.to b k in cc

  no_value : value ≡ None → IsNoneOf Says
  no_value e a h = let both : None ≡ Some a = sym e ∙ is.to a h in absurd (cc)

  pub told : (o : Option A) → o ≡ value → MatchOption o (IsNoneOf Says) Says
  told None e = no_value (sym e)
  told (Some a) e = is.from a (sym e)

  refuses : (found : Option A) → found ≡ value → (fault : LineFault) → Lacks found fault → Refuses Says fault
  refuses found same Unfit none = no_value (sym same ∙ none)
  refuses found same Memory none = tt

  pub refused : {B : Type 0} {found : Option A} (r : Result B LineFault) → found ≡ value → IfErr r (Lacks found) → IfErr r (Refuses Says)
  refused {found = found} r same h = IfErr-weaker r (Lacks found) (Refuses Says) (refuses found same) h

  pub said : {B : Type 0} {found : Option A} (of : B → A) (r : Result B LineFault) → found ≡ value → IfOk r (λ b. found ≡ Some (of b)) → IfOk r (λ b. Says (of b))
  said {found = found} of r same h = IfOk-weaker r (λ b. found ≡ Some (of b)) (λ b. Says (of b)) (λ b says. is.from (of b) (sym same ∙ says)) h

  value_or_none : (o : Option A) → value ≡ o → ((a : A) × Says a) ⊎ IsNoneOf Says
  value_or_none None e = inr (no_value e)
  value_or_none (Some a) e = inl (a, is.from a e)

  pub some_or_none : ((a : A) × Says a) ⊎ IsNoneOf Says
  some_or_none = value_or_none value refl

pub room_is : (text : List ℕ) → IsValueOf (IsRoomLine text) (room_value (words_of Blanks text))
room_is text = record { from = room_said text; to = said_room text }

pub starts_are : (versions : ℕ) (text : List ℕ) → IsValueOf (IsNodesLine versions text) (starts_value versions (words_of Blanks text))
starts_are versions text = record { from = starts_said versions text; to = said_starts versions text }

pub event_is : (versions nodes : ℕ) (text : List ℕ) → IsValueOf (IsEventLine versions nodes text) (event_value versions nodes (words_of Blanks text))
event_is versions nodes text = record { from = event_said versions nodes text; to = said_event versions nodes text }
