-- Bytes say one schedule, or one line of them is the first that can't stand.
use Rattle.std.proofs.Common.{◌≡◌, ℕ, ◌+◌, ◌<◌, ◌≤◌, ◌⊎◌, List, [], ◌∷◌, ◌++◌, length, refl, sym, ap, subst, ◌∙◌, inl, inr, ⊎_elim, arith}
use Rattle.std.specs.List.{AllZip}
use Rattle.std.proofs.lemmas.Bool.{cases_lt}
use Rattle.std.proofs.lemmas.List.{append_assoc, length-append}
use Rattle.np_code_points.specs.Lines.{Numbered, Walk}
use Rattle.np_code_points.specs.inside.LineCuts.{data_lines_in, lines_of}
use Rattle.np_code_points.proofs.DataLineGrammar.{are_data_lines, only_data_lines}
use Rattle.np_code_points.proofs.LineGrammar.{are_lines, only_lines}
use Rattle.np_schedules.specs.Events.{Event, ScheduleData}
use Rattle.np_schedules.specs.ReadingLaws.{SaysOver, HasOneReading}
use Rattle.np_schedules.specs.ScheduleFiles.{AreEventLines, SaysSchedule, MayStand, IsUnfit, EndsEarly, IsFaultyLine}
use Rattle.np_schedules.specs.ScheduleLines.{IsEventLine, IsNodesLine, IsRoomLine}
use Rattle.np_schedules.specs.declared.reading.ScheduleFault.TheVariants.{Line}
use Rattle.np_schedules.specs.inside.LineReading.{IsNoneOf}
use Rattle.np_schedules.specs.inside.ScheduleReading.{AddsEvent, NextSays, HasTaken, IsUnfitEvent}
use Rattle.np_schedules.proofs.LineLemmas.{one_value, some_or_none, room_is, starts_are, event_is}
use Rattle.np_schedules.proofs.ScheduleLemmas.{EventHere, Begins, begins_taking, takes_next, takes_all, names_unfit, room_refused, starts_refused, events_refused, says_schedule}

-- Each line says one thing, so all say one schedule.
one_events : (versions nodes : ℕ) (lines : List Numbered) (a b : List Event) → AllZip (EventHere versions nodes) lines a → AllZip (EventHere versions nodes) lines b → a ≡ b
one_events versions nodes [] [] [] h k = refl
one_events versions nodes [] [] (e ∷ b) h k = absurd k
one_events versions nodes [] (e ∷ a) b h k = absurd h
one_events versions nodes (line ∷ lines) [] b h k = absurd h
one_events versions nodes (line ∷ lines) (e ∷ a) [] h k = absurd k
one_events versions nodes (line ∷ lines) (e ∷ a) (f ∷ b) h k =
    let head : e ≡ f = one_value (event_is versions nodes line.text) e f h.0 k.0 in
    let tail : a ≡ b = one_events versions nodes lines a b h.1 k.1 in
    cc

abbrev made : ℕ → ℕ → List ℕ → List Event → ScheduleData
made versions room starts events = record { versions = versions; room = room; starts = starts; events = events }

same_schedule : (a b : ScheduleData) → a.versions ≡ b.versions → a.room ≡ b.room → a.starts ≡ b.starts → a.events ≡ b.events → a ≡ b
same_schedule a b versions room starts events =
    ap (λ v. made v a.room a.starts a.events) versions
    ∙ ap (λ r. made b.versions r a.starts a.events) room
    ∙ ap (λ s. made b.versions b.room s a.events) starts
    ∙ ap (made b.versions b.room b.starts) events

-- the three parts of two equal lists
record SameParts (a b : Numbered) (c d : Numbered) (xs ys : List Numbered) : Type 0 where
  first : a ≡ b
  second : c ≡ d
  rest : xs ≡ ys

same_parts : (a b c d : Numbered) (xs ys : List Numbered) → a ∷ c ∷ xs ≡ b ∷ d ∷ ys → SameParts a b c d xs ys
same_parts a b c d xs ys e = record { first = cc; second = cc; rest = cc }

one_said : (a b : ScheduleData) (bytes : List ℕ) → SaysSchedule bytes a → SaysSchedule bytes b → a.versions ≡ b.versions → a ≡ b
one_said a b bytes h k versions =
    let same = same_parts h.room k.room h.nodes k.nodes h.events k.events
    (only_data_lines bytes _ h.lines ∙ sym (only_data_lines bytes _ k.lines)) in
    let room = one_value (room_is h.room.text) a.room b.room h.room_says (subst (λ (r : Numbered). IsRoomLine r.text b.room) (sym same.first) k.room_says) in
    let starts = one_value (starts_are a.versions h.nodes.text) a.starts b.starts h.nodes_say
    (subst (λ v. IsNodesLine v h.nodes.text b.starts) (sym versions) (subst (λ (r : Numbered). IsNodesLine b.versions r.text b.starts) (sym same.second) k.nodes_say)) in
    let events = one_events a.versions (length a.starts) h.events a.events b.events h.events_say.0
    (subst (λ ss. AllZip (EventHere a.versions (length ss)) h.events b.events) (sym starts)
    (subst (λ ls. AllZip (EventHere a.versions (length b.starts)) ls b.events) (sym same.rest)
    (subst (λ v. AllZip (EventHere v (length b.starts)) k.events b.events) (sym versions) k.events_say.0))) in
    same_schedule a b versions room starts events

-- What stands at the front of lines that may stand may stand.
front_says : (versions nodes : ℕ) (front back : List Numbered) (events : List Event) → AllZip (EventHere versions nodes) (front ++ back) events → (some : List Event) × AllZip (EventHere versions nodes) front some × (length some ≤ length events)
front_says versions nodes [] back events h = ([], tt, omega arith)
front_says versions nodes (line ∷ front) back [] h = absurd h
front_says versions nodes (line ∷ front) back (event ∷ events) h =
    let more = front_says versions nodes front back events h.1 in
    let few = more.2 in
    (event ∷ more.0, (h.0, more.1), omega (arith, few))

front_stands : (versions : ℕ) (front back : List Numbered) → MayStand versions (front ++ back) → MayStand versions front
front_stands versions [] back h = tt
front_stands versions (room ∷ []) [] h = h
front_stands versions (room ∷ []) (line ∷ back) h = (h.0, h.3)
front_stands versions (room ∷ nodes ∷ front) back h =
    let some = front_says versions (length h.1) front back h.2 h.5.0 in
    let few = some.2 in
    let most = h.5.1 in
    (h.0, h.1, some.0, h.3, h.4, (some.1, omega (arith, few, most)))

-- the one line that falls behind lines that stand
falls_in : (versions : ℕ) (lines before behind : List Numbered) (line : Numbered) → MayStand versions lines → lines ≡ before ++ line ∷ behind → (MayStand versions (before ++ line ∷ []) → ⊥) → ⊥
falls_in versions lines before behind line stand e falls =
    falls (front_stands versions (before ++ line ∷ []) behind
    (subst (MayStand versions) (e ∙ sym (append_assoc before (line ∷ []) behind)) stand))

-- two places in a list are one, or one is before the other
record Precedes (xs : List Numbered) (x : Numbered) (ys : List Numbered) : Type 0 where
  behind : List Numbered
  is : ys ≡ xs ++ x ∷ behind

precedes_more : (w z : Numbered) (xs : List Numbered) (x : Numbered) (ys : List Numbered) → w ≡ z → Precedes xs x ys → Precedes (w ∷ xs) x (z ∷ ys)
precedes_more w z xs x ys e h = record { behind = h.behind; is = let is = h.is in cc }

places : (xs : List Numbered) (x : Numbered) (more ys : List Numbered) (y : Numbered) (rest : List Numbered) → xs ++ x ∷ more ≡ ys ++ y ∷ rest → (x ≡ y) ⊎ (Precedes xs x ys ⊎ Precedes ys y xs)
places [] x more [] y rest e = inl cc
places [] x more (z ∷ ys) y rest e = inr (inl (record { behind = ys; is = cc }))
places (w ∷ xs) x more [] y rest e = inr (inr (record { behind = xs; is = cc }))
places (w ∷ xs) x more (z ∷ ys) y rest e =
    let head : w ≡ z = cc in
    ⊎_elim (λ same. inl same)
    (λ apart. inr (⊎_elim (λ first. inl (precedes_more w z xs x ys head first)) (λ second. inr (precedes_more z w ys y xs (sym head) second)) apart))
    (places xs x more ys y rest cc)

one_unfit : (bytes : List ℕ) (versions a b : ℕ) → IsUnfit bytes versions a → IsUnfit bytes versions b → a ≡ b
one_unfit bytes versions a b h k =
    ⊎_elim
    (λ same. h.here ∙ ap (λ (r : Numbered). r.line) same ∙ sym k.here)
    (λ apart. ⊎_elim
    (λ first. absurd (falls_in versions k.before h.before first.behind h.unfit k.stand first.is h.falls))
    (λ second. absurd (falls_in versions h.before k.before second.behind k.unfit h.stand second.is k.falls))
    apart)
    (places h.before h.unfit h.behind k.before k.unfit k.behind (only_data_lines bytes _ h.lines ∙ sym (only_data_lines bytes _ k.lines)))

-- a file that ends early has no line that can't stand
early_stands : (bytes : List ℕ) (versions a b : ℕ) → EndsEarly bytes versions a → IsUnfit bytes versions b → ⊥
early_stands bytes versions a b h k =
    falls_in versions h.taken k.before k.behind k.unfit h.stand
    (only_data_lines bytes h.taken h.data_lines ∙ sym (only_data_lines bytes _ k.lines)) k.falls

one_end : (bytes : List ℕ) (versions a b : ℕ) → EndsEarly bytes versions a → EndsEarly bytes versions b → a ≡ b
one_end bytes versions a b h k =
    h.here ∙ ap (λ (ls : List (List ℕ)). length ls + 1) (only_lines bytes h.lines h.are ∙ sym (only_lines bytes k.lines k.are)) ∙ sym k.here

one_faulty : (bytes : List ℕ) (versions a b : ℕ) → IsFaultyLine bytes versions a → IsFaultyLine bytes versions b → a ≡ b
one_faulty bytes versions a b h k =
    ⊎_elim
    (λ unfit. ⊎_elim (λ other. one_unfit bytes versions a b unfit other) (λ early. absurd (early_stands bytes versions b a early unfit)) k)
    (λ early. ⊎_elim (λ unfit. absurd (early_stands bytes versions a b early unfit)) (λ other. one_end bytes versions a b early other) k)
    h

-- a schedule stands, and has a line of nodes
said_stands : (bytes : List ℕ) (schedule : ScheduleData) (h : SaysSchedule bytes schedule) → MayStand schedule.versions (h.room ∷ h.nodes ∷ h.events)
said_stands bytes schedule h = (schedule.room, schedule.starts, schedule.events, h.room_says, h.nodes_say, h.events_say)

no_fault_said : (bytes : List ℕ) (schedule : ScheduleData) (line : ℕ) → SaysSchedule bytes schedule → IsFaultyLine bytes schedule.versions line → ⊥
no_fault_said bytes schedule line h fault =
    ⊎_elim
    (λ unfit. falls_in schedule.versions (h.room ∷ h.nodes ∷ h.events) unfit.before unfit.behind unfit.unfit (said_stands bytes schedule h)
    (only_data_lines bytes _ h.lines ∙ sym (only_data_lines bytes _ unfit.lines)) unfit.falls)
    (λ early.
    let same = ap length (only_data_lines bytes early.taken early.data_lines ∙ sym (only_data_lines bytes _ h.lines)) in
    let few = early.early in
    absurd (omega (arith, same, few)))
    fault

-- Bytes say a schedule, or have a faulty line.
one_more : (versions nodes : ℕ) (old : List Event) (text : List ℕ) (event : Event) → IsEventLine versions nodes text event → length old < 1000000 → AddsEvent versions nodes old text (old ++ event ∷ [])
one_more versions nodes old text event says room = record {
  event = event;
  says = says;
  grown = refl;
  most = let longer = length-append old (event ∷ []) in omega (arith, longer, room);
}

events_outcome : (versions nodes : ℕ) (lines left : List Numbered) (events : List Event) → HasTaken versions nodes lines left events → ((number : ℕ) × IsUnfitEvent versions nodes lines number) ⊎ ((all : List Event) × AreEventLines versions nodes lines all)
events_outcome versions nodes lines [] events h = inr (events, takes_all versions nodes lines [] events h refl)
events_outcome versions nodes lines (line ∷ more) events h =
    let unfit = λ (none : IsNoneOf (IsEventLine versions nodes line.text) ⊎ (1000000 ≤ length events)). names_unfit versions nodes lines (line ∷ more) more line events (Line line.line) h refl (record { none = none; here = refl }) in
    ⊎_elim
    (λ some. ⊎_elim
    (λ room. events_outcome versions nodes lines more (events ++ some.0 ∷ []) (takes_next versions nodes lines (line ∷ more) more line events (events ++ some.0 ∷ []) h refl (one_more versions nodes events line.text some.0 some.1 room)))
    (λ full. inl (line.line, unfit (inr full)))
    (cases_lt (length events) 1000000))
    (λ none. inl (line.line, unfit (inl none)))
    (some_or_none (event_is versions nodes line.text))

abbrev walk_to : List ℕ → List Numbered → Walk
walk_to bytes left = record { left = left; passed = 0; total = length (lines_of bytes) }

abbrev start_of : List ℕ → Walk
start_of bytes = walk_to bytes (data_lines_in bytes)

start_begins : (bytes : List ℕ) → Begins bytes (start_of bytes)
start_begins bytes = record { data_lines = are_data_lines bytes; lines = lines_of bytes; are = are_lines bytes; total = refl }

abbrev Outcome : List ℕ → ℕ → Type 0
Outcome bytes versions = ((schedule : ScheduleData) × SaysOver bytes versions schedule) ⊎ ((line : ℕ) × IsFaultyLine bytes versions line)

behind_nodes : (bytes : List ℕ) (versions room : ℕ) (starts : List ℕ) (nodes_left left : List Numbered) → NextSays IsRoomLine (start_of bytes) room (walk_to bytes nodes_left) → NextSays (IsNodesLine versions) (walk_to bytes nodes_left) starts (walk_to bytes left) → Outcome bytes versions
behind_nodes bytes versions room starts nodes_left left first second =
    ⊎_elim
    (λ unfit. inr (unfit.0, events_refused bytes versions (start_of bytes) (walk_to bytes nodes_left) (walk_to bytes left) room starts (Line unfit.0) (start_begins bytes) first second unfit.1))
    (λ says. inl (
      made versions room starts says.0,
      (says_schedule bytes (start_of bytes) (walk_to bytes nodes_left) (walk_to bytes left) (made versions room starts says.0) (start_begins bytes) first second says.1, refl),
    ))
    (events_outcome versions (length starts) left left [] (begins_taking versions (length starts) left left [] refl refl))

behind_room : (bytes : List ℕ) (versions room : ℕ) (left : List Numbered) → NextSays IsRoomLine (start_of bytes) room (walk_to bytes left) → Outcome bytes versions
behind_room bytes versions room [] first =
    inr (length (lines_of bytes) + 1, starts_refused bytes versions (start_of bytes) (walk_to bytes []) room (Line (length (lines_of bytes) + 1)) (start_begins bytes) first (inr (record { none = refl; here = refl })))
behind_room bytes versions room (line ∷ left) first =
    ⊎_elim
    (λ some. behind_nodes bytes versions room some.0 (line ∷ left) left first (record { line = line; left = refl; total = refl; is = some.1 }))
    (λ none. inr (
      line.line,
      starts_refused bytes versions (start_of bytes) (walk_to bytes (line ∷ left)) room (Line line.line) (start_begins bytes) first
          (inl (record { line = line; behind = left; left = refl; none = none; here = refl })),
    ))
    (some_or_none (starts_are versions line.text))

outcome_of : (bytes : List ℕ) (versions : ℕ) (lines : List Numbered) → data_lines_in bytes ≡ lines → Outcome bytes versions
outcome_of bytes versions [] e =
    inr (length (lines_of bytes) + 1, room_refused bytes versions (start_of bytes) (Line (length (lines_of bytes) + 1)) (start_begins bytes) (inr (record { none = e; here = refl })))
outcome_of bytes versions (line ∷ left) e =
    ⊎_elim
    (λ some. behind_room bytes versions some.0 left (record { line = line; left = e; total = refl; is = some.1 }))
    (λ none. inr (
      line.line,
      room_refused bytes versions (start_of bytes) (Line line.line) (start_begins bytes)
          (inl (record { line = line; behind = left; left = e; none = none; here = refl })),
    ))
    (some_or_none (room_is line.text))

pub one_reading : (bytes : List ℕ) (versions : ℕ) → HasOneReading bytes versions
one_reading bytes versions = record {
  either = ⊎_elim
      (λ said. inl (said.0, said.1, λ other h. one_said other said.0 bytes h.0 said.1.0 (h.1 ∙ sym said.1.1)))
      (λ faulty. inr (faulty.0, faulty.1, λ other h. one_faulty bytes versions other faulty.0 h faulty.1))
      (outcome_of bytes versions (data_lines_in bytes) refl);
  not_both = λ schedule line said fault. no_fault_said bytes schedule line said.0 (subst (λ v. IsFaultyLine bytes v line) (sym said.1) fault);
}
