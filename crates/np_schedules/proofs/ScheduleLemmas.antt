-- How a schedule is read, line by line.
use Rattle.std.proofs.Common.{◌≡◌, ℕ, ◌+◌, ◌<◌, ◌≤◌, ◌⊎◌, List, [], ◌∷◌, ◌++◌, length, refl, sym, ap, subst, ◌∙◌, inl, inr, ⊎_elim, arith}
use Rattle.std.specs.List.{All, AllZip}
use Rattle.std.proofs.lemmas.List.Elements.{All-nil, All-cons}
use Rattle.std.proofs.lemmas.List.{append_assoc, append-nil, length-append}
use Rattle.std.proofs.lemmas.Slice.Zip.{AllZip-long, all_zipped_more}
use Rattle.np_code_points.specs.Lines.{Numbered, Walk, AreDataLines, AreLines}
use Rattle.np_code_points.specs.Laws.{HasOneCut}
use Rattle.np_code_points.proofs.LineLemmas.{filled}
use Rattle.np_schedules.specs.Events.{Event, ScheduleData, Accept, Deliver, Upgrade, Save, Restart, Ask, Forge, Forget, RestartUnder, node_of}
use Rattle.np_schedules.specs.ScheduleFiles.{AreEventLines, SaysSchedule, MayStand, EndsEarly, NamesLine}
use Rattle.np_schedules.specs.ScheduleLines.{SaysOf, IsEventLine, IsNodesLine, IsRoomLine}
use Rattle.np_schedules.specs.Schedules.{IsStandable, NamesVersion}
use Rattle.np_schedules.specs.declared.reading.ScheduleFault.{ScheduleFault}
use Rattle.np_schedules.specs.declared.reading.ScheduleFault.TheVariants.{Line, Memory}
use Rattle.np_schedules.specs.inside.LineReading.{IsNoneOf}
use Rattle.np_schedules.specs.inside.ScheduleReading.{AddsEvent, AddsNone, NamesNext, NextSays, NextRefuses, HasTaken, NamesUnfit}
use Rattle.np_schedules.proofs.LineLemmas.{one_value, starts_are}

abbrev pub EventHere : ℕ → ℕ → Numbered → Event → Type 0
EventHere versions nodes line event = IsEventLine versions nodes line.text event

-- the last line says some event
last_says : (versions nodes : ℕ) (lines : List Numbered) (line : Numbered) (events : List Event) → AllZip (EventHere versions nodes) (lines ++ line ∷ []) events → (event : Event) × IsEventLine versions nodes line.text event
last_says versions nodes [] line [] h = absurd h
last_says versions nodes [] line (event ∷ events) h = (event, h.0)
last_says versions nodes (l ∷ lines) line [] h = absurd h
last_says versions nodes (l ∷ lines) line (event ∷ events) h = last_says versions nodes lines line events h.1

-- The walk over the events.
pub begins_taking : (versions nodes : ℕ) (lines left : List Numbered) (events : List Event) → left ≡ lines → events ≡ [] → HasTaken versions nodes lines left events
begins_taking versions nodes lines left events all e = record {
  done = [];
  stands = sym all;
  says = subst (AreEventLines versions nodes []) (sym e) (tt, omega arith);
}

pub takes_next : (versions nodes : ℕ) (lines left more : List Numbered) (line : Numbered) (old new : List Event) → HasTaken versions nodes lines left old → left ≡ line ∷ more → AddsEvent versions nodes old line.text new → HasTaken versions nodes lines more new
takes_next versions nodes lines left more line old new h cut adds = record {
  done = h.done ++ line ∷ [];
  stands = h.stands ∙ ap (λ ls. h.done ++ ls) cut ∙ sym (append_assoc h.done (line ∷ []) more);
  says = (
    subst (AllZip (EventHere versions nodes) (h.done ++ line ∷ [])) (sym adds.grown)
        (all_zipped_more (EventHere versions nodes) h.done old line adds.event h.says.0 adds.says),
    adds.most,
  );
}

pub takes_all : (versions nodes : ℕ) (lines left : List Numbered) (events : List Event) → HasTaken versions nodes lines left events → left ≡ [] → AreEventLines versions nodes lines events
takes_all versions nodes lines left events h end =
    subst (λ ls. AreEventLines versions nodes ls events) (sym (h.stands ∙ ap (λ ls. h.done ++ ls) end ∙ append-nil h.done)) h.says

too_many : (versions nodes : ℕ) (done : List Numbered) (line : Numbered) (events more : List Event) → AllZip (EventHere versions nodes) done events → 1000000 ≤ length events → AreEventLines versions nodes (done ++ line ∷ []) more → ⊥
too_many versions nodes done line events more h full k =
    let taken = AllZip-long (EventHere versions nodes) done events h in
    let all = AllZip-long (EventHere versions nodes) (done ++ line ∷ []) more k.0 in
    let longer = length-append done (line ∷ []) in
    let most = k.1 in
    absurd (omega (arith, taken, all, longer, most, full))

no_more : (versions nodes : ℕ) (done : List Numbered) (line : Numbered) (old : List Event) → AreEventLines versions nodes done old → IsNoneOf (IsEventLine versions nodes line.text) ⊎ (1000000 ≤ length old) → IsNoneOf (AreEventLines versions nodes (done ++ line ∷ []))
no_more versions nodes done line old h none more k =
    ⊎_elim
    (λ says_none. let last = last_says versions nodes done line more k.0 in says_none last.0 last.1)
    (λ full. too_many versions nodes done line old more h.0 full k)
    none

pub names_unfit : (versions nodes : ℕ) (lines left more : List Numbered) (line : Numbered) (old : List Event) (fault : ScheduleFault) → HasTaken versions nodes lines left old → left ≡ line ∷ more → AddsNone versions nodes old line fault → NamesUnfit versions nodes lines fault
names_unfit versions nodes lines left more line old (Line number) h cut adds = record {
  before = h.done;
  unfit = line;
  behind = more;
  lines_are = h.stands ∙ ap (λ ls. h.done ++ ls) cut;
  events = old;
  stand = h.says;
  falls = no_more versions nodes h.done line old h.says adds.none;
  here = adds.here;
}
names_unfit versions nodes lines left more line old Memory h cut adds = tt

-- The walk over a whole file.
pub record Begins (bytes : List ℕ) (walk : Walk) : Type 0 where
  pub data_lines : AreDataLines bytes walk.left
  pub lines : List (List ℕ)
  pub are : AreLines bytes lines
  pub total : walk.total ≡ length lines

pub begins : (bytes : List ℕ) (walk : Walk) → HasOneCut → AreDataLines bytes walk.left → ((lines : List (List ℕ)) → AreLines bytes lines → walk.total ≡ length lines) → Begins bytes walk
begins bytes walk cut data_lines total =
    let one = cut bytes in record { data_lines = data_lines; lines = one.0; are = one.1; total = total one.0 one.1 }

few_lines : (bytes : List ℕ) (lines : List (List ℕ)) → AreLines bytes lines → length lines ≤ length bytes
few_lines bytes [] h = omega arith
few_lines bytes (line ∷ lines) h =
    ⊎_elim
    (λ more.
    let behind = few_lines more.0 lines more.2 in
    let cut = ap length more.1 in
    let parts = length-append line (10 ∷ more.0) in
    omega (arith, behind, cut, parts))
    (λ last.
    let some = filled line last.1 in
    let all = ap length last.0 in
    let none = ap length last.2 in
    omega (arith, some, all, none))
    h.1

-- a file has no more lines than bytes
pub few_in_total : (bytes : List ℕ) (walk : Walk) → Begins bytes walk → walk.total ≤ length bytes
few_in_total bytes walk h = let few = few_lines bytes h.lines h.are in let total = h.total in omega (arith, few, total)

-- The file ends before its line of nodes.
ends_early : (bytes : List ℕ) (versions : ℕ) (start walk : Walk) (taken : List Numbered) (number : ℕ) → Begins bytes start → start.left ≡ taken → MayStand versions taken → length taken < 2 → walk.total ≡ start.total → number ≡ walk.total + 1 → EndsEarly bytes versions number
ends_early bytes versions start walk taken number h all stand early same here = record {
  taken = taken;
  data_lines = subst (AreDataLines bytes) all h.data_lines;
  stand = stand;
  early = early;
  lines = h.lines;
  are = h.are;
  here = here ∙ ap (λ n. n + 1) (same ∙ h.total);
}

-- The line of the room.
pub room_refused : (bytes : List ℕ) (versions : ℕ) (start : Walk) (fault : ScheduleFault) → Begins bytes start → NamesNext IsRoomLine start fault → NamesLine bytes versions fault
room_refused bytes versions start (Line number) h refused =
    ⊎_elim
    (λ falls. inl (record {
      before = [];
      unfit = falls.line;
      behind = falls.behind;
      lines = subst (AreDataLines bytes) falls.left h.data_lines;
      stand = tt;
      falls = λ k. falls.none k.0 k.1;
      here = falls.here;
    }))
    (λ ends. inr (ends_early bytes versions start start [] number h ends.none tt (omega arith) refl ends.here))
    refused
room_refused bytes versions start Memory h refused = absurd refused

-- The line of the nodes.
pub starts_refused : (bytes : List ℕ) (versions : ℕ) (start walk : Walk) (room : ℕ) (fault : ScheduleFault) → Begins bytes start → NextSays IsRoomLine start room walk → NextRefuses (IsNodesLine versions) walk fault → NamesLine bytes versions fault
starts_refused bytes versions start walk room (Line number) h said refused =
    ⊎_elim
    (λ falls. inl (record {
      before = said.line ∷ [];
      unfit = falls.line;
      behind = falls.behind;
      lines = subst (AreDataLines bytes) (said.left ∙ ap (λ ls. said.line ∷ ls) falls.left) h.data_lines;
      stand = (room, said.is);
      falls = λ k. falls.none k.1 k.4;
      here = falls.here;
    }))
    (λ ends. inr (ends_early bytes versions start walk (said.line ∷ []) number h (said.left ∙ ap (λ ls. said.line ∷ ls) ends.none) (room, said.is) (omega arith) said.total ends.here))
    refused
starts_refused bytes versions start walk room Memory h said refused = record {
  room = said.line;
  next = refused.line;
  behind = refused.behind;
  lines = subst (AreDataLines bytes) (said.left ∙ ap (λ ls. said.line ∷ ls) refused.left) h.data_lines;
  size = room;
  says = said.is;
}

-- The lines of the events.
pub events_refused : (bytes : List ℕ) (versions : ℕ) (start walk rest : Walk) (room : ℕ) (starts : List ℕ) (fault : ScheduleFault) → Begins bytes start → NextSays IsRoomLine start room walk → NextSays (IsNodesLine versions) walk starts rest → NamesUnfit versions (length starts) rest.left fault → NamesLine bytes versions fault
events_refused bytes versions start walk rest room starts (Line number) h first second u =
    inl (record {
      before = first.line ∷ second.line ∷ u.before;
      unfit = u.unfit;
      behind = u.behind;
      lines = subst (AreDataLines bytes) (first.left ∙ ap (λ ls. first.line ∷ ls) (second.left ∙ ap (λ ls. second.line ∷ ls) u.lines_are)) h.data_lines;
      stand = (room, starts, u.events, first.is, second.is, u.stand);
      falls = λ k.
          let same = one_value (starts_are versions second.line.text) k.1 starts k.4 second.is in
          u.falls k.2 (subst (λ ss. AreEventLines versions (length ss) (u.before ++ u.unfit ∷ []) k.2) same k.5);
      here = u.here;
    })
events_refused bytes versions start walk rest room starts Memory h first second u = record {
  room = first.line;
  next = second.line;
  behind = rest.left;
  lines = subst (AreDataLines bytes) (first.left ∙ ap (λ ls. first.line ∷ ls) second.left) h.data_lines;
  size = room;
  says = first.is;
}

-- A schedule was read.
pub says_schedule : (bytes : List ℕ) (start walk rest : Walk) (schedule : ScheduleData) → Begins bytes start → NextSays IsRoomLine start schedule.room walk → NextSays (IsNodesLine schedule.versions) walk schedule.starts rest → AreEventLines schedule.versions (length schedule.starts) rest.left schedule.events → SaysSchedule bytes schedule
says_schedule bytes start walk rest schedule h first second events = record {
  room = first.line;
  nodes = second.line;
  events = rest.left;
  lines = subst (AreDataLines bytes) (first.left ∙ ap (λ ls. first.line ∷ ls) second.left) h.data_lines;
  room_says = first.is;
  nodes_say = second.is;
  events_say = events;
}

all_second : {A B : Type 0} (R : A → B → Type 0) (P : B → Type 0) (xs : List A) (ys : List B) → ((x : A) (y : B) → R x y → P y) → AllZip R xs ys → All P ys
all_second R P [] [] to h = All-nil P
all_second R P [] (y ∷ ys) to h = absurd h
all_second R P (x ∷ xs) [] to h = absurd h
all_second R P (x ∷ xs) (y ∷ ys) to h = All-cons P y ys (to x y h.0) (all_second R P xs ys to h.1)

names_node : (versions nodes : ℕ) (words : List (List ℕ)) (event : Event) → SaysOf versions nodes words event → node_of event < nodes
names_node versions nodes words (Accept node string) h = h.head.number.1
names_node versions nodes words (Deliver node message) h = h.head.number.1
names_node versions nodes words (Upgrade node) h = h.number.1
names_node versions nodes words (Save node) h = h.number.1
names_node versions nodes words (Restart node) h = h.number.1
names_node versions nodes words (Ask node left right) h = h.head.number.1
names_node versions nodes words (Forge node bytes) h = h.head.number.1
names_node versions nodes words (Forget node string) h = h.head.number.1
names_node versions nodes words (RestartUnder node version) h = h.head.number.1

names_version : (versions nodes : ℕ) (words : List (List ℕ)) (event : Event) → SaysOf versions nodes words event → NamesVersion versions event
names_version versions nodes words event h = λ node version is.
    let says : SaysOf versions nodes words (RestartUnder node version) = subst (SaysOf versions nodes words) is h in says.number.1

-- what was read can stand
pub is_standable : (start walk rest : Walk) (schedule : ScheduleData) → NextSays IsRoomLine start schedule.room walk → NextSays (IsNodesLine schedule.versions) walk schedule.starts rest
    → AreEventLines schedule.versions (length schedule.starts) rest.left schedule.events → IsStandable schedule
is_standable start walk rest schedule first second events = record {
  room = first.is.most;
  starts = all_second _ (λ index. index < schedule.versions) second.is.words schedule.starts (λ word index below. below.1) second.is.numbers;
  events = all_second (EventHere schedule.versions (length schedule.starts)) (λ event. node_of event < length schedule.starts) rest.left schedule.events
      (λ line event is. names_node schedule.versions (length schedule.starts) is.words event is.says) events.0;
  restarts = all_second (EventHere schedule.versions (length schedule.starts)) (NamesVersion schedule.versions) rest.left schedule.events
      (λ line event is. names_version schedule.versions (length schedule.starts) is.words event is.says) events.0;
}
