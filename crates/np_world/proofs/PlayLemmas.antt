-- What a replay did is a history.
use Rattle.std.proofs.Common.{◌≡◌, ℕ, zero, suc, ◌+◌, ◌<◌, List, [], ◌∷◌, ◌++◌, length, get_or, set, map, take, slice_get, All, Option, Some, None, Result, refl, sym, ap, subst, ◌∙◌, arith}
use Rattle.std.proofs.lemmas.List.{length-map, take_more, map-append, get_or-map}
use Rattle.std.proofs.lemmas.Result.{IfOk-weaker}
use Rattle.std.specs.Option.{option_map}
use Rattle.std.specs.Prelude.{IfOk, MatchOption}
use Rattle.std.specs.declared.vec.Vec.{Vec}
use Rattle.std.specs.declared.alloc.Global.{Global}
use Rattle.np_code_points.specs.declared.forms.Form.{Form}
use Rattle.np_schedules.specs.EventLines.{event_of}
use Rattle.np_schedules.specs.Events.{Event, ScheduleData, node_of}
use Rattle.np_schedules.specs.Schedules.{NameNodes, NamesVersion, NameVersions}
use Rattle.np_schedules.specs.declared.events.EventLine.{EventLine}
use Rattle.np_versions.specs.Versions.{VersionData}
use Rattle.np_world.specs.Histories.{IsDone, IsHistory, TellsTheRun, schedule_of}
use Rattle.np_world.specs.Laws.{HistoriesAreRuns}
use Rattle.np_world.specs.Moments.{Rules, AreRules, Moment, IsNewAt, AreNewAt, empty_node}
use Rattle.np_world.specs.Reports.{ReportData, PlacedNode}
use Rattle.np_world.specs.Runs.{IsNodeOf}
use Rattle.np_world.specs.declared.replay_nodes.ReplayNode.{ReplayNode}
use Rattle.np_world.specs.declared.replies.Reply.{Reply}
use Rattle.np_world.specs.inside.Placing.{IsPlaced}
use Rattle.np_world.specs.inside.Played.{IsPlayed, IsReplayed, rules_over}
use Rattle.np_world.specs.inside.Views.{bytes_of, moment_of, placed_of, report_of}
use Rattle.np_world.proofs.DoneLemmas.{held_at}

-- ---- how many nodes there are

length-set : {A : Type 0} (xs : List A) (k : ℕ) (x : A) → length (set xs k x) ≡ length xs
length-set [] k x = refl
length-set (y ∷ ys) zero x = refl
length-set (y ∷ ys) (suc k) x = ap suc (length-set ys k x)

module _ {T : Type 0} (model : T → VersionData) (rules : Rules T) where
  pub length-new : (places : List ℕ) (nodes : List (PlacedNode T)) → AreNewAt rules places nodes → length nodes ≡ length places
  length-new [] [] new = refl
  length-new [] (n ∷ ns) new = absurd new
  length-new (p ∷ ps) [] new = absurd new
  length-new (p ∷ ps) (n ∷ ns) new = ap suc (length-new ps ns new.1)

  length-history : (events : List Event) (replies : List Reply) (before after : Moment T) → IsHistory model rules before events replies after → length after.nodes ≡ length before.nodes
  length-history [] replies before after history = ap (λ (m : Moment T). length m.nodes) history.1
  length-history (event ∷ events) replies before after (reply, rest, between, same, done, later) =
      length-history events rest between after later ∙ ap length done.nodes ∙ length-set before.nodes (node_of event) done.new

  pub length-played : (places : List ℕ) (events : List Event) (replies : List Reply) (nodes : List (ReplayNode T)) (sent : List (Vec ℕ Global))
      → IsPlayed model rules places events replies (moment_of nodes sent) → length nodes ≡ length places
  length-played places events replies nodes sent played =
      sym (length-map nodes placed_of) ∙ length-history events replies played.first (moment_of nodes sent) played.history ∙ length-new places played.first.nodes played.begins.nodes

  -- at each moment each node has the table of its place
  pub placed_in : HistoriesAreRuns model → (places : List ℕ) (events : List Event) (replies : List Reply) (nodes : List (ReplayNode T)) (sent : List (Vec ℕ Global))
      → IsPlayed model rules places events replies (moment_of nodes sent) → All (λ n. IsPlaced rules (placed_of n)) nodes
  placed_in law places events replies nodes sent played k d lt =
      let tells = law rules places events replies played.first (moment_of nodes sent) played.rules_hold played.begins played.history in
      let IsOf : Option (PlacedNode T) → Type 0 = λ o. MatchOption (option_map (λ (n : PlacedNode T). n.node) o) (option_map (λ (n : PlacedNode T). n.index) o ≡ None)
      (λ node. IsNodeOf rules.tables rules.form rules.room (option_map (λ (n : PlacedNode T). n.index) o) node) in
      let is = subst IsOf (held_at nodes k d lt) (tells.nodes k) in
      let at : Some (get_or nodes k d).index ≡ Some is.place = is.index_is in
      let same : (get_or nodes k d).index ≡ is.place = cc in
      ap (slice_get rules.tables) same ∙ is.table_is

  -- ---- one event more

  history-push : (events : List Event) (replies : List Reply) (before between after : Moment T) (event : Event) (reply : Reply) → IsHistory model rules before events replies between
      → IsDone model rules between event reply after → IsHistory model rules before (events ++ event ∷ []) (replies ++ reply ∷ []) after
  history-push [] replies before between after event reply history done =
      (reply, [], after, ap (λ l. l ++ reply ∷ []) history.0, subst (λ m. IsDone model rules m event reply after) history.1 done, (refl, refl))
  history-push (e ∷ es) replies before between after event reply (first, rest, middle, same, one, later) done =
      (first, rest ++ reply ∷ [], middle, ap (λ l. l ++ reply ∷ []) same, one, history-push es rest middle between after event reply later done)

  pub played-more : (places : List ℕ) (events : List EventLine) (i : ℕ) (event : EventLine) (replies more_replies : List Reply) (nodes new : List (ReplayNode T)) (sent more : List (Vec ℕ Global)) (reply : Reply)
      → i < length events → more_replies ≡ replies ++ reply ∷ [] → event ≡ get_or events i event → IsPlayed model rules places (map event_of (take i events)) replies (moment_of nodes sent)
      → IsDone model rules (moment_of nodes sent) (event_of event) reply (moment_of new more) → IsPlayed model rules places (map event_of (take (i + 1) events)) more_replies (moment_of new more)
  played-more places events i event replies more_replies nodes new sent more reply lt pushed here played done =
      let grown : map event_of (take (i + 1) events) ≡ map event_of (take i events) ++ event_of event ∷ [] =
      ap (map event_of) (take_more events i event lt) ∙ map-append event_of (take i events) (get_or events i event ∷ []) ∙ ap (λ e. map event_of (take i events) ++ event_of e ∷ []) (sym here) in
      let history = history-push (map event_of (take i events)) replies played.first (moment_of nodes sent) (moment_of new more) (event_of event) reply played.history done in
      record {
        rules_hold = played.rules_hold;
        first = played.first;
        begins = played.begins;
        history = subst (λ rs. IsHistory model rules played.first (map event_of (take (i + 1) events)) rs (moment_of new more)) (sym pushed)
            (subst (λ es. IsHistory model rules played.first es (replies ++ reply ∷ []) (moment_of new more)) (sym grown) history);
      }

  pub played-nothing : (places : List ℕ) (replies : List Reply) (nodes : List (ReplayNode T)) (sent : List (Vec ℕ Global)) → AreRules model rules → AreNewAt rules places (map placed_of nodes)
      → replies ≡ [] → sent ≡ [] → IsPlayed model rules places [] replies (moment_of nodes sent)
  played-nothing places replies nodes sent are new none quiet =
      record { rules_hold = are; first = moment_of nodes sent; begins = record { nodes = new; sent = ap bytes_of quiet }; history = (none, refl) }

  -- ---- the nodes at the start

  placed-push : (nodes : List (ReplayNode T)) (node : ReplayNode T) → map placed_of (nodes ++ node ∷ []) ≡ map placed_of nodes ++ placed_of node ∷ []
  placed-push [] node = refl
  placed-push (n ∷ ns) node = ap (λ l. placed_of n ∷ l) (placed-push ns node)

  new-push : (places : List ℕ) (nodes : List (PlacedNode T)) (place : ℕ) (placed : PlacedNode T) → AreNewAt rules places nodes → IsNewAt rules place placed → AreNewAt rules (places ++ place ∷ []) (nodes ++ placed ∷ [])
  new-push [] [] place placed new is = (is, tt)
  new-push [] (n ∷ ns) place placed new is = absurd new
  new-push (p ∷ ps) [] place placed new is = absurd new
  new-push (p ∷ ps) (n ∷ ns) place placed new is = (new.0, new-push ps ns place placed new.1 is)

  pub new-nothing : (places : List ℕ) (nodes : List (ReplayNode T)) → nodes ≡ [] → AreNewAt rules (take 0 places) (map placed_of nodes)
  new-nothing places nodes none = subst (λ l. AreNewAt rules (take 0 places) (map placed_of l)) (sym none) tt

  pub new-more : (places : List ℕ) (i : ℕ) (nodes more : List (ReplayNode T)) (node : ReplayNode T) (table : T) → i < length places → more ≡ nodes ++ node ∷ [] → AreNewAt rules (take i places) (map placed_of nodes)
      → slice_get rules.tables (get_or places i 0) ≡ Some table → placed_of node ≡ record { index = get_or places i 0; node = empty_node rules table; image = None }
      → AreNewAt rules (take (i + 1) places) (map placed_of more)
  new-more places i nodes more node table lt pushed new here is =
      subst (λ l. AreNewAt rules l (map placed_of more)) (sym (take_more places i 0 lt))
      (subst (λ l. AreNewAt rules (take i places ++ get_or places i 0 ∷ []) l) (sym (ap (map placed_of) pushed ∙ placed-push nodes node))
      (new-push (take i places) (map placed_of nodes) (get_or places i 0) (placed_of node) new (record { table = table; here = here; is = is })))

-- an event names one of the nodes
pub named_at : (nodes : ℕ) (events : List EventLine) (i : ℕ) (d : EventLine) → NameNodes nodes (map event_of events) → i < length events → node_of (event_of (get_or events i d)) < nodes
named_at nodes events i d names lt =
    let there = names i (event_of d) (omega (arith, lt, length-map events event_of)) in
    subst (λ e. node_of e < nodes) (get_or-map event_of events i d (event_of d) lt) there

-- an event that names a version names one of so many
pub version_at : (versions : ℕ) (events : List EventLine) (i : ℕ) (d : EventLine) → NameVersions versions (map event_of events) → i < length events → NamesVersion versions (event_of (get_or events i d))
version_at versions events i d names lt =
    let there = names i (event_of d) (omega (arith, lt, length-map events event_of)) in
    subst (NamesVersion versions) (get_or-map event_of events i d (event_of d) lt) there

-- ---- the whole

abbrev pub rules_with : {T : Type 0} → List T → Form → ℕ → Rules T
rules_with tables form room = record { tables = tables; form = form; room = room }

pub replayed : {T : Type 0} (model : T → VersionData) (tables : List T) (form : Form) (schedule : ScheduleData) (report : ReportData T) (room : ℕ) (starts : List ℕ) (events : List Event)
    (replies : List Reply) (sent : List (Vec ℕ Global)) (nodes : List (ReplayNode T))
    → room ≡ schedule.room → starts ≡ schedule.starts → events ≡ schedule.events → report ≡ report_of replies sent nodes
    → IsPlayed model (rules_with tables form room) starts events replies (moment_of nodes sent) → IsReplayed model tables form schedule report
replayed model tables form schedule report room starts events replies sent nodes size same all is played =
    subst (λ r. IsReplayed model tables form schedule r) (sym is)
    (subst (λ r. IsPlayed model (rules_with tables form r) schedule.starts schedule.events replies (moment_of nodes sent)) size
    (subst (λ es. IsPlayed model (rules_with tables form room) schedule.starts es replies (moment_of nodes sent)) all
    (subst (λ ss. IsPlayed model (rules_with tables form room) ss events replies (moment_of nodes sent)) same played)))

-- what the law says of each history holds where one was replayed
pub of_replayed : {T : Type 0} {model : T → VersionData} {tables : List T} {form : Form} (schedule : ScheduleData) {E : Type 0} (r : Result (ReportData T) E) (P : ReportData T → Type 0)
    → HistoriesAreRuns model → IfOk r (IsReplayed model tables form schedule)
    → ((report : ReportData T) → TellsTheRun model tables form (schedule_of (rules_over tables form schedule) schedule.starts schedule.events) report → P report) → IfOk r P
of_replayed {model = model} {tables} {form} schedule r P law played holds =
    IfOk-weaker r (IsReplayed model tables form schedule) P
    (λ report is. holds report (law (rules_over tables form schedule) schedule.starts schedule.events report.replies is.first (record { nodes = report.nodes; sent = report.sent }) is.rules_hold is.begins is.history)) played
