-- From what a replay's clauses say to the machine's run as text.
use Rattle.std.proofs.Common.{◌≡◌, ℕ, zero, suc, ◌-◌, ◌<◌, List, [], ◌∷◌, length, map, slice_get, Option, Some, inr, refl, ap, subst, ◌∙◌, arith}
use Rattle.std.proofs.lemmas.List.{length-map}
use Rattle.std.specs.List.{AllZip}
use Rattle.std.specs.Option.{option_map}
use Rattle.std.specs.Prelude.{IfSome}
use Rattle.np_code_points.specs.declared.forms.Form.{Form}
use Rattle.np_versions.specs.Versions.{VersionData}
use Rattle.np_schedules.specs.Events.{ScheduleData}
use Rattle.np_schedules.specs.ScheduleFiles.{SaysSchedule, TakesMemory}
use Rattle.np_world.specs.ReportTexts.{report_lines, text_of_report}
use Rattle.np_world.specs.Reports.{ReportData, index_at, node_at, node_report, nodes_of, replies_of, PlacedNode}
use Rattle.np_world.specs.Runs.{AreKeysUnder, HasOneRun, InTheRun, IsLast, setting_over, texts_in}
use Rattle.np_world.specs.World.{MachineNode}
use Rattle.np_code_points.specs.Watched.{device_of}
use Rattle.np_code_points.specs.declared.channels.watched.Watched.{Watched}
use Rattle.np_jobs.specs.Chains.{VersionReaders, WereBuilt}
use Rattle.np_jobs.specs.Streams.{stream_of}
use Rattle.np_jobs.specs.declared.faults.JobFault.{JobFault}
use Rattle.np_jobs.proofs.EndLemmas.{same_stream}
use Rattle.np_program.specs.Replays.{IsNodeTold, IsReplay, LacksReport, RefusesReplay}

some_at : {A : Type 0} (xs : List A) (k : ℕ) → k < length xs → (x : A) × (slice_get xs k ≡ Some x)
some_at [] k lt = absurd (omega arith)
some_at (x ∷ xs) zero lt = (x, refl)
some_at (x ∷ xs) (suc k) lt = some_at xs k (omega arith)

module _ {T : Type 0} (last : VersionData) (form : Form) where
  -- nodes that keep what the machine's keep, place by place
  nodes_told : (ends : List (PlacedNode T)) (nodes : List MachineNode)
      → ((i : ℕ) → option_map (λ e. e.index) (slice_get ends i) ≡ option_map (λ n. n.index) (slice_get nodes i))
      → ((i : ℕ) → option_map (λ node. texts_in node.entries) (option_map (λ e. e.node) (slice_get ends i)) ≡ option_map (λ n. n.strings) (slice_get nodes i))
      → ((i : ℕ) → IfSome (option_map (λ e. e.node) (slice_get ends i)) (λ node. AreKeysUnder last form node.entries))
      → AllZip (IsNodeTold last form) nodes (map node_report ends)
  nodes_told [] [] indices strings keys = tt
  nodes_told [] (n ∷ ns) indices strings keys = let h = indices 0 in absurd (cc)
  nodes_told (m ∷ ms) [] indices strings keys = let h = indices 0 in absurd (cc)
  nodes_told (m ∷ ms) (n ∷ ns) indices strings keys =
      let index = indices 0 in
      let texts = strings 0 in
      (record { index = cc; strings = cc; keys = keys 0 }, nodes_told ms ns (λ i. indices (suc i)) (λ i. strings (suc i)) (λ i. keys (suc i)))

-- what says a schedule has a line of the room and one of nodes
pub schedule_takes_memory : (script : List ℕ) (schedule : ScheduleData) → SaysSchedule script schedule → TakesMemory script
schedule_takes_memory script schedule says =
    record { room = says.room; next = says.nodes; behind = says.events; lines = says.lines; size = schedule.room; says = says.room_says }

-- the report of a replay over tables is the machine's run
pub told_whole : {T : Type 0} (model : T → VersionData) (tables : List T) (form : Form) (schedule : ScheduleData) (report : ReportData T) (text : List ℕ)
    → 0 < length tables
    → HasOneRun model tables form schedule
    → InTheRun model tables form schedule (λ replies world. replies_of report ≡ replies)
    → InTheRun model tables form schedule (λ replies world. (i : ℕ) → index_at report i ≡ option_map (λ node. node.index) (slice_get world.nodes i))
    → InTheRun model tables form schedule
    (λ replies world. (i : ℕ) → option_map (λ node. texts_in node.entries) (node_at report i) ≡ option_map (λ node. node.strings) (slice_get world.nodes i))
    → ((last : VersionData) → IsLast (map model tables) last → (i : ℕ) → IfSome (node_at report i) (λ node. AreKeysUnder last form node.entries))
    → text ≡ text_of_report report → IsReplay form (map model tables) schedule text
told_whole model tables form schedule report text some run replies indices strings keys is =
    let count = length-map tables model in
    let last = some_at (map model tables) (length (map model tables) - 1) (omega (arith, some, count)) in
    record {
      setting = setting_over model tables form schedule;
      setting_is = refl;
      last = last.0;
      is_last = last.1;
      replies = run.0.0;
      world = run.0.1;
      run = run.1;
      nodes = nodes_of report;
      told = nodes_told last.0 form report.nodes run.0.1.nodes (indices run.0.0 run.0.1 run.1) (strings run.0.0 run.0.1 run.1) (keys last.0 last.1);
      bytes_are = is ∙ ap (λ rs. report_lines rs (nodes_of report)) (replies run.0.0 run.0.1 run.1);
    }

-- what is refused over versions that were built, behind a schedule whose mark was taken away
pub refused_of_files : {D T : Type 0} (tells : D → Option (List ℕ)) (model : T → VersionData) (cleared old new : Watched D) (readers : List VersionReaders)
    (tables slice : List T) (fault : JobFault)
    → device_of cleared ≡ device_of old → slice ≡ tables → WereBuilt readers (map model tables)
    → LacksReport (stream_of tells cleared new) (map model slice) fault
    → RefusesReplay (record { schedule_file = stream_of tells old new; versions = readers }) fault
refused_of_files tells model cleared old new readers tables slice fault device same built lacks =
    let half = subst (λ vs. LacksReport (stream_of tells cleared new) (map model vs) fault) same lacks in
    inr (map model tables, built, subst (λ s. LacksReport s (map model tables) fault) (same_stream tells cleared old new device) half)
