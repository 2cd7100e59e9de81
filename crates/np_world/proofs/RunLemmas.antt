-- A history is a run of the machine, event by event.
use Rattle.std.proofs.Common.{◌≡◌, ℕ, List, [], ◌∷◌, map, slice_get, Some, None, refl, sym, ap, subst, ◌∙◌, arith}
use Rattle.std.proofs.lemmas.Option.{slice_get-map}
use Rattle.std.specs.Option.{option_map}
use Rattle.np_chain.proofs.ChainLemmas.{StandsAt-from}
use Rattle.np_chain.specs.Chain.{StandsAt}
use Rattle.np_versions.specs.Versions.{VersionData}
use Rattle.np_schedules.specs.Events.{Event}
use Rattle.np_world.specs.Reports.{PlacedNode}
use Rattle.np_world.specs.Histories.{IsHistory}
use Rattle.np_world.specs.Moments.{Rules, AreRules, Moment, empty_node, AreNewAt, IsStart}
use Rattle.np_world.specs.World.{World, IsRun, start}
use Rattle.np_world.specs.declared.replies.Reply.{Reply}
use Rattle.np_world.specs.inside.Mirrors.{Mirrors, AreMessages, setting_of}
use Rattle.np_world.specs.inside.Worlds.{AreMirrored, ShowsWorld, EndsRun, first_node}
use Rattle.np_world.proofs.CallLemmas.{TheLaws}
use Rattle.np_world.proofs.ImageLemmas.{images_are, images_none}
use Rattle.np_world.proofs.StepLemmas.{done_steps}

module _ {T : Type 0} (model : T → VersionData) (rules : Rules T) where
  -- a history that begins where a world is shown
  runs : TheLaws → AreRules model rules → (events : List Event) (replies : List Reply) (before after : Moment T) (world : World) → ShowsWorld model rules before world
      → IsHistory model rules before events replies after → (next : World) × IsRun (setting_of model rules) world events replies next × ShowsWorld model rules after next
  runs laws are [] replies before after world shows history = (world, (history.0, refl), subst (λ (m : Moment T). ShowsWorld model rules m world) (sym history.1) shows)
  runs laws are (event ∷ events) replies before after world shows (reply, rest, between, same, done, later) =
      let step = done_steps model rules laws before between event reply world are shows done in
      let run = runs laws are events rest between after step.0 step.2 later in
      (run.0, (reply, rest, step.0, same, step.1, run.1), run.2)

  -- ---- the nodes at the start

  new_mirrors : AreRules model rules → (place : ℕ) (table : T) → slice_get rules.tables place ≡ Some table
      → Mirrors model rules (record { index = place; node = empty_node rules table; image = None }) (first_node place)
  new_mirrors are place table here =
      let stands : StandsAt (map model rules.tables) place (model table) =
      StandsAt-from (map model rules.tables) place (model table) are.chain (slice_get-map model rules.tables place ∙ ap (option_map model) here) in
      record {
        index = refl;
        table = here;
        form = refl;
        room = refl;
        node = record { sound = stands.sound; entries = λ k d lt. absurd (omega arith); unlike = λ i j d lt within. absurd (omega arith); fits = omega arith; room = are.room };
        strings = refl;
        saved = (refl, refl);
      }

  new_mirrored : AreRules model rules → (places : List ℕ) (nodes : List (PlacedNode T)) → AreNewAt rules places nodes → AreMirrored model rules nodes (map first_node places)
  new_mirrored are [] [] new = tt
  new_mirrored are [] (n ∷ ns) new = absurd new
  new_mirrored are (p ∷ ps) [] new = absurd new
  new_mirrored are (p ∷ ps) (n ∷ ns) new =
      (subst (λ (x : PlacedNode T). Mirrors model rules x (first_node p)) (sym new.0.is) (new_mirrors are p new.0.table new.0.here), new_mirrored are ps ns new.1)

  pub ends : TheLaws → AreRules model rules → (places : List ℕ) (events : List Event) (replies : List Reply) (first last : Moment T) → IsStart rules places first
      → IsHistory model rules first events replies last → EndsRun model rules places events replies last
  ends laws are places events replies first last begins history =
      let shows : ShowsWorld model rules first (start places) =
      record {
        nodes = new_mirrored are places first.nodes begins.nodes;
        sent = subst (λ l. AreMessages (setting_of model rules) l []) (sym begins.sent) tt;
      } in
      let run = runs laws are events replies first last (start places) shows history in
      record {
        rules_hold = are;
        world = run.0;
        run = run.1;
        shows = run.2;
        images = images_are model rules events [] first last replies (images_none rules places first.nodes begins.nodes) history;
      }
