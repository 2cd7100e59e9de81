-- `empty` makes a null pointer, behind which nothing is owned.
use mathlib.Core.Path.{refl}
use mathlib.Core.List.{List, [], ◌∷◌, ◌++◌}
use lib.Dec.{lit<}
use Rattle.std.proofs.Common.{None}
use mir.Val.{Val, vnull, vstruct, vcons, vnil, has_ty}
use base.Logic.{SProp, emp}
use base.Fml.{ftrue, fsep}
use prog.Wp.{WpFn}
use contract.Running.{tables}
use types.Kit.{‵, raw, ◌⊛◌, prop, ◌$◌, ◌∵◌, !, qed, move, drop, split, join, regoal, fsplit, fjoin, feq_i, fpack, suffices, done}
use types.Part.{agg}
use types.Run.{lit, no_more, and_then, returns, enter}
use types.ByLocal.{alloc_all, pass_all, free_all, look_at, get, sets}
use denote.Exit.{yes}
use denote.RattleType.{Valss}
use denote.RawPtr.{RawPtr, null_ptr}
use denote.Signature.{plain}
use denote.Steps.{nothing}
use denote.Struct.Owning.{shape, to}
use denote.Struct.Struct.{within}
use denote.Triple.Walked.{says, Stays, stay_dropped, walk_of, ends_at, Goes-dropped}
use Rattle.core.proofs.alloc.Calls.{α, handle_tells}
use Rattle.std.proofs.raw_atomic.Walks.{proved_at}
use Rattle.std_alloc.proofs.ResultValues.{and_tt}
use Rattle.np_c.proofs.Rows.{TheBox, Memory, Kept}
use Rattle.np_c.specs.contracts.held.Held as Held
use Rattle.np_c.specs.contracts.held.Held.empty as F
use Rattle.np_c.proofs.held.Held.empty.Statement.{statement}
use Rattle.np_c.proofs.held.Held.empty.Code as code

abbrev given_up : Stays F.signature.params F.ended.kept
given_up = (stay_dropped (plain (λ _. Memory)) yes, tt)

pub empty_spec : {M : Type 1} → statement M
empty_spec 𝓤 𝓛 𝓜 𝓡 wired =
    let 𝓣 = tables 𝓤 𝓛.H 𝓜 𝓡 𝓡.env in
    let c = F.clauses 𝓛 𝓜.mem 𝓡.returns in
    let fn = code.function in
    proved_at 𝓛 F.ended given_up c 𝓜 𝓡 (Goes-dropped 𝓛 0 (plain (λ _. Memory)) yes (λ κs x f. refl), tt) F.Key.name fn (code.unfolded 𝓤 𝓛.H 𝓜 𝓡 wired) (λ z are.
    let alloc = z.0.3.0 in
    let Post : Val → SProp 𝓤 = (walk_of 𝓛 F.ended given_up c).post z in
    let made : Kept.Denot = record { at = null_ptr; alloc = alloc; held = None } in
    qed 𝓛 ((‵ ftrue ⊛ ‵ (fsep (Memory.own_val alloc z.0.4.0) ftrue)) ∷ raw (emp 𝓤) ∷ []) ∵
    move ! (1 ∷ []) $ drop ! $ split ! $ drop ! $ fsplit ! $ move ! (1 ∷ []) $ drop ! $
    handle_tells TheBox.al ! alloc z.0.4.0 (λ hv is fits.
    let w : Val = vstruct (vcons vnull (vcons hv vnil)) in
    regoal ! (λ (us : List Val). prop (WpFn 𝓤 𝓛.H 𝓣.C 𝓣.Λ fn (us ++ []) Post)) is refl $
    enter ! _ _ _ _ _ $ alloc_all ! (λ ls. pass_all ! refl (fits, tt) $
    sets ! (agg ! (and_then ! (lit ! tt) (and_then ! (get ! refl) (no_more !)))) refl (and_tt (has_ty (α TheBox.al) hv) fits.0, (record { fits = lit< tt }, (fits.1, tt))) $
    returns ! (look_at ! 0 refl) $ free_all ! refl $
    -- [the allocator]
    suffices ! _ (ends_at 𝓛 F.ended given_up c z w made (tt, tt) (tt, tt)) $ says ! refl $
    nothing ! $ move ! (1 ∷ 0 ∷ []) $ nothing ! $ move ! (1 ∷ 0 ∷ []) $ fjoin ! $
    feq_i ! (List Val) (vnull ∷ []) (vnull ∷ []) refl $ fjoin ! $ feq_i ! (List Val) (w ∷ []) (w ∷ []) refl $ fjoin ! $
    fpack ! (Valss (RawPtr ∷ Memory ∷ [])) (within (shape Held.the_type) (to Held.the_type made) (w ∷ [])) (vnull ∷ [], (hv ∷ [], tt)) $
    fjoin ! $ nothing ! $ nothing ! $ fjoin ! $ join ! $ nothing ! $ join ! $ done !)))
