-- `into_parts` moves two fields, and with them goes what they own: a box, since something is held.
use mathlib.Core.Path.{◌≡◌, refl}
use mathlib.Core.List.{List, [], ◌∷◌, ◌++◌}
use Rattle.std.proofs.Common.{true, Option, Some, is_some}
use mir.Val.{Val}
use base.Logic.{SProp, emp, id⊢}
use base.Fml.{ftrue, fsep}
use prog.Wp.{WpFn}
use contract.Monad.{fact, fact_i}
use contract.Running.{tables}
use types.Kit.{Item, ‵, raw, ◌⊛◌, prop, ◌$◌, ◌∵◌, !, qed, by, move, drop, use0, use1, split, regoal, rewrite, fsplit, fjoin}
use types.Part.{whole, sub, agg}
use types.Run.{stop, fld, of_opd, no_more, and_then, returns, enter}
use types.ByLocal.{alloc_all, pass_all, free_all, look_at, get, get_in, sets}
use denote.Exit.{yes}
use denote.Signature.{plain}
use denote.Steps.{heard, nothing}
use denote.Triple.Walked.{Stays, stay_dropped, walk_of, Goes-dropped}
use Rattle.std.proofs.raw_atomic.Walks.{proved_at, leaves}
use Rattle.std_alloc.proofs.BoxSteps.Form.{D, word, box_typed}
use Rattle.std_alloc.proofs.BoxSteps.Steps.{box_out, box_in}
use Rattle.np_c.proofs.Rows.{Owner, TheBox, Parts, Kept, owner_of}
use Rattle.np_c.specs.contracts.held.Held.into_parts as F
use Rattle.np_c.proofs.held.Held.into_parts.Statement.{statement}
use Rattle.np_c.proofs.held.Held.into_parts.Code as code

abbrev given_up : Stays F.signature.params F.ended.kept
given_up = (stay_dropped (plain (λ _. Kept)) yes, tt)

pub into_parts_spec : {M : Type 1} → statement M
into_parts_spec 𝓤 𝓛 𝓜 𝓡 wired =
    let 𝓣 = tables 𝓤 𝓛.H 𝓜 𝓡 𝓡.env in
    let c = F.clauses 𝓛 𝓜.mem 𝓡.returns in
    let fn = code.function in
    proved_at 𝓛 F.ended given_up c 𝓜 𝓡 (Goes-dropped 𝓛 0 (plain (λ _. Kept)) yes (λ κs x f. refl), tt) F.Key.name fn (code.unfolded 𝓤 𝓛.H 𝓜 𝓡 wired) (λ z are.
    let h = z.0.3.0 in
    let vs = z.0.4.0 in
    let Post : Val → SProp 𝓤 = (walk_of 𝓛 F.ended given_up c).post z in
    let Owned : Option Owner → Item 𝓤 = λ o. ‵ (fsep (Kept.own_val (record h { held = o }) vs) ftrue) in
    qed 𝓛 ((‵ ftrue ⊛ Owned h.held) ∷ raw (fact 𝓤 (is_some h.held ≡ true)) ∷ []) ∵
    move ! (1 ∷ []) $ heard ! _ (λ some.
    let owner = owner_of h.held some in
    let box : D TheBox = record { ptr = h.at; alloc = h.alloc; value = owner.0 } in
    let made : Parts.Denot = record { at = h.at; alloc = h.alloc; value = owner.0 } in
    split ! $ drop ! $ rewrite ! 0 Owned owner.1 refl $ fsplit ! $ box_out TheBox ! box vs (λ b o hv e ws fits.
    let w = word TheBox hv b o in
    let typed = box_typed TheBox hv b o fits in
    regoal ! (λ (us : List Val). prop (WpFn 𝓤 𝓛.H 𝓣.C 𝓣.Λ fn (us ++ []) Post)) ws refl $
    box_in TheBox ! box b o owner.0 e refl $ use1 𝓛 (‵ (Parts.own_val made (w ∷ []))) (id⊢ 𝓤 _) $ move ! (1 ∷ []) $ drop ! $
    use0 𝓛 (raw (fact 𝓤 (h.held ≡ Some owner.0))) (fact_i 𝓤 _ (emp 𝓤) owner.1) $ nothing ! $ nothing ! $ fjoin ! $ nothing ! $ move ! (0 ∷ 1 ∷ 3 ∷ 2 ∷ []) $
    -- [no tokens; nothing is left of what was held; what the parts own; that it is the value]
    enter ! _ _ _ _ _ $ alloc_all ! (λ ls. pass_all ! refl (typed, tt) $
    sets ! (of_opd ! (get_in ! (fld ! refl (stop !)) (sub ! 0 refl (whole !)))) refl (tt, tt) $
    sets ! (of_opd ! (get_in ! (fld ! refl (stop !)) (sub ! 1 refl (whole !)))) refl fits $
    sets ! (of_opd ! (get ! refl)) refl (tt, tt) $
    sets ! (agg ! (and_then ! (get ! refl) (and_then ! (get ! refl) (no_more !)))) refl typed $
    returns ! (look_at ! 0 refl) $ free_all ! refl $
    by ! (leaves 𝓛 F.ended given_up c z w made (tt, tt) (tt, tt))))))
