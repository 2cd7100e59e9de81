use Rattle.std.proofs.Common.{◌≡◌, ◌+◌, ◌-◌, ◌<◌, ◌≤◌, ◌++◌, true, length, take, drop, get_or, refl, sym, ap, ◌∙◌, arith}
use Rattle.np_forms.proofs.Words.{take_rest, take-append-drop, drop-drop, class_of, is_ordered, canonical_order, with_classes}
use borrow.Rule.Slice.PartMut.{put_mid}
use Rattle.np_forms.proofs.OrderLemmas.{back_part, front_part, put_in, same_length, canonical_order-ordered}
use Rattle.np_forms.proofs.SortLemmas.{order_step}
use Rattle.np_forms.proofs.ordering.order_run.Goals as goal
use Rattle.np_forms.proofs.ordering.order_run.Goals.{then-not-ordered+in_ok-sort_non_starters, else-not-ordered}

pub returns-clause-ordered : goal.returns-clause-ordered
returns-clause-ordered c = λ v cs is.
    let ccc = class_of v in
    let list = c.args.list.now in
    let at = c.args.at in
    let front = c.non_starters_at_front-count in
    let n = front.result.count in
    let rest = drop at cs in
    let part : take (length list - at) (drop at list) ≡ with_classes v rest = take_rest list at ∙ back_part v list cs is at in
    let inside : at < length cs = omega (arith, c.requires, same_length v list cs is) in
    let bound : n ≤ length rest = omega (arith, front.ensures.bound, same_length v _ rest part) in
    let starter : n < length rest → ccc (get_or rest n 0) ≡ 0 = front.ensures.starter v rest part in
    let count : (at + n) - at ≡ n = omega arith in
    let place : at + (n + 1) ≡ at + n + 1 = omega arith in
    let next = at + n + 1 in
    elim c.if-not-ordered.branch [
      | then-not-ordered+in_ok-sort_non_starters w ↦
          let mid = canonical_order ccc (take n rest) in
          let run : take ((at + n) - at) (drop at list) ≡ with_classes v (take n rest) = ap (λ k. take k (drop at list)) count ∙ front_part v (drop at list) rest (back_part v list cs is at) n in
          let sorted : w.sort_non_starters.new.non_starters ≡ with_classes v mid = w.in_ok-sort_non_starters.ensures.ok v (take n rest) (front.ensures.non_starters v rest part) run in
          let parts : c.if-not-ordered.list ≡ take at list ++ (with_classes v mid ++ drop (at + n) list) =
          w.list-is ∙ ap (λ k. put_mid at k list w.sort_non_starters.new.non_starters) count
          ∙ ap (λ l. take at list ++ (l ++ drop n (drop at list))) sorted ∙ ap (λ l. take at list ++ (with_classes v mid ++ l)) (drop-drop n at list) in
          let new = take at cs ++ (mid ++ drop (at + n) cs) in
          record {
            new = new;
            is = put_in v list cs is _ mid at n parts;
            same = order_step v cs new mid at n inside bound starter refl refl ∙ ap (λ k. take k new ++ canonical_order ccc (drop k new)) place;
          }
      | else-not-ordered w ↦
          let ordered : is_ordered ccc (take n rest) ≡ true = front.ensures.ordered v rest part w.if-not-ordered.false in
          let order : take n rest ≡ canonical_order ccc (take n rest) = sym (canonical_order-ordered ccc (take n rest) ordered) in
          let parts : take at cs ++ (take n rest ++ drop (at + n) cs) ≡ cs =
          ap (λ l. take at cs ++ l) (ap (λ l. take n rest ++ l) (sym (drop-drop n at cs)) ∙ take-append-drop n rest) ∙ take-append-drop at cs in
          record {
            new = cs;
            is = w.list-is ∙ is;
            same = order_step v cs cs (take n rest) at n inside bound starter order (sym parts) ∙ ap (λ k. take k cs ++ canonical_order ccc (drop k cs)) place;
          }
    ]
