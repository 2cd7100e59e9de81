use Rattle.std.proofs.Common.{IsTrue, chars, length}
use Rattle.np_forms.proofs.Words.{AppendsForm, IsAssigned, IsCopied, IsReadAssigned}
use Rattle.np_forms.proofs.copying.write_cut.Given as goal

abbrev pub invariant-fronts : goal.invariant-fronts
invariant-fronts g l =
    let v = g.T.NormTable.model l.normalizer.table.now in record {
      goes : AppendsForm v l.normalizer.form l.text l.left l.fn.out l.out;
      read : IsTrue l.assigned → IsReadAssigned v l.text l.left;
      copied : IsCopied v l.normalizer.form l.left l.next.front.now l.next.rest.now;
      front : IsTrue l.assigned → IsAssigned v (chars l.next.front.now);
    }

abbrev pub decreases-fronts : goal.decreases-fronts
decreases-fronts g l = length l.left
