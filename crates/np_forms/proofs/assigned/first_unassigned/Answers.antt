use Rattle.np_forms.proofs.assigned.first_unassigned.Goals as goal

pub returns-in-Some-clause-some : goal.returns-in-Some-clause-some
returns-in-Some-clause-some g c = (_, c.in-Some.ensures.some)
