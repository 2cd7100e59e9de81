use Rattle.np_code_points.proofs.forms.Form.of_name.Goals as goal

pub returns-in-nfkd : goal.returns-in-nfkd
returns-in-nfkd c = rw c.in-nfkd.is
