use Rattle.std.proofs.Common.{inl, inr}
use Rattle.np_c.proofs.lines.write_answers.Goals as goal

pub returns-in-Ok-answer_bytes : goal.returns-in-Ok-answer_bytes
returns-in-Ok-answer_bytes g c =
    let asked = c.in-Ok.ensures.wanted in
    inr (
      c.in-Ok.wanted.form,
      asked.form,
      inr (
        c.in-Ok.wanted.end,
        asked.end,
        inl (record {
          made = c.in-Ok-answer_bytes.answers.bytes.items;
          any_refused = c.in-Ok-answer_bytes.answers.any_refused;
          all = c.in-Ok-answer_bytes.ensures;
          put = c.put_answers.ensures.put;
          told = c.put_answers.ensures.told;
        }),
      ),
    )
