use Rattle.std.proofs.Common.{inl, inr}
use Rattle.np_c.proofs.lines.write_caseless_answers.Goals as goal

pub returns-in-Ok-answer_bytes_by : goal.returns-in-Ok-answer_bytes_by
returns-in-Ok-answer_bytes_by g c =
    let asked = c.in-Ok.ensures.wanted in
    let form = c.in-Ok.wanted.form in
    let end = c.in-Ok.wanted.end in
    let made = c.in-Ok-answer_bytes_by.answers in
    inr (
      form,
      asked.form,
      inr (
        end,
        asked.end,
        inl (record {
          made = made.bytes.items;
          any_refused = made.any_refused;
          all = c.in-Ok-answer_bytes_by.ensures;
          put = c.put_answers.ensures.put;
          told = c.put_answers.ensures.told;
        }),
      ),
    )
