use Rattle.std.proofs.lemmas.Result.{IfErr-weaker}
use Rattle.np_program.proofs.ReplayLemmas.{refused_of_files}
use Rattle.np_program.proofs.replay.made_of_files.Goals as goal

pub returns-clause-refused : goal.returns-clause-refused
returns-clause-refused g c =
    IfErr-weaker c.made_over.result _ _
    (λ fault lacks. refused_of_files g.F.Read.remaining g.T.NormTable.model c.clear.new.self c.args.schedule_file.now c.made_over.new.schedule_file _ c.in_ok-tables.tables.items c.as_slice.result.now fault c.clear.ensures.device
    c.as_slice.ensures.value c.in_ok-tables.ensures.built lacks) c.made_over.ensures.refused
