use Rattle.std.proofs.Common.{map, string_bytes}
use Rattle.np_jobs.proofs.ProgramLemmas.{ended}
use Rattle.np_jobs.proofs.programs.parse_and_run.Goals as goal

pub returns : goal.returns
returns g c =
    let opener = c.args.with.now.opener.now in
    let before = c.args.streams.now in
    let after = c.run_parsed.new.streams in
    ended g.G.Program.asks g.G.Program.asks_nothing g.G.Program.files_of g.G.Program.usage g.G.Program.ends (g.P.Opener.gives opener) (g.P.Opener.lacks opener)
    g.I.Read.remaining g.O.Write.contents g.E.Write.contents (map string_bytes c.args.words.now) c.parse-found.result before.input after.input before.output after.output
    before.error after.error c.run_parsed.result
    c.parse-found.ensures.ok c.parse-found.ensures.usage
    c.run_parsed.ensures.done c.run_parsed.ensures.usage c.run_parsed.ensures.memory c.run_parsed.ensures.unread c.run_parsed.ensures.unwritten
