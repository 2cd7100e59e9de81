use Rattle.std.proofs.Common.{ℕ, List, inl, refl, subst, ◌∙◌}
use Rattle.np_jobs.specs.Ends.{IsTold}
use Rattle.np_jobs.specs.Streams.{stream_of}
use Rattle.np_jobs.proofs.OpeningLemmas.{alone}
use Rattle.np_jobs.proofs.opening.refuse_file.Goals as goal

pub returns-in-Ok : goal.returns-in-Ok
returns-in-Ok g c =
    let opener = c.args.opener.now in
    let name = c.args.name.now in (
    inl (
      name,
      alone (g.O.Opener.gives opener) (g.O.Opener.lacks opener) name c.requires.lacks,
      subst (λ (line : List ℕ). IsTold (stream_of g.E.Write.contents c.args.error.now c.tell.new.error) line) (c.as_str.ensures.value ∙ c.in-Ok.ensures.ok) c.tell.ensures,
      refl,
    )
    )
