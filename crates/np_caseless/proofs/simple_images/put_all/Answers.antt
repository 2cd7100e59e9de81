use Rattle.np_caseless.proofs.simple_images.put_all.Goals as goal

pub returns-clause-simple : goal.returns-clause-simple
returns-clause-simple g c = λ v same all done. c.put_folding.ensures.simple v same all (c.put_first.ensures.simple v same all done)
