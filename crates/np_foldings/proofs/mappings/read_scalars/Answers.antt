use Rattle.std.proofs.Common.{not, cond, length, Some, None, sym, ap, ◌∙◌, arith}
use Rattle.std.proofs.lemmas.List.{length_push}
use Rattle.np_code_points.specs.declared.words.Dividers.TheVariants.{Spaces}
use Rattle.np_code_points.specs.inside.WordValues.{scalar_value, scalars_of}
use Rattle.np_code_points.specs.inside.WordCuts.{words_of}
use Rattle.np_code_points.proofs.ValueGrammar.{joined, joined_none, joined_more, is_empty-length}
use Rattle.np_ucd.proofs.ScalarLemmas.{scalars_bad, scalars_long, scalars_all}
use Rattle.np_foldings.proofs.mappings.read_scalars.Goals as goal

pub loop-word-init : goal.loop-word-init
loop-word-init c = record {
  total = ap scalars_of (sym (c.into_iter-word-iterator.ensures.into_iter_gives ∙ c.new-word-items.ensures.same))
      ∙ joined_none c.args.codes.now.items (scalars_of c.into_iter-word-iterator.result) c.requires;
  room = omega (arith, ap length c.requires);
}

pub returns-in_default : goal.returns-in_default
returns-in_default c =
    scalars_bad c.args.most c.args.text.now c.loop-word.codes.items c.loop-word.word-iterator c.in-Some.word.now c.next.new.self
    c.loop-word.invariant.total c.in-Some.ensures.steps (sym c.scalar_of.ensures.value ∙ c.in_default.is)

pub returns-then-len-most : goal.returns-then-len-most
returns-then-len-most c =
    scalars_long c.args.most c.args.text.now c.loop-word.codes.items c.loop-word.word-iterator c.in-Some.word.now c.next.new.self c.in-Some-scalar_of.code
    c.loop-word.invariant.total c.in-Some.ensures.steps (sym c.scalar_of.ensures.value ∙ c.in-Some-scalar_of.is) (omega arith)

pub loop-word-preserved : goal.loop-word-preserved
loop-word-preserved c = record {
  total =
      joined_more scalar_value (scalars_of (words_of Spaces c.args.text.now)) c.loop-word.codes.items c.loop-word.word-iterator c.in-Some.word.now c.next.new.self c.in-Some-scalar_of.code
      c.loop-word.invariant.total c.in-Some.ensures.steps (sym c.scalar_of.ensures.value ∙ c.in-Some-scalar_of.is)
      ∙ ap (λ items. joined items (scalars_of c.next.new.self)) (sym c.in_ok-push.ensures.ok);
  room = omega (arith, ap length c.in_ok-push.ensures.ok, length_push c.loop-word.codes.items c.in-Some-scalar_of.code);
}

pub returns : goal.returns
returns c =
    scalars_all c.args.most c.args.text.now c.loop-word.codes.items c.loop-word.word-iterator
    c.loop-word.invariant.total c.in-None.ensures.steps.0 c.loop-word.invariant.room
    ∙ ap (λ b. cond (not b) (Some c.loop-word.codes.items) None) (is_empty-length c.loop-word.codes.items ∙ sym c.is_empty.ensures)
