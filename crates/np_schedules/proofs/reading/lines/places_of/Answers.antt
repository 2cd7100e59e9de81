use Rattle.std.proofs.Common.{length, option_and_then, sym, ap, ◌∙◌, arith}
use Rattle.std.proofs.lemmas.List.{length_push}
use Rattle.np_code_points.specs.inside.WordValues.{if_short, values_of}
use Rattle.np_code_points.proofs.ValueGrammar.{joined, joined_none, joined_more, joined_bad, short_long}
use Rattle.np_schedules.specs.inside.LineValues.{below_value}
use Rattle.np_schedules.proofs.LineLemmas.{places_said}
use Rattle.np_schedules.proofs.reading.lines.places_of.Goals as goal

pub loop-word-init : goal.loop-word-init
loop-word-init c = record {
  total = ap (values_of (below_value c.args.bound)) (sym c.into_iter-word-iterator.ensures.into_iter_gives)
      ∙ joined_none c.new-places.result.items (values_of (below_value c.args.bound) c.into_iter-word-iterator.result) c.new-places.ensures.items;
  room = omega (arith, ap length c.new-places.ensures.items);
}

pub returns-in_default-clause-refused : goal.returns-in_default-clause-refused
returns-in_default-clause-refused c =
    let value = below_value c.args.bound in
    ap (option_and_then (if_short 64))
    (joined_bad value (values_of value c.args.words) c.loop-word.places.items c.loop-word.word-iterator c.in-Some.word.now c.next.new.self
    c.loop-word.invariant.total c.in-Some.ensures.steps (sym c.number_below.ensures ∙ c.in_default.is))

pub returns-then-len-ge-MOST_NODES-clause-refused : goal.returns-then-len-ge-MOST_NODES-clause-refused
returns-then-len-ge-MOST_NODES-clause-refused c =
    let value = below_value c.args.bound in
    short_long value 64 (values_of value c.args.words) c.loop-word.places.items c.loop-word.word-iterator c.in-Some.word.now c.next.new.self c.in-Some-number_below.place
    c.loop-word.invariant.total c.in-Some.ensures.steps (sym c.number_below.ensures ∙ c.in-Some-number_below.is) (omega arith)

pub loop-word-preserved : goal.loop-word-preserved
loop-word-preserved c = record {
  total =
      joined_more (below_value c.args.bound) (values_of (below_value c.args.bound) c.args.words) c.loop-word.places.items c.loop-word.word-iterator c.in-Some.word.now c.next.new.self c.in-Some-number_below.place
      c.loop-word.invariant.total c.in-Some.ensures.steps (sym c.number_below.ensures ∙ c.in-Some-number_below.is)
      ∙ ap (λ items. joined items (values_of (below_value c.args.bound) c.next.new.self)) (sym c.in_ok-push.ensures.items);
  room = omega (arith, ap length c.in_ok-push.ensures.items, length_push c.loop-word.places.items c.in-Some-number_below.place);
}

pub returns-then-is_empty-clause-refused : goal.returns-then-is_empty-clause-refused
returns-then-is_empty-clause-refused c =
    places_said c.args.bound c.loop-word.places.items c.loop-word.word-iterator c.loop-word.invariant.total c.in-None.ensures.steps.0 c.loop-word.invariant.room c.loop-word.places.ok.0 (sym c.is_empty.ensures ∙ c.if-is_empty.true)

pub returns-else-is_empty-clause-places : goal.returns-else-is_empty-clause-places
returns-else-is_empty-clause-places c =
    places_said c.args.bound c.loop-word.places.items c.loop-word.word-iterator c.loop-word.invariant.total c.in-None.ensures.steps.0 c.loop-word.invariant.room c.loop-word.places.ok.0 (sym c.is_empty.ensures ∙ c.if-is_empty.false)
