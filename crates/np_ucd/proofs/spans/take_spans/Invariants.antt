use Rattle.std.proofs.Common.{map}
use Rattle.np_ucd.specs.inside.SpanValues.{span_of}
use Rattle.np_ucd.proofs.ExclusionLemmas.{AreTaken}
use Rattle.np_ucd.proofs.spans.take_spans.Given as goal

abbrev pub invariant-loop-line : goal.invariant-loop-line
invariant-loop-line l = AreTaken l.bytes l.line-iterator.left (map span_of l.listings.items)
