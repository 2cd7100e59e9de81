use Rattle.std.proofs.Common.{[], List, ℕ, sym, subst, ◌∙◌}
use Rattle.std.specs.Str.Iter.{chars_rest}
use Rattle.std.proofs.lemmas.List.Elements.{All-nil}
use Rattle.np_forms.proofs.TextLemmas.{IsRead-start}
use Rattle.np_caseless.specs.inside.ImageTables.{IsMarked}
use Rattle.np_caseless.proofs.MarkLemmas.{FrontIsMarked, front_code, front_more, marked_boundary}
use Rattle.np_caseless.proofs.marks.behind_marked.Goals as goal

pub scan-init : goal.scan-init
scan-init c = ([], IsRead-start c.args.text.now c.utf8.text, All-nil (IsMarked c.args.own.now))

pub range_from-left-requires : goal.range_from-left-requires
range_from-left-requires c = λ _.
    marked_boundary c.args.own.now c.scan.rest.now c.as_bytes.result.now c.marked_front.result c.marked_front.ensures c.as_bytes.ensures.value

pub returns-in_default : goal.returns-in_default
returns-in_default c =
    front_more c.args.own.now c.args.text.now c.scan.rest.now c.range_from-left.result.now c.as_bytes.result.now c.marked_front.result
    c.scan.invariant c.marked_front.ensures c.as_bytes.ensures.value c.range_from-left.ensures.value

pub returns-then-not-is_marked : goal.returns-then-not-is_marked
returns-then-not-is_marked c =
    front_more c.args.own.now c.args.text.now c.scan.rest.now c.range_from-left.result.now c.as_bytes.result.now c.marked_front.result
    c.scan.invariant c.marked_front.ensures c.as_bytes.ensures.value c.range_from-left.ensures.value

pub scan-preserved : goal.scan-preserved
scan-preserved c =
    let own = c.args.own.now in
    let text = c.args.text.now in
    let left = c.range_from-left.result.now in
    let before = front_more own text c.scan.rest.now left c.as_bytes.result.now c.marked_front.result
    c.scan.invariant c.marked_front.ensures c.as_bytes.ensures.value c.range_from-left.ensures.value in
    subst (λ (l : List ℕ). FrontIsMarked own text l) (sym c.as_str-rest.ensures)
    (front_code own text left (chars_rest c.next.new.self) c.in-Some.code before (sym c.chars-iter.ensures.rest ∙ c.in-Some.ensures.steps.0)
    (c.is_marked.ensures c.if-not-is_marked.false))
