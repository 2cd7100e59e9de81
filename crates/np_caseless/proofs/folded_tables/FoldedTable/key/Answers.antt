use Rattle.std.proofs.Common.{arith, Bool, IfOk, List, ℕ, chars, subst}
use Rattle.std.specs.Cow.{cow_str_bytes}
use Rattle.std.specs.List.{All}
use Rattle.np_forms.specs.Forms.{IsNormalForm}
use Rattle.np_versions.specs.Versions.{VersionData}
use Rattle.np_caseless.specs.inside.Images.{AreImages}
use Rattle.np_caseless.specs.inside.ImageTables.{IsMarked}
use Rattle.np_caseless.proofs.AsciiLemmas.{ascii_assigned, ascii_key, folded_ascii, front_is_all}
use Rattle.np_caseless.proofs.ImageLemmas.{marked_images, ok_caseless}
use Rattle.np_caseless.proofs.folded_tables.FoldedTable.key.Goals as goal

pub returns-then-are_marked-clause-key : goal.returns-then-are_marked-clause-key
returns-then-are_marked-clause-key g c =
    let v = c.args.self.now in
    let xs = chars c.args.text.now in
    let marked = subst (λ (own : List ℕ). All (IsMarked own) xs) c.as_slice.ensures.value (c.are_marked.ensures c.if-are_marked.true) in
    let images = marked_images v c.compat.result c.images.result.now.own.items xs c.images.ensures.own marked in
    ok_caseless v c.meets_conditions.ensures.version c.args.wanted xs cow_str_bytes c.lend_npss.result
    (subst (λ (b : Bool). AreImages v b xs xs) c.compat.ensures images)
    (subst (λ (d : VersionData). IfOk c.lend_npss.result (λ t. IsNormalForm d c.args.wanted xs (chars (cow_str_bytes t)))) c.table.ensures c.lend_npss.ensures.normal)

pub folded_text-requires-clause-folded : goal.folded_text-requires-clause-folded
folded_text-requires-clause-folded g c =
    let ascii = front_is_all c.args.text.now c.as_bytes.result.now c.ascii_front.result c.as_bytes.ensures.value (omega (arith, c.if-ascii_front-text.true)) c.ascii_front.ensures.ascii in
    folded_ascii c.args.self.now c.in-Some.bytes.now c.in-Some.ensures c.args.text.now ascii

pub returns-in-Ok-clause-key : goal.returns-in-Ok-clause-key
returns-in-Ok-clause-key g c =
    let ascii = front_is_all c.args.text.now c.as_bytes.result.now c.ascii_front.result c.as_bytes.ensures.value (omega (arith, c.if-ascii_front-text.true)) c.ascii_front.ensures.ascii in
    ascii_key c.args.self.now c.in-Some.bytes.now c.in-Some.ensures c.meets_conditions.ensures.version c.args.wanted c.args.text.now (cow_str_bytes c.in-Ok.key) ascii
    c.in-Ok.ensures

pub returns-in-Ok-clause-assigned : goal.returns-in-Ok-clause-assigned
returns-in-Ok-clause-assigned g c =
    let ascii = front_is_all c.args.text.now c.as_bytes.result.now c.ascii_front.result c.as_bytes.ensures.value (omega (arith, c.if-ascii_front-text.true)) c.ascii_front.ensures.ascii in
    ascii_assigned c.args.self.now c.in-Some.bytes.now c.in-Some.ensures c.args.text.now ascii

pub returns-in-Err-clause-fault : goal.returns-in-Err-clause-fault
returns-in-Err-clause-fault g c =
    let ascii = front_is_all c.args.text.now c.as_bytes.result.now c.ascii_front.result c.as_bytes.ensures.value (omega (arith, c.if-ascii_front-text.true)) c.ascii_front.ensures.ascii in
    ascii_assigned c.args.self.now c.in-Some.bytes.now c.in-Some.ensures c.args.text.now ascii
