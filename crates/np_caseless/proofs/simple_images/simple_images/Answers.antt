use Rattle.std.proofs.Common.{◌≡◌, ◌∙◌, ◌++◌, ◌-◌, drop, length, replicate, sym, ap, ap₂, subst, take, arith}
use Rattle.std.proofs.Math.Seq.{take-nil}
use Rattle.std.proofs.lemmas.List.{length-replicate, take_at}
use Rattle.np_caseless.specs.inside.SimpleImages.{AreOfForm, AreSimple}
use Rattle.np_caseless.proofs.SimpleLemmas.{simple_none}
use Rattle.np_caseless.proofs.simple_images.simple_images.Goals as goal

pub returns : goal.returns
returns g c = λ v same all.
    let form = c.args.form in
    let none = c.unknown.result in
    let first = c.resize.new.self.items in
    let room = c.put_all.new.list in
    let whole : length room ≡ c.resize.new.self.len = omega (arith, c.as_mut_slice.ensures.len, c.put_all.ensures.length) in
    let is = take_at room (drop (length room) first) c.resize.new.self.len (omega (arith, whole)) in
    let given : c.as_mut_slice.result.now ≡ replicate 0x3000 none =
    c.as_mut_slice.ensures.value
    ∙ c.in_ok-resize.ensures.items
    ∙ ap₂ (λ a b. a ++ b) (ap (take 0x3000) c.new-list.ensures.items ∙ take-nil 0x3000) (ap (λ n. replicate (0x3000 - n) none) c.new-list.ensures.len) in
    let simple = c.put_all.ensures.simple v same all (subst (AreSimple v form) (sym given) (simple_none v form 0x3000 none c.unknown.ensures)) in
    subst (AreOfForm v form) (sym is)
    (record { size = c.put_all.ensures.length ∙ ap length given ∙ length-replicate 0x3000 none; simple = simple })
