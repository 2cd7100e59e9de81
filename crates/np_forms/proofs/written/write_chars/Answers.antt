use Rattle.std.proofs.Common.{◌≡◌, ◌++◌, ◌∷◌, [], chars, sym, ap, subst, ◌∙◌, append-nil}
use Rattle.np_forms.proofs.Words.{nil_from_length, chars-nil, chars_rest, IsRead, Writes}
use Rattle.np_forms.proofs.TextLemmas.{IsRead-start, IsRead-next, IsRead-both}
use Rattle.np_forms.proofs.WrittenLemmas.{Writes-start, Writes-next, Writes-held}
use Rattle.np_forms.proofs.written.write_chars.Goals as goal

pub chars-init : goal.chars-init
chars-init g c =
    record {
      front = [];
      reads = subst (λ r. IsRead c.args.text.now r []) (sym c.chars-iter.ensures.rest) (IsRead-start c.args.text.now c.utf8.text);
      writes = Writes-start c.args.stream.now c.args.out.now c.requires;
    }

pub chars-preserved : goal.chars-preserved
chars-preserved g c =
    let a = c.chars.invariant in
    let h = c.in_ok-take_front.ensures.ok in
    let rest = c.in_ok-take_front.field-0.now in
    let front = a.front ++ h.front in
    let reads : IsRead c.args.text.now rest front =
    IsRead-both c.args.text.now (chars_rest c.chars.iter) rest a.front h.front a.reads (subst (λ t. IsRead t rest h.front) c.as_str.ensures h.reads) in
    record {
      front = front ++ c.in-Some.c ∷ [];
      reads = IsRead-next c.args.text.now rest c.in-Some.c (chars_rest c.next.new.self) front (sym c.chars-iter-in-chars.ensures.rest ∙ c.in-Some.ensures.steps.0) reads;
      writes = Writes-next _ _ _ _ _ _ front (c.in-Some.c ∷ []) (Writes-held _ _ _ _ _ a.front _ _ a.writes h) c.in_ok-write_char.ensures;
    }

pub returns-in_default : goal.returns-in_default
returns-in_default g c =
    let a = c.chars.invariant in
    let h = c.in_ok-take_front.ensures.ok in
    let rest = c.in_ok-take_front.field-0.now in
    let front = a.front ++ h.front in
    let reads : IsRead c.args.text.now rest front =
    IsRead-both c.args.text.now (chars_rest c.chars.iter) rest a.front h.front a.reads (subst (λ t. IsRead t rest h.front) c.as_str.ensures h.reads) in
    let nothing : rest ≡ [] = sym c.chars-iter-in-chars.ensures.rest ∙ nil_from_length _ c.in_default.ensures.steps.0.0 in
    let whole : chars c.args.text.now ≡ front = reads.split ∙ ap (λ l. front ++ l) (ap chars nothing ∙ chars-nil) ∙ append-nil front in
    subst (Writes c.args.stream.now c.take_front.new.self c.args.out.now c.chars.out) (sym whole) (Writes-held _ _ _ _ _ a.front _ _ a.writes h)
