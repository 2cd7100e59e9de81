-- Lists that are cut in two.
use Rattle.std.proofs.Common.{◌≡◌, ℕ, List, ◌++◌, length, take, drop, sym, ap, ◌∙◌, append_assoc}
use Rattle.std.proofs.Math.Seq.{take-append_seam, drop-append_seam}

-- two cuts of one list whose front parts are equally long are one cut
pub same_front : (xs ys us bs : List ℕ) → xs ++ us ≡ ys ++ bs → length xs ≡ length ys → xs ≡ ys
same_front xs ys us bs e same =
    sym (take-append_seam xs us) ∙ ap (take (length xs)) e ∙ ap (λ (n : ℕ). take n (ys ++ bs)) same ∙ take-append_seam ys bs

pub same_back : (xs ys us bs : List ℕ) → xs ++ us ≡ ys ++ bs → length xs ≡ length ys → us ≡ bs
same_back xs ys us bs e same =
    sym (drop-append_seam xs us) ∙ ap (drop (length xs)) e ∙ ap (λ (n : ℕ). drop n (ys ++ bs)) same ∙ drop-append_seam ys bs

-- two pieces behind a list are one piece
pub joined : (now then_ before front back : List ℕ) → then_ ≡ before ++ front → now ≡ then_ ++ back → now ≡ before ++ (front ++ back)
joined now then_ before front back first second = second ∙ ap (λ l. l ++ back) first ∙ append_assoc before front back
