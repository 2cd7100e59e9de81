-- The Hangul arithmetic: syllables and jamo counted from 0, on exactly where each is as it wants it, and what it then makes of each.
use Rattle.std.proofs.Common.{◌≡◌, ℕ, ◌+◌, ◌-◌, ◌<◌, ◌≤◌, ◌⊎◌, true, false, sym, subst, arith, inl, inr, lt-ltb, ◌≢◌, zero, suc, ◌%◌, Bool, not, ◌&&◌, ◌||◌, []}
use Rattle.std.proofs.Common.{◌∷◌, refl, ◌∙◌, eqb-true}
use Rattle.std.proofs.lemmas.Bool.{or_cases}
use Rattle.np_versions.proofs.Words.{or_left, or_right, cond-true, cond-false, le-ltb, both_ways, IsHangulWrong, IsLeastOf, HasAssignedHangul, hangul_at}
use Rattle.np_versions.proofs.Words.{VersionData, is_assigned, is_hangul, is_hangul_row, list_all, and_parts, and_from, and_right, is_among, is_syllable}
use Rattle.np_versions.proofs.Words.{syllable_pair, Canonical, HangulOn, HangulByArithmetic, all_below, class_of, decomposition_kind, decomposition_mapping}
use Rattle.np_versions.proofs.Words.{file_kind, file_mapping, has_hangul, is_empty}
use Rattle.np_code_points.proofs.HangulLemmas.{among_bounds, among_from_bounds, pair_exists, pair_kinds, pair_of_lv, pair_of_lvt}
use Rattle.np_versions.proofs.MappingLemmas.{is_empty-true}

-- the four runs of code points
unfoldable pub Runs : ℕ → Type 0
Runs c = ((0x1100 ≤ c) × (c < 0x1113)) ⊎ (((0x1161 ≤ c) × (c < 0x1176)) ⊎ (((0x11A8 ≤ c) × (c < 0x11C3)) ⊎ ((0xAC00 ≤ c) × (c < 0xD7A4))))

pub hangul_runs : (c : ℕ) → is_hangul c ≡ true → Runs c
unfolding Runs
hangul_runs c h = grind (arith, or_cases, among_bounds)

pub hangul_bound : (c : ℕ) → is_hangul c ≡ true → c < 0x110000
unfolding Runs
hangul_bound c h = grind (arith, hangul_runs)

-- what a place stands for
unfoldable pub Stands : ℕ → ℕ → Type 0
Stands i c = ((i < 19) × (c ≡ 0x1100 + i)) ⊎ (((19 ≤ i) × (i < 40) × (c ≡ 0x1161 + (i - 19))) ⊎ (((40 ≤ i) × (i < 67) × (c ≡ 0x11A8 + (i - 40))) ⊎ ((67 ≤ i) × (c ≡ 0xAC00 + (i - 67)))))

stands : (i : ℕ) → Stands i (hangul_at i)
unfolding Stands hangul_at
stands i = grind (arith, cond-true, lt-ltb, cond-false, le-ltb)

pub hangul_at-hangul : (i : ℕ) → i < 11239 → is_hangul (hangul_at i) ≡ true
unfolding Stands Runs
hangul_at-hangul i lt = grind (arith, stands, or_left, among_from_bounds, or_right)

pub stands-is : (i c : ℕ) → Stands i c → c ≡ hangul_at i
unfolding Stands
stands-is i c h = let s = stands i in grind arith

-- the place of a syllable or jamo
place : (c : ℕ) → Runs c → (i : ℕ) × (i < 11239) × (hangul_at i ≡ c)
unfolding Runs Stands
place c runs =
    elim runs [
      | inl l ↦ (c - 0x1100, omega arith, sym (stands-is (c - 0x1100) c (inl (omega arith, omega arith))))
      | inr rest ↦ elim rest [
        | inl v ↦ (19 + (c - 0x1161), omega arith, sym (stands-is (19 + (c - 0x1161)) c (inr (inl (omega arith, omega arith, omega arith)))))
        | inr rest ↦ elim rest [
          | inl t ↦ (40 + (c - 0x11A8), omega arith, sym (stands-is (40 + (c - 0x11A8)) c (inr (inr (inl (omega arith, omega arith, omega arith))))))
          | inr s ↦ (67 + (c - 0xAC00), omega arith, sym (stands-is (67 + (c - 0xAC00)) c (inr (inr (inr (omega arith, omega arith))))))
        ]
      ]
    ]

pub hangul_at-le : (i j : ℕ) → i ≤ j → hangul_at i ≤ hangul_at j
unfolding Stands
hangul_at-le i j le = let a = stands i in let b = stands j in grind arith

pub each_hangul : (P : ℕ → Type 0) → ((k : ℕ) → k < 11239 → P (hangul_at k)) → (c : ℕ) → is_hangul c ≡ true → P c
each_hangul P all c h = let at = place c (hangul_runs c h) in subst P at.2 (all at.0 at.1)

-- a syllable or jamo that lacks what holds of the places below i is none of these
pub not_below : (P : ℕ → Type 0) (i : ℕ) → ((k : ℕ) → k < i → P (hangul_at k)) → (c : ℕ) → is_hangul c ≡ true → ¬ P c → hangul_at i ≤ c
not_below P i all c h lacks =
    let at = place c (hangul_runs c h) in
    grind (arith, hangul_at-le)

abbrev pub IsRight : VersionData → ℕ → Type 0
IsRight v c = is_hangul_row v c ≡ true

-- the first wrong one that is met
pub first_wrong-some : (v : VersionData) (i : ℕ) → HasAssignedHangul v → i < 11239 → ((k : ℕ) → k < i → is_hangul_row v (hangul_at k) ≡ true) → is_hangul_row v (hangul_at i) ≡ false → IsLeastOf (IsHangulWrong v) (hangul_at i)
first_wrong-some v i some lt before here =
    record {
      holds = record { hangul = hangul_at-hangul i lt; some = some.some; some_hangul = some.some_hangul; some_assigned = some.some_assigned; wrong = here };
      least = λ d wrong. not_below (IsRight v) i before d wrong.hangul (λ right. both_ways _ wrong.wrong right);
    }

pub first_wrong-none : (v : VersionData) → ((k : ℕ) → k < 11239 → is_hangul_row v (hangul_at k) ≡ true) → (c : ℕ) → ¬ (IsHangulWrong v c)
first_wrong-none v all c wrong = both_ways _ wrong.wrong (each_hangul (IsRight v) all c wrong.hangul)

pub none_assigned : (v : VersionData) → ((c : ℕ) → is_hangul c ≡ true → is_assigned v c ≡ false) → (c : ℕ) → ¬ (IsHangulWrong v c)
none_assigned v none c wrong = both_ways _ (none wrong.some wrong.some_hangul) wrong.some_assigned

pub lacking : (v : VersionData) → ((k : ℕ) → k < 11239 → is_assigned v (hangul_at k) ≡ false) → (c : ℕ) → is_hangul c ≡ true → is_assigned v c ≡ false
lacking v all c h = each_hangul (λ d. is_assigned v d ≡ false) all c h

pub having : (v : VersionData) (i : ℕ) → i < 11239 → is_assigned v (hangul_at i) ≡ true → HasAssignedHangul v
having v i lt h = record { some = hangul_at i; some_hangul = hangul_at-hangul i lt; some_assigned = h }

-- ---- a test of each number below a bound

all_below-at : (p : ℕ → Bool) (n c : ℕ) → all_below p n ≡ true → c < n → p c ≡ true
unfolding all_below
all_below-at p zero c h lt = absurd (omega arith)
all_below-at p (suc n) c h lt =
    let halves = and_parts (p n) (all_below p n) h in
    let rest = all_below-at p n c halves.1 in
    grind arith

all_below-from : (p : ℕ → Bool) (n : ℕ) → ((c : ℕ) → p c ≡ true) → all_below p n ≡ true
unfolding all_below
all_below-from p zero each = refl
all_below-from p (suc n) each = and_from _ _ (each n) (all_below-from p n each)

-- ---- where it is on

then_so : (a b : Bool) → (not a || b) ≡ true → a ≡ true → b ≡ true
then_so a b h is = grind arith

pub has_hangul-at : (v : VersionData) → has_hangul v ≡ true → (c : ℕ) → is_hangul c ≡ true → is_hangul_row v c ≡ true
unfolding has_hangul
has_hangul-at v on c h =
    then_so (is_hangul c) (is_hangul_row v c) (all_below-at (λ d. not (is_hangul d) || is_hangul_row v d) 0x110000 c on (hangul_bound c h)) h

pub has_hangul-from : (v : VersionData) → ((c : ℕ) → is_hangul c ≡ true → is_hangul_row v c ≡ true) → has_hangul v ≡ true
unfolding has_hangul
has_hangul-from v each = grind (arith, all_below-from)

pub has_hangul-fails : (v : VersionData) (c : ℕ) → is_hangul c ≡ true → is_hangul_row v c ≡ false → has_hangul v ≡ false
has_hangul-fails v c h wrong = grind (arith, both_ways, has_hangul-at)

pub hangul_on : HangulOn
hangul_on v = (has_hangul-at v, has_hangul-from v)

-- where none is wrong and one is assigned, the arithmetic is on
pub on_where_right : (v : VersionData) → ((c : ℕ) → ¬ (IsHangulWrong v c)) → (c : ℕ) → is_hangul c ≡ true → is_assigned v c ≡ true → has_hangul v ≡ true
on_where_right v none c h assigned =
    has_hangul-from v (λ d hangul.
    let right = λ (wrong : is_hangul_row v d ≡ false). none d (record { hangul = hangul; some = c; some_hangul = h; some_assigned = assigned; wrong = wrong }) in
    grind arith)

-- ---- what it makes of each syllable and jamo

pub record HangulParts (v : VersionData) (c : ℕ) : Type 0 where
  pub assigned : is_assigned v c ≡ true
  pub class : class_of v c ≡ 0
  pub mapping : is_empty (file_mapping v c) ≡ true

pub hangul_parts : (v : VersionData) (c : ℕ) → is_hangul_row v c ≡ true → HangulParts v c
unfolding is_hangul_row
hangul_parts v c h = grind (arith, and_parts, eqb-true)

pub decomposition_kind-on : (v : VersionData) (c : ℕ) → (has_hangul v && is_syllable c) ≡ true → decomposition_kind v c ≡ Canonical
unfolding decomposition_kind
decomposition_kind-on v c on = cond-true _ Canonical (file_kind v c) on

pub decomposition_kind-off : (v : VersionData) (c : ℕ) → (has_hangul v && is_syllable c) ≡ false → decomposition_kind v c ≡ file_kind v c
unfolding decomposition_kind
decomposition_kind-off v c off = cond-false _ Canonical (file_kind v c) off

pub decomposition_mapping-on : (v : VersionData) (c : ℕ) → (has_hangul v && is_syllable c) ≡ true → decomposition_mapping v c ≡ syllable_pair c
unfolding decomposition_mapping
decomposition_mapping-on v c on = cond-true _ (syllable_pair c) (file_mapping v c) on

pub decomposition_mapping-off : (v : VersionData) (c : ℕ) → (has_hangul v && is_syllable c) ≡ false → decomposition_mapping v c ≡ file_mapping v c
unfolding decomposition_mapping
decomposition_mapping-off v c off = cond-false _ (syllable_pair c) (file_mapping v c) off

pub by_arithmetic : HangulByArithmetic
by_arithmetic v on c h =
    let row = hangul_parts v c (has_hangul-at v on c h) in
    grind (arith, decomposition_mapping-on, and_from, cond-true, decomposition_mapping-off, and_right, is_empty-true, cond-false)

-- ---- syllables and jamo

pub syllable_hangul : (c : ℕ) → is_syllable c ≡ true → is_hangul c ≡ true
syllable_hangul c h = or_right (is_among 0x1100 19 c || is_among 0x1161 21 c || is_among 0x11A8 27 c) (is_syllable c) h

pub syllable_row : (v : VersionData) (c : ℕ) → has_hangul v ≡ true → is_syllable c ≡ true → is_hangul_row v c ≡ true
syllable_row v c on h = has_hangul-at v on c (syllable_hangul c h)

no_syllable : (base count c : ℕ) → base + count ≤ 0xAC00 → is_among base count c ≡ true → is_syllable c ≡ false
no_syllable base count c low h = grind (arith, among_bounds)

pub record IsJamo (c : ℕ) : Type 0 where
  pub hangul : is_hangul c ≡ true
  pub single : is_syllable c ≡ false

pub leading_jamo : (c : ℕ) → is_among 0x1100 19 c ≡ true → IsJamo c
leading_jamo c h = grind (arith, no_syllable, or_left)

pub vowel_jamo : (c : ℕ) → is_among 0x1161 21 c ≡ true → IsJamo c
vowel_jamo c h = grind (arith, no_syllable, or_left, or_right)

pub trailing_jamo : (c : ℕ) → is_among 0x11A8 27 c ≡ true → IsJamo c
trailing_jamo c h = grind (arith, no_syllable, or_left, or_right)

pub jamo_bare : (v : VersionData) (c : ℕ) → has_hangul v ≡ true → IsJamo c → decomposition_mapping v c ≡ []
jamo_bare v c on jamo = (by_arithmetic v on c jamo.hangul).mapping ∙ cond-false _ _ _ jamo.single

-- ---- the pair of a syllable

-- a syllable of two jamo
pub record IsLv (s : ℕ) : Type 0 where
  pub syllable : is_syllable s ≡ true
  pub leading : ℕ
  pub vowel : ℕ
  pub pair : syllable_pair s ≡ leading ∷ vowel ∷ []
  pub first : IsJamo leading
  pub second : IsJamo vowel

-- two jamo, or a syllable of two jamo and a third
pub record PairShape (s : ℕ) : Type 0 where
  pub first : ℕ
  pub second : ℕ
  pub pair : syllable_pair s ≡ first ∷ second ∷ []
  pub head : IsJamo first ⊎ IsLv first
  pub tail : IsJamo second

pub lv_shape : (s : ℕ) → is_syllable s ≡ true → (s - 0xAC00) % 28 ≡ 0 → IsLv s
lv_shape s h even =
    let pair = pair_of_lv s even in
    grind (arith, pair_kinds, leading_jamo, vowel_jamo, among_bounds, and_parts)

-- a syllable with a trailing consonant
pub record IsLvt (s : ℕ) : Type 0 where
  pub base : ℕ
  pub last : ℕ
  pub pair : syllable_pair s ≡ base ∷ last ∷ []
  pub front : IsLv base
  pub back : IsJamo last

pub lvt_shape : (s : ℕ) → is_syllable s ≡ true → (s - 0xAC00) % 28 ≢ 0 → IsLvt s
lvt_shape s h odd =
    let pair = pair_of_lvt s odd in
    let kinds = pair_kinds s _ _ h pair in
    let range = among_bounds 0xAC00 11172 s h in
    grind (arith, among_bounds, lv_shape, trailing_jamo, eqb-true, and_parts)

pub shape_of : (s : ℕ) → is_syllable s ≡ true → PairShape s
shape_of s h =
    let pair = pair_exists s in
    elim (pair_kinds s pair.0 pair.1 h pair.2) [
      | inl lv ↦ record { first = pair.0; second = pair.1; pair = pair.2; head = inl (leading_jamo pair.0 lv.0); tail = vowel_jamo pair.1 lv.1 }
      | inr lvt ↦
          let front = and_parts (is_syllable pair.0) _ lvt.0 in
          record { first = pair.0; second = pair.1; pair = pair.2; head = inr (lv_shape pair.0 front.0 (eqb-true _ 0 front.1)); tail = trailing_jamo pair.1 lvt.1 }
    ]

pub head_hangul : (c : ℕ) → IsJamo c ⊎ IsLv c → is_hangul c ≡ true
head_hangul c head = grind (arith, syllable_hangul)

-- both parts of a pair are syllables or jamo
pub pair_assigned : (v : VersionData) (s : ℕ) → has_hangul v ≡ true → is_syllable s ≡ true → list_all (is_assigned v) (syllable_pair s) ≡ true
pair_assigned v s on h =
    let shape = shape_of s h in
    let each = λ (c : ℕ) (hangul : is_hangul c ≡ true). (by_arithmetic v on c hangul).assigned in
    grind (arith, head_hangul)
