-- What a reader of fields went over.
use Rattle.std.proofs.Common.{◌≡◌, ℕ, zero, suc, ◌+◌, ◌<◌, ◌^◌, inr, List, [], ◌∷◌, ◌++◌, length, drop, get_or, w32, refl, sym, ap, subst, ◌∙◌, arith, append-nil, append_assoc, length-append}
use Rattle.std.proofs.lemmas.List.{nil_from_length}
use Rattle.std.proofs.lemmas.Nat.{be_bytes_4}
use Rattle.std.specs.Int.{to_be_bytes, from_be_bytes}
use Rattle.np_code_points.specs.Forms.{byte_of}
use Rattle.np_code_points.specs.declared.forms.Form.{Form}
use Rattle.np_node.proofs.FieldLemmas.{length-number_bytes}
use Rattle.np_node.proofs.MessageLemmas.{message-cut, length-message_bytes}
use Rattle.np_node.specs.Fields.{number_bytes, field_bytes, entry_bytes, FitsFields, IsFieldFault, IsEntryFault}
use Rattle.np_node.specs.Messages.{message_bytes, IsMessage, IsMessageFault}
use Rattle.np_node.specs.Strings.{Entry}
use Rattle.np_node.specs.declared.fields.Fields.{Fields}
use Rattle.np_node.specs.inside.Reading.{left_of, Passes}

pub passes-more : (a b c : Fields) (xs ys : List ℕ) → Passes a b xs → Passes b c ys → Passes a c (xs ++ ys)
passes-more a b c xs ys p q =
    record {
      bytes = q.bytes ∙ p.bytes;
      split = p.split ∙ ap (λ l. xs ++ l) q.split ∙ sym (append_assoc xs ys (left_of c));
      place = omega (arith, p.place, q.place, length-append xs ys);
    }

pub passes-same : (a b : Fields) (xs ys : List ℕ) → xs ≡ ys → Passes a b xs → Passes a b ys
passes-same a b xs ys e p = subst (λ l. Passes a b l) e p

pub passes-field : (a b c : Fields) (n : ℕ) (xs : List ℕ) → Passes a b (number_bytes n) → Passes b c xs → length xs ≡ n → Passes a c (field_bytes xs)
unfolding field_bytes
passes-field a b c n xs p q size =
    passes-same a c (number_bytes n ++ xs) (number_bytes (length xs) ++ xs) (ap (λ (k : ℕ). number_bytes k ++ xs) (sym size)) (passes-more a b c (number_bytes n) xs p q)

pub passes-entry : (a b c : Fields) (string key : List ℕ) → Passes a b (field_bytes string) → Passes b c (field_bytes key) → Passes a c (entry_bytes (record { string = string; key = key }))
unfolding entry_bytes
passes-entry a b c string key p q = passes-more a b c (field_bytes string) (field_bytes key) p q

-- a length that promises more than is left
pub field-lacks : (a b c : Fields) (n : ℕ) → Passes a b (number_bytes n) → n < 2 ^ 32 → length (left_of b) < n → c ≡ b → (x : ℕ) × IsFieldFault (left_of a) x × (c.at ≡ a.at + x)
field-lacks a b c n p fits short same = (
  4,
  inr (record { count = n; rest = left_of b; fits = fits; split = p.split; short = short; place = refl }),
  omega (arith, ap (λ (f : Fields). f.at) same, p.place, length-number_bytes n),
)

-- a key that isn't whole
pub key-lacks : (a b : Fields) (string : List ℕ) (inner at : ℕ) → Passes a b (field_bytes string) → length string < 2 ^ 32 → IsFieldFault (left_of b) inner → at ≡ b.at + inner → (x : ℕ) × IsEntryFault (left_of a) x × (at ≡ a.at + x)
key-lacks a b string inner at p fits fault place = (
  length (field_bytes string) + inner,
  inr (record { string = string; rest = left_of b; inner = inner; fits = fits; split = p.split; fault = fault; place = refl }),
  omega (arith, place, p.place),
)

-- ---- messages

module _ (start behind end : Fields) (bytes : List ℕ) (form : Form) (e : Entry) where
  left-start : start.bytes.now ≡ bytes → start.at ≡ 0 → left_of start ≡ bytes
  left-start is zero_ = ap (λ (n : ℕ). drop n start.bytes.now) zero_ ∙ is

  message-split : start.bytes.now ≡ bytes → start.at ≡ 0 → Passes start behind (byte_of form ∷ []) → Passes behind end (entry_bytes e) → bytes ≡ message_bytes (record { form = form; entry = e }) ++ left_of end
  message-split is zero_ first second =
      sym (left-start is zero_) ∙ first.split ∙ ap (λ l. byte_of form ∷ l) second.split ∙ sym (message-cut (record { form = form; entry = e }) (left_of end))

  pub message-read : start.bytes.now ≡ bytes → start.at ≡ 0 → Passes start behind (byte_of form ∷ []) → Passes behind end (entry_bytes e) → FitsFields e → length (left_of end) ≡ 0 → IsMessage bytes (record { form = form; entry = e })
  message-read is zero_ first second fits none =
      record {
        fits = fits;
        spelling = message-split is zero_ first second ∙ ap (λ l. message_bytes (record { form = form; entry = e }) ++ l) (nil_from_length (left_of end) none) ∙ append-nil _;
      }

  pub message-more : (at : ℕ) → start.bytes.now ≡ bytes → start.at ≡ 0 → Passes start behind (byte_of form ∷ []) → Passes behind end (entry_bytes e) → FitsFields e → 0 < length (left_of end) → at ≡ end.at → IsMessageFault bytes at
  message-more at is zero_ first second fits more place =
      inr (inr (record {
        message = record { form = form; entry = e };
        rest = left_of end;
        fits = fits;
        split = message-split is zero_ first second;
        more = more;
        place = omega (arith, place, second.place, first.place, zero_, length-message_bytes (record { form = form; entry = e }));
      }))

-- ---- numbers

small-bytes : (bs : List ℕ) → length bs ≡ 4 → get_or bs 0 0 < 256 → get_or bs 1 0 < 256 → get_or bs 2 0 < 256 → get_or bs 3 0 < 256 → (i : ℕ) → get_or bs i 0 < 256
small-bytes (a ∷ b ∷ c ∷ d ∷ []) size p q r s zero = p
small-bytes (a ∷ b ∷ c ∷ d ∷ []) size p q r s (suc zero) = q
small-bytes (a ∷ b ∷ c ∷ d ∷ []) size p q r s (suc (suc zero)) = r
small-bytes (a ∷ b ∷ c ∷ d ∷ []) size p q r s (suc (suc (suc zero))) = s
small-bytes (a ∷ b ∷ c ∷ d ∷ []) size p q r s (suc (suc (suc (suc i)))) = omega arith
small-bytes [] size p q r s i = omega arith
small-bytes (a ∷ []) size p q r s i = absurd (omega (arith, size))
small-bytes (a ∷ b ∷ []) size p q r s i = absurd (omega (arith, size))
small-bytes (a ∷ b ∷ c ∷ []) size p q r s i = absurd (omega (arith, size))
small-bytes (a ∷ b ∷ c ∷ d ∷ e ∷ es) size p q r s i = absurd (omega (arith, size))

pub passes-number : (a b : Fields) (bs : List ℕ) (n : ℕ) → Passes a b bs → length bs ≡ 4 → get_or bs 0 0 < 256 → get_or bs 1 0 < 256 → get_or bs 2 0 < 256 → get_or bs 3 0 < 256
    → n ≡ from_be_bytes w32 bs → Passes a b (number_bytes n)
unfolding number_bytes
passes-number a b bs n passed size p q r s is = passes-same a b bs (to_be_bytes w32 n) (sym (be_bytes_4 bs n size (small-bytes bs size p q r s) is)) passed
