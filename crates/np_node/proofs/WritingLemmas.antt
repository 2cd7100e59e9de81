-- Bytes that are written into room, one piece behind the other.
use Rattle.std.proofs.Common.{◌≡◌, ◌≢◌, ℕ, ◌+◌, ◌≤◌, ◌∷◌, [], ◌++◌, inl, inr, List, length, take, sym, ap, ◌∙◌, arith, length-append}
use Rattle.std.proofs.lemmas.List.{take_all}
use Rattle.np_node.proofs.FieldLemmas.{length-field_bytes}
use Rattle.np_node.proofs.ListLemmas.{joined}
use Rattle.np_node.proofs.MarkedLemmas.{key-same, key-other, key-ways}
use Rattle.np_node.specs.Fields.{number_bytes, field_bytes, entry_bytes, key_bytes, marked_bytes}
use Rattle.np_code_points.specs.Forms.{byte_of}
use Rattle.np_node.specs.Messages.{Message, message_bytes}
use Rattle.np_node.specs.Strings.{Entry}
use Rattle.np_node.specs.inside.Writing.{IsWritten}

-- two pieces are one piece
pub written-both : (a b c : List ℕ) (i j k : ℕ) (xs ys : List ℕ) → IsWritten a b i j xs → IsWritten b c j k ys → IsWritten a c i k (xs ++ ys)
written-both a b c i j k xs ys p q =
    record { front = joined (take k c) (take j b) (take i a) xs ys p.front q.front; place = omega (arith, p.place, q.place, length-append xs ys); size = q.size ∙ p.size }

pub written-as : (a b : List ℕ) (i j : ℕ) (xs ys : List ℕ) → xs ≡ ys → IsWritten a b i j xs → IsWritten a b i j ys
written-as a b i j xs ys same p =
    record { front = p.front ∙ ap (λ l. take i a ++ l) same; place = p.place ∙ ap (λ (l : List ℕ). i + length l) same; size = p.size }

-- the room is filled
pub written-whole : (old new xs : List ℕ) (end : ℕ) → IsWritten old new 0 end xs → length old ≡ length xs → new ≡ xs
written-whole old new xs end p full = sym (take_all end new (omega (arith, p.place, p.size, full))) ∙ p.front

pub written-field : (a b c : List ℕ) (i j k : ℕ) (xs : List ℕ) → IsWritten a b i j (number_bytes (length xs)) → IsWritten b c j k xs → IsWritten a c i k (field_bytes xs)
unfolding field_bytes
written-field a b c i j k xs p q = written-both a b c i j k (number_bytes (length xs)) xs p q

pub written-entry : (a b c : List ℕ) (i j k : ℕ) (e : Entry) → IsWritten a b i j (field_bytes e.string) → IsWritten b c j k (field_bytes e.key) → IsWritten a c i k (entry_bytes e)
unfolding entry_bytes
written-entry a b c i j k e p q = written-both a b c i j k (field_bytes e.string) (field_bytes e.key) p q

pub written-marked : (a b c : List ℕ) (i j k : ℕ) (e : Entry) (xs : List ℕ) → IsWritten a b i j (field_bytes e.string) → IsWritten b c j k xs → key_bytes e ≡ xs → IsWritten a c i k (marked_bytes e)
unfolding marked_bytes
written-marked a b c i j k e xs p q is = written-both a b c i j k (field_bytes e.string) (key_bytes e) p (written-as b c j k xs (key_bytes e) (sym is) q)

pub written-same : (a b c : List ℕ) (i j k : ℕ) (e : Entry) → IsWritten a b i j (field_bytes e.string) → IsWritten b c j k (0 ∷ []) → e.key ≡ e.string → IsWritten a c i k (marked_bytes e)
written-same a b c i j k e p q same = written-marked a b c i j k e (0 ∷ []) p q (key-same e same)

pub written-other : (a b c d : List ℕ) (i j k l : ℕ) (e : Entry) → IsWritten a b i j (field_bytes e.string) → IsWritten b c j k (1 ∷ []) → IsWritten c d k l (field_bytes e.key) → e.key ≢ e.string
    → IsWritten a d i l (marked_bytes e)
written-other a b c d i j k l e p q r other =
    written-marked a b d i j l e (1 ∷ field_bytes e.key) p (written-both b c d j k l (1 ∷ []) (field_bytes e.key) q r) (key-other e other)

pub written-message : (a b c : List ℕ) (i j k : ℕ) (m : Message) → IsWritten a b i j (byte_of m.form ∷ []) → IsWritten b c j k (entry_bytes m.entry) → IsWritten a c i k (message_bytes m)
unfolding message_bytes
written-message a b c i j k m p q = written-both a b c i j k (byte_of m.form ∷ []) (entry_bytes m.entry) p q

-- ---- lengths

pub length-message_bytes : (m : Message) → length (message_bytes m) ≡ 1 + length (entry_bytes m.entry)
unfolding message_bytes
length-message_bytes m = omega arith

pub length-entry_bytes : (e : Entry) → length (entry_bytes e) ≡ 8 + (length e.string + length e.key)
unfolding entry_bytes
length-entry_bytes e = omega (arith, length-append (field_bytes e.string) (field_bytes e.key), length-field_bytes e.string, length-field_bytes e.key)

pub length-same-key : (e : Entry) → e.key ≡ e.string → length (marked_bytes e) ≡ 5 + length e.string
unfolding marked_bytes
length-same-key e same = omega (arith, length-append (field_bytes e.string) (key_bytes e), length-field_bytes e.string, ap length (key-same e same))

pub length-other-key : (e : Entry) → e.key ≢ e.string → length (marked_bytes e) ≡ 9 + (length e.string + length e.key)
unfolding marked_bytes
length-other-key e other =
    omega (arith, length-append (field_bytes e.string) (key_bytes e), length-field_bytes e.string, ap length (key-other e other), length-field_bytes e.key)

-- the string is always told
pub marked-least : (e : Entry) → 5 + length e.string ≤ length (marked_bytes e)
marked-least e = elim (key-ways e) [ inl same ↦ omega (arith, length-same-key e same) | inr other ↦ omega (arith, length-other-key e other) ]

pub marked-most : (e : Entry) → length (marked_bytes e) ≤ 9 + (length e.string + length e.key)
marked-most e = elim (key-ways e) [ inl same ↦ omega (arith, length-same-key e same) | inr other ↦ omega (arith, length-other-key e other) ]
