-- A run between two bytes of its input.
use Rattle.std.specs.Prelude.{◌≡◌, ◌⊎◌, ℕ, ◌<◌, ◌≤◌, ◌||◌, Bool, true, false, List, [], ◌∷◌, ◌++◌, length, take, Option}
use Rattle.std.specs.Io.KnownBytes.{Appends, Consumes}
use Rattle.std.specs.List.{AllZip, list_any}
use Rattle.np_forms.specs.RunEnds.{Ends}
use Rattle.np_lines.specs.Answers.{is_refusal, most_bytes}
use Rattle.np_lines.specs.Lines.{IsCut, LineEnd, byte_of, ended}
use Rattle.np_lines.specs.Whole.{IsAllAnsweredBy}
use Rattle.np_lines.specs.declared.pending.Pending.{Pending}
use Rattle.np_lines.specs.declared.runs.LinesFault.{LinesFault}
use Rattle.np_lines.specs.declared.runs.LinesFault.TheVariants.{ReadFailed, WriteFailed, TooLarge, Memory}

-- of the line that has begun these bytes came: they are kept, or are too many
abbrev pub HasBegun : Pending → List ℕ → Type 0
HasBegun p rest =
    ((p.is_long ≡ false) × (p.line.items ≡ rest) × (length rest ≤ most_bytes))
    ⊎ ((p.is_long ≡ true) × (p.line.items ≡ []) × (most_bytes < length rest))

-- of all that came, the whole lines were answered by these bytes, and the rest has begun
pub record IsAnswered (Is : List ℕ → List ℕ → Type 0) (end : LineEnd) (came done : List ℕ) (p : Pending) : Type 0 where
  pub lines : List (List ℕ)
  pub rest : List ℕ
  pub cut : IsCut end came lines rest
  pub begun : HasBegun p rest
  pub answers : List (List ℕ)
  pub answers_are : AllZip Is lines answers
  pub done_is : done ≡ ended end answers
  pub told : p.any_refused ≡ list_any is_refusal answers

-- these bytes came, whatever came before
pub record Goes (Is : List ℕ → List ℕ → Type 0) (end : LineEnd) (old new : Pending) (bytes : List ℕ) : Type 0 where
  pub more : List ℕ
  pub out_is : new.out.items ≡ old.out.items ++ more
  pub carries : (came done : List ℕ) → IsAnswered Is end came done old → IsAnswered Is end (came ++ bytes) (done ++ more) new

-- of a piece some first bytes came, and the rest is left
pub record HasTaken (Is : List ℕ → List ℕ → Type 0) (end : LineEnd) (old new : Pending) (piece rest : List ℕ) : Type 0 where
  pub front : List ℕ
  pub split : piece ≡ front ++ rest
  pub goes : Goes Is end old new front

-- an answer was appended, and whether it is a refusal
pub record IsTold (Is : List ℕ → Type 0) (old new : List ℕ) (refused : Bool) : Type 0 where
  pub answer : List ℕ
  pub is : Is answer
  pub out_is : new ≡ old ++ answer
  pub told : refused ≡ is_refusal answer

-- the answer to the line that has begun and ends with these bytes
abbrev pub IsAnswerTo : (List ℕ → List ℕ → Type 0) → Pending → List ℕ → List ℕ → Type 0
IsAnswerTo Is p bytes answer = (rest : List ℕ) → HasBegun p rest → Is (rest ++ bytes) answer

-- the line that had begun and ends with these bytes was answered, and another begins
pub record IsEnded (Is : List ℕ → List ℕ → Type 0) (end : LineEnd) (old new : Pending) (bytes : List ℕ) : Type 0 where
  pub answer : List ℕ
  pub is : IsAnswerTo Is old bytes answer
  pub out_is : new.out.items ≡ old.out.items ++ (answer ++ byte_of end ∷ [])
  pub begins : HasBegun new []
  pub told : new.any_refused ≡ (old.any_refused || is_refusal answer)

-- no more comes, whatever came before
pub record Finishes (Is : List ℕ → List ℕ → Type 0) (end : LineEnd) (old new : Pending) : Type 0 where
  pub more : List ℕ
  pub out_is : new.out.items ≡ old.out.items ++ more
  pub whole : (came done : List ℕ) → IsAnswered Is end came done old → IsAllAnsweredBy Is end came (done ++ more) new.any_refused

-- nothing came yet
pub record IsNew (p : Pending) : Type 0 where
  pub line : p.line.items ≡ []
  pub short : p.is_long ≡ false
  pub out : p.out.items ≡ []
  pub told : p.any_refused ≡ false

-- between two reads: what came was answered, and all answers are written
pub record IsBetweenReads (Is : List ℕ → List ℕ → Type 0) (end : LineEnd) (ends : Ends) (p : Pending) : Type 0 where
  pub came : List ℕ
  pub taken : Consumes ends.in_before ends.in_after came
  pub done : List ℕ
  pub written : Appends ends.out_before ends.out_after done
  pub answered : IsAnswered Is end came done p
  pub nothing : p.out.items ≡ []

-- a piece came, and the answers to the lines that end in it are written
pub record IsPieceAnswered (Is : List ℕ → List ℕ → Type 0) (end : LineEnd) (old new : Pending) (o₁ o₂ : Option (List ℕ)) (piece : List ℕ) : Type 0 where
  pub more : List ℕ
  pub written : Appends o₁ o₂ more
  pub nothing : new.out.items ≡ []
  pub carries : (came done : List ℕ) → IsAnswered Is end came done old → IsAnswered Is end (came ++ piece) (done ++ more) new

-- some first bytes of the answers to the lines that end in a piece are written
pub record IsPieceFront (Is : List ℕ → List ℕ → Type 0) (end : LineEnd) (old : Pending) (o₁ o₂ : Option (List ℕ)) (piece : List ℕ) : Type 0 where
  pub more : List ℕ
  pub count : ℕ
  pub written : Appends o₁ o₂ (take count more)
  pub new : Pending
  pub carries : (came done : List ℕ) → IsAnswered Is end came done old → IsAnswered Is end (came ++ piece) (done ++ more) new

abbrev pub IsPieceCut : (List ℕ → List ℕ → Type 0) → LineEnd → Pending → Option (List ℕ) → Option (List ℕ) → List ℕ → LinesFault → Type 0
IsPieceCut Is end old o₁ o₂ piece ReadFailed = ⊥
IsPieceCut Is end old o₁ o₂ piece WriteFailed = IsPieceFront Is end old o₁ o₂ piece
IsPieceCut Is end old o₁ o₂ piece TooLarge = ⊥
IsPieceCut Is end old o₁ o₂ piece Memory = Appends o₁ o₂ []

-- the input ended, and the answers to all its lines are written
pub record IsRestAnswered (Is : List ℕ → List ℕ → Type 0) (end : LineEnd) (old : Pending) (o₁ o₂ : Option (List ℕ)) (any_refused : Bool) : Type 0 where
  pub more : List ℕ
  pub written : Appends o₁ o₂ more
  pub whole : (came done : List ℕ) → IsAnswered Is end came done old → IsAllAnsweredBy Is end came (done ++ more) any_refused

-- some first bytes of them are
pub record IsRestFront (Is : List ℕ → List ℕ → Type 0) (end : LineEnd) (old : Pending) (o₁ o₂ : Option (List ℕ)) : Type 0 where
  pub more : List ℕ
  pub count : ℕ
  pub written : Appends o₁ o₂ (take count more)
  pub any_refused : Bool
  pub whole : (came done : List ℕ) → IsAnswered Is end came done old → IsAllAnsweredBy Is end came (done ++ more) any_refused

abbrev pub IsRestCut : (List ℕ → List ℕ → Type 0) → LineEnd → Pending → Option (List ℕ) → Option (List ℕ) → LinesFault → Type 0
IsRestCut Is end old o₁ o₂ ReadFailed = ⊥
IsRestCut Is end old o₁ o₂ WriteFailed = IsRestFront Is end old o₁ o₂
IsRestCut Is end old o₁ o₂ TooLarge = ⊥
IsRestCut Is end old o₁ o₂ Memory = Appends o₁ o₂ []
