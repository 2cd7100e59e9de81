-- Answers that tell little beside their status: the rest is 0.
use Rattle.std.specs.Prelude.{ℕ}
use Rattle.np_c.specs.declared.answers.Answer.{Answer}

-- a status and nothing beside it
abbrev pub alone : ℕ → Answer
alone status = record { status = status; fault = 0; code = 0; place = 0; length = 0 }

-- a status and a code point
abbrev pub with_code : ℕ → ℕ → Answer
with_code status code = record { status = status; fault = 0; code = code; place = 0; length = 0 }

-- a status and a length
abbrev pub with_length : ℕ → ℕ → Answer
with_length status count = record { status = status; fault = 0; code = 0; place = 0; length = count }

-- bytes that are no text from a place on
abbrev pub not_utf8_at : ℕ → Answer
not_utf8_at place = record { status = 2; fault = 0; code = 0; place = place; length = 0 }
