-- What `clap` reads in the words of `npss_lines`.
use Rattle.std.proofs.Common.{◌≡◌, ◌≢◌, ◌≤◌, ◌∙◌, false, List, [], ◌∷◌, Option, None, Some, option_and_then, option_map, sym, ap, Result, Ok, Err, IfOk, arith}
use Rattle.std.proofs.Common.{inl, inr, length, map, refl, true}
use Rattle.clap.specs.Words.{App, HasKind, HasMatchesOf, Kinds, Row, Text, found_of, is_simple, is_simple_and_free, kind_of, matches_of, rows_of}
use Rattle.clap.specs.declared.error.Error.{Error}
use Rattle.clap.specs.declared.error.kind.ErrorKind.TheVariants.{OutOfMemory}
use Rattle.clap.specs.declared.parser.matches.ArgMatches.{ArgMatches}
use Rattle.np_code_points.specs.declared.forms.Form.{Form}
use Rattle.np_words.specs.Words.{Asked}
use Rattle.np_lines_job.specs.LineCommands.{lines_app}
use Rattle.np_lines_job.specs.LineWords.{asked_by, asked_unless, some_asked}

-- words that are refused for another reason than memory ask for nothing
pub refused_words : (kinds : Kinds) (rows : List Row) (e : Error) → HasKind kinds e → kind_of e ≢ OutOfMemory → asked_unless kinds rows ≡ None
refused_words [] rows e has other = absurd (elim has [ inl h ↦ other h | inr h ↦ h ])
refused_words (k ∷ ks) rows e has other = refl

-- words of which there are some
pub by_some : {A : Type 0} (text : A → Text) (words : List A) → 1 ≤ length words → asked_by (map text words) ≡ some_asked (map text words)
by_some text [] some = absurd (omega arith)
by_some text (w ∷ ws) some = refl

pub lines_is_simple : is_simple_and_free lines_app ≡ true
lines_is_simple = refl

pub lines_are_simple : is_simple lines_app ≡ true
lines_are_simple = refl

-- the rows that a simple command finds
pub rows_by : (a : App) (words : List Text) (result : Result ArgMatches Error) → is_simple a ≡ true
    → IfOk result (HasMatchesOf a words) → IfOk result (λ m. rows_of (found_of m) ≡ matches_of a words)
rows_by a words (Ok m) simple has = (has simple).0
rows_by a words (Err e) simple has = has

-- ---- a form and two files

abbrev put : Form × List Text → Asked
put p = record { command = []; form = Some p.0; checks_under = false; files = p.1 }

abbrev back : Option Asked → Option (Form × List Text)
back o = option_and_then (λ (a : Asked). option_map (λ (form : Form). (form, a.files)) a.form) o

put_back : (o : Option (Form × List Text)) → back (option_map put o) ≡ o
put_back None = refl
put_back (Some p) = refl

pub of_asked : (o : Option (Form × List Text)) (p : Form × List Text) → option_map put o ≡ Some (put p) → o ≡ Some p
of_asked o p h = sym (put_back o) ∙ ap back h

pub of_not_asked : (o : Option (Form × List Text)) → option_map put o ≡ None → o ≡ None
of_not_asked o h = sym (put_back o) ∙ ap back h
