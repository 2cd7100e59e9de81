-- What the getters of `clap` read, by the rows of the matches.
use Rattle.std.proofs.Common.{◌≡◌, ◌≢◌, List, [], ◌∷◌, Option, None, option_map, inl, inr, refl, true}
use Rattle.clap.specs.Words.{HasKind, Kinds, Row, kind_of, Text, all_of, first_of, first_value, matched_of, raw_values, rows_of}
use Rattle.clap.specs.declared.parser.matches.Found.{Found}
use Rattle.clap.specs.declared.error.Error.{Error}
use Rattle.clap.specs.declared.error.kind.ErrorKind.TheVariants.{OutOfMemory}
use Rattle.clap.proofs.WalkLemmas as clap
use Rattle.clap.specs.Words.{is_simple_and_free}
use Rattle.np_words.specs.Commands.{program_app}
use Rattle.np_words.specs.Words.{asked_unless}
use Rattle.np_words.specs.CaselessCommands.{caseless_app}
use Rattle.np_words.specs.CaselessWords.{caseless_asked_unless}

pub first_value_in_rows : (f : Found) (id : Text) → first_value f id ≡ first_of id (rows_of f)
first_value_in_rows f id = clap.first_value-rows f id

pub raw_values_in_rows : (f : Found) (id : Text) → option_map raw_values (matched_of f id) ≡ all_of id (rows_of f)
raw_values_in_rows f id = clap.raw_values-rows f id

-- words that are refused for another reason than memory ask for nothing
pub refused_words : (kinds : Kinds) (found : Option (Text × List Row)) (e : Error) → HasKind kinds e → kind_of e ≢ OutOfMemory → asked_unless kinds found ≡ None
refused_words [] found e has other = absurd (elim has [ inl h ↦ other h | inr h ↦ h ])
refused_words (k ∷ ks) found e has other = refl

pub refused_caseless_words : (kinds : Kinds) (found : Option (Text × List Row)) (e : Error) → HasKind kinds e → kind_of e ≢ OutOfMemory → caseless_asked_unless kinds found ≡ None
refused_caseless_words [] found e has other = absurd (elim has [ inl h ↦ other h | inr h ↦ h ])
refused_caseless_words (k ∷ ks) found e has other = refl

pub program_is_simple : is_simple_and_free program_app ≡ true
program_is_simple = refl

pub caseless_is_simple : is_simple_and_free caseless_app ≡ true
caseless_is_simple = refl
