use Rattle.std.proofs.Common.{◌≡◌, ◌++◌, map, string_bytes, drop}
use Rattle.np_habits.specs.FormWords.{plain_from}
use Rattle.np_habits.specs.declared.form_words.Place.TheVariants.{Any}
use Rattle.np_habits.proofs.form_words.plain_words.Given as goal

abbrev pub invariant-words : goal.invariant-words
invariant-words l = map string_bytes l.made.items ++ plain_from l.place (map string_bytes (drop l.word-index l.words)) ≡ plain_from Any (map string_bytes l.words)
