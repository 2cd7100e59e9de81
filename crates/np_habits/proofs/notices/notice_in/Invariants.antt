use Rattle.std.proofs.Common.{◌≡◌, map, string_bytes, drop}
use Rattle.np_habits.specs.Notices.{notice_by}
use Rattle.np_habits.proofs.notices.notice_in.Given as goal

abbrev pub invariant-loop-word : goal.invariant-loop-word
invariant-loop-word l = notice_by (map string_bytes l.words) ≡ notice_by (map string_bytes (drop l.word-index l.words))
