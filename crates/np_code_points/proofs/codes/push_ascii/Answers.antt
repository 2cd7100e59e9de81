use Rattle.std.proofs.lemmas.Str.{IsUtf8-from_ascii}
use Rattle.np_code_points.proofs.Bytes.{ok_at_utf8}
use Rattle.np_code_points.proofs.codes.push_ascii.Goals as goal

pub unwrap-text-requires : goal.unwrap-text-requires
unwrap-text-requires c = ok_at_utf8 c.from_utf8.result _ _ c.from_utf8.ensures.cases (IsUtf8-from_ascii c.args.bytes.now c.requires)
