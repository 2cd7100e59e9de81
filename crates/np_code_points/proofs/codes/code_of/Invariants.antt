use Rattle.std.proofs.Common.{◌≡◌, ◌<◌, ◌^◌, true, take}
use Rattle.std.specs.List.{list_all}
use Rattle.std.specs.Str.Parse.{digits_value}
use Rattle.np_code_points.specs.Codes.{is_hex_digit}
use Rattle.np_code_points.proofs.codes.code_of.Given as goal

abbrev pub invariant-loop-byte : goal.invariant-loop-byte
invariant-loop-byte l = record {
  value : l.code ≡ digits_value 16 (take l.byte-index l.bytes);
  hex : list_all is_hex_digit (take l.byte-index l.bytes) ≡ true;
  bound : l.code < 16 ^ l.byte-index;
}
