use Rattle.std.proofs.Common.{◌≡◌, ◌<◌, ◌≤◌, ◌^◌, ◌++◌, map, length, take, drop, replicate}
use Rattle.std.specs.Int.Digits.{digits_of}
use Rattle.np_code_points.specs.Codes.{hex_digit}
use Rattle.np_code_points.proofs.codes.write_code.Given as goal

abbrev pub invariant-loop-left : goal.invariant-loop-left
invariant-loop-left l = record {
  place : l.at ≤ 8;
  room : length l.digits ≡ 8;
  front : take l.at l.digits ≡ replicate l.at 48;
  bound : l.left < 16 ^ l.at;
  value : map hex_digit (digits_of 16 l.left) ++ drop l.at l.digits ≡ map hex_digit (digits_of 16 l.code);
}

abbrev pub decreases-loop-left : goal.decreases-loop-left
decreases-loop-left l = l.left
