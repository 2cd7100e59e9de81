use Rattle.std.proofs.Common.{◌++◌, ap, codes, string_bytes, ◌∙◌}
use Rattle.np_code_points.specs.Codes.{code_digits}
use Rattle.np_code_points.proofs.Bytes.{behind}
use Rattle.np_code_points.proofs.codes.write_unassigned.Goals as goal

pub returns : goal.returns
returns c =
    behind (string_bytes c.args.out.now) (codes "unassigned ") _ c.in_ok-push_str.ensures.bytes
    (behind (string_bytes c.push_str.new.self) (code_digits c.args.code) _
    (c.in_ok-write_code.ensures ∙ ap (λ code. string_bytes c.push_str.new.self ++ code_digits code) c.from.ensures) c.in_ok-write.ensures.bytes)
