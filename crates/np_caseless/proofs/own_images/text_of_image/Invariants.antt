use Rattle.std.proofs.Common.{◌≡◌, encode_utf8_all, string_bytes, take}
use Rattle.np_caseless.proofs.own_images.text_of_image.Given as goal

abbrev pub invariant-loop-code : goal.invariant-loop-code
invariant-loop-code l = string_bytes l.text ≡ encode_utf8_all (take l.code-index l.image)
