-- A text whose normal form is given piece by piece.
use Rattle.std.specs.Prelude.{ℕ, List, [], ◌∷◌, ◌++◌, drop, chars, encode_utf8_all}
use Rattle.np_code_points.specs.declared.forms.Form.{Form}
use Rattle.np_forms.specs.declared.pieces.Pieces.{Pieces}
use Rattle.np_forms.specs.inside.NormalForms.{normal_form}
use Rattle.np_versions.specs.Versions.{VersionData}

-- the bytes of the normal form of a text
abbrev pub form_bytes : VersionData → Form → List ℕ → List ℕ
form_bytes v form text = encode_utf8_all (normal_form v form (chars text))

-- the first list, or the second where that is empty
abbrev pub first_of : List ℕ → List ℕ → List ℕ
first_of [] other = other
first_of (b ∷ bs) other = b ∷ bs

-- what stands in front: what stays in the text, or what is left of the form of a segment
abbrev pub front_of : Pieces → List ℕ
front_of p = first_of p.stays.now (drop p.taken p.made)

-- all that is left of the form
abbrev pub left_of : VersionData → Form → Pieces → List ℕ
left_of v form p = p.stays.now ++ (drop p.taken p.made ++ form_bytes v form p.rest.now)
