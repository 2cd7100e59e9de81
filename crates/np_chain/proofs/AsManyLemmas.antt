-- A version that extends another assigns at least as many code points; where it assigns no more, each extends the other.
use Rattle.std.proofs.Common.{◌≡◌, ℕ, ◌≤◌, true, sym}
use Rattle.np_chain.proofs.StabilityLemmas.{list_all-mono}
use Rattle.np_chain.specs.Extension.{Extends}
use Rattle.np_chain.specs.Laws.{AsMany}
use Rattle.np_versions.specs.Conditions.{IsSound}
use Rattle.np_versions.specs.Counts.{assigned_count}
use Rattle.np_versions.proofs.CountLemmas.{count-most, count-same}
use Rattle.np_versions.specs.Versions.{VersionData, is_assigned, decomposition_mapping}

module _ (a b : VersionData) (sound : IsSound b) (ext : Extends a b) where
  abbrev still : (c : ℕ) → is_assigned a c ≡ true → is_assigned b c ≡ true
  still c h = (ext.keeps c h).assigned

  as_many : assigned_count a ≤ assigned_count b
  unfolding assigned_count
  as_many = count-most (is_assigned a) (is_assigned b) still 0x110000

  same_ones : assigned_count b ≤ assigned_count a → (c : ℕ) → is_assigned b c ≡ true → is_assigned a c ≡ true
  unfolding assigned_count
  same_ones le c h = count-same (is_assigned a) (is_assigned b) still 0x110000 c le (sound.bounded c h) h

  back : assigned_count b ≤ assigned_count a → Extends b a
  back le =
      record {
        keeps = λ c h.
            let before = same_ones le c h in
            let kept = ext.keeps c before in
            record { assigned = before; class = sym kept.class; kind = sym kept.kind; mapping = sym kept.mapping };
        old_composites = λ c primary.
            ext.new_composites c primary (list_all-mono (is_assigned b) (is_assigned a) (same_ones le) (decomposition_mapping b c) (sound.maps_to_assigned c));
        new_composites = λ c primary all. ext.old_composites c primary;
      }

pub as_many_law : AsMany
as_many_law a b sound ext = (as_many a b sound ext, back a b sound ext)
