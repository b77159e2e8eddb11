-- The children that a zone touches, by their indexes, and the zone as seen from the first of them.
use Rattle.std.specs.Prelude.{◌≡◌, ℕ, ◌+◌, ◌<◌, ◌≤◌, ℤ, ◌-ℤ◌, ◌≤ℤ◌, ◌<ℤ◌, List, length, take}
use Rattle.otio_model.specs.declared.compositions.ItemOf.{ItemOf}
use Rattle.otio_model.specs.declared.compositions.Listed.{Listed}
use Rattle.edits.specs.Edges.{added}
use Rattle.edits.specs.Narrow.{ahead, touched}
use Rattle.edit_plans.specs.declared.replaced_children.Stretch.{Stretch}
use Rattle.edit_plans.specs.declared.replaced_children.Zone.{Zone}

pub record AreTouched (l : List (ItemOf Listed)) (z : Zone) (s : Stretch) (inner : Zone) : Type 0
  where
    pub at : s.at ≡ length (ahead l z.from z.to)
    pub count : s.count ≡ length (touched l z.from z.to)
    pub from : inner.from ≡ z.from -ℤ added (ahead l z.from z.to)
    pub to : inner.to ≡ z.to -ℤ added (ahead l z.from z.to)

-- the first n of these end before an instant, the last of them at another one, and the one after
-- them doesn't
pub record AreEnded (l : List (ItemOf Listed)) (t : ℤ) (n : ℕ) (at : ℤ) : Type 0 where
  pub within : n ≤ length l
  pub long : at ≡ added (take n l)
  pub early : 0 < n → at <ℤ t
  pub late : n < length l → t ≤ℤ added (take (n + 1) l)
