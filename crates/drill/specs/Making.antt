-- Clips that are made one after another.
use Rattle.std.specs.Prelude.{◌≡◌, ℕ, ◌-◌, ◌++◌, List}
use Rattle.otio_model.specs.declared.compositions.ItemOf.{ItemOf}
use Rattle.otio_model.specs.declared.compositions.Listed.{Listed}
use Rattle.drill.specs.Acts.{clips}
use Rattle.drill.specs.Starting.{AreItems, behind}

-- Of the clips that are drawn from the number x on so many are made, and the generator's number is
-- y: with those that are left they are all.
pub record AreMade (count made x y : ℕ) (items : List (ItemOf Listed)) : Type 0 where
  pub all : (others : List (ItemOf Listed)) → AreItems (clips made (count - made) y) others
      → AreItems (clips 0 count x) (items ++ others)
  pub number : behind (count - made) y ≡ behind count x
