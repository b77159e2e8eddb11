-- What holds of each item of children, and of those on the way to a place.
use Rattle.std.specs.Prelude.{◌≡◌, ℕ, List, ◌++◌, Some}
use Rattle.otio_model.specs.declared.compositions.ItemOf.{ItemOf}
use Rattle.otio_model.specs.declared.compositions.Listed.{Listed}
use Rattle.otio_model.specs.Trees.{item_at}

-- it holds of each item, at all levels
abbrev pub Everywhere : (ItemOf Listed → Type 0) → Listed → Type 0
Everywhere P l = (place : List ℕ) (x : ItemOf Listed) → item_at place l ≡ Some x → P x

-- it holds of each item that a beginning of the place leads to
abbrev pub OnTheWay : (ItemOf Listed → Type 0) → List ℕ → Listed → Type 0
OnTheWay P place l =
    (front back : List ℕ) (x : ItemOf Listed) → place ≡ front ++ back → item_at front l ≡ Some x
    → P x
