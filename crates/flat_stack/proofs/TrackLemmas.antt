-- What is known of an enabled track.
use Rattle.std.proofs.Common.{◌≡◌, ap, ℕ, Some, None, List, Bool, true, false, ◌&&◌}
use Rattle.otio_model.specs.declared.compositions.ItemOf.{ItemOf}
use Rattle.otio_model.specs.declared.compositions.ItemOf.TheVariants.{Clip, Gap, Transition, Stack, Track}
use Rattle.otio_model.specs.declared.compositions.Listed.{Listed}
use Rattle.otio_model.specs.Trees.{items_of, children_of}
use Rattle.coord.proofs.Members.{same_some}
use Rattle.flat.specs.Roots.{is_layer, items_in}

-- an enabled track has its own children
pub layer_items : (kind : List ℕ) (x : ItemOf Listed) (c : Listed) → is_layer kind x ≡ true
    → children_of x ≡ Some c → items_in x ≡ items_of c
layer_items kind (Clip y) c e f = absurd (cc f)
layer_items kind (Gap y) c e f = absurd (cc f)
layer_items kind (Transition y) c e f = absurd (cc f)
layer_items kind (Stack y) c e f = absurd (no_stack y.enabled e)
  where
    no_stack : (b : Bool) → (b && false) ≡ true → ⊥
    no_stack true g = cc g
    no_stack false g = cc g
layer_items kind (Track y) c e f = ap items_of (same_some y.children c f)

pub layer_some : (kind : List ℕ) (x : ItemOf Listed) → is_layer kind x ≡ true
    → children_of x ≡ None → ⊥
layer_some kind (Clip y) e f = both y.enabled e
  where
    both : (b : Bool) → (b && false) ≡ true → ⊥
    both true g = cc g
    both false g = cc g
layer_some kind (Gap y) e f = both y.enabled e
  where
    both : (b : Bool) → (b && false) ≡ true → ⊥
    both true g = cc g
    both false g = cc g
layer_some kind (Transition y) e f = cc e
layer_some kind (Stack y) e f = cc f
layer_some kind (Track y) e f = cc f
