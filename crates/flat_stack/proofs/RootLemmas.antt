-- What is known of root children and their children.
use Rattle.std.proofs.Common.{◌≡◌, sym, ap, ◌∙◌, Bool, true, false, Some, None}
use Rattle.otio_model.specs.declared.compositions.ItemOf.{ItemOf}
use Rattle.otio_model.specs.declared.compositions.ItemOf.TheVariants.{Clip, Gap, Transition, Stack, Track}
use Rattle.otio_model.specs.declared.compositions.Listed.{Listed}
use Rattle.otio_model.specs.Trees.{items_of, children_of}
use Rattle.coord.proofs.Members.{same_some}
use Rattle.flat.specs.Roots.{is_plain, items_in}

pub true_false : (b : Bool) → b ≡ true → b ≡ false → ⊥
true_false b e f = cc (sym e ∙ f)

pub plain_items : (x : ItemOf Listed) (c : Listed) → is_plain x ≡ true → children_of x ≡ Some c
    → items_in x ≡ items_of c
plain_items (Clip y) c e f = absurd (cc e)
plain_items (Gap y) c e f = absurd (cc e)
plain_items (Transition y) c e f = absurd (cc e)
plain_items (Stack y) c e f = absurd (cc e)
plain_items (Track y) c e f = ap items_of (same_some y.children c f)

pub plain_some : (x : ItemOf Listed) → is_plain x ≡ true → children_of x ≡ None → ⊥
plain_some (Clip y) e f = cc e
plain_some (Gap y) e f = cc e
plain_some (Transition y) e f = cc e
plain_some (Stack y) e f = cc e
plain_some (Track y) e f = cc f
