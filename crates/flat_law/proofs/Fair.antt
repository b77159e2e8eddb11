-- In a timeline whose transitions stand where they may no offset is negative.
use Rattle.std.proofs.Common.{◌≡◌, refl, ap, ◌∙◌, ℕ, zero, suc, false, Some, List, [], ◌∷◌}
use Rattle.std.specs.Prelude.{slice_get, option_and_then}
use Rattle.otio_model.specs.declared.compositions.ItemOf.{ItemOf}
use Rattle.otio_model.specs.declared.compositions.ItemOf.TheVariants.{Clip, Gap, Transition, Stack, Track}
use Rattle.otio_model.specs.declared.compositions.Listed.{Listed}
use Rattle.otio_model.specs.declared.timelines.Timeline.{Timeline}
use Rattle.otio_model.specs.Misplaced.{has_misplaced}
use Rattle.otio_model.specs.Trees.{items_of, below, item_at}
use Rattle.coord.specs.Sights.{overlap_of}
use Rattle.coord.specs.Soundness.{IsCalm}
use Rattle.edits.specs.Good.{AreFair}
use Rattle.edits.proofs.FairItems.{fair_item}
use Rattle.flat.specs.Roots.{items_in, roots}

-- no offset of a transition in a root child is negative
abbrev pub HasFair : Timeline → Type 0
HasFair t = (k : ℕ) (x : ItemOf Listed) → slice_get (roots t) k ≡ Some x → AreFair (items_in x)

fair_list : (l : List (ItemOf Listed)) → ((i : ℕ) (x : ItemOf Listed) → slice_get l i ≡ Some x → has_misplaced x ≡ false) → AreFair l
fair_list [] h = tt
fair_list (x ∷ l) h = (fair_item x (h zero x refl), fair_list l (λ i y e. h (suc i) y e))

pub has_fair : (t : Timeline) → IsCalm t → HasFair t
has_fair t c k (Clip x) e = tt
has_fair t c k (Gap x) e = tt
has_fair t c k (Transition x) e = tt
has_fair t c k (Stack x) e = tt
has_fair t c k (Track x) e = fair_list (items_of x.children)
    (λ i y f. c.items (k ∷ i ∷ []) y (ap (option_and_then (below (i ∷ []))) e ∙ ap (option_and_then (below [])) f))
