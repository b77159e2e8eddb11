-- The rows that were worked out by hand.
use Rattle.std.proofs.Common.{◌≡◌, refl, ap, ◌∙◌, ℕ, true, List, [], ◌∷◌, Option, Some, None}
use Rattle.std.specs.Prelude.{codes, slice_get}
use Rattle.tick_time.specs.declared.spans.Span.{Span}
use Rattle.otio_model.specs.declared.compositions.ItemOf.{ItemOf}
use Rattle.otio_model.specs.declared.compositions.Listed.{Listed}
use Rattle.otio_model.specs.declared.timelines.Timeline.{Timeline}
use Rattle.edits.specs.WorkedItems.{span}
use Rattle.edits.specs.Refusals.{Pinned, free, named, unpinned, with_child}
use Rattle.edits_law.specs.Worked.{AreReached, ArePinned, IsNested, stack, track}

pub reached : AreReached
reached = record {
  track = λ t top middle deep n. rw n.root refl;
  stack = λ t top middle deep n. rw (n.root, n.outer) refl;
  inner = λ t top middle deep n. rw (n.root, n.outer, n.inner) refl;
  first = λ t top middle deep n. rw (n.root, n.outer, n.inner) refl;
  last = λ t top middle deep n. rw (n.root, n.outer, n.inner) refl;
  before = λ t top middle deep n. rw (n.root, n.outer) refl;
  behind = λ t top middle deep n. rw (n.root, n.outer) refl;
  outside = λ t top middle deep n. rw n.root refl;
  early = λ t top middle deep n. rw n.root refl;
  nowhere = λ t top middle deep n. refl;
  clip = λ t top middle deep n. rw (n.root, n.outer) refl;
  disabled = λ t top middle deep n. rw (n.root, n.outer, n.inner) refl;
  other_kind = λ t top middle deep n. rw (n.root, n.outer, n.inner) refl;
}

-- what pins a place, by the children of the root, of its track and of the stack there
abbrev at_root : List ℕ → List (ItemOf Listed) → Option (List ℕ)
at_root place xs = elim (slice_get xs 0) [ None ↦ None | Some x ↦ named (free place (0 ∷ []) x) ]

abbrev at_stack : ItemOf Listed → List (ItemOf Listed) → Option (List ℕ)
at_stack x xs = named (elim (slice_get xs 1) [
  | None ↦ Pinned
  | Some y ↦ with_child (0 ∷ 1 ∷ []) x (free (0 ∷ []) (0 ∷ 1 ∷ []) y)
])

abbrev at_track : ItemOf Listed → ItemOf Listed → List (ItemOf Listed) → Option (List ℕ)
at_track x y xs = named (with_child (0 ∷ 1 ∷ []) x (elim (slice_get xs 0) [
  | None ↦ Pinned
  | Some z ↦ with_child (0 ∷ 1 ∷ 0 ∷ []) y (free [] (0 ∷ 1 ∷ 0 ∷ []) z)
]))

pins : (range own : Option Span) (t : Timeline) (top middle deep : Listed) → IsNested range own true (codes "Video") t top middle deep
    → unpinned (0 ∷ 1 ∷ 0 ∷ []) t ≡ at_track (track true (codes "Video") (span 0 40) top) (stack range middle) (track true (codes "Video") own deep ∷ [])
pins range own t top middle deep n =
    ap (at_root (1 ∷ 0 ∷ [])) n.root
    ∙ ap (at_stack (track true (codes "Video") (span 0 40) top)) n.outer
    ∙ ap (at_track (track true (codes "Video") (span 0 40) top) (stack range middle)) n.inner

pub pinned : ArePinned
pinned = record {
  free = λ t top middle deep n. pins None None t top middle deep n;
  by_stack = λ t top middle deep n. pins (span 0 20) None t top middle deep n;
  by_itself = λ t top middle deep n. pins None (span 0 60) t top middle deep n;
  root = λ t top middle deep n. ap (at_root []) n.root;
}
