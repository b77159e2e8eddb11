-- What the laws of lists ask for holds of a timeline that can be edited.
use Rattle.std.proofs.Common.{◌≡◌, refl, sym, ap, subst, ◌∙◌, ℕ, zero, suc, true, List, [], ◌∷◌, ◌++◌, Option, Some, None, slice_get}
use Rattle.std.specs.Prelude.{option_and_then, is_some}
use Rattle.std.specs.Option.{option_or}
use Rattle.tick_time.specs.declared.spans.Span.{Span}
use Rattle.otio_model.specs.declared.compositions.ItemOf.{ItemOf}
use Rattle.otio_model.specs.declared.compositions.ItemOf.TheVariants.{Clip, Gap, Transition, Stack, Track}
use Rattle.otio_model.specs.declared.compositions.Listed.{Listed}
use Rattle.otio_model.specs.declared.timelines.Timeline.{Timeline}
use Rattle.otio_model.specs.declared.edit_types.Edit.{Edit}
use Rattle.otio_model.specs.declared.edit_types.Edit.TheVariants as A
use Rattle.otio_model.specs.Trees.{items_of, children_of, below, item_at}
use Rattle.otio_model.specs.Edits.{list_at}
use Rattle.otio_model.specs.Lengths.{clip_range, length_of}
use Rattle.coord.specs.declared.faults.ItemFault.TheVariants.{NoLength, Long}
use Rattle.coord.specs.Sights.{overlap_of}
use Rattle.coord.specs.Soundness.{fault_of, IsSound}
use Rattle.edits.specs.After.{place_of, list_of, frame_of}
use Rattle.edits.specs.Edits.{edited}
use Rattle.edits.specs.Good.{IsFair, AreFair, Suits}
use Rattle.edits.proofs.FairItems.{fair_item}
use Rattle.edits.specs.Steady.{AreRangedBefore, IsReady, AreReady, HasReadyItem}
use Rattle.edits_law.proofs.Readied.{sound_ready, edited_ready}
use Rattle.edits_law.specs.Known.{HasLength, HaveLengths, ItemHasLength, AreKnown}
use Rattle.edits_law.specs.Editable.{IsEditItem, HasEditItem}
use Rattle.edits_law.proofs.Unreached.{seen_length}
use Rattle.edits_law.proofs.Lengths.{edited_known}

-- ---- the children that a place leads to

pub record Step (i : ℕ) (place : List ℕ) (l d : Listed) : Type 0 where
  pub child : ItemOf Listed
  pub children : Listed
  pub there : slice_get (items_of l) i ≡ Some child
  pub inside : children_of child ≡ Some children
  pub leads : list_at place children ≡ Some d

pub step : (i : ℕ) (place : List ℕ) (l d : Listed) → list_at (i ∷ place) l ≡ Some d → Step i place l d
step i place l d e = of (slice_get (items_of l) i) refl e
  where
    by : (x : ItemOf Listed) (o : Option Listed) → slice_get (items_of l) i ≡ Some x → children_of x ≡ o → option_and_then (list_at place) o ≡ Some d → Step i place l d
    by x None f g h = absurd (cc h)
    by x (Some b) f g h = record { child = x; children = b; there = f; inside = g; leads = h }

    of : (o : Option (ItemOf Listed)) → slice_get (items_of l) i ≡ o → option_and_then (λ x. option_and_then (list_at place) (children_of x)) o ≡ Some d → Step i place l d
    of None f h = absurd (cc h)
    of (Some x) f h = by x (children_of x) f refl h

-- each child that a place leads to stands at a place
child_at : (place : List ℕ) (l d : Listed) (j : ℕ) (x : ItemOf Listed) → list_at place l ≡ Some d → slice_get (items_of d) j ≡ Some x → item_at (place ++ (j ∷ [])) l ≡ Some x
child_at [] l d j x e f = let same : d ≡ l = cc (sym e) in ap (option_and_then (below [])) (subst (λ (z : Listed). slice_get (items_of z) j ≡ Some x) same f)
child_at (i ∷ []) l d j x e f =
    let s = step i [] l d e in
    ap (option_and_then (below (j ∷ []))) s.there ∙ ap (option_and_then (item_at (j ∷ []))) s.inside ∙ child_at [] s.children d j x s.leads f
child_at (i ∷ k ∷ place) l d j x e f =
    let s = step i (k ∷ place) l d e in
    ap (option_and_then (below (k ∷ (place ++ (j ∷ []))))) s.there ∙ ap (option_and_then (item_at (k ∷ (place ++ (j ∷ []))))) s.inside ∙ child_at (k ∷ place) s.children d j x s.leads f

-- what holds of each item of a timeline holds of each child at the edit's place
record All (P : ItemOf Listed → Type 0) (l : List (ItemOf Listed)) : Type 0 where
  each : (j : ℕ) (x : ItemOf Listed) → slice_get l j ≡ Some x → P x

rest_all : (P : ItemOf Listed → Type 0) (x : ItemOf Listed) (l : List (ItemOf Listed)) → All P (x ∷ l) → All P l
rest_all P x l a = record { each = λ j y e. a.each (suc j) y e }

all_children : (P : ItemOf Listed → Type 0) (t : Timeline) (e : Edit) → ((place : List ℕ) (x : ItemOf Listed) → item_at place t.tracks.children ≡ Some x → P x) → All P (list_of t e)
all_children P t e h = of (list_at (place_of e) t.tracks.children) refl
  where
    of : (o : Option Listed) → list_at (place_of e) t.tracks.children ≡ o → All P (elim o [ None ↦ [] | Some l ↦ items_of l ])
    of None f = record { each = λ j x g. absurd (none j x g) }
      where
        none : (j : ℕ) (x : ItemOf Listed) → Path (Option (ItemOf Listed)) (slice_get [] j) (Some x) → ⊥
        none zero x g = cc g
        none (suc j) x g = cc g
    of (Some l) f = record { each = λ j x g. h (place_of e ++ (j ∷ [])) x (child_at (place_of e) t.tracks.children l j x f g) }

fair : (l : List (ItemOf Listed)) → All IsFair l → AreFair l
fair [] a = tt
fair (x ∷ l) a = (a.each zero x refl, fair l (rest_all IsFair x l a))

abbrev IsFine : ItemOf Listed → Type 0
IsFine x = fault_of x ≡ None

ready : (l : List (ItemOf Listed)) → All IsFine l → AreReady l
ready [] a = tt
ready (x ∷ l) a = (sound_ready x (a.each zero x refl), ready l (rest_all IsFine x l a))

-- ---- lengths

known_by : (x : ItemOf Listed) → (length_of x ≡ None → ⊥) → HasLength x
known_by x h = of (length_of x) refl
  where
    of : (o : Option ℕ) → length_of x ≡ o → HasLength x
    of None e = absurd (h e)
    of (Some n) e = ap is_some (seen_length x ∙ e)

pub fine_length : (x : ItemOf Listed) → fault_of x ≡ None → length_of x ≡ None → ⊥
fine_length (Clip c) e f = cc (rw f at e)
fine_length (Gap c) e f = cc (rw f at e)
fine_length (Transition c) e f = cc f
fine_length (Stack c) e f = cc (rw f at e)
fine_length (Track c) e f = cc (rw f at e)

lengths_known : (l : List (ItemOf Listed)) → All IsFine l → HaveLengths l
lengths_known [] a = tt
lengths_known (x ∷ l) a = (known_by x (fine_length x (a.each zero x refl)), lengths_known l (rest_all IsFine x l a))

-- ---- the item of an edit

no_fault : NoLength ≡ Long → ⊥
no_fault e = cc e

item_length : (x : ItemOf Listed) → IsEditItem x → length_of x ≡ None → ⊥
item_length (Clip c) i f = no_fault (i.known NoLength (rw f refl))
item_length (Gap c) i f = no_fault (i.known NoLength (rw f refl))
item_length (Transition c) i f = cc f
item_length (Stack c) i f = no_fault (i.known NoLength (rw f refl))
item_length (Track c) i f = no_fault (i.known NoLength (rw f refl))

item_ready : (x : ItemOf Listed) → IsEditItem x → IsReady x
item_ready (Clip c) i s n t = by (clip_range c) c.source_range refl refl
  where
    by : (o p : Option Span) → clip_range c ≡ o → c.source_range ≡ p → is_some (option_or (clip_range c) c.source_range) ≡ true
    by None None f g = absurd (item_length (Clip c) i (rw (f, g) refl))
    by None (Some q) f g = rw (f, g) refl
    by (Some q) p f g = rw f refl
item_ready (Gap c) i s n t = tt
item_ready (Transition c) i s n t = absurd (cc t)
item_ready (Stack c) i s n t = tt
item_ready (Track c) i s n t = tt

item_suits : (x : ItemOf Listed) → IsEditItem x → overlap_of x ≡ None
item_suits (Clip c) i = refl
item_suits (Gap c) i = refl
item_suits (Transition c) i = absurd (cc i.kind)
item_suits (Stack c) i = refl
item_suits (Track c) i = refl

suits : (e : Edit) → HasEditItem e → Suits e
suits (A.Overwrite place at x) i = item_suits x i
suits (A.Insert place at x) i = item_suits x i
suits (A.Slice place at) i = tt
suits (A.Fill place at mode x) i = item_suits x i
suits (A.Remove place at mode) i = tt
suits (A.Trim place at head tail) i = tt
suits (A.Slip place at by) i = tt
suits (A.Slide place at by) i = tt
suits (A.Ripple place at head tail) i = tt
suits (A.Roll place at head tail) i = tt

has_ready : (e : Edit) → HasEditItem e → HasReadyItem e
has_ready (A.Overwrite place at x) i = item_ready x i
has_ready (A.Insert place at x) i = item_ready x i
has_ready (A.Slice place at) i = tt
has_ready (A.Fill place at mode x) i = item_ready x i
has_ready (A.Remove place at mode) i = tt
has_ready (A.Trim place at head tail) i = tt
has_ready (A.Slip place at by) i = tt
has_ready (A.Slide place at by) i = tt
has_ready (A.Ripple place at head tail) i = tt
has_ready (A.Roll place at head tail) i = tt

has_length : (e : Edit) → HasEditItem e → ItemHasLength e
has_length (A.Overwrite place at x) i = known_by x (item_length x i)
has_length (A.Insert place at x) i = known_by x (item_length x i)
has_length (A.Slice place at) i = tt
has_length (A.Fill place at mode x) i = known_by x (item_length x i)
has_length (A.Remove place at mode) i = tt
has_length (A.Trim place at head tail) i = tt
has_length (A.Slip place at by) i = tt
has_length (A.Slide place at by) i = tt
has_length (A.Ripple place at head tail) i = tt
has_length (A.Roll place at head tail) i = tt

-- all that the laws of lists ask for
pub record Premises (t : Timeline) (e : Edit) : Type 0 where
  pub fair : AreFair (list_of t e)
  pub suits : Suits e
  pub ranged : AreRangedBefore (edited (frame_of t) e (list_of t e))
  pub known : AreKnown (edited (frame_of t) e (list_of t e))

pub premises : (t : Timeline) (e : Edit) → IsSound t → HasEditItem e → Premises t e
premises t e d i =
    let fine = all_children IsFine t e d.faultless.items in
    record {
      fair = fair (list_of t e) (all_children IsFair t e (λ place x f. fair_item x (d.calm.items place x f)));
      suits = suits e i;
      ranged = edited_ready (frame_of t) e (list_of t e) (ready (list_of t e) fine) (has_ready e i) (suits e i);
      known = edited_known (frame_of t) e (list_of t e) (lengths_known (list_of t e) fine) (has_length e i) (suits e i);
    }
