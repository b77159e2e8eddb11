-- What the soundness of items says.
use Rattle.std.proofs.Common.{◌≡◌, refl, ap, ◌∙◌, ℕ, ◌+◌, ◌<◌, ◌≤◌, ◌^◌, List, [], ◌∷◌, map, Some, None, length, drop, slice_get, arith}
use Rattle.limits.specs.Limits.{most_ticks}
use Rattle.otio_model.specs.declared.compositions.ItemOf.{ItemOf}
use Rattle.otio_model.specs.declared.compositions.ItemOf.TheVariants.{Stack, Track}
use Rattle.otio_model.specs.declared.compositions.Listed.{Listed}
use Rattle.otio_model.specs.declared.compositions.StackOf.{StackOf}
use Rattle.otio_model.specs.declared.compositions.TrackOf.{TrackOf}
use Rattle.otio_model.specs.Trees.{items_of}
use Rattle.otio_model.specs.Lengths.{added, lengths, length_of, or_zero}
use Rattle.otio_model.specs.Counts.{count, count_of}
use Rattle.otio_model.specs.Falls.{child_counts}
use Rattle.coord.specs.Soundness.{fault_of, AreFaultless, IsFaultlessItem}
use Rattle.coord.proofs.Members.{next, none_left}
use Rattle.coord.proofs.SightLemmas.{lengths-items}
use Rattle.coord.proofs.JudgingLemmas.{sound_child, children_sound}
use Rattle.coord.proofs.ShortItems.{is_short}
use Rattle.coord.proofs.ChildStarts.{added_more}

-- ---- items of children without a fault

pub no_fault : (x : ItemOf Listed) → IsFaultlessItem x → fault_of x ≡ None
no_fault x s = s [] x refl

-- what is known of a sound track or stack
pub record Nested (l : Listed) (all : ℕ) (x : ItemOf Listed) : Type 0 where
  pub sound : AreFaultless l
  pub fits : all ≤ most_ticks
  pub few : count_of x ≡ count l + 1

pub track_facts : (t : TrackOf Listed) → IsFaultlessItem (Track t) → Nested t.children (added (lengths t.children)) (Track t)
track_facts t s = record { sound = children_sound (Track t) t.children refl s; fits = (is_short (Track t) (no_fault (Track t) s)).available; few = refl }

pub stack_facts : (t : StackOf Listed) → IsFaultlessItem (Stack t) → Nested t.children 0 (Stack t)
stack_facts t s = record { sound = children_sound (Stack t) t.children refl s; fits = omega arith; few = refl }

-- ---- one child

-- the lengths of items from an index on
abbrev pub left_from : Listed → ℕ → ℕ
left_from l i = added (map length_of (drop i (items_of l)))

-- what is known of the child at an index
pub record Here (l : Listed) (i : ℕ) (x : ItemOf Listed) : Type 0 where
  pub next : drop i (items_of l) ≡ x ∷ drop (i + 1) (items_of l)
  pub get : slice_get (items_of l) i ≡ Some x
  pub sound : IsFaultlessItem x
  pub ticks : or_zero (length_of x) ≤ most_ticks
  pub sum : left_from l i ≡ or_zero (length_of x) + left_from l (i + 1)
  pub count : count_of x ≤ count l
  pub few : count_of x < 2 ^ 32

pub here : (l : Listed) (i : ℕ) (x : ItemOf Listed) → slice_get (items_of l) i ≡ Some x → AreFaultless l → count l < 2 ^ 32 → Here l i x
here l i x e s h =
    let k = child_counts l i x e in
    let n = next (items_of l) i x e in
    let sound = sound_child l i x e s in
    record {
      next = n;
      get = e;
      sound = sound;
      ticks = (is_short x (no_fault x sound)).ticks;
      sum = ap (λ (xs : List (ItemOf Listed)). added (map length_of xs)) n ∙ added_more (length_of x) (map length_of (drop (i + 1) (items_of l)));
      count = k;
      few = omega (arith, k, h);
    }

pub left_all : (l : Listed) → left_from l 0 ≡ added (lengths l)
left_all l = ap added (lengths-items l)

pub left_none : (l : Listed) (i : ℕ) → length (items_of l) ≤ i → left_from l i ≡ 0
left_none l i h = ap (λ (xs : List (ItemOf Listed)). added (map length_of xs)) (none_left (items_of l) i h)
