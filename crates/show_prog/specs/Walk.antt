-- Words of the walk over lists that shows an instant; no public clause cites them.
use Rattle.std.specs.Prelude.{◌≡◌, ℕ, zero, suc, ◌+◌, ◌<◌, ℤ, pos, ◌-ℤ◌, ◌≤ℤ◌, ◌<ℤ◌, unsigned_abs, Bool, true, false, ◌&&◌, cond, List, Option, Some, None, IfSome, slice_get, length}
use Rattle.limits.specs.Limits.{most_ticks}
use Rattle.otio_model.specs.declared.compositions.ItemOf.{ItemOf}
use Rattle.otio_model.specs.declared.compositions.Listed.{Listed}
use Rattle.otio_model.specs.Trees.{items_of, is_transition}
use Rattle.otio_model.specs.Lengths.{added, lengths, length_of, or_zero}
use Rattle.otio_model.specs.Overlaps.{within}
use Rattle.coord.specs.Looks.{Weight, Show, Blank, mixed, weight, item_shows}
use Rattle.coord.specs.Sights.{View, sight, looks}
use Rattle.coord.specs.Images.{Image, Empty, Mixture, kind_of, is_empty}
use Rattle.show_prog.specs.declared.item_at.ActiveTransition.{ActiveTransition}
use Rattle.show_prog.specs.declared.item_at.Held.{Held}
use Rattle.show_prog.specs.declared.mix_weight.Share.{Share}

abbrev pub shown : View → Option (ItemOf Listed) → ℤ → Show
shown v None u = Blank
shown v (Some x) u = (sight x).shows v u

-- what the item at an index shows, or Blank where there is none
abbrev pub side : View → List (ItemOf Listed) → Option ℕ → ℤ → Show
side v l None u = Blank
side v l (Some i) u = shown v (slice_get l i) u

-- the last item before an index that isn't a transition
abbrev pub item_before : List (ItemOf Listed) → ℕ → Option ℕ
item_before l zero = None
item_before l (suc i) = elim (slice_get l i) [
  | None ↦ item_before l i
  | Some x ↦ cond (is_transition x) (item_before l i) (Some i)
]

-- how long the item at an index is, 0 where there is none
abbrev pub ticks_at : List (ItemOf Listed) → Option ℕ → ℤ
ticks_at l None = pos 0
ticks_at l (Some i) = elim (slice_get l i) [ None ↦ pos 0 | Some x ↦ pos (or_zero (length_of x)) ]

abbrev pub active_shows : View → List (ItemOf Listed) → Option ActiveTransition → Option Show
active_shows v l None = None
active_shows v l (Some c) = Some
    (mixed c.kind.now (side v l c.from c.from_ticks) (side v l c.to c.to_ticks) c.part c.whole)

-- the sides are items of the list, the instants are no further off than four times the longest
-- time, and the part lies in the whole
pub record IsActive (n : ℕ) (c : ActiveTransition) : Type 0 where
  pub from : IfSome c.from (λ i. i < n)
  pub to : IfSome c.to (λ i. i < n)
  pub from_low : (pos 0 -ℤ pos 2822400000000000000000000) ≤ℤ c.from_ticks
  pub from_high : c.from_ticks ≤ℤ pos 2822400000000000000000000
  pub to_low : (pos 0 -ℤ pos 2822400000000000000000000) ≤ℤ c.to_ticks
  pub to_high : c.to_ticks ≤ℤ pos 2822400000000000000000000
  pub part : pos 0 ≤ℤ c.part
  pub whole : pos 0 <ℤ c.whole

-- the item at that index holds the instant, which is there so many ticks from the item's start
pub record IsHolder (l : Listed) (at : ℤ) (h : Held) : Type 0 where
  pub inside : within (pos 0) (pos (added (lengths l))) at ≡ true
  pub index : h.index < length (items_of l)
  pub low : pos 0 ≤ℤ h.ticks
  pub high : h.ticks ≤ℤ pos most_ticks
  pub shows : (v : View) → item_shows (looks v (items_of l)) at
      ≡ side v (items_of l) (Some h.index) h.ticks

-- the item that holds an instant, none where it lies outside what is available
abbrev pub IsHeld : Listed → ℤ → Option Held → Type 0
IsHeld l at None = within (pos 0) (pos (added (lengths l))) at ≡ false
IsHeld l at (Some h) = IsHolder l at h

abbrev pub weight_of : Share → Weight
weight_of s = record { num = s.num; den = s.den }

-- what is seen of a mix; of two that are empty nothing
abbrev pub mixture : List ℕ → Image → Image → ℤ → ℤ → Image
mixture kind from to part whole =
    cond (is_empty from && is_empty to) Empty
    (Mixture (kind_of kind) from to (weight (unsigned_abs part) (unsigned_abs whole)))

-- the instant itself, or none where it lies before the start or after all that a sound timeline
-- has
abbrev pub IsInstant : ℤ → Option ℤ → Type 0
IsInstant at None = within (pos 0) (pos (most_ticks + 1)) at ≡ false
IsInstant at (Some u) = u ≡ at
