-- Which timelines are sound, and where one that isn't has its first fault.
use Rattle.std.specs.Prelude.{◌≡◌, ℕ, ◌<◌, ℤ, pos, ◌+ℤ◌, ◌-ℤ◌, ◌*ℤ◌, int_le, nat_lt, Bool, false, not, ◌&&◌, ◌||◌, cond, List, [], ◌∷◌, Option, Some, None, IfSome, ◌⊎◌}
use Rattle.limits.specs.Limits.{most_ticks}
use Rattle.std.specs.List.{list_any}
use Rattle.tick_time.specs.Times.{IsWhole}
use Rattle.tick_time.specs.Rates.{frame}
use Rattle.tick_time.specs.declared.spans.Span.{Span}
use Rattle.otio_model.specs.declared.compositions.ItemOf.{ItemOf}
use Rattle.otio_model.specs.declared.compositions.ItemOf.TheVariants.{Clip, Gap, Transition, Stack, Track}
use Rattle.otio_model.specs.declared.compositions.Listed.{Listed}
use Rattle.otio_model.specs.declared.timelines.Timeline.{Timeline}
use Rattle.otio_model.specs.Trees.{items_of, below, item_at, is_transition}
use Rattle.otio_model.specs.Misplaced.{has_misplaced}
use Rattle.otio_model.specs.Lengths.{clip_range, lengths, length_of, added, trimmed_start, or_zero}
use Rattle.otio_model.specs.Sums.{greatest, span_or}
use Rattle.coord.specs.declared.faults.ItemFault.{ItemFault}
use Rattle.coord.specs.declared.faults.ItemFault.TheVariants.{NoLength, Speed, Long}
use Rattle.coord.specs.declared.faults.CoordFault.{CoordFault}
use Rattle.coord.specs.declared.faults.CoordFault.TheVariants as F
use Rattle.otio_model.specs.Speeds.{keeps_speed}
use Rattle.coord.specs.Speeds.{effects_of, speed_of}

-- the length of a span, 0 where there is none
abbrev pub span_ticks : Option Span → ℕ
span_ticks s = or_zero (span_or s None)

-- how long the available range is, where a child without a length counts 0
abbrev pub available_ticks : ItemOf Listed → ℕ
available_ticks (Clip c) = span_ticks (clip_range c)
available_ticks (Gap g) = 0
available_ticks (Transition t) = 0
available_ticks (Stack s) = greatest (lengths s.children)
available_ticks (Track t) = added (lengths t.children)

-- where n ticks of the item end in its media or its children, in millionths of a tick
abbrev pub media_end : {C : Type 0} → ItemOf C → ℕ → ℤ
media_end x n = (trimmed_start x *ℤ pos 1000000) +ℤ (pos n *ℤ speed_of x)

-- a million seconds in millionths of a tick
abbrev pub most_end : ℤ
most_end = pos most_ticks *ℤ pos 1000000

-- the item, n ticks long, passes a million seconds: in its length, in what is available, or where
-- it ends in its media
abbrev pub is_long : ItemOf Listed → ℕ → Bool
is_long x n = nat_lt most_ticks n
    || (nat_lt most_ticks (available_ticks x)
    || not (int_le (pos 0 -ℤ most_end) (media_end x n) && int_le (media_end x n) most_end))

-- the fault of an item that is n ticks long
abbrev pub ranged_fault : ItemOf Listed → ℕ → Option ItemFault
ranged_fault x n = cond (keeps_speed (pos 1000000) (effects_of x))
    (cond (is_long x n) (Some Long) None) (Some Speed)

-- the fault of an item: it has no length, its speed passes 1000 either way after some effect, or it
-- is too long; a transition has none
abbrev pub fault_of : ItemOf Listed → Option ItemFault
fault_of x = cond (is_transition x) None
    (elim (length_of x) [ None ↦ Some NoLength | Some n ↦ ranged_fault x n ])

-- no item below has a fault
abbrev pub AreFaultless : Listed → Type 0
AreFaultless l = (place : List ℕ) (x : ItemOf Listed) → item_at place l ≡ Some x → fault_of x ≡ None

-- neither the item nor one below it has a fault
abbrev pub IsFaultlessItem : ItemOf Listed → Type 0
IsFaultlessItem x = (place : List ℕ) (y : ItemOf Listed) → below place x ≡ Some y
    → fault_of y ≡ None

-- the timeline begins on a frame of its own rate
abbrev pub StartsOnFrame : Timeline → Type 0
StartsOnFrame t = IfSome t.global_start_time (λ s. IsWhole s.ticks (frame s.rate.num s.rate.den))

-- no item of the timeline has a fault, and it begins on a frame
pub record IsFaultless (t : Timeline) : Type 0 where
  pub start : StartsOnFrame t
  pub items : AreFaultless t.tracks.children

-- no item below breaks a rule on transitions: no offset is negative, no two stand side by side in a
-- track, and none stands in a stack
abbrev pub AreCalm : Listed → Type 0
AreCalm l = (place : List ℕ) (x : ItemOf Listed) → item_at place l ≡ Some x
    → has_misplaced x ≡ false

-- so it is in the whole timeline, and its root stack has no transition
pub record IsCalm (t : Timeline) : Type 0 where
  pub root : list_any is_transition (items_of t.tracks.children) ≡ false
  pub items : AreCalm t.tracks.children

-- the timeline has no fault, and its transitions stand where they may
pub record IsSound (t : Timeline) : Type 0 where
  pub faultless : IsFaultless t
  pub calm : IsCalm t

-- one place comes before another in document order: a parent before its children, and all of a
-- child before the next one
abbrev pub Precedes : List ℕ → List ℕ → Type 0
Precedes p [] = ⊥
Precedes [] (j ∷ q) = Unit {0}
Precedes (i ∷ p) (j ∷ q) = (i < j) ⊎ ((i ≡ j) × Precedes p q)

-- the item at the place has this fault, and no item before it in document order has any
pub record IsFirstFault (l : Listed) (place : List ℕ) (fault : ItemFault) : Type 0 where
  pub item : ItemOf Listed
  pub there : item_at place l ≡ Some item
  pub has : fault_of item ≡ Some fault
  pub first : (before : List ℕ) (x : ItemOf Listed) → Precedes before place
      → item_at before l ≡ Some x → fault_of x ≡ None

-- the timeline begins on a frame, and this is the first fault of its items
abbrev pub HasFirst : Timeline → List ℕ → ItemFault → Type 0
HasFirst t place fault = StartsOnFrame t × IsFirstFault t.tracks.children place fault

-- what a fault says of a timeline; memory runs out only for the place of an item with a fault
abbrev pub IsFaultOf : Timeline → CoordFault → Type 0
IsFaultOf t F.StartOffFrame = StartsOnFrame t → ⊥
IsFaultOf t (F.NoLength place) = HasFirst t place NoLength
IsFaultOf t (F.Speed place) = HasFirst t place Speed
IsFaultOf t (F.Long place) = HasFirst t place Long
IsFaultOf t F.Memory = StartsOnFrame t × (AreFaultless t.tracks.children → ⊥)

-- an item's fault as that of its timeline
abbrev pub fault_at : List ℕ → ItemFault → CoordFault
fault_at place NoLength = F.NoLength place
fault_at place Speed = F.Speed place
fault_at place Long = F.Long place
