-- For whom a list that was made shows what its children do: the rates of media may change with a
-- start.
use Rattle.std.specs.Prelude.{◌≡◌, ◌⊎◌, ℤ, Bool, true, ◌&&◌, List, [], ◌∷◌, Option, Some, None, is_some}
use Rattle.std.specs.Option.{option_or}
use Rattle.tick_time.specs.declared.spans.Span.{Span}
use Rattle.otio_model.specs.declared.compositions.ItemOf.{ItemOf}
use Rattle.otio_model.specs.declared.compositions.ItemOf.TheVariants.{Clip, Gap, Transition, Stack, Track}
use Rattle.otio_model.specs.declared.compositions.Listed.{Listed}
use Rattle.otio_model.specs.Lengths.{clip_range}
use Rattle.coord.specs.Looks.{FrameRate}
use Rattle.otio_model.specs.declared.edit_types.Edit.{Edit}
use Rattle.otio_model.specs.declared.edit_types.Edit.TheVariants as A
use Rattle.coord.specs.Sights.{View, overlap_of}
use Rattle.edits.specs.Nears.{is_whole}
use Rattle.edits.specs.Children.{Child, Old, Ranged}

-- a new start of a clip whose media have no range is whole units of the old start's rate
abbrev pub steady_start : Option Span → Option Span → ℤ → Bool
steady_start None None s = true
steady_start None (Some w) s = is_whole s w.start.rate
steady_start (Some media) source s = true

abbrev pub is_steady : Child → Bool
is_steady (Old x) = true
is_steady (Ranged (Clip c) s n) = steady_start (clip_range c) c.source_range s
is_steady (Ranged (Gap g) s n) = true
is_steady (Ranged (Transition t) s n) = true
is_steady (Ranged (Stack k) s n) = true
is_steady (Ranged (Track t) s n) = true

abbrev pub are_steady : List Child → Bool
are_steady [] = true
are_steady (c ∷ l) = is_steady c && are_steady l

-- a viewer to whom all rates are one
abbrev pub IsBlind : View → Type 0
IsBlind v = (a b : FrameRate) → v.rate_kept a ≡ v.rate_kept b

-- the children are steady, or the viewer doesn't see rates
abbrev pub Sees : View → List Child → Type 0
Sees v l = IsBlind v ⊎ (are_steady l ≡ true)

-- a clip that gets a range has one already, and a transition gets none
abbrev pub IsRangedBefore : Child → Type 0
IsRangedBefore (Old x) = Unit {0}
IsRangedBefore (Ranged (Clip c) s n) = is_some (option_or (clip_range c) c.source_range) ≡ true
IsRangedBefore (Ranged (Gap g) s n) = Unit {0}
IsRangedBefore (Ranged (Transition t) s n) = ⊥
IsRangedBefore (Ranged (Stack k) s n) = Unit {0}
IsRangedBefore (Ranged (Track t) s n) = Unit {0}

abbrev pub AreRangedBefore : List Child → Type 0
AreRangedBefore [] = Unit {0}
AreRangedBefore (c ∷ l) = IsRangedBefore c × AreRangedBefore l

-- an item that is no transition can get another range
abbrev pub IsReady : ItemOf Listed → Type 0
IsReady x = (s n : ℤ) → overlap_of x ≡ None → IsRangedBefore (Ranged x s n)

abbrev pub AreReady : List (ItemOf Listed) → Type 0
AreReady [] = Unit {0}
AreReady (x ∷ l) = IsReady x × AreReady l

-- so can the item of an edit
abbrev pub HasReadyItem : Edit → Type 0
HasReadyItem (A.Overwrite place at x) = IsReady x
HasReadyItem (A.Insert place at x) = IsReady x
HasReadyItem (A.Slice place at) = Unit {0}
HasReadyItem (A.Fill place at mode x) = IsReady x
HasReadyItem (A.Remove place at mode) = Unit {0}
HasReadyItem (A.Trim place at head tail) = Unit {0}
HasReadyItem (A.Slip place at by) = Unit {0}
HasReadyItem (A.Slide place at by) = Unit {0}
HasReadyItem (A.Ripple place at head tail) = Unit {0}
HasReadyItem (A.Roll place at head tail) = Unit {0}
