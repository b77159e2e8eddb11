-- Conditions of the laws of edited lists.
use Rattle.std.specs.Prelude.{◌≡◌, ℤ, pos, ◌≤ℤ◌, ◌+ℤ◌, ◌-ℤ◌, true, List, [], ◌∷◌, ◌++◌, Option, Some, None}
use Rattle.otio_model.specs.declared.compositions.ItemOf.{ItemOf}
use Rattle.otio_model.specs.declared.compositions.Listed.{Listed}
use Rattle.otio_model.specs.declared.edit_types.Edit.{Edit}
use Rattle.otio_model.specs.declared.edit_types.Edit.TheVariants as A
use Rattle.coord.specs.Looks.{Overlap}
use Rattle.coord.specs.Sights.{overlap_of}
use Rattle.edits.specs.Children.{Child, Old, Ranged, ticks, child_ticks}
use Rattle.edits.specs.Cuts.{is_whole_at}
use Rattle.edits.specs.Edges.{Held, Moves, gap_ticks}

-- a transition's offsets aren't negative
pub record IsFair (x : ItemOf Listed) : Type 0 where
  pub before : (o : Overlap) → overlap_of x ≡ Some o → pos 0 ≤ℤ o.before
  pub after : (o : Overlap) → overlap_of x ≡ Some o → pos 0 ≤ℤ o.after

abbrev pub AreFair : List (ItemOf Listed) → Type 0
AreFair [] = Unit {0}
AreFair (x ∷ l) = IsFair x × AreFair l

abbrev pub item_of : Child → ItemOf Listed
item_of (Old x) = x
item_of (Ranged x s n) = x

-- no transition, and of no negative length
pub record IsPut (c : Child) : Type 0 where
  pub whole : pos 0 ≤ℤ child_ticks c
  pub item : overlap_of (item_of c) ≡ None

abbrev pub AllPut : List Child → Type 0
AllPut [] = Unit {0}
AllPut (c ∷ n) = IsPut c × AllPut n

-- an item of a list, with what stands before and after it
pub record IsHeld (l : List (ItemOf Listed)) (h : Held) : Type 0 where
  pub parts : l ≡ h.before ++ (h.item ∷ h.behind)
  pub thing : overlap_of h.item ≡ None
  pub before : AreFair h.before
  pub behind : AreFair h.behind

-- edges that move leave a length that isn't negative, and whole ticks of the media
pub record IsMoved (x : ItemOf Listed) (m : Moves) : Type 0 where
  pub left : pos 0 ≤ℤ ((ticks x -ℤ m.head) +ℤ m.tail)
  pub whole : is_whole_at x m.head ≡ true

-- what stands next to an item can give way
abbrev pub IsBefore : Option (ItemOf Listed) → ℤ → Type 0
IsBefore None head = head ≡ pos 0
IsBefore (Some y) head = pos 0 ≤ℤ (ticks y +ℤ head)

abbrev pub IsBehind : Option (ItemOf Listed) → ℤ → Type 0
IsBehind None tail = tail ≡ pos 0
IsBehind (Some z) tail = (pos 0 ≤ℤ (ticks z -ℤ tail)) × (is_whole_at z tail ≡ true)

-- the gap before a trimmed item gives way to its head, or the head moves inward
abbrev pub IsTrimmedBefore : Option (ItemOf Listed) → ℤ → Type 0
IsTrimmedBefore None head = pos 0 ≤ℤ head
IsTrimmedBefore (Some y) head = pos 0 ≤ℤ (gap_ticks y +ℤ head)

-- the gap after it gives way to its tail, or the tail moves inward, or the track ends there
abbrev pub IsTrimmedBehind : Option (ItemOf Listed) → ℤ → Type 0
IsTrimmedBehind None tail = Unit {0}
IsTrimmedBehind (Some z) tail = pos 0 ≤ℤ (gap_ticks z -ℤ tail)

-- the item of an edit is no transition
abbrev pub Suits : Edit → Type 0
Suits (A.Overwrite place at x) = overlap_of x ≡ None
Suits (A.Insert place at x) = overlap_of x ≡ None
Suits (A.Slice place at) = Unit {0}
Suits (A.Fill place at mode x) = overlap_of x ≡ None
Suits (A.Remove place at mode) = Unit {0}
Suits (A.Trim place at head tail) = Unit {0}
Suits (A.Slip place at by) = Unit {0}
Suits (A.Slide place at by) = Unit {0}
Suits (A.Ripple place at head tail) = Unit {0}
Suits (A.Roll place at head tail) = Unit {0}
