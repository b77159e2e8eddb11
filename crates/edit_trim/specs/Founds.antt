-- The item that an edit of edges asks for, and what the edit does there.
use Rattle.std.specs.Prelude.{◌≡◌, ℕ, ℤ, true, false, List, Some, None}
use Rattle.std.specs.Prelude.{length}
use Rattle.otio_model.specs.declared.compositions.ItemOf.{ItemOf}
use Rattle.otio_model.specs.declared.compositions.Listed.{Listed}
use Rattle.otio_model.specs.declared.edit_types.EditFault.{EditFault}
use Rattle.otio_model.specs.declared.edit_types.EditFault.TheVariants as F
use Rattle.otio_model.specs.declared.seeks.Seat.{Seat}
use Rattle.edits.specs.Edges.{Held, held_at}
use Rattle.edits.specs.Narrow.{touched}
use Rattle.edits.specs.Refusals.{has_no_neighbour}
use Rattle.edit_trim.specs.Asked.{edit_of}
use Rattle.edit_trim.specs.Motions.{IsMotion, Suits, motion_zone}
use Rattle.edit_trim.specs.Seats.{IsAt}
use Rattle.edit_trim.specs.declared.edge_edits.EdgeEdit.{EdgeEdit}
use Rattle.edit_trim.specs.declared.edge_moves.Motion.{Motion}

-- an item that the edit needs beside the held one isn't there
abbrev pub LacksNeighbour : EdgeEdit → Held → Type 0
LacksNeighbour m h = (place : List ℕ) (at : ℤ)
    → has_no_neighbour (edit_of place at m) (Some h) ≡ true

-- it is there
abbrev pub HasNeighbours : EdgeEdit → Held → Type 0
HasNeighbours m h = (place : List ℕ) (at : ℤ)
    → has_no_neighbour (edit_of place at m) (Some h) ≡ false

-- the held item stands at the seat, and the edit is this motion there
pub record IsFound (f : ℤ) (m : EdgeEdit) (l : List (ItemOf Listed)) (w : ℤ) (s : Seat)
    (o : Motion) : Type 0 where
  pub held : Held
  pub there : held_at l w ≡ Some held
  pub seat : IsAt l s held
  pub beside : HasNeighbours m held
  pub motion : IsMotion f m held o

-- the item stands at the seat, and the motion leaves what it has to
pub record IsSuited (l : List (ItemOf Listed)) (s : Seat) (o : Motion) : Type 0 where
  pub held : Held
  pub seat : IsAt l s held
  pub suits : Suits o held

-- no item holds the instant
pub record IsNoItem (l : List (ItemOf Listed)) (w : ℤ) (fault : EditFault) : Type 0 where
  pub none : held_at l w ≡ None
  pub is : fault ≡ F.NoItem

-- an item holds it, and none stands beside it where one has to
pub record IsNoNeighbour (m : EdgeEdit) (l : List (ItemOf Listed)) (w : ℤ)
    (fault : EditFault) : Type 0 where
  pub held : Held
  pub there : held_at l w ≡ Some held
  pub lacks : LacksNeighbour m held
  pub is : fault ≡ F.NoNeighbour

-- how many children the zone of a motion touches
abbrev pub motion_touches : List (ItemOf Listed) → Motion → ℕ
motion_touches l o = elim (motion_zone o) [ None ↦ 0 | Some z ↦ length (touched l z.from z.to) ]
