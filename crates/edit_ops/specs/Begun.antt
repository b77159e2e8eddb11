-- When an edit is made, and on what.
use Rattle.std.specs.Prelude.{◌≡◌, ◌≤ℤ◌, ◌<ℤ◌, ◌*ℤ◌, ℕ, ℤ, pos, int_lt, Bool, false, List, Some, None}
use Rattle.limits.specs.Limits.{most_ticks}
use Rattle.tick_time.specs.declared.rates.Rate.{Rate}
use Rattle.otio_model.specs.declared.compositions.ItemOf.{ItemOf}
use Rattle.otio_model.specs.declared.compositions.Listed.{Listed}
use Rattle.otio_model.specs.declared.timelines.Timeline.{Timeline}
use Rattle.edits.specs.Children.{ticks}
use Rattle.otio_model.specs.declared.edit_types.Edit.{Edit}
use Rattle.edits.specs.After.{frame_of, list_of, place_of, rate_of}
use Rattle.edits.specs.Edges.{Held, held_at, is_gap, start}
use Rattle.edits.specs.Refusals.{place_fault}

-- the place leads to a track, and the edit is made there at this instant
pub record IsBegun (t : Timeline) (place : List ℕ) (at : ℤ) (rate : Rate) (instant : ℤ) : Type 0
  where
    pub there : place_fault place t ≡ None
    pub late : int_lt at (pos 0) ≡ false
    pub counts : rate ≡ rate_of t
    pub stands : instant ≡ at *ℤ frame_of t
    pub low : pos 0 ≤ℤ instant
    pub high : instant ≤ℤ pos 10000000000000000000000000000000000000

-- an item holds the instant, starts here and is so long; whether it is a gap
pub record IsHolding (l : List (ItemOf Listed)) (instant from n : ℤ) (gap : Bool) : Type 0 where
  pub held : Held
  pub there : held_at l instant ≡ Some held
  pub starts : from ≡ start held
  pub length : n ≡ ticks held.item
  pub empty : gap ≡ is_gap held.item
  pub low : pos 0 ≤ℤ from
  pub high : from ≤ℤ instant
  pub some : pos 0 <ℤ n
  pub short : n ≤ℤ pos most_ticks

-- the edit is begun, and an item holds its instant, starts here and is so long; whether it is a gap
pub record IsTaken (t : Timeline) (place : List ℕ) (at : ℤ) (rate : Rate) (instant from n : ℤ)
    (gap : Bool) : Type 0 where
  pub begun : IsBegun t place at rate instant
  pub holding : (e : Edit) → place_of e ≡ place → IsHolding (list_of t e) instant from n gap
