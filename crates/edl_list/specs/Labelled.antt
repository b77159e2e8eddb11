-- The sides of an event, and events whose labels are below the day.
use Rattle.std.specs.Prelude.{ℕ, ℤ, Bool, Option, Some, None, IfSome, List, Ok}
use Rattle.tick_time.specs.declared.rates.Rate.{Rate}
use Rattle.smpte_tc.specs.Modes.{mode_of}
use Rattle.smpte_tc.specs.Answers.{WritesAt}
use Rattle.edl_list.specs.declared.list.Side.{Side}
use Rattle.edl_list.specs.declared.list.Cross.{Cross}
use Rattle.edl_list.specs.declared.list.Cross.TheVariants.{Cut, Dissolve, Wipe}
use Rattle.edl_list.specs.declared.list.Event.{Event}

-- the outgoing side of an event that begins in this way, where it has one
abbrev pub outgoing : Cross → Option Side
outgoing Cut = None
outgoing (Dissolve frames from) = Some from
outgoing (Wipe code frames from) = Some from

-- at the rate, with drop-frame or without, the frame number is one of the day, so that a label is
-- written for it
pub record IsBelowDay (rate : Rate) (drop : Bool) (n : ℤ) : Type 0 where
  pub label : List ℕ
  pub written : WritesAt (mode_of rate drop) n (Ok label)

-- each label that the event is written with is below the day
pub record IsLabelled (rate : Rate) (drop : Bool) (event : Event) : Type 0 where
  pub outgoing_in : IfSome (outgoing event.cross) (λ from. IsBelowDay rate drop from.src_in)
  pub source_in : IsBelowDay rate drop event.to.src_in
  pub source_out : IsBelowDay rate drop event.to.src_out
  pub record_in : IsBelowDay rate drop event.rec_in
  pub record_out : IsBelowDay rate drop event.rec_out
