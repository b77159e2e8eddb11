-- What is known of the events of a well formed list.
use Rattle.std.specs.Prelude.{◌≤◌, ℤ, pos, ◌≤ℤ◌, ◌<ℤ◌, ◌-ℤ◌, List, [], ◌∷◌, Option, Some, None}
use Rattle.tick_time.specs.declared.rates.Rate.{Rate}
use Rattle.edl_list.specs.declared.list.Side.{Side}
use Rattle.edl_list.specs.declared.list.Cross.{Cross}
use Rattle.edl_list.specs.declared.list.Cross.TheVariants.{Cut, Dissolve, Wipe}
use Rattle.edl_list.specs.declared.list.Event.{Event}
use Rattle.edl_list.specs.Laws.{IsTimed}
use Rattle.edl_list.specs.Speeds.{count_of, side_speed}
use Rattle.edl_list.specs.declared.list.Channel.{Channel}
use Rattle.edl_list.specs.declared.list.EventList.{EventList}
use Rattle.edl_frames.specs.Shown.{on_channel}

-- a side whose source begins at a frame number that makes a time, at a speed that a clip can have
pub record FitsSide (rate : Rate) (side : Side) : Type 0 where
  pub starts : IsTimed rate side.src_in
  pub slow : side_speed rate side ≤ 1000000000

abbrev pub FitsCross : Rate → Cross → Type 0
FitsCross rate Cut = Unit {0}
FitsCross rate (Dissolve frames from) =
    (1 ≤ frames) × IsTimed rate (pos frames) × FitsSide rate from
FitsCross rate (Wipe code frames from) =
    (code ≤ 999) × (1 ≤ frames) × IsTimed rate (pos frames) × FitsSide rate from

pub record FitsEvent (rate : Rate) (e : Event) : Type 0 where
  pub timecode : 1 ≤ count_of rate
  pub to : FitsSide rate e.to
  pub from : IsTimed rate e.rec_in
  pub behind : IsTimed rate e.rec_out
  pub some : e.rec_in <ℤ e.rec_out
  pub long : IsTimed rate (e.rec_out -ℤ e.rec_in)
  pub cross : FitsCross rate e.cross

abbrev pub FitsBefore : Rate → Option Event → Type 0
FitsBefore rate None = Unit {0}
FitsBefore rate (Some e) = FitsEvent rate e

-- an event that begins at a record frame or after it, where this one is before it
pub record FitsAt (rate : Rate) (before : Option Event) (at : ℤ) (e : Event) : Type 0 where
  pub known : FitsBefore rate before
  pub here : IsTimed rate at
  pub later : at ≤ℤ e.rec_in
  pub gap : IsTimed rate (e.rec_in -ℤ at)
  pub event : FitsEvent rate e

-- a channel's events from a record frame on
abbrev pub AreAhead : Rate → Option Event → ℤ → List Event → Type 0
AreAhead rate before at [] = Unit {0}
AreAhead rate before at (e ∷ es) = FitsAt rate before at e × AreAhead rate (Some e) e.rec_out es

-- the events of each channel run on from a record frame
pub record HasAllAhead (list : EventList) (first : ℤ) : Type 0 where
  pub each : (c : Channel) → AreAhead list.rate None first (on_channel c list.events)
