-- Even lists, and lists that are the same.
use Rattle.std.specs.Prelude.{◌≡◌, ◌-ℤ◌, List, [], ◌∷◌, All}
use Rattle.tick_time.specs.declared.rates.Rate.{Rate}
use Rattle.edl_list.specs.declared.list.Side.{Side}
use Rattle.edl_list.specs.declared.list.Cross.{Cross}
use Rattle.edl_list.specs.declared.list.Cross.TheVariants.{Cut, Dissolve, Wipe}
use Rattle.edl_list.specs.declared.list.Event.{Event}
use Rattle.edl_list.specs.declared.list.EventList.{EventList}
use Rattle.edl_list.specs.Speeds.{side_speed}

-- at the rate's own speed the side that is shown gives as many frames as the record takes
abbrev pub IsEvenEvent : Rate → Event → Type 0
IsEvenEvent rate event =
    side_speed rate event.to ≡ 1000000 → (event.to.src_out -ℤ event.to.src_in) ≡
    (event.rec_out -ℤ event.rec_in)

-- each event of the list is even
abbrev pub IsEven : EventList → Type 0
IsEven list = All (IsEvenEvent list.rate) list.events

-- two sides show the same from their source in on: the reel, the source in and the speed
pub record IsSameSide (rate : Rate) (a b : Side) : Type 0 where
  pub reel : a.reel ≡ b.reel
  pub src_in : a.src_in ≡ b.src_in
  pub speed : side_speed rate a ≡ side_speed rate b

-- two events begin in the same way
abbrev pub IsSameCross : Rate → Cross → Cross → Type 0
IsSameCross rate Cut Cut = Unit {0}
IsSameCross rate (Dissolve m a) (Dissolve n b) = (m ≡ n) × IsSameSide rate a b
IsSameCross rate (Wipe i m a) (Wipe j n b) = (i ≡ j) × (m ≡ n) × IsSameSide rate a b
IsSameCross rate Cut (Dissolve n b) = ⊥
IsSameCross rate Cut (Wipe j n b) = ⊥
IsSameCross rate (Dissolve m a) Cut = ⊥
IsSameCross rate (Dissolve m a) (Wipe j n b) = ⊥
IsSameCross rate (Wipe i m a) Cut = ⊥
IsSameCross rate (Wipe i m a) (Dissolve n b) = ⊥

-- two events are the same but for their lines, names and source outs
pub record IsSameEvent (rate : Rate) (a b : Event) : Type 0 where
  pub channel : a.channel ≡ b.channel
  pub to : IsSameSide rate a.to b.to
  pub cross : IsSameCross rate a.cross b.cross
  pub rec_in : a.rec_in ≡ b.rec_in
  pub rec_out : a.rec_out ≡ b.rec_out

-- event by event
abbrev pub AreSame : Rate → List Event → List Event → Type 0
AreSame rate [] [] = Unit {0}
AreSame rate [] (y ∷ ys) = ⊥
AreSame rate (x ∷ xs) [] = ⊥
AreSame rate (x ∷ xs) (y ∷ ys) = IsSameEvent rate x y × AreSame rate xs ys

-- two lists are the same, whatever their titles, names, lines and source outs
pub record IsSame (a b : EventList) : Type 0 where
  pub rate : a.rate ≡ b.rate
  pub events : AreSame a.rate a.events b.events
