-- What the code adds to the items of a track, and counts of them, step by step.
use Rattle.std.specs.Prelude.{◌≡◌, ◌≤◌, ℕ, ◌+◌, ℤ, pos, ◌-ℤ◌, ◌<ℤ◌, nat_lt, cond, true, false, List, [], ◌∷◌, ◌++◌, Option, Some, None, codes}
use Rattle.limits.specs.Limits.{most_items}
use Rattle.tick_time.specs.declared.rates.Rate.{Rate}
use Rattle.otio_model.specs.declared.compositions.ItemOf.{ItemOf}
use Rattle.otio_model.specs.declared.compositions.Listed.{Listed}
use Rattle.otio_model.specs.declared.compositions.StackOf.{StackOf}
use Rattle.otio_model.specs.Trees.{items_of}
use Rattle.edl_list.specs.declared.list.Channel.{Channel}
use Rattle.edl_list.specs.declared.list.Event.{Event}
use Rattle.edl_list.specs.declared.list.Side.{Side}
use Rattle.edl_list.specs.declared.list.EventList.{EventList}
use Rattle.edl_frames.specs.Counted.{channel_count}
use Rattle.media_rows.specs.Rows.{MediaRows}
use Rattle.edl_frames.specs.Conformed.{Pair, IsGap, IsItem, IsTransition, serves, AreItems, AreTracks}
use Rattle.edl_law.specs.Fits.{AreAhead}

-- a gap up to a record frame, where it lies behind
pub data IsSpace (rate : Rate) : ℤ → ℤ → List (ItemOf Listed) → Type 0 where
  no_space : (at : ℤ) → IsSpace rate at at []
  space : (at to : ℤ) (x : ItemOf Listed) → at <ℤ to → IsGap rate (to -ℤ at) x
      → IsSpace rate at to (x ∷ [])

pub record AddsSpace (rate : Rate) (at to : ℤ) (old new : List (ItemOf Listed)) : Type 0 where
  pub added : List (ItemOf Listed)
  pub is : new ≡ old ++ added
  pub space : IsSpace rate at to added

-- the item of no length for the outgoing side of a pair, where no item before serves as it
pub data IsOutgoing (rate : Rate) (media : MediaRows) (before : Option Event) (at : ℤ)
    (from : Side) : List (ItemOf Listed) → Type 0 where
  served : serves rate before at from ≡ true → IsOutgoing rate media before at from []
  put : (s : ItemOf Listed) → serves rate before at from ≡ false
      → IsItem rate media from (pos 0) s → IsOutgoing rate media before at from (s ∷ [])

pub record AddsOutgoing
    (rate : Rate) (media : MediaRows) (before : Option Event) (at : ℤ) (from : Side)
    (old new : List (ItemOf Listed)) : Type 0 where
  pub added : List (ItemOf Listed)
  pub is : new ≡ old ++ added
  pub side : IsOutgoing rate media before at from added

-- what stands before the item of an event that begins in this way
pub data IsLead (rate : Rate) (media : MediaRows) (before : Option Event) (at : ℤ)
    : Option Pair → List (ItemOf Listed) → Type 0 where
  no_lead : IsLead rate media before at None []
  transition : (p : Pair) (t : ItemOf Listed)
      → serves rate before at p.from ≡ true → IsTransition rate p.type p.frames t
      → IsLead rate media before at (Some p) (t ∷ [])
  side_first : (p : Pair) (s t : ItemOf Listed)
      → serves rate before at p.from ≡ false → IsItem rate media p.from (pos 0) s
      → IsTransition rate p.type p.frames t
      → IsLead rate media before at (Some p) (s ∷ t ∷ [])

pub record AddsLead
    (rate : Rate) (media : MediaRows) (before : Option Event) (at : ℤ) (o : Option Pair)
    (old new : List (ItemOf Listed)) : Type 0 where
  pub added : List (ItemOf Listed)
  pub is : new ≡ old ++ added
  pub lead : IsLead rate media before at o added

-- the items of an event stand before those of all later ones
pub record AddsEvent
    (rate : Rate) (media : MediaRows) (before : Option Event) (at : ℤ) (e : Event)
    (old new : List (ItemOf Listed)) : Type 0 where
  pub added : List (ItemOf Listed)
  pub is : new ≡ old ++ added
  pub are : (es : List Event) (items : List (ItemOf Listed))
      → AreItems rate media (Some e) e.rec_out es items
      → AreItems rate media before at (e ∷ es) (added ++ items)

-- the track of a channel, where it has one, stands before those of all later ones
pub record AddsTrack
    (list : EventList) (media : MediaRows) (c : Channel) (old new : List (ItemOf Listed))
    : Type 0 where
  pub added : List (ItemOf Listed)
  pub is : new ≡ old ++ added
  pub are : (cs : List Channel) (items : List (ItemOf Listed)) → AreTracks list media cs items
      → AreTracks list media (c ∷ cs) (added ++ items)

-- What is known in the loop over a channel's events: these are left, this one stands before them,
-- and the items so far lead on to those of all.
pub record IsUnderWay
    (rate : Rate) (media : MediaRows) (first : ℤ) (all rest : List Event) (before : Option Event)
    (at : ℤ) (items : List (ItemOf Listed)) : Type 0 where
  pub ahead : AreAhead rate before at rest
  pub are : (more : List (ItemOf Listed)) → AreItems rate media before at rest more
      → AreItems rate media None first all (items ++ more)

-- the root stack of these tracks
pub record HasTrackItems (tracks : List (ItemOf Listed)) (s : StackOf Listed) : Type 0 where
  pub children : items_of s.children ≡ tracks
  pub metadata : s.metadata ≡ []
  pub name : s.name ≡ codes "tracks"
  pub source : s.source_range ≡ None
  pub effects : s.effects ≡ []
  pub markers : s.markers ≡ []
  pub enabled : s.enabled ≡ true
  pub rest : s.rest ≡ []

-- a count, as far as it counts whether there are more items than there may be
abbrev pub saturated : ℕ → ℕ
saturated n = cond (nat_lt n (most_items + 1)) n (most_items + 1)

-- What is known in the loop that counts: the items so far and those of what is left are those of
-- all, as far as they count.
pub record IsCounting
    (rate : Rate) (first : ℤ) (all rest : List Event) (before : Option Event) (at : ℤ) (count : ℕ)
    : Type 0 where
  pub ahead : AreAhead rate before at rest
  pub few : count ≤ most_items + 1
  pub total : saturated (count + channel_count rate before at rest)
      ≡ saturated (channel_count rate None first all)
