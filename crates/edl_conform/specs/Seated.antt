-- Children that stand within a million seconds, and what stands before them.
use Rattle.std.specs.Prelude.{◌≡◌, ℕ, ◌+◌, ◌*◌, ◌<◌, ◌^◌, ℤ, pos, ◌+ℤ◌, ◌-ℤ◌, ◌*ℤ◌, ◌<ℤ◌, ◌≤ℤ◌, List, Some, None, IfSome, slice_get}
use Rattle.std.specs.Option.{option_copied}
use Rattle.limits.specs.Limits.{most_ticks}
use Rattle.otio_model.specs.declared.compositions.ItemOf.{ItemOf}
use Rattle.otio_model.specs.declared.compositions.Listed.{Listed}
use Rattle.otio_model.specs.Trees.{items_of}
use Rattle.otio_model.specs.Counts.{count_of}
use Rattle.otio_model.specs.Lengths.{start_of}
use Rattle.coord.specs.Looks.{Overlap}
use Rattle.coord.specs.Sights.{overlap_of}
use Rattle.coord.specs.Soundness.{fault_of}
use Rattle.edl_list.specs.declared.list.Channel.{Channel}
use Rattle.edl_frames.specs.Seats.{length_in}
use Rattle.edl_frames.specs.Seats as T
use Rattle.edl_frames.specs.ChildReasons as C
use Rattle.edl_conform.specs.declared.list_settings.Job.{Job}
use Rattle.edl_conform.specs.declared.child_context.Lap.{Lap}
use Rattle.edl_conform.specs.declared.child_context.ItemAt.{ItemAt}
use Rattle.edl_conform.specs.declared.child_context.Past.{Past}
use Rattle.edl_conform.specs.declared.child_context.ChildContext.{ChildContext}
use Rattle.edl_conform.specs.Stated.{stated_job, stated_seat}
use Rattle.edl_conform.specs.Ranges.{IsNear}

-- an overlap that isn't empty, at a cut within a million seconds
pub record IsOpen (lap : Lap) : Type 0 where
  pub begin : IsNear (2 * most_ticks) lap.begin
  pub end : IsNear (2 * most_ticks) lap.end
  pub some : lap.begin <ℤ lap.end

-- an overlap of at most 999 frames of so many ticks
abbrev pub IsShort : ℤ → Lap → Type 0
IsShort ticks lap = (lap.end -ℤ lap.begin) ≤ℤ (pos 999 *ℤ ticks)

-- an item without a fault that starts within a million seconds
pub record IsItemAt (s : ItemAt) : Type 0 where
  pub faultless : fault_of s.item.now ≡ None
  pub start : IsNear most_ticks s.start

-- what stands before a child
pub record IsOpenPast (past : Past) : Type 0 where
  pub item : IfSome past.item IsItemAt
  pub lap : IfSome past.lap IsOpen

-- the same, where a record frame has so many ticks and the overlap is carried
pub record IsPast (ticks : ℤ) (past : Past) : Type 0 where
  pub stands : IsOpenPast past
  pub short : IfSome past.lap (IsShort ticks)

-- the next child ends within a million seconds
pub record IsNext (start : ℤ) (x : ItemOf Listed) : Type 0 where
  pub few : count_of x < 2 ^ 32
  pub high : (start +ℤ length_in x) ≤ℤ pos most_ticks

-- a child without a fault that ends within a million seconds, and so does the next one
pub record IsSeated (seat : ChildContext) : Type 0 where
  pub faultless : fault_of seat.item.now ≡ None
  pub end : seat.end ≡ seat.start +ℤ length_in seat.item.now
  pub low : pos 0 ≤ℤ seat.start
  pub high : seat.end ≤ℤ pos most_ticks
  pub next : IfSome (option_copied seat.next) (IsNext seat.end)

-- neither the overlap before the child nor its own is too long to be carried
pub record IsShortSeat (ticks : ℤ) (seat : ChildContext) : Type 0 where
  pub past : IfSome seat.past.lap (IsShort ticks)
  pub own : (o : Overlap) → overlap_of seat.item.now ≡ Some o
      → (o.before +ℤ o.after) ≤ℤ (pos 999 *ℤ ticks)

-- the child at an index of a list, with what stands before it
pub record IsSeatAt (l : Listed) (index : ℕ) (past : Past) (seat : ChildContext) : Type 0 where
  pub item : slice_get (items_of l) index ≡ Some seat.item.now
  pub start : seat.start ≡ pos (start_of l index)
  pub end : seat.end ≡ pos (start_of l (index + 1))
  pub before : seat.past ≡ past
  pub next : option_copied seat.next ≡ slice_get (items_of l) (index + 1)

-- a child of the definitions
abbrev pub seat_with : ItemOf Listed → ℤ → T.Past → List (ItemOf Listed) → T.Seat
seat_with x at past next = record { item = x; start = at; past = past; next = next }

-- there is no reason why the child isn't carried
abbrev pub IsCarried : Job → ChildContext → Type 0
IsCarried job seat = (c : Channel) → C.reason_of (stated_job job) c (stated_seat seat) ≡ None
