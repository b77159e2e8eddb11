-- A seat of the code stands for a child of the definitions.
use Rattle.std.proofs.Common.{◌≡◌, refl, sym, ap, ◌∙◌, ℕ, ◌+◌, ℤ, pos, ◌+ℤ◌, List, ◌++◌, Option, Some, None, to_z, of_z, arith}
use Rattle.std.specs.Int.{w128}
use Rattle.std.specs.Prelude.{Bool, true, IsSome}
use Rattle.std.specs.Option.{option_to_list}
use Rattle.std.proofs.lemmas.Int.{ints}
use Rattle.otio_model.specs.declared.compositions.Listed.{Listed}
use Rattle.otio_model.specs.declared.timelines.Timeline.{Timeline}
use Rattle.otio_model.specs.Trees.{items_of}
use Rattle.otio_model.specs.Lengths.{start_of}
use Rattle.smpte_tc.specs.declared.modes.Mode.{Mode}
use Rattle.edl_list.specs.declared.list.Channel.{Channel}
use Rattle.edl_list.specs.declared.list.Event.{Event}
use Rattle.coord.specs.Programs.{record_rate}
use Rattle.coord.specs.Sights.{overlap_of}
use Rattle.media_rows.specs.Rows.{MediaRows}
use Rattle.edl_frames.specs.Jobs.{mode_in}
use Rattle.edl_frames.specs.Seats.{length_in, past_by, is_there}
use Rattle.edl_frames.specs.ChildEvents.{event_of}
use Rattle.edl_conform.specs.declared.list_settings.Job.{Job}
use Rattle.edl_conform.specs.declared.child_context.Past.{Past}
use Rattle.edl_conform.specs.declared.child_context.ChildContext.{ChildContext}
use Rattle.edl_conform.specs.Seated.{IsCarried, IsSeatAt, IsSeated}
use Rattle.edl_conform.specs.Stated.{IsJobOf, stated_job, stated_past, stated_seat}
use Rattle.edl_conform.specs.Walk.{IsWalking}
use Rattle.edl_conform.proofs.ChildSteps.{IsHere, goes_on}
use Rattle.edl_conform.proofs.ListFacts.{IsJob}

pub here : (l : Listed) (i : ℕ) (past : Past) (seat : ChildContext) (at : ℤ) → IsSeatAt l i past seat
    → at ≡ pos (start_of l i) → IsHere (items_of l) i at (stated_past past) (stated_seat seat)
here l i past seat at s e = record {
  item = s.item;
  start = s.start ∙ sym e;
  past_is = ap stated_past s.before;
  next_is = ap option_to_list s.next;
}

-- the end of a child is kept in 128 bits
pub kept : (seat : ChildContext) → IsSeated seat → to_z w128 (of_z w128 seat.end) ≡ seat.end
kept seat s =
    let low = s.low in let high = s.high in let end = s.end in
    omega (arith, ints, low, high, end)

-- one more child that is carried
pub walks_on : (job : Job) (c : Channel) (l : Listed) (i : ℕ) (at : ℤ) (past after : Past)
    (seat : ChildContext) (old now new : List Event)
    → IsSeatAt l i past seat → IsSeated seat → at ≡ pos (start_of l i) → IsCarried job seat
    → new ≡ now ++ option_to_list (event_of (stated_job job) c (stated_seat seat))
    → stated_past after
    ≡ past_by (overlap_of seat.item.now) seat.item.now seat.start (stated_past seat.past)
    → IsWalking (stated_job job) c (items_of l) i at (stated_past past) old now
    → IsWalking (stated_job job) c (items_of l) (i + 1) (to_z w128 (of_z w128 seat.end))
    (stated_past after) old new
walks_on job c l i at past after seat old now new s seated e carried put passed way =
    goes_on (stated_job job) c (items_of l) i at (to_z w128 (of_z w128 seat.end))
    (stated_past past) (stated_past after) (stated_seat seat) old now new
    (here l i past seat at s e) (carried c) put
    (kept seat seated ∙ seated.end ∙ ap (λ z. z +ℤ length_in seat.item.now) (s.start ∙ sym e))
    passed way

-- the job of a timeline
pub job_is : (t : Timeline) (media : MediaRows) (drop wide : Bool) (job : Job)
    → IsJobOf t media drop wide (Some job) → IsJob t media drop wide (stated_job job)
job_is t media drop wide job h = record {
  mode = by (mode_in (record_rate t) drop) h.1;
  is = h.0;
}
  where
    by : (o : Option Mode) → IsSome o → is_there o ≡ true
    by None e = absurd (cc e)
    by (Some m) e = refl
