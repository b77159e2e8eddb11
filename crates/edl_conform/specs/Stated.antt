-- What the structs of the code stand for in the definitions of lists.
use Rattle.std.specs.Prelude.{◌≡◌, Bool, Option, Some, None, IsSome, option_map}
use Rattle.std.specs.Option.{option_copied, option_to_list}
use Rattle.otio_model.specs.declared.timelines.Timeline.{Timeline}
use Rattle.coord.specs.Keys.{frame_rate}
use Rattle.coord.specs.Programs.{record_rate}
use Rattle.media_rows.specs.Rows.{MediaRows}
use Rattle.edl_frames.specs.Jobs as D
use Rattle.edl_frames.specs.Jobs.{mode_in}
use Rattle.edl_frames.specs.Seats as T
use Rattle.edl_conform.specs.declared.list_settings.Job.{Job}
use Rattle.edl_conform.specs.declared.child_context.Lap.{Lap}
use Rattle.edl_conform.specs.declared.child_context.ItemAt.{ItemAt}
use Rattle.edl_conform.specs.declared.child_context.Past.{Past}
use Rattle.edl_conform.specs.declared.child_context.ChildContext.{ChildContext}

abbrev pub stated_job : Job → D.Job
stated_job j = record {
  rate = frame_rate j.rate;
  first = j.first;
  media = option_copied j.media;
  drop = j.drop;
  layout = j.layout;
}

-- the job of a timeline, and none exactly where its record rate has no timecode in the mode
abbrev pub IsJobOf : Timeline → MediaRows → (drop wide : Bool) → Option Job → Type 0
IsJobOf t media drop wide None = mode_in (record_rate t) drop ≡ None
IsJobOf t media drop wide (Some j) =
    (stated_job j ≡ D.job_of t media drop wide) × IsSome (mode_in (record_rate t) drop)

abbrev pub stated_lap : Lap → T.Lap
stated_lap lap = record { type = lap.kind.now; begin = lap.begin; end = lap.end }

abbrev pub stated_item : ItemAt → T.ItemAt
stated_item s = record { item = s.item.now; start = s.start }

abbrev pub stated_past : Past → T.Past
stated_past past = record {
  item = option_map stated_item past.item;
  lap = option_map stated_lap past.lap;
  low = past.low;
}

-- the seat as the code sees it: of what stands behind the child, the first alone
abbrev pub stated_seat : ChildContext → T.Seat
stated_seat s = record {
  item = s.item.now;
  start = s.start;
  past = stated_past s.past;
  next = option_to_list (option_copied s.next);
}
