-- The timeline that an edit makes.
use Rattle.std.specs.Prelude.{ℕ, ℤ, pos, List, [], Option, Some, None, option_map, option_and_then, unwrap_or}
use Rattle.std.specs.Option.{option_or}
use Rattle.tick_time.specs.declared.rates.Rate.{Rate}
use Rattle.tick_time.specs.declared.spans.Span.{Span}
use Rattle.tick_time.specs.Rates.{frame}
use Rattle.otio_model.specs.declared.compositions.Clip.{Clip as ClipRow}
use Rattle.otio_model.specs.declared.compositions.ItemOf.{ItemOf}
use Rattle.otio_model.specs.declared.compositions.Listed.{Listed}
use Rattle.otio_model.specs.declared.timelines.Timeline.{Timeline}
use Rattle.otio_model.specs.declared.edit_types.Edit.{Edit}
use Rattle.otio_model.specs.declared.edit_types.Edit.TheVariants as A
use Rattle.otio_model.specs.Lengths.{clip_range}
use Rattle.otio_model.specs.Trees.{listed, items_of}
use Rattle.otio_model.specs.Edits.{list_at, with_at}
use Rattle.coord.specs.Programs.{first_clip}
use Rattle.edits.specs.Finest.{rate_24}
use Rattle.edits.specs.Children.{all_made}
use Rattle.edits.specs.Edits.{edited}

-- the rate of a clip's media: of their available range, else of its source_range
abbrev pub clip_rate : ClipRow → Option Rate
clip_rate c = option_map (λ (s : Span). s.start.rate) (option_or (clip_range c) c.source_range)

-- the record rate
abbrev pub rate_of : Timeline → Rate
rate_of t =
    elim t.global_start_time [
      | None ↦ unwrap_or (option_and_then clip_rate (first_clip t.tracks.children)) rate_24
      | Some start ↦ start.rate
    ]

-- a record frame, in ticks
abbrev pub frame_of : Timeline → ℤ
frame_of t = pos (frame (rate_of t).num (rate_of t).den)

abbrev pub place_of : Edit → List ℕ
place_of (A.Overwrite place at x) = place
place_of (A.Insert place at x) = place
place_of (A.Slice place at) = place
place_of (A.Fill place at mode x) = place
place_of (A.Remove place at mode) = place
place_of (A.Trim place at head tail) = place
place_of (A.Slip place at by) = place
place_of (A.Slide place at by) = place
place_of (A.Ripple place at head tail) = place
place_of (A.Roll place at head tail) = place

abbrev pub at_of : Edit → ℤ
at_of (A.Overwrite place at x) = at
at_of (A.Insert place at x) = at
at_of (A.Slice place at) = at
at_of (A.Fill place at mode x) = at
at_of (A.Remove place at mode) = at
at_of (A.Trim place at head tail) = at
at_of (A.Slip place at by) = at
at_of (A.Slide place at by) = at
at_of (A.Ripple place at head tail) = at
at_of (A.Roll place at head tail) = at

-- the list of the track at the edit's place
abbrev pub list_of : Timeline → Edit → List (ItemOf Listed)
list_of t e = elim (list_at (place_of e) t.tracks.children) [ None ↦ [] | Some l ↦ items_of l ]

-- the timeline with this list at the edit's place
abbrev pub with_items : Timeline → Edit → List (ItemOf Listed) → Timeline
with_items t e m =
    record t {
      tracks = record t.tracks { children = with_at (place_of e) (listed m) t.tracks.children };
    }

-- the timeline after the edit; none where a time would be out of range
abbrev pub after : Timeline → Edit → Option Timeline
after t e = option_map (with_items t e) (all_made (rate_of t) (edited (frame_of t) e (list_of t e)))
