-- The record rate, said as a rate and by its frames a second.
use Rattle.std.proofs.Common.{◌≡◌, refl, sym, ap, ◌∙◌, pos, Option, Some, None}
use Rattle.std.specs.Prelude.{option_map, option_and_then, unwrap_or}
use Rattle.std.specs.Option.{option_or}
use Rattle.tick_time.specs.declared.rates.Rate.{Rate}
use Rattle.tick_time.specs.declared.spans.Span.{Span}
use Rattle.tick_time.specs.declared.times.Time.{Time}
use Rattle.otio_model.specs.declared.compositions.Clip.{Clip as ClipRow}
use Rattle.otio_model.specs.declared.timelines.Timeline.{Timeline}
use Rattle.otio_model.specs.Lengths.{clip_range}
use Rattle.coord.specs.Keys.{frame_rate}
use Rattle.coord.specs.Programs as programs
use Rattle.coord.specs.Programs.{first_clip, frame_ticks, record_rate}
use Rattle.coord.proofs.FrameRates.{by_frames}
use Rattle.edits.specs.Finest.{rate_24}
use Rattle.edits.specs.After.{clip_rate, rate_of, frame_of}

span_rate : (o : Option Span) → frame_rate (unwrap_or (option_map (λ (s : Span). s.start.rate) o) rate_24) ≡ unwrap_or (option_map (λ (s : Span). frame_rate s.start.rate) o) programs.rate_24
span_rate None = refl
span_rate (Some s) = refl

first_rate : (o : Option ClipRow) → frame_rate (unwrap_or (option_and_then clip_rate o) rate_24) ≡ programs.clip_rate o
first_rate None = refl
first_rate (Some c) = span_rate (option_or (clip_range c) c.source_range)

pub rate_is : (t : Timeline) → frame_rate (rate_of t) ≡ record_rate t
rate_is t = of t.global_start_time
  where
    of : (o : Option Time) → frame_rate (elim o [ None ↦ unwrap_or (option_and_then clip_rate (first_clip t.tracks.children)) rate_24 | Some start ↦ start.rate ]) ≡ elim o [ None ↦ programs.clip_rate (first_clip t.tracks.children) | Some start ↦ frame_rate start.rate ]
    of None = first_rate (first_clip t.tracks.children)
    of (Some start) = refl

pub frame_is : (t : Timeline) → frame_of t ≡ pos (frame_ticks (record_rate t))
frame_is t = ap (λ r. pos (frame_ticks r)) (rate_is t)

-- a rate of the fraction that timelines show is the one at which their edits count
pub record_rate_is_one : (t : Timeline) (a : Rate) → frame_rate a ≡ record_rate t → a ≡ rate_of t
record_rate_is_one t a e = by_frames a (rate_of t) (e ∙ sym (rate_is t))
