-- The record rate as a rate.
use Rattle.std.proofs.Common.{◌≡◌, sym, ◌∙◌}
use Rattle.tick_time.specs.declared.rates.Rate.{Rate}
use Rattle.otio_model.specs.declared.timelines.Timeline.{Timeline}
use Rattle.coord.specs.Keys.{frame_rate}
use Rattle.coord.specs.Programs.{record_rate}
use Rattle.edits.specs.After.{rate_of}
use Rattle.edits.proofs.RecordRates.{rate_is}
use Rattle.coord.proofs.FrameRates.{by_frames}

pub flat_rate_is : (t : Timeline) (a : Rate) → frame_rate a ≡ record_rate t → a ≡ rate_of t
flat_rate_is t a e = by_frames a (rate_of t) (e ∙ sym (rate_is t))
