-- The frame at which edits count.
use Rattle.std.proofs.Common.{◌≡◌, refl, ℤ, ap, ◌∙◌, pos, true, [], None, Some, arith}
use Rattle.std.proofs.lemmas.Int.{ints}
use Rattle.std.proofs.Math.Nat.{zero-mod}
use Rattle.tick_time.specs.Rates.{frame, unit}
use Rattle.tick_time.specs.declared.rates.Rate.{Rate}
use Rattle.tick_time.specs.declared.times.Time.{Time}
use Rattle.tick_time.proofs.SameValues.{built_time}
use Rattle.otio_model.specs.declared.timelines.Timeline.{Timeline}
use Rattle.otio_model.specs.Trees.{listed}
use Rattle.edits.specs.After.{frame_of, rate_of}

pub frame_is_of : (a : Rate) (z : ℤ) → z ≡ pos (frame a.num a.den) → (t : Timeline) → a ≡ rate_of t
    → z ≡ frame_of t
frame_is_of a z e t f = e ∙ ap (λ (r : Rate). pos (frame r.num r.den)) f

-- instant 0 at a rate
abbrev first_instant : Rate → Time
first_instant rate = built_time (pos 0) rate
    (omega (arith, ints), omega (arith, ints), zero-mod (unit rate.num rate.den))

-- a timeline without tracks that starts at 0
abbrev empty_timeline : Rate → Timeline
empty_timeline rate = record {
  metadata = [];
  name = [];
  global_start_time = Some (first_instant rate);
  tracks = record {
    metadata = [];
    source_range = None;
    effects = [];
    name = [];
    markers = [];
    enabled = true;
    children = listed [];
    rest = [];
  };
  rest = [];
  spare = record { room = 0; taken = 0; loose = 0 };
}

-- the record rate is that of the start
pub record_rate-of_start : (rate : Rate) → (t : Timeline) × (rate ≡ rate_of t)
record_rate-of_start rate = (empty_timeline rate, refl)
