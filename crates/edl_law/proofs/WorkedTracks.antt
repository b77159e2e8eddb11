-- What is worked out by hand of small tracks at 24 frames a second.
use Rattle.std.proofs.Common.{◌≡◌, refl, ℕ, pos, ◌≤ℤ◌, true, arith}
use Rattle.std.specs.Prelude.{nat_le}
use Rattle.std.proofs.lemmas.Int.{ints}
use Rattle.limits.specs.Limits.{most_ticks}
use Rattle.tick_time.specs.Times.{IsWhole}
use Rattle.tick_time.specs.Rates.{unit}
use Rattle.coord.specs.Worked.{frames}
use Rattle.edl_frames.specs.Jobs.{tenths_of}
use Rattle.edl_law.specs.WorkedTracks.{Clock24, AreWorkedTracks}
use Rattle.edl_law.proofs.WorkedLists.{facts_24}

whole_frames : (n : ℕ) → IsWhole (pos (frames n)) (unit (pos 24) (pos 1))
whole_frames n = omega (arith, ints)

high_frames : (n : ℕ) → nat_le n 1000 ≡ true → pos (frames n) ≤ℤ pos most_ticks
high_frames n few = grind (arith, ints)

pub clock_24 : Clock24
clock_24 = record {
  facts = facts_24;
  timed = λ n few. (omega (arith, ints), high_frames n few, whole_frames n);
  forward = λ n. omega (arith, ints);
}

pub tracks_worked : (c : Clock24) → AreWorkedTracks c
unfolding tenths_of
tracks_worked c = record {
  pair = refl;
  black = refl;
  sped = refl;
  phase = refl;
  tenths = refl;
  no_reel = refl;
  second_video = refl;
  gap = refl;
  unlisted_clip = refl;
  disabled_clip = refl;
  disabled_track = refl;
  long_reel = refl;
  wide_reel = refl;
}
