-- What is worked out by hand is what the definitions give.
use Rattle.std.proofs.Common.{refl}
use Rattle.std.specs.Fmt.{digits}
use Rattle.tick_time.specs.Texts.{decimals_of}
use Rattle.show_prog.specs.Worked.{AreListingsWorked}

pub listings-are_worked : AreListingsWorked
unfolding digits decimals_of
listings-are_worked = record {
  tracks = refl;
  clips = refl;
  media = refl;
  counts = refl;
  whole_rate = refl;
  half_rate = refl;
  slowed_rate = refl;
}
