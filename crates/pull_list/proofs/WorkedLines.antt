-- What was worked out by hand is what the definitions give.
use Rattle.std.proofs.Common.{refl}
use Rattle.std.specs.Fmt.{digits}
use Rattle.tick_time.specs.Texts.{decimals_of}
use Rattle.pull_list.specs.Worked.{ArePullsWorked}

pub pull_lines-are_worked : ArePullsWorked
unfolding digits decimals_of
pull_lines-are_worked = record {
  lines = refl;
  before_zero = refl;
  rounded_up = refl;
}
