use Rattle.std.proofs.Common.{refl}
use Rattle.coord.proofs.laws.dissolves_are_mixed.Goals as goal

pub returns : goal.returns
returns c = record {
  before = refl;
  begins = refl;
  mixed = refl;
  half = refl;
  ends = refl;
  behind = refl;
  same = refl;
}
