use Rattle.flat_law.proofs.Built.{given_same, given_one, one_grows, leaves_all, leaves_rest, leaves_none}
use Rattle.flat_law.proofs.laws.stretches_are_built.Goals as goal

pub returns : goal.returns
returns c = record { same = given_same; one = given_one; grows = one_grows; begins = leaves_all; goes_on = leaves_rest; ends = leaves_none }
