use Rattle.std.proofs.Common.{inl, inr}
use Rattle.schema_tab.proofs.scalars.speed_of.Goals as goal

pub returns-in-Err : goal.returns-in-Err
returns-in-Err c = inr (c.in-Some.decimal, c.in-Some.ensures, c.in-Err.ensures.fault.1)

pub returns-in-Ok : goal.returns-in-Ok
returns-in-Ok c = (c.in-Some.decimal, c.in-Some.ensures, rw c.ranged.ensures.same c.in-Ok.ensures.speed, c.ranged.ensures.range)

pub returns-in-None : goal.returns-in-None
returns-in-None c = inl c.in-None.ensures
