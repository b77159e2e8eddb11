use Rattle.std.proofs.Common.{refl, arith}
use Rattle.tick_time.proofs.ratios.near_count.Goals as goal

pub returns-then-is_near_count-3 : goal.returns-then-is_near_count-3
returns-then-is_near_count-3 c = ((2, omega arith, refl), cc)

pub returns-then-is_near_count-4 : goal.returns-then-is_near_count-4
returns-then-is_near_count-4 c = ((3, omega arith, refl), cc)

pub returns-then-is_near_count-5 : goal.returns-then-is_near_count-5
returns-then-is_near_count-5 c = ((4, omega arith, refl), cc)

pub returns-then-is_near_count-6 : goal.returns-then-is_near_count-6
returns-then-is_near_count-6 c = ((5, omega arith, refl), cc)
