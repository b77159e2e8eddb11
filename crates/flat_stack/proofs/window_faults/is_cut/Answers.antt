use Rattle.std.proofs.Common.{arith, FitsSigned, ◌-ℤ◌}
use mir.Syntax.{w128}
use Rattle.std.proofs.lemmas.Int.{to_z-of_z, ints}
use Rattle.flat.specs.Pieces.{cuts_at}
use Rattle.flat_stack.proofs.WindowFaults.{both_tests, first_test}
use Rattle.flat_stack.proofs.window_faults.is_cut.Goals as goal

pub returns-then-cuts_at : goal.returns-then-cuts_at
returns-then-cuts_at c =
    let fits_at = c.ranges.at in
    let fits_from = c.ranges.from in
    let fits_to = c.ranges.to in
    let fits_first : FitsSigned w128 (c.args.from -ℤ c.args.at) = omega (arith, ints, c.requires.low, c.requires.high, c.requires.from_low, c.requires.from_high) in
    let fits_last : FitsSigned w128 (c.args.to -ℤ c.args.at) = omega (arith, ints, c.requires.low, c.requires.high, c.requires.to_low, c.requires.to_high) in
    let first = simp to_z-of_z at c.cuts_at.ensures in
    let last = simp to_z-of_z at c.cuts_at-then-cuts_at.ensures in
    both_tests c.cuts_at-then-cuts_at.result c.cuts_at.result (cuts_at c.args.item.now (c.args.from -ℤ c.args.at)) (cuts_at c.args.item.now (c.args.to -ℤ c.args.at)) first c.if-cuts_at.true last

pub returns-else-cuts_at : goal.returns-else-cuts_at
returns-else-cuts_at c =
    let fits_at = c.ranges.at in
    let fits_from = c.ranges.from in
    let fits_first : FitsSigned w128 (c.args.from -ℤ c.args.at) = omega (arith, ints, c.requires.low, c.requires.high, c.requires.from_low, c.requires.from_high) in
    let first = simp to_z-of_z at c.cuts_at.ensures in
    first_test c.cuts_at.result (cuts_at c.args.item.now (c.args.from -ℤ c.args.at)) (cuts_at c.args.item.now (c.args.to -ℤ c.args.at)) first c.if-cuts_at.false
