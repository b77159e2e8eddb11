use Rattle.std.proofs.Common.{FitsSigned, ◌≡◌, subst, to_z, of_z, ◌-ℤ◌, ◌<ℤ◌, arith}
use Rattle.std.specs.Int.{w64}
use Rattle.std.proofs.lemmas.Int.{ints, to_z-of_z}
use Rattle.edl_frames.specs.Conformed.{IsGap}
use Rattle.edl_conform.proofs.ItemSteps.{adds_no_space, adds_space}
use Rattle.edl_conform.proofs.items_from_events.put_space.Goals as goal

pub gap_of-requires-clause-count : goal.gap_of-requires-clause-count
gap_of-requires-clause-count c =
    let a : FitsSigned w64 c.args.at = c.ranges.at in
    let b : FitsSigned w64 c.args.to = c.ranges.to in
    let low = c.requires.gap.low in
    let gap : FitsSigned w64 (c.args.to -ℤ c.args.at) =
    omega (arith, ints, low, c.requires.gap.high) in
    simp to_z-of_z low

pub gap_of-requires-clause-lasts : goal.gap_of-requires-clause-lasts
gap_of-requires-clause-lasts c =
    let a : FitsSigned w64 c.args.at = c.ranges.at in
    let b : FitsSigned w64 c.args.to = c.ranges.to in
    let gap : FitsSigned w64 (c.args.to -ℤ c.args.at) =
    omega (arith, ints, c.requires.gap.low, c.requires.gap.high) in
    simp to_z-of_z c.requires.gap.range

pub returns-in_ok-push : goal.returns-in_ok-push
returns-in_ok-push c =
    let a = c.ranges.at in
    let b = c.ranges.to in
    let low = c.requires.gap.low in
    let high = c.requires.gap.high in
    let test = c.if-at-to.true in
    let cast : to_z w64 (of_z w64 (to_z w64 (of_z w64 c.args.to) -ℤ to_z w64 (of_z w64 c.args.at)))
    ≡ c.args.to -ℤ c.args.at = omega (arith, ints, a, b, low, high) in
    let less : c.args.at <ℤ c.args.to = omega (arith, ints, a, b, test) in
    let gap = subst (λ n. IsGap c.args.rate n c.gap_of.result) cast c.gap_of.ensures in
    adds_space c.args.rate c.args.at c.args.to c.gap_of.result c.args.items.now.items
    c.push.new.self.items less gap c.in_ok-push.ensures.items

pub returns-else-at-to : goal.returns-else-at-to
returns-else-at-to c =
    let a = c.ranges.at in
    let b = c.ranges.to in
    let later = c.requires.later in
    let test = c.if-at-to.false in
    adds_no_space c.args.rate c.args.at c.args.to c.args.items.now.items
    (omega (arith, ints, a, b, later, test))
