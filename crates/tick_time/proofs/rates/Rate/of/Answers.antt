use Rattle.std.proofs.Common.{FitsSigned, rules, refl, ap, unsigned_abs}
use Rattle.std.proofs.lemmas.Int.{to_z-of_z}
use mir.Syntax.{w128}
use Rattle.tick_time.specs.Rates.{relative, spelled}
use Rattle.tick_time.proofs.SpelledRates.{far_none, none_given, gives, given, near_at, apart_at}
use Rattle.tick_time.proofs.Negatives.{negative_none}
use Rattle.tick_time.proofs.rates.Rate.of.Goals as goal

pub returns-in-None-clause-fault : goal.returns-in-None-clause-fault
returns-in-None-clause-fault c =
    let fits : FitsSigned w128 c.args.d.now.exp = search rules in
    (refl, λ num den g. far_none c.args.d.now.digits c.args.d.now.exp _ _ c.args.d.now.short (simp to_z-of_z at c.in-None.ensures) (given c.args.d.now.neg c.args.d.now.digits c.args.d.now.exp num den c.if-d.false g))

pub returns-in-Some-near_count-clause-rate : goal.returns-in-Some-near_count-clause-rate
returns-in-Some-near_count-clause-rate c =
    let fits : FitsSigned w128 c.args.d.now.exp = search rules in
    let parts = simp to_z-of_z at c.in-Some.ensures in
    gives c.args.d.now.neg c.args.d.now.digits c.args.d.now.exp _ _ c.if-d.false
    (relative c.in-Some-near_count.count c.in-Some-near_count.ensures.0 (near_at _ _ _ _ _ parts.0 parts.1 c.in-Some-near_count.ensures.1)
    (ap unsigned_abs c.relative_rate.ensures.num) (ap unsigned_abs c.relative_rate.ensures.den))

pub returns-in-None-spelled_rate-clause-fault : goal.returns-in-None-spelled_rate-clause-fault
returns-in-None-spelled_rate-clause-fault c =
    let fits : FitsSigned w128 c.args.d.now.exp = search rules in
    let parts = simp to_z-of_z at c.in-Some.ensures in
    let none = simp to_z-of_z at c.in-None-spelled_rate.ensures in
    (refl, λ num den g. none_given _ _ _ _ (apart_at _ _ _ _ parts.0 parts.1 c.in-None-near_count.ensures) none (given c.args.d.now.neg c.args.d.now.digits c.args.d.now.exp num den c.if-d.false g))

pub ratio_of-requires-clause-low : goal.ratio_of-requires-clause-low
ratio_of-requires-clause-low c =
    let fits : FitsSigned w128 c.args.d.now.exp = search rules in
    simp to_z-of_z c.args.d.now.low

pub ratio_of-requires-clause-high : goal.ratio_of-requires-clause-high
ratio_of-requires-clause-high c =
    let fits : FitsSigned w128 c.args.d.now.exp = search rules in
    simp to_z-of_z c.args.d.now.high

pub relative_rate-requires : goal.relative_rate-requires
relative_rate-requires c = c.in-Some-near_count.ensures.0

pub spelled_rate-requires-clause-low : goal.spelled_rate-requires-clause-low
spelled_rate-requires-clause-low c =
    let fits : FitsSigned w128 c.args.d.now.exp = search rules in
    simp to_z-of_z c.args.d.now.low

pub spelled_rate-requires-clause-high : goal.spelled_rate-requires-clause-high
spelled_rate-requires-clause-high c =
    let fits : FitsSigned w128 c.args.d.now.exp = search rules in
    simp to_z-of_z c.args.d.now.high

pub spelled_rate-requires-clause-apart : goal.spelled_rate-requires-clause-apart
spelled_rate-requires-clause-apart c =
    let fits : FitsSigned w128 c.args.d.now.exp = search rules in
    let parts = simp to_z-of_z at c.in-Some.ensures in
    simp to_z-of_z (apart_at _ _ _ _ parts.0 parts.1 c.in-None-near_count.ensures)

pub returns-in-Some-spelled_rate-clause-rate : goal.returns-in-Some-spelled_rate-clause-rate
returns-in-Some-spelled_rate-clause-rate c =
    let fits : FitsSigned w128 c.args.d.now.exp = search rules in
    let parts = simp to_z-of_z at c.in-Some.ensures in
    gives c.args.d.now.neg c.args.d.now.digits c.args.d.now.exp _ _ c.if-d.false
    (spelled (apart_at _ _ _ _ parts.0 parts.1 c.in-None-near_count.ensures)
    (simp to_z-of_z at c.in-Some-spelled_rate.ensures))

pub returns-then-d-clause-fault : goal.returns-then-d-clause-fault
returns-then-d-clause-fault c = (
  refl,
  λ num den g. negative_none c.args.d.now.neg c.args.d.now.digits c.args.d.now.exp num den
      c.if-d.true c.args.d.now.unsigned_zero g,
)

pub near_count-requires : goal.near_count-requires
near_count-requires c = c.in-Some.ratio.positive

pub spelled_rate-requires-clause-last : goal.spelled_rate-requires-clause-last
spelled_rate-requires-clause-last c = c.args.d.now.last
