use Rattle.std.proofs.Common.{FitsSigned, ◌≡◌, pos, w64, rules}
use Rattle.std.proofs.lemmas.Int.{to_z-of_z}
use mir.Syntax.{w128}
use Rattle.tick_time.specs.Rates.{unit}
use Rattle.tick_time.proofs.Units.{unit_whole}
use Rattle.tick_time.proofs.RateBounds.{num_low, unit_low, unit_high}
use Rattle.tick_time.proofs.rates.Rate.unit.Goals as goal

pub unit_of-requires-clause-positive : goal.unit_of-requires-clause-positive
unit_of-requires-clause-positive c =
    let den : FitsSigned w64 c.args.self.now.den = search rules in
    simp to_z-of_z c.args.self.now.positive

pub unit_of-requires-clause-at_least_one : goal.unit_of-requires-clause-at_least_one
unit_of-requires-clause-at_least_one c =
    let num : FitsSigned w64 c.args.self.now.num = search rules in
    let den : FitsSigned w64 c.args.self.now.den = search rules in
    simp to_z-of_z c.args.self.now.at_least_one

pub unit_of-requires-clause-small : goal.unit_of-requires-clause-small
unit_of-requires-clause-small c =
    let den : FitsSigned w64 c.args.self.now.den = search rules in
    simp to_z-of_z c.args.self.now.small_den

pub returns-clause-value : goal.returns-clause-value
returns-clause-value c =
    let num : FitsSigned w64 c.args.self.now.num = search rules in
    let den : FitsSigned w64 c.args.self.now.den = search rules in
    let fits : FitsSigned w128 c.unit_of.result = search rules in
    let value : c.unit_of.result ≡ pos (unit c.args.self.now.num c.args.self.now.den) =
    simp to_z-of_z at c.unit_of.ensures in
    simp to_z-of_z value

pub returns-clause-positive : goal.returns-clause-positive
returns-clause-positive c =
    let num : FitsSigned w64 c.args.self.now.num = search rules in
    let den : FitsSigned w64 c.args.self.now.den = search rules in
    let fits : FitsSigned w128 c.unit_of.result = search rules in
    let value : c.unit_of.result ≡ pos (unit c.args.self.now.num c.args.self.now.den) =
    simp to_z-of_z at c.unit_of.ensures in
    simp to_z-of_z (rw value (unit_low c.args.self.now.num c.args.self.now.den
    c.args.self.now.positive c.args.self.now.at_least_one c.args.self.now.small_num))

pub returns-clause-small : goal.returns-clause-small
returns-clause-small c =
    let num : FitsSigned w64 c.args.self.now.num = search rules in
    let den : FitsSigned w64 c.args.self.now.den = search rules in
    let fits : FitsSigned w128 c.unit_of.result = search rules in
    let value : c.unit_of.result ≡ pos (unit c.args.self.now.num c.args.self.now.den) =
    simp to_z-of_z at c.unit_of.ensures in
    simp to_z-of_z (rw value (unit_high c.args.self.now.num c.args.self.now.den
    c.args.self.now.positive c.args.self.now.at_least_one))

pub returns-clause-whole : goal.returns-clause-whole
returns-clause-whole c =
    let num : FitsSigned w64 c.args.self.now.num = search rules in
    let den : FitsSigned w64 c.args.self.now.den = search rules in
    let fits : FitsSigned w128 c.unit_of.result = search rules in
    let value : c.unit_of.result ≡ pos (unit c.args.self.now.num c.args.self.now.den) =
    simp to_z-of_z at c.unit_of.ensures in
    let some = num_low c.args.self.now.num c.args.self.now.den c.args.self.now.positive
    c.args.self.now.at_least_one in
    simp to_z-of_z (rw value (unit_whole c.args.self.now.num c.args.self.now.den
    c.args.self.now.positive some c.args.self.now.whole))
