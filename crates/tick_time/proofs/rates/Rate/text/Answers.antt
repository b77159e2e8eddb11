use Rattle.std.proofs.Common.{◌∙◌, FitsSigned, rules, w64}
use Rattle.std.proofs.lemmas.Int.{to_z-of_z}
use mir.Syntax.{w128}
use Rattle.tick_time.proofs.Rereadings.{relative_reads_of, spelled_reads, den_is, den_is_not}
use Rattle.tick_time.proofs.RateBounds.{num_low}
use Rattle.tick_time.proofs.rates.Rate.text.Goals as goal

pub returns-then-self-eq1001-clause-reads : goal.returns-then-self-eq1001-clause-reads
returns-then-self-eq1001-clause-reads c =
    let num : FitsSigned w64 c.args.self.now.num = search rules in
    let text = simp to_z-of_z at c.relative_text_of.ensures.text in
    relative_reads_of c.text_of.result.bytes c.args.self.now.num c.args.self.now.den c.args.self.now.given (den_is c.args.self.now.den 1001 c.args.self.now.positive c.if-self-eq1001.true) (c.text_of.ensures ∙ text)

pub returns-else-self-eq1001-clause-reads : goal.returns-else-self-eq1001-clause-reads
returns-else-self-eq1001-clause-reads c =
    let num : FitsSigned w64 c.args.self.now.num = search rules in
    let den : FitsSigned w64 c.args.self.now.den = search rules in
    let size : FitsSigned w128 c.rate_size.result = search rules in
    let value = simp to_z-of_z at c.rate_size.ensures.value in
    let text = simp to_z-of_z at c.millionths_text.ensures in
    spelled_reads c.millionths_text.result.bytes c.args.self.now.num c.args.self.now.den (rw value at text) c.args.self.now.given c.args.self.now.lowest (den_is_not c.args.self.now.den 1001 c.args.self.now.positive c.if-self-eq1001.false)

pub relative_text_of-requires : goal.relative_text_of-requires
relative_text_of-requires c =
    let num : FitsSigned w64 c.args.self.now.num = search rules in
    simp to_z-of_z (num_low c.args.self.now.num c.args.self.now.den c.args.self.now.positive
    c.args.self.now.at_least_one)

pub rate_size-requires-clause-num_low : goal.rate_size-requires-clause-num_low
rate_size-requires-clause-num_low c =
    let num : FitsSigned w64 c.args.self.now.num = search rules in
    simp to_z-of_z (num_low c.args.self.now.num c.args.self.now.den c.args.self.now.positive
    c.args.self.now.at_least_one)

pub rate_size-requires-clause-num_high : goal.rate_size-requires-clause-num_high
rate_size-requires-clause-num_high c =
    let num : FitsSigned w64 c.args.self.now.num = search rules in
    simp to_z-of_z c.args.self.now.small_num

pub rate_size-requires-clause-den_low : goal.rate_size-requires-clause-den_low
rate_size-requires-clause-den_low c =
    let den : FitsSigned w64 c.args.self.now.den = search rules in
    simp to_z-of_z c.args.self.now.positive

pub rate_size-requires-clause-den_high : goal.rate_size-requires-clause-den_high
rate_size-requires-clause-den_high c =
    let den : FitsSigned w64 c.args.self.now.den = search rules in
    simp to_z-of_z c.args.self.now.small_den

pub millionths_text-requires : goal.millionths_text-requires
millionths_text-requires c =
    let size : FitsSigned w128 c.rate_size.result = search rules in
    simp to_z-of_z c.rate_size.ensures.small
