-- The seat that was found, in whole numbers.
use Rattle.std.proofs.Common.{arith, subst, FitsSigned, to_z-of_z}
use Rattle.std.specs.Int.{w128}
use Rattle.std.proofs.lemmas.Int.{ints}
use Rattle.otio_model.specs.Seeks.{Holds, lens}
use Rattle.otio_model.specs.Trees.{items_of}
use Rattle.otio_model.proofs.LengthLimits.{short_enough, few_enough}
use Rattle.otio_model.proofs.SeekLemmas.{seated, outside}
use Rattle.otio_model.proofs.lists.Children.seek.Goals as goal

pub find-requires-clause-fits : goal.find-requires-clause-fits
find-requires-clause-fits g c = short_enough c.args.self.now c.requires.few

pub find-requires-clause-few : goal.find-requires-clause-few
find-requires-clause-few g c = few_enough c.args.self.now c.requires.few

pub returns-in-Some-clause-found : goal.returns-in-Some-clause-found
returns-in-Some-clause-found g c =
    let fits : FitsSigned w128 c.args.ticks = c.ranges.ticks in
    let value = simp to_z-of_z at c.unsigned_abs.ensures.value in
    let found = subst (λ at. Holds (lens (items_of c.args.self.now))
    at c.in-Some.index c.in-Some.start) value c.in-Some.ensures.found in
    seated c.args.self.now c.args.ticks c.in-Some.index c.in-Some.start c.starting_at.result
    (omega (arith, ints, c.if-ticks-lt0.false))
    found c.starting_at.ensures.index c.starting_at.ensures.start

pub returns-in-None-clause-none : goal.returns-in-None-clause-none
returns-in-None-clause-none g c =
    let fits : FitsSigned w128 c.args.ticks = c.ranges.ticks in
    let value = simp to_z-of_z at c.unsigned_abs.ensures.value in
    outside c.args.self.now c.args.ticks c.unsigned_abs.result value c.in-None.ensures.none
