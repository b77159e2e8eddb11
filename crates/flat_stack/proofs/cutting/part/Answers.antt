use Rattle.std.proofs.Common.{ap, ◌∙◌}
use Rattle.std.specs.Prelude.{option_and_then}
use Rattle.std.proofs.lemmas.Int.{to_z-of_z}
use Rattle.flat.specs.Pieces.{from_on}
use Rattle.flat_stack.proofs.PartLemmas.{front_of}
use Rattle.flat_stack.proofs.cutting.part.Goals as goal

pub from_on-requires-clause-cuttable : goal.from_on-requires-clause-cuttable
from_on-requires-clause-cuttable c =
    let fits = c.ranges.to in
    let made = simp to_z-of_z at c.in_ok-front.ensures in
    (front_of c.args.rate c.args.item.now c.in_ok-front.front c.args.from c.args.to c.requires.cuttable c.requires.low c.requires.wide c.requires.high c.requires.first made).cuttable

pub from_on-requires-clause-high : goal.from_on-requires-clause-high
from_on-requires-clause-high c =
    let fits = c.ranges.to in
    let fits_from = c.ranges.from in
    let made = simp to_z-of_z at c.in_ok-front.ensures in
    simp to_z-of_z ((front_of c.args.rate c.args.item.now c.in_ok-front.front c.args.from c.args.to c.requires.cuttable c.requires.low c.requires.wide c.requires.high c.requires.first made).high)

pub from_on-requires-clause-whole : goal.from_on-requires-clause-whole
from_on-requires-clause-whole c =
    let fits = c.ranges.to in
    let fits_from = c.ranges.from in
    let made = simp to_z-of_z at c.in_ok-front.ensures in
    simp to_z-of_z ((front_of c.args.rate c.args.item.now c.in_ok-front.front c.args.from c.args.to c.requires.cuttable c.requires.low c.requires.wide c.requires.high c.requires.first made).whole)

pub returns : goal.returns
returns c =
    let fits = c.ranges.to in
    let fits_from = c.ranges.from in
    let made = simp to_z-of_z at c.in_ok-front.ensures in
    let back = simp to_z-of_z at c.in_ok-part.ensures in
    ap (option_and_then (from_on c.args.rate c.args.from)) made ∙ back
