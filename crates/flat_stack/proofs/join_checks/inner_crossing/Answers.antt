use Rattle.std.proofs.Common.{arith, sym, []}
use Rattle.otio_model.specs.Trees.{items_of}
use Rattle.coord.proofs.Members.{got_below}
use Rattle.pieces.proofs.Inner.{inner_cuttable, inner_few, inner_short}
use Rattle.flat_stack.proofs.BlockLemmas.{none_apart, own_apart, own_crossing}
use Rattle.flat_stack.proofs.join_checks.inner_crossing.Goals as goal

pub first_crossing-requires-clause-few : goal.first_crossing-requires-clause-few
first_crossing-requires-clause-few c =
    inner_few c.args.item.now c.in-Some.children.now c.in-Some.ensures.there c.requires.few

pub first_crossing-requires-clause-cuttable : goal.first_crossing-requires-clause-cuttable
first_crossing-requires-clause-cuttable c =
    inner_cuttable c.args.item.now c.in-Some.children.now c.in-Some.ensures.there
    c.requires.faultless c.requires.few

pub returns-in-Some-first_crossing-clause-near : goal.returns-in-Some-first_crossing-clause-near
returns-in-Some-first_crossing-clause-near c =
    let u = c.in-Some-first_crossing.ensures.found in
    let k = got_below (items_of c.in-Some.children.now) c.in-Some-first_crossing.child u.item u.there in
    let m = inner_short c.args.item.now c.in-Some.children.now c.in-Some.ensures.there c.requires.few in
    omega (arith, k, m)

pub returns-in-Some-first_crossing-clause-some : goal.returns-in-Some-first_crossing-clause-some
returns-in-Some-first_crossing-clause-some c = λ l k e.
    own_crossing c.args.is_first c.args.is_last l k c.in-Some-first_crossing.child c.args.item.now
    (items_of c.in-Some.children.now) c.in-Some.ensures.some e c.requires.plain
    c.in-Some-first_crossing.ensures.found

pub returns-in-None-first_crossing-clause-none : goal.returns-in-None-first_crossing-clause-none
returns-in-None-first_crossing-clause-none c = λ l k e.
    own_apart c.args.is_first c.args.is_last l k c.args.item.now (items_of c.in-Some.children.now)
    c.in-Some.ensures.some e c.requires.plain c.in-None-first_crossing.ensures.none

pub returns-in-None-clause-none : goal.returns-in-None-clause-none
returns-in-None-clause-none c = λ l k e.
    own_apart c.args.is_first c.args.is_last l k c.args.item.now [] (sym c.in-None.ensures.none) e
    c.requires.plain (none_apart c.args.is_first c.args.is_last)
