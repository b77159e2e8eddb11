use Rattle.std.proofs.Common.{arith, sym, subst}
use Rattle.std.specs.Prelude.{IfSome}
use Rattle.otio_model.specs.Trees.{items_of}
use Rattle.otio_model.proofs.LengthLimits.{few_enough}
use Rattle.edit_trim.specs.Changes.{Leaves}
use Rattle.edit_trim.specs.Retimes.{children_in}
use Rattle.edit_trim.proofs.PutEdges.{last_leaves}
use Rattle.edit_trim.proofs.Ranges.{in_stretch, last_far, last_kept, last_ranged, last_within}
use Rattle.edit_trim.proofs.Ranges.{own_long}
use Rattle.edit_trim.proofs.retimes.last_ranges.Goals as goal

pub overflow_add-stretch : goal.overflow_add-stretch
overflow_add-stretch c =
    let k = last_within (items_of c.args.children.now) c.args.stretch c.in-Some.index
    c.requires.there c.in-Some.ensures.some in
    omega (arith, k, few_enough c.args.children.now c.requires.few, c.requires.there)

pub child-requires : goal.child-requires
child-requires c =
    let k = last_within (items_of c.args.children.now) c.args.stretch c.in-Some.index
    c.requires.there c.in-Some.ensures.some in
    omega (arith, k, c.requires.there)

pub new_source-requires-clause-item : goal.new_source-requires-clause-item
new_source-requires-clause-item c = c.requires.faultless _ c.child.result.now c.child.ensures

pub new_source-requires-clause-leaves : goal.new_source-requires-clause-leaves
new_source-requires-clause-leaves c =
    let k = last_within (items_of c.args.children.now) c.args.stretch c.in-Some.index
    c.requires.there c.in-Some.ensures.some in
    subst (λ o. IfSome o (Leaves c.args.change)) (in_stretch (items_of c.args.children.now) c.args.stretch c.in-Some.index c.child.result.now
    k c.child.ensures)
    (last_leaves c.args.change (children_in c.args.stretch (items_of c.args.children.now)) c.in-Some.index
    c.in-Some.ensures.some c.requires.leaves)

pub with_range-requires : goal.with_range-requires
with_range-requires c =
    let k = last_within (items_of c.args.children.now) c.args.stretch c.in-Some.index
    c.requires.there c.in-Some.ensures.some in
    let n = own_long (items_of c.args.children.now) c.args.stretch c.in-Ok.own.items
    c.requires.there c.in-Ok.ensures in
    omega (arith, k, n)

pub returns-in-None-clause-made : goal.returns-in-None-clause-made
returns-in-None-clause-made c = last_kept c.args.making.rate c.args.change
    (children_in c.args.stretch (items_of c.args.children.now)) c.in-Ok.own.items c.in-Ok.ensures
    c.in-None.ensures.none

pub returns-in-Ok-new_source-clause-made : goal.returns-in-Ok-new_source-clause-made
returns-in-Ok-new_source-clause-made c =
    let k = last_within (items_of c.args.children.now) c.args.stretch c.in-Some.index
    c.requires.there c.in-Some.ensures.some in
    last_ranged c.args.making.rate c.args.change
    (children_in c.args.stretch (items_of c.args.children.now)) c.in-Some.index c.child.result.now
    c.in-Ok-new_source.range c.in-Ok.own.items c.with_range.result.items c.in-Some.ensures.some
    (in_stretch (items_of c.args.children.now) c.args.stretch c.in-Some.index c.child.result.now
    k c.child.ensures)
    c.in-Ok-new_source.ensures.made c.in-Ok-new_source.ensures.kept c.in-Ok.ensures
    c.with_range.ensures

pub returns-in-Err-new_source-clause-far : goal.returns-in-Err-new_source-clause-far
returns-in-Err-new_source-clause-far c = λ _.
    let k = last_within (items_of c.args.children.now) c.args.stretch c.in-Some.index
    c.requires.there c.in-Some.ensures.some in
    last_far c.args.change (children_in c.args.stretch (items_of c.args.children.now)) c.in-Some.index
    c.child.result.now c.in-Some.ensures.some
    (in_stretch (items_of c.args.children.now) c.args.stretch c.in-Some.index c.child.result.now
    k c.child.ensures)
    c.in-Err-new_source.ensures.far
