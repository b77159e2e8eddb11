-- What stays at both ends of the zone, and what is put between them.
use Rattle.std.proofs.Common.{refl, drop, take}
use Rattle.otio_model.specs.Trees.{items_of}
use Rattle.edits.specs.Cuts.{strip}
use Rattle.edit_plans.proofs.ZoneLemmas.{between_made, far_as, few_as, front_far, made_as, there_as}
use Rattle.edit_plans.proofs.replaced_children.fill_zone.Goals as goal

pub zone_front-requires-clause-there : goal.zone_front-requires-clause-there
zone_front-requires-clause-there c =
    let t = c.touched_stretch.ensures in
    there_as (items_of c.args.children.now) _ _ c.touched_stretch.result.0.at
    c.touched_stretch.result.0.count t.at t.count

pub zone_back-requires-clause-there : goal.zone_back-requires-clause-there
zone_back-requires-clause-there c =
    let t = c.touched_stretch.ensures in
    there_as (items_of c.args.children.now) _ _ c.touched_stretch.result.0.at
    c.touched_stretch.result.0.count t.at t.count

pub returns-in-Err-clause-far : goal.returns-in-Err-clause-far
returns-in-Err-clause-far c = λ e n.
    let t = c.touched_stretch.ensures in
    let s = c.touched_stretch.result.0 in
    let i = c.touched_stretch.result.1 in
    let l = items_of c.args.children.now in
    let k = strip (take s.count (drop s.at l)) i.from i.to in
    far_as l k c.args.zone i s i.from i.to n t refl refl refl
    (front_far k i.from i.to i.from (c.in-Err.ensures.far e) refl n)

pub returns-in-Ok-joined-clause-made : goal.returns-in-Ok-joined-clause-made
returns-in-Ok-joined-clause-made c = λ n e.
    let t = c.touched_stretch.ensures in
    let s = c.touched_stretch.result.0 in
    let i = c.touched_stretch.result.1 in
    let l = items_of c.args.children.now in
    let k = strip (take s.count (drop s.at l)) i.from i.to in
    made_as c.args.rate l k c.args.zone i s i.from i.to c.in-Ok-joined.all.items n t refl refl refl
    (between_made c.args.rate k i.from i.to i.from i.to
    c.in-Ok.front.items c.args.put.items c.in-Ok-zone_back.back.items c.in-Ok-joined.all.items
    c.in-Ok.ensures.made c.in-Ok-zone_back.ensures c.in-Ok-joined.ensures refl refl n e)

pub returns-in-Ok-joined-clause-within : goal.returns-in-Ok-joined-clause-within
returns-in-Ok-joined-clause-within c =
    let t = c.touched_stretch.ensures in
    there_as (items_of c.args.children.now) _ _ c.touched_stretch.result.0.at
    c.touched_stretch.result.0.count t.at t.count

pub returns-in-Ok-joined-clause-few : goal.returns-in-Ok-joined-clause-few
returns-in-Ok-joined-clause-few c =
    let t = c.touched_stretch.ensures in
    let s = c.touched_stretch.result.0 in
    let i = c.touched_stretch.result.1 in
    let l = items_of c.args.children.now in
    let k = strip (take s.count (drop s.at l)) i.from i.to in
    few_as c.args.rate l k c.args.zone i s i.from i.to c.args.put.items c.in-Ok-joined.all.items t
    refl refl refl (λ n e. between_made c.args.rate k i.from i.to i.from i.to
    c.in-Ok.front.items c.args.put.items c.in-Ok-zone_back.back.items c.in-Ok-joined.all.items
    c.in-Ok.ensures.made c.in-Ok-zone_back.ensures c.in-Ok-joined.ensures refl refl n e)
