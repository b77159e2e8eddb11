use Rattle.std.proofs.Common.{◌≡◌, rules, Some, None}
use Rattle.otio_model.specs.Trees.{children_of, items_of}
use Rattle.coord.proofs.Members.{got_below}
use Rattle.flat_stack.proofs.RefusalLemmas.{root_is, child_at, child_below, track_some}
use Rattle.flat_stack.proofs.refusals.item_at.Goals as goal

pub child-requires : goal.child-requires
child-requires c = record {
  there =
      (let at = c.requires.1 in got_below (items_of c.args.children.now) c.args.track at.root at.there);
}

pub child-requires-in-Some : goal.child-requires-in-Some
child-requires-in-Some c =
    let e : children_of c.child.result.now ≡ Some c.in-Some.inner.now = first_of (cc (c.in-Some.ensures), search rules) in
    record { there = child_below (items_of c.args.children.now) c.args.track c.args.child c.requires.0 c.child.result.now c.in-Some.inner.now c.requires.1 c.child.ensures e }

pub returns : goal.returns
returns c =
    let e : children_of c.child.result.now ≡ Some c.in-Some.inner.now = first_of (cc (c.in-Some.ensures), search rules) in
    child_at (items_of c.args.children.now) c.args.track c.args.child c.requires.0 c.child-in-Some.result.now c.child.result.now c.in-Some.inner.now c.requires.1 c.child.ensures e c.child-in-Some.ensures

pub unreachable-requires : goal.unreachable-requires
unreachable-requires c =
    let e : children_of c.child.result.now ≡ None = first_of (cc (c.in-None.ensures), search rules) in
    track_some c.child.result.now (root_is (items_of c.args.children.now) c.args.track c.args.child c.requires.0 c.child.result.now c.requires.1 c.child.ensures).0 e
