use Rattle.otio_model.specs.Trees.{items_of}
use Rattle.flat_stack.proofs.PieceLemmas.{put_last, put_inside}
use Rattle.flat_stack.proofs.flattening.with_flat.Goals as goal

pub returns-then-place : goal.returns-then-place
returns-then-place c = put_last c.args.kind.now c.args.flat (items_of c.args.children.now) c.in_ok-all.all.items c.args.place.keep c.if-place.true c.in_ok-all.ensures

pub returns : goal.returns
returns c = put_inside c.args.kind.now c.args.flat (items_of c.args.children.now) c.in_ok-all-2.all.items c.args.place.keep c.if-place.false c.in_ok-all-2.ensures
