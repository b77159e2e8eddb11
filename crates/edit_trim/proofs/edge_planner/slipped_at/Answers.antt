use Rattle.otio_model.specs.Trees.{items_of}
use Rattle.std.proofs.lemmas.Int.{to_z-of_z}
use Rattle.edit_trim.proofs.PutEdges.{slip_far, slip_made}
use Rattle.edit_trim.proofs.edge_planner.slipped_at.Goals as goal

pub changed-requires-clause-item : goal.changed-requires-clause-item
changed-requires-clause-item c = c.requires.faultless c.args.seat.index c.child-item.result.now
    c.child-item.ensures

pub returns-in-Ok-clause-made : goal.returns-in-Ok-clause-made
returns-in-Ok-clause-made c =
    let by = c.ranges.by in
    slip_made c.args.making.rate c.args.by (items_of c.args.children.now) c.args.seat
    c.child-item.result.now c.in-Ok.put.items c.child-item.ensures
    (simp to_z-of_z at c.in-Ok.ensures.made)

pub returns-in-Err-clause-far : goal.returns-in-Err-clause-far
returns-in-Err-clause-far c =
    let by = c.ranges.by in
    λ e. slip_far c.args.by (items_of c.args.children.now) c.args.seat c.child-item.result.now
    c.child-item.ensures ((simp to_z-of_z at c.in-Err.ensures.far) e)
