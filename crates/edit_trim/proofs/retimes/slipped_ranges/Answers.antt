use Rattle.std.proofs.Common.{ap₂, ◌∙◌, ◌++◌, ◌∷◌, refl}
use Rattle.std.proofs.lemmas.Int.{to_z-of_z}
use Rattle.otio_model.specs.Trees.{items_of}
use Rattle.edit_trim.proofs.EvenShapes.{slip_is}
use Rattle.edit_trim.proofs.PutEdges.{slip_far}
use Rattle.edit_trim.proofs.retimes.slipped_ranges.Goals as goal

pub new_source-requires-clause-item : goal.new_source-requires-clause-item
new_source-requires-clause-item c = c.requires.faultless c.args.seat.index c.child.result.now
    c.child.ensures

pub returns-in-Ok-joined-clause-made : goal.returns-in-Ok-joined-clause-made
returns-in-Ok-joined-clause-made c =
    let by = c.ranges.by in
    slip_is c.args.making.rate c.args.by (items_of c.args.children.now) c.args.seat
    c.child.result.now c.in-Ok.range
    (record { at = c.args.seat.index; ranges = c.in-Ok-joined.ranges }) refl
    (c.in-Ok-joined.ensures.made ∙ ap₂ (λ a b. a ++ (c.in-Ok.range ∷ b)) c.new-none.ensures.items
    c.new.ensures.items)
    c.child.ensures c.requires.there (simp to_z-of_z at c.in-Ok.ensures.made) c.in-Ok.ensures.kept

pub returns-in-Err-clause-far : goal.returns-in-Err-clause-far
returns-in-Err-clause-far c =
    let by = c.ranges.by in
    λ _. slip_far c.args.by (items_of c.args.children.now) c.args.seat c.child.result.now
    c.child.ensures (simp to_z-of_z at c.in-Err.ensures.far)
