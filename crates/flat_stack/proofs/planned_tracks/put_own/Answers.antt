use Rattle.flat_stack.specs.Inputs.{inputs_of, slot_of}
use Rattle.flat_stack.specs.Portions.{portions_items}
use Rattle.flat_stack.proofs.PortionLemmas.{none_put, own_put}
use Rattle.flat_stack.proofs.planned_tracks.put_own.Goals as goal

pub own_track-requires : goal.own_track-requires
own_track-requires c =
    c.requires.parts c.args.index c.part_at.result.now c.part_at.ensures

pub returns-in_ok-push-in-Some : goal.returns-in_ok-push-in-Some
returns-in_ok-push-in-Some c = λ part e.
    own_put c.args.parts.now c.args.index c.in-Some.own.number c.part_at.result.now part
    (slot_of c.args.seat) c.args.all.now.items c.push.new.self.items c.part_at.ensures e
    c.in-Some.ensures.number c.in_ok-push-in-Some.ensures.items

pub returns-in-None : goal.returns-in-None
returns-in-None c = λ part e.
    none_put c.args.parts.now c.args.index c.part_at.result.now part (slot_of c.args.seat)
    (portions_items (inputs_of c.args.parts.now) c.args.all.now.items) c.part_at.ensures e
    c.in-None.ensures.none
