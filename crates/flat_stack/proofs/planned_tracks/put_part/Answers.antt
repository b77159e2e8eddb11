use Rattle.std.proofs.Common.{◌+◌, length, refl, sym, ◌∙◌}
use Rattle.flat_stack.specs.Inputs.{inputs_of, slot_of}
use Rattle.flat_stack.specs.Portions.{portions_items}
use Rattle.flat_stack.proofs.JoinedTracks.{put_more, put_last}
use Rattle.flat_stack.proofs.planned_tracks.put_part.Goals as goal

pub put_pad-requires : goal.put_pad-requires
put_pad-requires c = c.requires.parts c.args.index c.part_at.result.now c.part_at.ensures

pub returns-then-index-parts : goal.returns-then-index-parts
returns-then-index-parts c = λ part e.
    let inputs = inputs_of c.args.parts.now in
    put_more c.args.track.rate (slot_of c.args.track.seat) c.part_at.result.now part
    (c.args.index + 1) (length c.args.parts.now) (portions_items inputs c.args.all.now.items)
    (portions_items inputs c.put_own.new.all.items) (portions_items inputs c.put_pad.new.all.items)
    (sym c.part_at.ensures ∙ e) c.if-index-parts.true
    (c.in_ok-put_own.ensures c.part_at.result.now c.part_at.ensures)
    (c.in_ok-put_pad.ensures inputs)

pub returns : goal.returns
returns c = λ part e.
    let inputs = inputs_of c.args.parts.now in
    put_last c.args.track.rate (slot_of c.args.track.seat) part part (c.args.index + 1)
    (length c.args.parts.now) (portions_items inputs c.args.all.now.items)
    (portions_items inputs c.put_own.new.all.items) refl c.if-index-parts.false
    (c.in_ok-put_own.ensures part e)
