use Rattle.std.proofs.Common.{ap, sym, ◌∙◌, arith}
use Rattle.dev_io.proofs.BufferLemmas.{puts_as}
use Rattle.dev_io.proofs.Leaving.{leaves_all, leaves_as, leaves_then, leaves_end}
use Rattle.otio_model.specs.Falls.{child_counts}
use Rattle.otio_model.specs.Trees.{items_of}
use Rattle.show_prog.specs.Places.{place_of}
use Rattle.show_prog.specs.Spots.{spots_of}
use Rattle.show_prog.specs.ListingTexts.{spot_lines}
use Rattle.show_prog.proofs.SpotLemmas.{lines_first, lines_next, lines_end, lines_below, lines_clip}
use Rattle.show_prog.proofs.clip_rows.+clips.Goals as goal

pub put_clips-children-init : goal.put_clips-children-init
put_clips-children-init g t c =
    leaves_as (lines_first c.args.told (place_of c.args.way.now) c.args.children.now) (leaves_all _ _)

pub put_clips-put_item-requires : goal.put_clips-put_item-requires
put_clips-put_item-requires g t c κs within =
    let fewer = child_counts c.args.children.now c.children.index c.child.result.now c.child.ensures in
    (omega (arith, c.decreases, fewer), within)

pub put_clips-children-preserved : goal.put_clips-children-preserved
put_clips-children-preserved g t c =
    let way = place_of c.args.way.now in
    let found = spots_of c.child.result.now in
    leaves_then (leaves_as (lines_next c.args.told way (items_of c.args.children.now)
    c.children.index c.child.result.now c.child.ensures) c.children.invariant)
    (puts_as _ (rw c.child_way.ensures at c.put_item.ensures)
    (lines_below c.args.told way c.children.index found))

pub put_clips-returns : goal.put_clips-returns
put_clips-returns g t c =
    leaves_end (leaves_as (lines_end c.args.told (place_of c.args.way.now) (items_of c.args.children.now)
    c.children.index (omega (arith, c.len-index-end.ensures))) c.children.invariant)

pub put_item-returns-in-Clip : goal.put_item-returns-in-Clip
put_item-returns-in-Clip g t c =
    let way = place_of c.args.way.now in
    puts_as _ c.put_clip.ensures
    (lines_clip c.args.told way c.in-Clip.clip
    ∙ ap (λ x. spot_lines c.args.told way (spots_of x)) (sym c.in-Clip.is))

pub put_item-returns-in-Stack : goal.put_item-returns-in-Stack
put_item-returns-in-Stack g t c =
    puts_as _ c.put_clips.ensures
    (ap (λ x. spot_lines c.args.told (place_of c.args.way.now) (spots_of x)) (sym c.in-Stack.is))

pub put_item-returns-in-Track : goal.put_item-returns-in-Track
put_item-returns-in-Track g t c =
    puts_as _ c.put_clips-in-Track.ensures
    (ap (λ x. spot_lines c.args.told (place_of c.args.way.now) (spots_of x)) (sym c.in-Track.is))
