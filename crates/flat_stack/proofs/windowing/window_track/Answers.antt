use Rattle.std.proofs.Common.{ap, ◌∙◌}
use Rattle.std.proofs.lemmas.Int.{to_z-of_z}
use Rattle.otio_model.specs.Trees.{listed}
use Rattle.flat_stack.proofs.PassedLemmas.{track_cut}
use Rattle.flat_stack.proofs.windowing.window_track.Goals as goal

pub track_items-requires : goal.track_items-requires
track_items-requires c =
    let fits = c.ranges.from in
    let fits_to = c.ranges.to in
    simp to_z-of_z c.requires

pub returns : goal.returns
returns c =
    let fits = c.ranges.from in
    let fits_to = c.ranges.to in
    let made = simp to_z-of_z at c.in_ok-items.ensures in
    track_cut c.args.rate c.args.from c.args.to c.args.item.now c.in_ok-track.track c.in_ok-children.children c.in_ok-items.items.items c.requires.plain made (c.in_ok-children.ensures ∙ ap listed c.of.ensures) c.in_ok-track.ensures
