use Rattle.std.proofs.Common.{ap, ◌∙◌}
use Rattle.std.proofs.lemmas.Int.{to_z-of_z}
use Rattle.otio_model.specs.Trees.{listed}
use Rattle.flat_stack.proofs.WindowLemmas.{cut_is}
use Rattle.flat_stack.proofs.windowing.cut_to.Goals as goal

pub window_tracks-requires-clause-free : goal.window_tracks-requires-clause-free
window_tracks-requires-clause-free c =
    let fits = c.ranges.from in
    let fits_to = c.ranges.to in
    simp to_z-of_z c.requires.free

pub returns : goal.returns
returns c =
    let fits = c.ranges.from in
    let fits_to = c.ranges.to in
    let made = simp to_z-of_z at c.in-Ok.ensures in
    cut_is c.args.timeline c.args.start c.args.from c.args.to c.flat_rate-rate.result c.in-Ok.tracks.items c.in-Ok-of.children c.flat_rate-rate.ensures made (c.in-Ok-of.ensures ∙ ap listed c.of.ensures)
