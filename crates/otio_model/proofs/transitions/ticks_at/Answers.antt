-- The length that was read.
use Rattle.std.proofs.Common.{ap, sym, ◌∙◌}
use Rattle.otio_model.specs.Lengths.{or_zero}
use Rattle.otio_model.proofs.SeekLemmas.{length_whole}
use Rattle.otio_model.proofs.transitions.ticks_at.Goals as goal

pub returns-in-Some : goal.returns-in-Some
returns-in-Some c = ap or_zero (sym c.in-Some.is ∙ c.item_ticks.ensures)
    ∙ length_whole c.args.items.now c.args.index c.index-items-index.result c.requires.there
    c.index-items-index.is c.requires.fits

pub returns-in-None : goal.returns-in-None
returns-in-None c = ap or_zero (sym c.in-None.is ∙ c.item_ticks.ensures)
    ∙ length_whole c.args.items.now c.args.index c.index-items-index.result c.requires.there
    c.index-items-index.is c.requires.fits
