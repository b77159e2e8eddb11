-- What is kept of a length is longer where the length is.
use Rattle.std.proofs.Common.{◌∙◌, sym}
use Rattle.otio_model.specs.Lengths.{length_of}
use Rattle.otio_model.proofs.LightLemmas.{longer, never_longer}
use Rattle.otio_model.proofs.lights.is_longer.Goals as goal

pub returns-in-Some : goal.returns-in-Some
returns-in-Some c =
    longer (length_of c.args.item.now) c.in-Some.ticks c.args.at
    (sym c.in-Some.is ∙ c.item_ticks.ensures) c.requires.short

pub returns-in-None : goal.returns-in-None
returns-in-None c =
    never_longer (length_of c.args.item.now) c.args.at (sym c.in-None.is ∙ c.item_ticks.ensures)
