-- What the pieces on both sides answer, of the children that they are.
use Rattle.std.proofs.Common.{◌∙◌, ap}
use Rattle.otio_model.specs.Trees.{listed}
use Rattle.otio_model.specs.Pieces.{all_items}
use Rattle.otio_model.proofs.BesideLemmas.{longest_sides}
use Rattle.otio_model.proofs.lists.Children.longest_beside.Goals as goal

pub returns : goal.returns
returns c =
    longest_sides c.as_slice-pieces.result.now c.args.index c.requires.few
    (ap (λ ps. listed (all_items ps)) c.as_slice-pieces.ensures.value ∙ c.self.view_is)
    c.kept_before-before.ensures c.kept_after-after.ensures c.max.ensures
