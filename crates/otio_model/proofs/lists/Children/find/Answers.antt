-- What the pieces answer, of the children that they are.
use Rattle.std.proofs.Common.{arith, ap, length}
use Rattle.otio_model.specs.Pieces.{all_items}
use Rattle.otio_model.specs.Seeks.{lens, total}
use Rattle.otio_model.proofs.Views.{shown}
use Rattle.otio_model.proofs.SeekLemmas.{all-total}
use Rattle.otio_model.proofs.lists.Children.find.Goals as goal

pub in_pieces-requires-clause-fits : goal.in_pieces-requires-clause-fits
in_pieces-requires-clause-fits g c =
    omega (
      arith,
      c.requires.fits,
      all-total c.args.self.now,
      ap (λ l. total (lens l)) (shown _ _ c.self.view_is),
      ap (λ l. total (lens (all_items l))) c.as_slice.ensures.value,
    )

pub in_pieces-requires-clause-few : goal.in_pieces-requires-clause-few
in_pieces-requires-clause-few g c =
    omega (
      arith,
      c.requires.few,
      ap length (shown _ _ c.self.view_is),
      ap (λ l. length (all_items l)) c.as_slice.ensures.value,
    )

pub returns-clause-found : goal.returns-clause-found
returns-clause-found g c =
    rw (shown _ _ c.self.view_is, ← c.as_slice.ensures.value) c.in_pieces.ensures.found

pub returns-clause-none : goal.returns-clause-none
returns-clause-none g c =
    rw (shown _ _ c.self.view_is, ← c.as_slice.ensures.value) c.in_pieces.ensures.none

pub returns-clause-cost : goal.returns-clause-cost
returns-clause-cost g c =
    rw (shown _ _ c.self.view_is, ← c.as_slice.ensures.value) c.in_pieces.ensures.cost
