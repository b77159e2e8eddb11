-- What the pieces answer, of the children that they are.
use Rattle.std.proofs.Common.{arith, ap, length}
use Rattle.otio_model.specs.Pieces.{all_items}
use Rattle.otio_model.specs.Trees.{items_of}
use Rattle.otio_model.proofs.LightLemmas.{clip_none}
use Rattle.otio_model.proofs.Views.{shown}
use Rattle.otio_model.proofs.lists.Children.first_with_clip.Goals as goal

pub returns-then-len-eq0-clause-none : goal.returns-then-len-eq0-clause-none
returns-then-len-eq0-clause-none c =
    clip_none (items_of c.args.self.now) 0 (omega (arith, c.len.ensures, c.if-len-eq0.true))
    (λ j b. absurd (omega (arith, b)))

pub clip_in_pieces-requires-clause-few : goal.clip_in_pieces-requires-clause-few
clip_in_pieces-requires-clause-few c =
    omega (
      arith,
      c.len.ensures,
      ap length (shown _ _ c.self.view_is),
      ap (λ l. length (all_items l)) c.as_slice.ensures.value,
    )

pub returns-clause-found : goal.returns-clause-found
returns-clause-found c =
    rw (shown _ _ c.self.view_is, ← c.as_slice.ensures.value) c.clip_in_pieces.ensures.found

pub returns-clause-none : goal.returns-clause-none
returns-clause-none c =
    rw (shown _ _ c.self.view_is, ← c.as_slice.ensures.value) c.clip_in_pieces.ensures.none
