-- What a view of few items says of the pieces that were lent to show it.
use Rattle.std.proofs.Common.{◌≡◌, ◌<◌, ◌^◌, List, ap, arith, length}
use Rattle.otio_model.specs.declared.compositions.Listed.{Listed}
use Rattle.otio_model.specs.declared.lists.Piece.{Piece}
use Rattle.otio_model.specs.Counts.{count}
use Rattle.otio_model.specs.Pieces.{all_items}
use Rattle.otio_model.specs.Seeks.{lens, total}
use Rattle.otio_model.specs.Trees.{listed}
use Rattle.otio_model.proofs.SeekLemmas.{all-total}
use Rattle.otio_model.proofs.LengthLimits.{few_enough, short_enough}
use Rattle.otio_model.proofs.Views.{shown}

-- they are short together
pub total_shown : {l : Listed} {ps lent : List Piece} → count l < 2 ^ 32 → listed (all_items ps) ≡ l
    → lent ≡ ps → total (lens (all_items lent)) < 2 ^ 127
total_shown {l = l} {ps = ps} few view e =
    omega (
      arith,
      short_enough l few,
      all-total l,
      ap (λ l. total (lens l)) (shown (all_items ps) l view),
      ap (λ l. total (lens (all_items l))) e,
    )

-- and few
pub few_shown : {l : Listed} {ps lent : List Piece} → count l < 2 ^ 32 → listed (all_items ps) ≡ l
    → lent ≡ ps → length (all_items lent) < 2 ^ 32
few_shown {l = l} {ps = ps} few view e =
    omega (
      arith,
      few_enough l few,
      ap length (shown (all_items ps) l view),
      ap (λ l. length (all_items l)) e,
    )
