use Rattle.std.proofs.Common.{refl}
use Rattle.edits_law.proofs.Pieces.{between_looks}
use Rattle.edits_law.proofs.Seams.{ready, spliced_before, spliced_in, spliced_behind}
use Rattle.edits_law.proofs.cut_laws.spliced_shows.Goals as goal

pub returns : goal.returns
returns c = record {
  before = λ l n a b w g i from zone h. spliced_before _ a b n w (ready l a b g from zone) i h;
  within = λ l n a b w g i from zone h k. spliced_in _ a b n w (ready l a b g from zone) i h k;
  behind = λ l n a b w g i from zone h.
      spliced_behind _ a b n w _ (ready l a b g from zone) i h refl;
  items = between_looks;
}
