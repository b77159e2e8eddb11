-- How long items are together, and how many they are with all below them.
use Rattle.std.specs.Prelude.{ℕ, ◌+◌, List, map}
use Rattle.otio_model.specs.declared.compositions.ItemOf.{ItemOf}
use Rattle.otio_model.specs.declared.compositions.Listed.{Listed}
use Rattle.otio_model.specs.Counts.{count, count_of, counts_by}
use Rattle.otio_model.specs.Kept.{capped_count}
use Rattle.otio_model.specs.Lengths.{added, length_of, or_zero}
use Rattle.otio_model.specs.Sums.{capped}
pub use Rattle.pieces.specs.Short.{AreFew}
use Rattle.edit_plans.specs.declared.totals.Amount.{Amount}

-- the lengths of these items added up, one that isn't known as 0
abbrev pub ticks_in : List (ItemOf Listed) → ℕ
ticks_in l = added (map length_of l)

-- what these items come to, up to the greatest numbers
abbrev pub amount_in : List (ItemOf Listed) → Amount
amount_in l = record { ticks = capped (ticks_in l); items = capped_count (counts_by count l) }

-- the same with one item more
abbrev pub more : Amount → ItemOf Listed → Amount
more a x = record {
  ticks = capped (a.ticks + or_zero (length_of x));
  items = capped_count (a.items + count_of x);
}
