-- A transition that isn't misplaced has no negative offset.
use Rattle.std.proofs.Common.{◌≡◌, subst, pos, ◌≤ℤ◌, false, Option, Some}
use Rattle.std.proofs.Common.{None, arith}
use Rattle.std.proofs.lemmas.Int.{ints}
use Rattle.std.proofs.lemmas.Bool.{or_parts}
use Rattle.limits.proofs.IntegerTests.{int_lt-false}
use Rattle.tick_time.specs.declared.times.Time.{Time}
use Rattle.otio_model.specs.declared.compositions.ItemOf.{ItemOf}
use Rattle.otio_model.specs.declared.compositions.ItemOf.TheVariants.{Clip, Gap, Transition, Stack}
use Rattle.otio_model.specs.declared.compositions.ItemOf.TheVariants.{Track}
use Rattle.otio_model.specs.declared.compositions.Listed.{Listed}
use Rattle.otio_model.specs.Misplaced.{is_negative, has_misplaced}
use Rattle.otio_model.specs.Overlaps.{offset_of}
use Rattle.coord.specs.Looks.{Overlap}
use Rattle.edits.specs.Good.{IsFair}
use Rattle.coord.proofs.Members.{same_some}

not_negative : (o : Option Time) → is_negative o ≡ false → pos 0 ≤ℤ offset_of o
not_negative None e = omega (arith, ints)
not_negative (Some t) e = int_lt-false t.ticks (pos 0) e

no_overlap : (o : Overlap) → Path (Option Overlap) None (Some o) → ⊥
no_overlap o e = cc e

-- a transition that isn't misplaced has no negative offset
pub fair_item : (x : ItemOf Listed) → has_misplaced x ≡ false → IsFair x
fair_item (Clip c) e =
    record { before = λ o f. absurd (no_overlap o f); after = λ o f. absurd (no_overlap o f) }
fair_item (Gap c) e =
    record { before = λ o f. absurd (no_overlap o f); after = λ o f. absurd (no_overlap o f) }
fair_item (Transition t) e =
    let n = or_parts (is_negative t.in_offset) (is_negative t.out_offset) e in record {
      before = λ o f. subst (λ (y : Overlap). pos 0 ≤ℤ y.before) (same_some _ o f)
          (not_negative t.in_offset n.0);
      after = λ o f. subst (λ (y : Overlap). pos 0 ≤ℤ y.after) (same_some _ o f)
          (not_negative t.out_offset n.1);
    }
fair_item (Stack c) e =
    record { before = λ o f. absurd (no_overlap o f); after = λ o f. absurd (no_overlap o f) }
fair_item (Track c) e =
    record { before = λ o f. absurd (no_overlap o f); after = λ o f. absurd (no_overlap o f) }
