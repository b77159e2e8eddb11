-- A track without a fault has no fault below it, and is no longer than a million seconds.
use Rattle.std.proofs.Common.{◌≡◌, refl, ℕ, ◌≤◌, ◌||◌, pos, [], Bool, true, false, cond, Option, Some, None, arith}
use Rattle.std.specs.Prelude.{nat_lt}
use Rattle.limits.specs.Limits.{most_ticks}
use Rattle.otio_model.specs.declared.compositions.ItemOf.{ItemOf}
use Rattle.otio_model.specs.declared.compositions.ItemOf.TheVariants.{Track}
use Rattle.otio_model.specs.declared.compositions.Listed.{Listed}
use Rattle.otio_model.specs.declared.compositions.TrackOf.{TrackOf}
use Rattle.otio_model.specs.Lengths.{added, lengths, length_of}
use Rattle.otio_model.specs.Speeds.{keeps_speed}
use Rattle.coord.specs.declared.faults.ItemFault.{ItemFault}
use Rattle.coord.specs.declared.faults.ItemFault.TheVariants.{NoLength, Speed, Long}
use Rattle.coord.specs.Speeds.{effects_of}
use Rattle.coord.specs.Soundness.{available_ticks, is_long, ranged_fault, IsFaultlessItem}

not_long : (a b c : Bool) → (a || (b || c)) ≡ false → b ≡ false
not_long true b c e = absurd (cc e)
not_long false true c e = absurd (cc e)
not_long false false c e = refl

short_by : (b : Bool) → ◌≡◌ {A = Option ItemFault} (cond b (Some Long) None) None → b ≡ false
short_by true h = absurd (cc h)
short_by false h = refl

ranged_by : (x : ItemOf Listed) (n : ℕ) (b : Bool)
    → cond b (cond (is_long x n) (Some Long) None) (Some Speed) ≡ None → is_long x n ≡ false
ranged_by x n true h = short_by (is_long x n) h
ranged_by x n false h = absurd (cc h)

below : (m n : ℕ) → nat_lt m n ≡ false → n ≤ m
below m n e = grind (arith, e)

available : (x : ItemOf Listed) (n : ℕ) → ranged_fault x n ≡ None → available_ticks x ≤ most_ticks
available x n h =
    below most_ticks (available_ticks x)
    (not_long (nat_lt most_ticks n) (nat_lt most_ticks (available_ticks x)) _
    (ranged_by x n (keeps_speed (pos 1000000) (effects_of x)) h))

-- all that is in a track without a fault
pub track_fits : (t : TrackOf Listed) → IsFaultlessItem (Track t)
    → added (lengths t.children) ≤ most_ticks
track_fits t sound = by (length_of (Track t)) (sound [] (Track t) refl)
  where
    by : (o : Option ℕ)
        → ◌≡◌ {A = Option ItemFault}
        (elim o [ None ↦ Some NoLength | Some n ↦ ranged_fault (Track t) n ]) None
        → added (lengths t.children) ≤ most_ticks
    by None h = absurd (cc h)
    by (Some n) h = available (Track t) n h
