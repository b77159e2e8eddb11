-- How many frames lie between two.
use Rattle.std.proofs.Common.{◌≡◌, refl, ℕ, ℤ, pos, ◌-ℤ◌, ◌≤ℤ◌, ◌^◌, min, true, false}
use Rattle.std.proofs.Common.{FitsSigned, arith}
use Rattle.std.specs.Prelude.{int_le, unsigned_abs}
use Rattle.std.specs.Int.{int_min, w128}
use Rattle.std.proofs.lemmas.Int.{ints, clamps, fits_signed_from_abs}
use Rattle.show_prog.specs.Rows.{frames_between}

pub none_between : (from end : ℤ) → int_le end from ≡ true
    → 0 ≡ min 100000 (frames_between from end)
none_between from end e = rw e refl

pub gap_fits : (from end : ℤ) → (pos 0 -ℤ pos (2 ^ 63)) ≤ℤ from → from ≤ℤ pos (2 ^ 63)
    → (pos 0 -ℤ pos (2 ^ 63)) ≤ℤ end → end ≤ℤ pos (2 ^ 111) → FitsSigned w128 (end -ℤ from)
gap_fits from end first last low high =
    fits_signed_from_abs w128 (end -ℤ from) (omega (arith, ints, first, last, low, high))

-- the frames between two, where there are any
pub gap_more : (from end : ℤ) → int_le end from ≡ false
    → unsigned_abs (end -ℤ from) ≡ frames_between from end
gap_more from end e = rw e refl

-- what lies in 0 to 100 000
pub record IsFew (z : ℤ) : Type 0 where
  pub low : pos 0 ≤ℤ z
  pub high : z ≤ℤ pos 100000

pub few_least : (z m : ℤ) → pos 0 ≤ℤ z → m ≡ int_min z (pos 100000) → IsFew m
few_least z m low f = record {
  low = omega (arith, ints, clamps, low, f);
  high = omega (arith, ints, clamps, low, f);
}

pub some_least : (z m : ℤ) → pos 0 ≤ℤ z → m ≡ int_min z (pos 100000)
    → unsigned_abs m ≡ min 100000 (unsigned_abs z)
some_least z m low f = omega (arith, ints, clamps, low, f)
