-- A row that is widened, in numbers of 64 bits.
use Rattle.std.proofs.Common.{◌≡◌, ◌≤◌, ◌<◌, ◌+◌, ◌-◌, ◌^◌, ◌+ℤ◌, ◌-ℤ◌, ℕ, ℤ, pos, max, min, to_z, of_z, w64, FitsSigned, unsigned_abs, refl, sym, ap, ap₂, ◌∙◌, arith}
use Rattle.std.proofs.lemmas.Int.{ints, to_z-of_z}
use Rattle.media_rows.specs.declared.row.MediaRow.{MediaRow}
use Rattle.media_list.proofs.SpanLemmas.{frame_fits}
use Rattle.ale_text.specs.Lines.{Taking}
use Rattle.ale_text.specs.Tables.{widened}

-- a small number of 64 bits is what it was
pub back : (z : ℤ) (n : ℕ) → z ≡ pos n → n < 10 ^ 18 → to_z w64 (of_z w64 z) ≡ pos n
back z n e small = to_z-of_z w64 z (frame_fits z (n, e, small)) ∙ e

-- so are sums and differences of such numbers
pub sum_back : (a b : ℤ) (n k : ℕ) → a ≡ pos n → b ≡ pos k → n + k < 10 ^ 18
    → to_z w64 (of_z w64 (a +ℤ b)) ≡ pos (n + k)
sum_back a b n k e f small = back (a +ℤ b) (n + k) (ap₂ (λ x y. x +ℤ y) e f ∙ refl) small

less : (n k : ℕ) → k ≤ n → pos n -ℤ pos k ≡ pos (n - k)
less n k low = omega (arith, ints, low)

pub difference_back : (a b : ℤ) (n k : ℕ) → a ≡ pos n → b ≡ pos k → k ≤ n → n < 10 ^ 18
    → to_z w64 (of_z w64 (a -ℤ b)) ≡ pos (n - k)
difference_back a b n k e f low small =
    back (a -ℤ b) (n - k) (ap₂ (λ x y. x -ℤ y) e f ∙ less n k low) (omega (arith, small))

pub difference_fits : (a b : ℤ) (n k : ℕ) → a ≡ pos n → b ≡ pos k → k ≤ n → n < 10 ^ 18
    → FitsSigned w64 (a -ℤ b)
difference_fits a b n k e f low small =
    frame_fits (a -ℤ b)
    (n - k, ap₂ (λ x y. x -ℤ y) e f ∙ less n k low, omega (arith, small))

abbrev made : MediaRow → ℤ → ℤ → MediaRow
made row start count = record {
  reel = row.reel;
  url = row.url;
  rate = row.rate;
  start = start;
  count = count;
}

-- where a row is widened to further frames, and how many there are then
pub widened_is : (row : MediaRow) (t : Taking) (a n : ℕ) (start count : ℤ) → row.start ≡ pos a
    → row.count ≡ pos n → start ≡ pos (min a t.start)
    → count ≡ pos (max (a + n) t.end - min a t.start)
    → made row start count ≡ widened t row
widened_is row t a n start count at many low high =
    ap₂ (made row) (low ∙ ap (λ x. pos (min x t.start)) (sym (ap unsigned_abs at)))
    (high ∙ ap₂ (λ x y. pos (max (x + y) t.end - min x t.start)) (sym (ap unsigned_abs at))
    (sym (ap unsigned_abs many)))
