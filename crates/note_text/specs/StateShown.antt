-- How far a side has come where it shows a source frame.
use Rattle.std.specs.Prelude.{◌≡◌, ◌≤◌, ℕ, ℤ, pos, ◌+ℤ◌, Option, Some, None}

-- the source frame lies so many frames after the first one; none where it lies before that, or more
-- than 10 ^ 10 frames after it
abbrev pub IsAheadOf : ℤ → ℤ → Option ℕ → Type 0
IsAheadOf from frame None = (k : ℕ) → k ≤ 10000000000 → frame ≡ (from +ℤ pos k) → ⊥
IsAheadOf from frame (Some ahead) = (ahead ≤ 10000000000) × (frame ≡ (from +ℤ pos ahead))
