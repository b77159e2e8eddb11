-- How the frames of a rate are counted (SMPTE ST 12-1).
use Rattle.std.specs.Prelude.{◌==◌, ◌≤◌, ℕ, ℤ, Bool, cond, Option, Some, None, option_map, unsigned_abs}
use Rattle.tick_time.specs.declared.rates.Rate.{Rate}
use Rattle.tick_time.specs.Rates.{nominal}
use Rattle.smpte_tc.specs.declared.modes.Mode.{Mode}

-- a count of frame numbers a second, and how many of them drop-frame leaves out of a minute
abbrev pub mode : ℕ → ℕ → Mode
mode count dropped = record { nominal = count; dropped = dropped }

-- without drop-frame a rate counts by its nominal count, and nothing is left out
abbrev pub plain_mode : ℤ → ℤ → Option Mode
plain_mode num den = option_map (λ count. mode (unsigned_abs count) 0) (nominal num den)

-- drop-frame exists at 30000/1001, where two numbers are left out, and at 60000/1001, where four
-- are
abbrev pub drop_mode : ℤ → ℤ → Option Mode
drop_mode num den =
    cond (unsigned_abs den == 1001)
    (cond (unsigned_abs num == 30000) (Some (mode 30 2))
    (cond (unsigned_abs num == 60000) (Some (mode 60 4)) None))
    None

-- how frames are counted at num/den frames a second, with drop-frame or without; none where there
-- is no such timecode
abbrev pub mode_at : ℤ → ℤ → Bool → Option Mode
mode_at num den drop = cond drop (drop_mode num den) (plain_mode num den)

-- the same at a rate
abbrev pub mode_of : Rate → Bool → Option Mode
mode_of rate drop = mode_at rate.num rate.den drop

-- a mode that a rate can have
pub record IsMode (m : Mode) : Type 0 where
  pub some : 1 ≤ m.nominal
  pub small : m.nominal ≤ 60
  pub fewer : m.dropped ≤ m.nominal
