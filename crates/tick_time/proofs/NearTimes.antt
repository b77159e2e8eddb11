-- Times made of ticks in range.
use Rattle.std.proofs.Common.{◌≡◌, ℤ, pos, ◌∙◌, ap, Bool, false, Result, Ok, Err, IfOk, IsTrue, ◌↔◌, unsigned_abs, ℕ, ◌≤ℤ◌, ◌-ℤ◌, FitsSigned, to_z, of_z}
use Rattle.std.proofs.lemmas.Int.{to_z-of_z}
use mir.Syntax.{w128}
use Rattle.tick_time.specs.Rates.{unit, per_millionth}
use Rattle.limits.specs.Limits.{most_ticks}
use Rattle.tick_time.specs.Times.{IsWhole, IsInRange}
use Rattle.tick_time.specs.Sums.{IsNear}
use Rattle.tick_time.specs.declared.rates.Rate.{Rate}
use Rattle.tick_time.specs.declared.times.Time.{Time}
use Rattle.tick_time.specs.declared.faults.TimeFault.{TimeFault}

pub test_false : (b : Bool) (P : Type 0) → b ≡ false → IsTrue b ↔ P → P → ⊥
test_false b P e h p = let yes = h.1 p in cc

-- the test of whole units, by the unit's value
pub whole_test : (b : Bool) (ticks piece : ℤ) (rate : Rate)
    → IsTrue b ↔ IsWhole ticks (unsigned_abs piece) → piece ≡ pos (unit rate.num rate.den)
    → IsTrue b ↔ IsWhole ticks (unit rate.num rate.den)
whole_test b ticks piece rate h e = rw e at h

pub near_kept : (r : Result Time TimeFault) (ticks : ℤ) (rate : Rate)
    → IsWhole ticks (unit rate.num rate.den)
    → IfOk r (λ t. (t.ticks ≡ ticks) × (t.rate ≡ rate)) → IfOk r (IsNear ticks rate)
near_kept (Ok t) ticks rate whole h =
    record { same = h.0; kept = λ _. h.1; finest = λ no. absurd (no whole) }
near_kept (Err f) ticks rate whole h = tt

pub near_finest : (r : Result Time TimeFault) (ticks : ℤ) (rate one : Rate)
    → (IsWhole ticks (unit rate.num rate.den) → ⊥)
    → one.num ≡ pos per_millionth → one.den ≡ pos 1
    → IfOk r (λ t. (t.ticks ≡ ticks) × (t.rate ≡ one)) → IfOk r (IsNear ticks rate)
near_finest (Ok t) ticks rate one other num den h = record {
  same = h.0;
  kept = λ whole. absurd (other whole);
  finest = λ _. (ap (λ r. r.num) h.1 ∙ num, ap (λ r. r.den) h.1 ∙ den);
}
near_finest (Err f) ticks rate one other num den h = tt

pub ticks_read : (r : Result Time TimeFault) (ticks want : ℤ) (rate : Rate) → ticks ≡ want
    → IfOk r (λ t. (t.ticks ≡ ticks) × (t.rate ≡ rate)) → IfOk r (λ t. t.ticks ≡ want)
ticks_read (Ok t) ticks want rate e h = h.0 ∙ e
ticks_read (Err f) ticks want rate e h = tt

pub rate_read : (r : Result Time TimeFault) (ticks : ℤ) (rate : Rate)
    → IfOk r (λ t. (t.ticks ≡ ticks) × (t.rate ≡ rate)) → IfOk r (λ t. t.rate ≡ rate)
rate_read (Ok t) ticks rate h = h.1
rate_read (Err f) ticks rate h = tt

-- what holds of ticks, out of their bits
pub kept_low : (z : ℤ) → FitsSigned w128 z → IsInRange z
    → (pos 0 -ℤ pos most_ticks) ≤ℤ to_z w128 (of_z w128 z)
kept_low z fits h = simp to_z-of_z h.low

pub kept_high : (z : ℤ) → FitsSigned w128 z → IsInRange z
    → to_z w128 (of_z w128 z) ≤ℤ pos most_ticks
kept_high z fits h = simp to_z-of_z h.high

pub kept_whole : (z : ℤ) (piece : ℕ) → FitsSigned w128 z → IsWhole z piece
    → IsWhole (to_z w128 (of_z w128 z)) piece
kept_whole z piece fits h = simp to_z-of_z h
