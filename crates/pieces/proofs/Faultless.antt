-- What is known of an item that has no fault.
use Rattle.std.proofs.Common.{◌≡◌, refl, ap, ◌∙◌, ℕ, ◌≤◌, ℤ, pos, ◌+ℤ◌, ◌-ℤ◌, ◌*ℤ◌, ◌≤ℤ◌, Bool, true, false, cond, Option, Some, None, arith}
use Rattle.std.proofs.lemmas.Int.{ints}
use Rattle.std.proofs.lemmas.Bool.{and_parts as and_both, or_parts as or_both, not-false as not_no, ltb-false as nat_no}
use Rattle.otio_model.specs.declared.compositions.ItemOf.{ItemOf}
use Rattle.otio_model.specs.declared.compositions.ItemOf.TheVariants.{Clip, Gap, Transition, Stack, Track}
use Rattle.otio_model.specs.declared.compositions.Listed.{Listed}
use Rattle.otio_model.specs.Lengths.{length_of}
use Rattle.otio_model.specs.Lengths.{trimmed_start}
use Rattle.otio_model.specs.Lengths.{or_zero}
use Rattle.coord.specs.Speeds.{effects_of, speed_of, media_at}
use Rattle.otio_model.specs.Speeds.{keeps_speed}
use Rattle.coord.specs.declared.faults.ItemFault.{ItemFault}
use Rattle.coord.specs.declared.faults.ItemFault.TheVariants.{NoLength, Speed, Long}
use Rattle.coord.specs.Soundness.{fault_of, ranged_fault, is_long, media_end, most_end}
use Rattle.edits.specs.Children.{ticks, Ranged}
use Rattle.edits.specs.Cuts.{right_piece}
use Rattle.coord.proofs.ShortItems.{trimmed_near}
use Rattle.pieces.specs.Short.{IsShort, IsCuttable}
use Rattle.pieces.proofs.Grown.{ticks_are}
use Rattle.pieces.proofs.Tests.{le_is}

pub start_low : (x : ItemOf Listed) (z : ℤ) → z ≡ trimmed_start x → (pos 0 -ℤ pos 705600000000000000000000) ≤ℤ z
start_low x z e = rw e (trimmed_near x).low

pub start_high : (x : ItemOf Listed) (z : ℤ) → z ≡ trimmed_start x → z ≤ℤ pos 705600000000000000000000
start_high x z e = rw e (trimmed_near x).high

pub ruleset starts_near = (start_low, start_high)

-- a length of an item without a fault
pub record IsShortOf (x : ItemOf Listed) (n : ℕ) : Type 0 where
  pub low : n ≤ 705600000000000000000000
  pub ends_low : (pos 0 -ℤ most_end) ≤ℤ media_end x n
  pub ends_high : media_end x n ≤ℤ most_end

not_long : (x : ItemOf Listed) (n : ℕ) → is_long x n ≡ false → IsShortOf x n
not_long x n e =
    let a = or_both _ _ e in
    let b = or_both _ _ a.1 in
    let c = and_both _ _ (not_no _ b.1) in
    record { low = nat_no 705600000000000000000000 n a.0; ends_low = le_is _ _ c.0; ends_high = le_is _ _ c.1 }

no_some : (b : Bool) (f : ItemFault) → cond b (Some f) None ≡ None → b ≡ false
no_some false f e = refl
no_some true f e = absurd (cc e)

ranged_none : (k b : Bool) (f g : ItemFault) → cond k (cond b (Some f) None) (Some g) ≡ None → b ≡ false
ranged_none true b f g e = no_some b f e
ranged_none false b f g e = absurd (cc e)

by_length : (x : ItemOf Listed) (o : Option ℕ) → ◌≡◌ {A = Option ItemFault} (elim o [ None ↦ Some NoLength | Some n ↦ ranged_fault x n ]) None → IsShortOf x (or_zero o)
by_length x None e = absurd (cc e)
by_length x (Some n) e = not_long x n (ranged_none (keeps_speed (pos 1000000) (effects_of x)) (is_long x n) Long Speed e)

no_ticks : (x : ItemOf Listed) → trimmed_start x ≡ pos 0 → IsShortOf x 0
no_ticks x e = record { low = omega arith; ends_low = low (trimmed_start x) (speed_of x) e; ends_high = high (trimmed_start x) (speed_of x) e }
  where
    low : (s p : ℤ) → s ≡ pos 0 → (pos 0 -ℤ most_end) ≤ℤ ((s *ℤ pos 1000000) +ℤ (pos 0 *ℤ p))
    low s p e = rw e (omega (arith, ints))

    high : (s p : ℤ) → s ≡ pos 0 → ((s *ℤ pos 1000000) +ℤ (pos 0 *ℤ p)) ≤ℤ most_end
    high s p e = rw e (omega (arith, ints))

pub faultless : (x : ItemOf Listed) → fault_of x ≡ None → IsShortOf x (or_zero (length_of x))
faultless (Clip c) e = by_length (Clip c) (length_of (Clip c)) e
faultless (Gap g) e = by_length (Gap g) (length_of (Gap g)) e
faultless (Transition t) e = no_ticks (Transition t) refl
faultless (Stack s) e = by_length (Stack s) (length_of (Stack s)) e
faultless (Track t) e = by_length (Track t) (length_of (Track t)) e

pub faultless_short : (x : ItemOf Listed) → fault_of x ≡ None → ticks x ≤ℤ pos 705600000000000000000000
faultless_short x e = let h = (faultless x e).low in let t = ticks_are x in omega (arith, ints, h, t)

pub faultless_is_short : (x : ItemOf Listed) → IsCuttable x → IsShort x
faultless_is_short x h = record { few = h.few; short = faultless_short x h.sound }

-- the right piece is the one of the numbers that were computed
pub right_is : (x : ItemOf Listed) (m t n k : ℤ) → m ≡ media_at (trimmed_start x) (speed_of x) t
    → n ≡ ticks x → k ≡ n -ℤ t → Ranged x m k ≡ right_piece x t
right_is x m t n k e h i =
    ap (λ z. Ranged x z k) e
    ∙ ap (Ranged x (media_at (trimmed_start x) (speed_of x) t)) (i ∙ ap (λ z. z -ℤ t) h)
