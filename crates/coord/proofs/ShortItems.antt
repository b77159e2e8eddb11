-- How long items without a fault are, and where they start.
use Rattle.std.proofs.Common.{◌≡◌, ℕ, ◌≤◌, ◌||◌, Bool, true, false, cond, Option, Some, None, refl}
use Rattle.std.proofs.Common.{pos, arith}
use Rattle.std.specs.Prelude.{option_map, nat_lt}
use Rattle.std.specs.Option.{option_or}
use Rattle.std.proofs.lemmas.Int.{ints}
use Rattle.limits.specs.Limits.{most_ticks}
use Rattle.tick_time.specs.Times.{IsInRange}
use Rattle.tick_time.specs.declared.spans.Span.{Span}
use Rattle.otio_model.specs.declared.compositions.ItemOf.{ItemOf}
use Rattle.otio_model.specs.declared.compositions.ItemOf.TheVariants.{Clip, Gap, Transition, Stack}
use Rattle.otio_model.specs.declared.compositions.ItemOf.TheVariants.{Track}
use Rattle.otio_model.specs.declared.compositions.Listed.{Listed}
use Rattle.otio_model.specs.Lengths.{clip_range, from_zero, length_of, or_zero, Range, range_of}
use Rattle.otio_model.specs.Lengths.{range_start, trimmed_start}
use Rattle.otio_model.specs.Speeds.{keeps_speed}
use Rattle.coord.specs.declared.faults.ItemFault.{ItemFault}
use Rattle.coord.specs.Speeds.{effects_of}
use Rattle.coord.specs.Soundness.{available_ticks, fault_of, is_long, ranged_fault}

-- no longer than a million seconds, in its length and in what is available
pub record HasShortLengths (x : ItemOf Listed) : Type 0 where
  pub ticks : or_zero (length_of x) ≤ most_ticks
  pub available : available_ticks x ≤ most_ticks

not_long : (a b c : Bool) → (a || (b || c)) ≡ false → (a ≡ false) × (b ≡ false)
not_long true b c e = absurd (cc e)
not_long false true c e = absurd (cc e)
not_long false false c e = (refl, refl)

short_by : (x : ItemOf Listed) (n : ℕ) (t : Bool) → is_long x n ≡ t
    → cond t (Some ItemFault.Long) None ≡ None → t ≡ false
short_by x n true e h = absurd (cc h)
short_by x n false e h = refl

kept_by : (x : ItemOf Listed) (n : ℕ) (t : Bool)
    → cond t (cond (is_long x n) (Some ItemFault.Long) None) (Some ItemFault.Speed) ≡ None
    → is_long x n ≡ false
kept_by x n true h = short_by x n (is_long x n) refl h
kept_by x n false h = absurd (cc h)

ranged : (x : ItemOf Listed) (n : ℕ) → ranged_fault x n ≡ None
    → (n ≤ most_ticks) × (available_ticks x ≤ most_ticks)
ranged x n h =
    let l = kept_by x n (keeps_speed (pos 1000000) (effects_of x)) h in
    let s = not_long (nat_lt most_ticks n) (nat_lt most_ticks (available_ticks x)) _ l in
    (grind (arith, s.0), grind (arith, s.1))

-- the fault of an item by its length
abbrev pub judged : ItemOf Listed → Option ℕ → Option ItemFault
judged x None = Some ItemFault.NoLength
judged x (Some n) = ranged_fault x n

short_in : (x : ItemOf Listed) (o : Option ℕ) → length_of x ≡ o → judged x o ≡ None
    → HasShortLengths x
short_in x None e h = absurd (cc h)
short_in x (Some n) e h = let r = ranged x n h in record { ticks = rw e r.0; available = r.1 }

-- an item without a fault is short
pub is_short : (x : ItemOf Listed) → fault_of x ≡ None → HasShortLengths x
is_short (Clip c) h = short_in (Clip c) (length_of (Clip c)) refl h
is_short (Gap c) h = short_in (Gap c) (length_of (Gap c)) refl h
is_short (Transition c) h = record { ticks = omega arith; available = omega arith }
is_short (Stack c) h = short_in (Stack c) (length_of (Stack c)) refl h
is_short (Track c) h = short_in (Track c) (length_of (Track c)) refl h

-- ---- where an item starts

zero_near : IsInRange (pos 0)
zero_near = record { low = omega (arith, ints); high = omega (arith, ints) }

start_near : (s : Option Span) (r : Option Range) → IsInRange (range_start r)
    → IsInRange (range_start (option_or (option_map range_of s) r))
start_near None r h = h
start_near (Some s) r h = record { low = s.start.low; high = s.start.high }

span_near : (s : Option Span) → IsInRange (range_start (option_map range_of s))
span_near None = zero_near
span_near (Some s) = record { low = s.start.low; high = s.start.high }

pub trimmed_near : (x : ItemOf Listed) → IsInRange (trimmed_start x)
trimmed_near (Clip c) =
    start_near c.source_range (option_map range_of (clip_range c)) (span_near (clip_range c))
trimmed_near (Gap c) = start_near c.source_range (Some (from_zero 0)) zero_near
trimmed_near (Transition c) = zero_near
trimmed_near (Stack c) = start_near c.source_range (Some (from_zero 0)) zero_near
trimmed_near (Track c) = start_near c.source_range (Some (from_zero 0)) zero_near
