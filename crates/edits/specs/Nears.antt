-- The time of so many ticks, where there is one.
use Rattle.std.specs.Prelude.{◌≡◌, ◌%◌, ◌==◌, ℤ, pos, int_le, Bool, true, false, Option, Some, None, unsigned_abs, refl}
use Rattle.tick_time.specs.declared.rates.Rate.{Rate}
use Rattle.tick_time.specs.declared.times.Time.{Time}
use Rattle.tick_time.specs.declared.spans.Span.{Span}
use Rattle.tick_time.specs.Rates.{unit}
use Rattle.edits.specs.Finest.{finest, in_range, low_of, high_of, whole_of, zero_of, not_negative}

-- a whole number of units of the rate
abbrev pub is_whole : ℤ → Rate → Bool
is_whole z r = unsigned_abs z % unit r.num r.den == 0

-- the time of these ticks at this rate or the finest, by what is known of them
abbrev pub near_by : (z : ℤ) (r : Rate) (b : Bool) → in_range z ≡ b → (c : Bool) → is_whole z r ≡ c
    → Option Time
near_by z r false e c f = None
near_by z r true e true f =
    Some (record { ticks = z; rate = r; low = low_of z e; high = high_of z e; whole = zero_of _ f })
near_by z r true e false f =
    Some (record {
      ticks = z;
      rate = finest;
      low = low_of z e;
      high = high_of z e;
      whole = whole_of z;
    })

-- the time of so many ticks, at the rate where they are whole units of it, else at the finest; none
-- where they are out of range
abbrev pub near : ℤ → Rate → Option Time
near z r = near_by z r (in_range z) refl (is_whole z r) refl

-- a span of this start and this length, where that isn't negative
abbrev pub span_by : (start len : Time) (b : Bool) → int_le (pos 0) len.ticks ≡ b → Option Span
span_by start len false e = None
span_by start len true e =
    Some (record { start = start; len = len; forward = not_negative len.ticks e })

abbrev pub span_of : Option Time → Option Time → Option Span
span_of None o = None
span_of (Some start) None = None
span_of (Some start) (Some len) = span_by start len (int_le (pos 0) len.ticks) refl
