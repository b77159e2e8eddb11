-- Rates, times and spans are determined by their numbers.
use Rattle.std.proofs.Common.{◌≡◌, ◌≤ℤ◌, ◌-ℤ◌, ◌*◌, ◌%◌, ℤ, pos, IsTrue, unsigned_abs, sym, ◌∙◌, ap, subst, arith}
use Rattle.std.proofs.lemmas.Int.{ints}
use Rattle.std.proofs.Props.{props}
use Rattle.limits.specs.Limits.{most_ticks}
use Rattle.tick_time.specs.Frames.{IsFrames}
use Rattle.tick_time.specs.Rates.{IsLowest, per_millionth, is_rate, unit}
use Rattle.tick_time.specs.Times.{IsWhole}
use Rattle.tick_time.specs.declared.rates.Rate.{Rate}
use Rattle.tick_time.specs.declared.spans.Span.{Span}
use Rattle.tick_time.specs.declared.times.Time.{Time}

-- what is known of a rate besides its fraction
abbrev pub RateFacts : ℤ → ℤ → Type 0
RateFacts num den = (pos 1 ≤ℤ den) × (den ≤ℤ num) × (num ≤ℤ pos per_millionth) × (den ≤ℤ pos 1000000)
    × (per_millionth * unsigned_abs den % unsigned_abs num ≡ 0)
    × IsLowest (unsigned_abs num) (unsigned_abs den) × IsTrue (is_rate (unsigned_abs num) (unsigned_abs den))

abbrev pub built_rate : (num den : ℤ) → RateFacts num den → Rate
built_rate num den f = record {
  num = num;
  den = den;
  positive = f.0;
  at_least_one = f.1;
  small_num = f.2;
  small_den = f.3;
  whole = f.4;
  lowest = f.5;
  given = f.6;
}

abbrev pub rate_facts : (r : Rate) → RateFacts r.num r.den
rate_facts r = (r.positive, r.at_least_one, r.small_num, r.small_den, r.whole, r.lowest, r.given)

pub RateFacts-prop : (num den : ℤ) → IsProp (RateFacts num den)
RateFacts-prop num den = hlevel props

pub rate_built : (n d m e : ℤ) (p : RateFacts n d) (q : RateFacts m e) → n ≡ m → d ≡ e → built_rate n d p ≡ built_rate m e q
rate_built n d m e p q h k =
    subst (λ x. (f : RateFacts x e) → built_rate n d p ≡ built_rate x e f) h
    (subst (λ y. (f : RateFacts n y) → built_rate n d p ≡ built_rate n y f) k
    (λ f. ap (built_rate n d) (RateFacts-prop n d p f))) q

-- two rates are the same where their fractions are
pub same_rate : (r s : Rate) → r.num ≡ s.num → r.den ≡ s.den → r ≡ s
same_rate r s h k = rate_built r.num r.den s.num s.den (rate_facts r) (rate_facts s) h k

-- a rate is at least one frame a second
pub at_least_one : (r : Rate) → pos 1 ≤ℤ r.num
at_least_one r = omega (arith, ints, r.positive, r.at_least_one)

-- what is known of a time besides its ticks and its rate
abbrev pub TimeFacts : ℤ → Rate → Type 0
TimeFacts ticks rate =
    ((pos 0 -ℤ pos most_ticks) ≤ℤ ticks) × (ticks ≤ℤ pos most_ticks) × IsWhole ticks (unit rate.num rate.den)

abbrev pub built_time : (ticks : ℤ) (rate : Rate) → TimeFacts ticks rate → Time
built_time ticks rate f = record { ticks = ticks; rate = rate; low = f.0; high = f.1; whole = f.2 }

abbrev pub time_facts : (t : Time) → TimeFacts t.ticks t.rate
time_facts t = (t.low, t.high, t.whole)

pub TimeFacts-prop : (ticks : ℤ) (rate : Rate) → IsProp (TimeFacts ticks rate)
TimeFacts-prop ticks rate = hlevel props

pub time_built : (n : ℤ) (r : Rate) (m : ℤ) (s : Rate) (p : TimeFacts n r) (q : TimeFacts m s) → n ≡ m → r ≡ s
    → built_time n r p ≡ built_time m s q
time_built n r m s p q h k =
    subst (λ x. (f : TimeFacts x s) → built_time n r p ≡ built_time x s f) h
    (subst (λ y. (f : TimeFacts n y) → built_time n r p ≡ built_time n y f) k
    (λ f. ap (built_time n r) (TimeFacts-prop n r p f))) q

-- two times are the same where their ticks and rates are
pub same_time : (t u : Time) → t.ticks ≡ u.ticks → t.rate ≡ u.rate → t ≡ u
same_time t u h k = time_built t.ticks t.rate u.ticks u.rate (time_facts t) (time_facts u) h k

-- a count of frames of a rate is one time
pub same_frames : (rate : Rate) (n : ℤ) (t u : Time) → IsFrames rate n t → IsFrames rate n u → t ≡ u
same_frames rate n t u i j = same_time t u (i.ticks ∙ sym j.ticks) (i.kept ∙ sym j.kept)

abbrev pub built_span : (start len : Time) → pos 0 ≤ℤ len.ticks → Span
built_span start len f = record { start = start; len = len; forward = f }

Forward-prop : (len : Time) → IsProp (pos 0 ≤ℤ len.ticks)
Forward-prop len = hlevel props

pub span_built : (a b c d : Time) (p : pos 0 ≤ℤ b.ticks) (q : pos 0 ≤ℤ d.ticks) → a ≡ c → b ≡ d
    → built_span a b p ≡ built_span c d q
span_built a b c d p q h k =
    subst (λ (x : Time). built_span a b p ≡ built_span x d q) h
    (subst (λ (y : Time). (f : pos 0 ≤ℤ y.ticks) → built_span a b p ≡ built_span a y f) k
    (λ f. ap (built_span a b) (Forward-prop b p f)) q)

-- two spans are the same where their starts and their lengths are
pub same_span : (s t : Span) → s.start ≡ t.start → s.len ≡ t.len → s ≡ t
same_span s t h k = span_built s.start s.len t.start t.len s.forward t.forward h k
