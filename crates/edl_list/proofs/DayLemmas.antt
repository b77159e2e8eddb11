-- The frames of a day, and how long they last.
use Rattle.std.proofs.Common.{◌≡◌, refl, sym, ap, subst, ◌∙◌, ℕ, ◌*◌, ◌/◌, ◌≤◌, ◌==◌, ℤ, pos, negsuc, ◌≤ℤ◌, Bool, true, false, cond, length, Option, Some, None, IsSome, option_map, unwrap_or, unsigned_abs, arith}
use Rattle.std.specs.Prelude.{nat_le}
use Rattle.std.proofs.lemmas.Int.{ints}
use Rattle.std.proofs.lemmas.Bool.Decides.{Decides-eqb}
use Rattle.std.proofs.lemmas.Nat.{mul-le}
use Rattle.std.proofs.Math.Nat.{mul-div-le, mul_assoc, mul_comm}
use Rattle.tick_time.specs.declared.rates.Rate.{Rate}
use Rattle.tick_time.specs.Rates.{per_millionth, unit, frame, nominal, relative_count}
use Rattle.smpte_tc.specs.declared.modes.Mode.{Mode}
use Rattle.smpte_tc.specs.Modes.{mode, mode_of, plain_mode}
use Rattle.smpte_tc.specs.Day.{counted_of}
use Rattle.smpte_tc.proofs.Dropping.{day_count}
use Rattle.smpte_tc.proofs.WrittenLabels.{mode_fair}
use Rattle.edl_list.specs.declared.list.Side.{Side}
use Rattle.edl_list.specs.Formed.{IsSide}
use Rattle.edl_list.specs.Laws.{IsTimed, IsCount}
use Rattle.edl_list.specs.Speeds.{count_of, day_of, side_speed}
use Rattle.edl_list.proofs.SpeedLemmas.{speed_small}

-- frames of a second, each of so many millionths of ticks, last two seconds at most
abbrev IsPaced : ℤ → ℕ → Type 0
IsPaced n u = unsigned_abs n * u ≤ 1411200000000

relative : (num : ℕ) (n : ℤ) → relative_count num ≡ Some n → IsPaced n (per_millionth * 1001 / num)
relative num n e = by (num == 15000) (num == 24000) (num == 30000) (num == 48000) (num == 60000) refl refl refl refl refl e
  where
    at : (k : ℕ) → (num == k) ≡ true → num ≡ k
    at k f = (Decides-eqb num k).0 f

    by : (a b c d f : Bool) → (num == 15000) ≡ a → (num == 24000) ≡ b → (num == 30000) ≡ c → (num == 48000) ≡ d → (num == 60000) ≡ f
        → cond a (Some (pos 15)) (cond b (Some (pos 24)) (cond c (Some (pos 30)) (cond d (Some (pos 48)) (cond f (Some (pos 60)) None)))) ≡ Some n → IsPaced n (per_millionth * 1001 / num)
    by true b c d f h1 h2 h3 h4 h5 g = let k = at 15000 h1 in let m : pos 15 ≡ n = cc g in subst (λ z. IsPaced z (per_millionth * 1001 / num)) m (rw k (omega arith))
    by false true c d f h1 h2 h3 h4 h5 g = let k = at 24000 h2 in let m : pos 24 ≡ n = cc g in subst (λ z. IsPaced z (per_millionth * 1001 / num)) m (rw k (omega arith))
    by false false true d f h1 h2 h3 h4 h5 g = let k = at 30000 h3 in let m : pos 30 ≡ n = cc g in subst (λ z. IsPaced z (per_millionth * 1001 / num)) m (rw k (omega arith))
    by false false false true f h1 h2 h3 h4 h5 g = let k = at 48000 h4 in let m : pos 48 ≡ n = cc g in subst (λ z. IsPaced z (per_millionth * 1001 / num)) m (rw k (omega arith))
    by false false false false true h1 h2 h3 h4 h5 g = let k = at 60000 h5 in let m : pos 60 ≡ n = cc g in subst (λ z. IsPaced z (per_millionth * 1001 / num)) m (rw k (omega arith))
    by false false false false false h1 h2 h3 h4 h5 g = absurd (cc g)

paced : (num den n : ℤ) → nominal num den ≡ Some n → pos 1 ≤ℤ num → IsPaced n (unit num den)
paced num den n e h = by (unsigned_abs den == 1001) (unsigned_abs den == 1) refl refl e
  where
    whole : (t : Bool) → unsigned_abs den ≡ 1 → cond t (Some num) None ≡ Some n → IsPaced n (unit num den)
    whole true d g =
        let m : num ≡ n = cc g in
        let low = mul-div-le per_millionth (unsigned_abs num) in
        let u : unit num den ≡ per_millionth / unsigned_abs num = ap (λ k. per_millionth * k / unsigned_abs num) d in
        subst (λ z. IsPaced z (unit num den)) m (let v = ap (λ k. unsigned_abs num * k) u in omega (arith, low, v))
    whole false d g = absurd (cc g)

    by : (a b : Bool) → (unsigned_abs den == 1001) ≡ a → (unsigned_abs den == 1) ≡ b
        → cond a (relative_count (unsigned_abs num)) (cond b (cond (nat_le (unsigned_abs num) 60) (Some num) None) None) ≡ Some n → IsPaced n (unit num den)
    by true b f g k =
        let d : unsigned_abs den ≡ 1001 = (Decides-eqb (unsigned_abs den) 1001).0 f in
        subst (λ z. IsPaced n (per_millionth * z / unsigned_abs num)) (sym d) (relative (unsigned_abs num) n k)
    by false true f g k = whole (nat_le (unsigned_abs num) 60) ((Decides-eqb (unsigned_abs den) 1).0 g) k
    by false false f g k = absurd (cc k)

-- frame numbers of the day, and counts of them
pub record IsPacedDay (rate : Rate) : Type 0 where
  pub some : 1 ≤ count_of rate
  pub small : count_of rate ≤ 60
  pub day : day_of rate ≡ 86400 * count_of rate
  pub long : count_of rate * unit rate.num rate.den ≤ 1411200000000

pub paced_day : (rate : Rate) (m : Mode) → mode_of rate false ≡ Some m → IsPacedDay rate
paced_day rate m e =
    let fair = mode_fair rate false m e in
    let all = day_count m fair.some fair.fewer in
    let count : count_of rate ≡ m.nominal = ap (λ o. unwrap_or (option_map (λ (mode : Mode). mode.nominal) o) 0) e in
    let day : day_of rate ≡ length (counted_of m) = ap (λ o. unwrap_or (option_map (λ (k : Mode). length (counted_of k)) o) 0) e in
    let plain : m.dropped ≡ 0 = undropped (nominal rate.num rate.den) e in
    let p = pace (nominal rate.num rate.den) refl e in
    let some = fair.some in let small = fair.small in
    record { some = omega (arith, count, some); small = omega (arith, count, small); day = omega (arith, day, all, count, plain); long = subst (λ k. k * unit rate.num rate.den ≤ 1411200000000) (sym count) p }
  where
    undropped : (o : Option ℤ) → option_map (λ count. mode (unsigned_abs count) 0) o ≡ Some m → m.dropped ≡ 0
    undropped None f = absurd (cc f)
    undropped (Some n) f = let same : mode (unsigned_abs n) 0 ≡ m = cc f in sym (ap (λ (k : Mode). k.dropped) same)

    pace : (o : Option ℤ) → nominal rate.num rate.den ≡ o → option_map (λ count. mode (unsigned_abs count) 0) o ≡ Some m → m.nominal * unit rate.num rate.den ≤ 1411200000000
    pace None g f = absurd (cc f)
    pace (Some n) g f =
        let same : mode (unsigned_abs n) 0 ≡ m = cc f in
        let a = rate.positive in let b = rate.at_least_one in
        subst (λ k. k * unit rate.num rate.den ≤ 1411200000000) (ap (λ (k : Mode). k.nominal) same) (paced rate.num rate.den n g (omega (arith, ints, a, b)))

-- counts up to a day
pub timed : (rate : Rate) (z : ℤ) → IsPacedDay rate → pos 0 ≤ℤ z → z ≤ℤ pos (day_of rate) → IsTimed rate z
timed rate (negsuc n) p low high = absurd (omega (arith, ints, low))
timed rate (pos n) p low high =
    let day = p.day in let small = p.small in let long = p.long in
    let few : n ≤ 86400 * count_of rate = omega (arith, ints, high, day) in
    let less = mul-le n (unit rate.num rate.den) (86400 * count_of rate) (unit rate.num rate.den) few (omega arith) in
    let order : (86400 * count_of rate) * unit rate.num rate.den ≡ 86400 * (count_of rate * unit rate.num rate.den) = mul_assoc 86400 (count_of rate) (unit rate.num rate.den) in
    let total : n * frame rate.num rate.den ≡ 1000000 * (n * unit rate.num rate.den) =
    sym (mul_assoc n 1000000 (unit rate.num rate.den))
    ∙ ap (λ k. k * unit rate.num rate.den) (mul_comm n 1000000) ∙ mul_assoc 1000000 n (unit rate.num rate.den) in
    record {
      low = low;
      high = omega (arith, ints, few, small);
      range = record { low = omega (arith, ints); high = omega (arith, ints, total, less, order, long) };
    }

has_mode : (o : Option Mode) → IsSome o → (m : Mode) × (o ≡ Some m)
has_mode None h = absurd (cc h)
has_mode (Some m) h = (m, refl)

-- the same at a rate that has timecode
pub day_paced : (rate : Rate) → IsSome (mode_of rate false) → IsPacedDay rate
day_paced rate h = let m = has_mode (mode_of rate false) h in paced_day rate m.0 m.1

pub frames_timed : (rate : Rate) → IsSome (mode_of rate false) → (n : ℤ) → pos 0 ≤ℤ n
    → n ≤ℤ pos (day_of rate) → IsTimed rate n
frames_timed rate h n low high = timed rate n (day_paced rate h) low high

pub count_fits : (rate : Rate) → IsSome (mode_of rate false) → IsCount (count_of rate)
count_fits rate h = let p = day_paced rate h in record { some = p.some; small = p.small }

pub side_slow : (rate : Rate) → IsSome (mode_of rate false) → (side : Side)
    → IsSide (day_of rate) side → side_speed rate side ≤ 1000 * 1000000
side_slow rate h side s = speed_small (count_of rate) side.speed (day_paced rate h).some s.speed

-- where a rate has drop-frame timecode it has timecode of the same count without
pub dropped_mode : (num den : ℤ) (p q r : Bool) (m : Mode) → (unsigned_abs den == 1001) ≡ p
    → (unsigned_abs num == 30000) ≡ q → (unsigned_abs num == 60000) ≡ r
    → cond p (cond q (Some (mode 30 2)) (cond r (Some (mode 60 4)) None)) None ≡ Some m
    → plain_mode num den ≡ Some (mode m.nominal 0)
dropped_mode num den true true r m ep eq er h =
    let d : unsigned_abs den ≡ 1001 = (Decides-eqb (unsigned_abs den) 1001).0 ep in
    let n : unsigned_abs num ≡ 30000 = (Decides-eqb (unsigned_abs num) 30000).0 eq in
    let same : mode 30 2 ≡ m = cc h in
    rw (d, n) (ap (λ (k : Mode). Some (mode k.nominal 0)) same)
dropped_mode num den true false true m ep eq er h =
    let d : unsigned_abs den ≡ 1001 = (Decides-eqb (unsigned_abs den) 1001).0 ep in
    let n : unsigned_abs num ≡ 60000 = (Decides-eqb (unsigned_abs num) 60000).0 er in
    let same : mode 60 4 ≡ m = cc h in
    rw (d, n) (ap (λ (k : Mode). Some (mode k.nominal 0)) same)
dropped_mode num den true false false m ep eq er h = absurd (cc h)
dropped_mode num den false q r m ep eq er h = absurd (cc h)
