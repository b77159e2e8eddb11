-- Where a time address stands among those that are counted.
use Rattle.std.proofs.Common.{◌≡◌, ◌==◌, ℕ, zero, suc, ◌+◌, ◌-◌, ◌*◌, ◌/◌, ◌%◌, ◌<◌, ◌≤◌, ◌≢◌, min, Bool, true, false, cond, not, ◌&&◌, nat_lt, length, take, filter, get_or, slice_get, Some, true≢false, refl, sym, ap, ◌∙◌, arith, add-one, take_all}
use Rattle.std.proofs.lemmas.Option.{slice_get_within, get_or_from_slice_get}
use Rattle.std.proofs.lemmas.Bool.Decides.{nat_tests}
use Rattle.std.proofs.lemmas.List.Filters.{length-filter_more}
use Rattle.smpte_tc.specs.declared.address.TimeAddress.{TimeAddress}
use Rattle.smpte_tc.specs.declared.modes.Mode.{Mode}
use Rattle.smpte_tc.specs.Day.{address, day_of, is_counted, counted_of}
use Rattle.smpte_tc.specs.Spelling.{IsInDay}
use Rattle.smpte_tc.proofs.Lists.{filter_at, filter_from}
use Rattle.smpte_tc.proofs.Counting.{place_of, day_at, day_from, length-day}

-- the minutes before one that are no multiple of ten
unfoldable pub short_before : ℕ → ℕ
short_before minute = minute - (minute + 9) / 10

short_after_short : (minute : ℕ) → minute % 10 ≢ 0 → short_before (minute + 1) ≡ short_before minute + 1
unfolding short_before
short_after_short minute h = omega (arith, h)

short_after_tenth : (minute : ℕ) → minute % 10 ≡ 0 → short_before (minute + 1) ≡ short_before minute
unfolding short_before
short_after_tenth minute h = omega arith

-- the numbers left out of a minute up to a second and a frame
abbrev pub lost_in_minute : ℕ → TimeAddress → ℕ
lost_in_minute d a = cond (a.minutes % 10 == 0) 0 (cond (a.seconds == 0) (min a.frames d) d)

-- the numbers of the day left out before a time address
abbrev pub lost_before : ℕ → TimeAddress → ℕ
lost_before d a = d * short_before (a.hours * 60 + a.minutes) + lost_in_minute d a

-- one or none
abbrev left_out : Mode → TimeAddress → ℕ
left_out mode b = cond (is_counted mode b) 0 1

frame_step : (tenth first low : Bool) (f d : ℕ) → (low ≡ true → f < d) → (low ≡ false → d ≤ f)
    → cond tenth 0 (cond first (min (suc f) d) d) ≡ cond tenth 0 (cond first (min f d) d) + cond (not ((first && low) && not tenth)) 0 1
frame_step true true true f d below above = refl
frame_step true true false f d below above = refl
frame_step true false low f d below above = refl
frame_step false true true f d below above = let h : f < d = below refl in omega arith
frame_step false true false f d below above = let h : d ≤ f = above refl in omega arith
frame_step false false low f d below above = omega arith

second_step : (tenth first low : Bool) (n d : ℕ) → 0 < n → d ≤ n → (low ≡ true → n - 1 < d) → (low ≡ false → d ≤ n - 1)
    → cond tenth 0 d ≡ cond tenth 0 (cond first (min (n - 1) d) d) + cond (not ((first && low) && not tenth)) 0 1
second_step true true true n d some fewer below above = refl
second_step true true false n d some fewer below above = refl
second_step true false low n d some fewer below above = refl
second_step false true true n d some fewer below above = let h : n - 1 < d = below refl in omega arith
second_step false true false n d some fewer below above = let h : d ≤ n - 1 = above refl in omega arith
second_step false false low n d some fewer below above = omega arith

below_yes : (a b : ℕ) → nat_lt a b ≡ true → a < b
below_yes a b e = grind (arith, nat_tests)

below_no : (a b : ℕ) → nat_lt a b ≡ false → b ≤ a
below_no a b e = grind (arith, nat_tests)

not_zero : (s : ℕ) → (suc s == 0) ≡ false
not_zero s = grind (arith, nat_tests)

-- one address after another: what is left out before it
after_frame : (mode : Mode) (h m s f : ℕ) → lost_before mode.dropped (address h m s (suc f)) ≡ lost_before mode.dropped (address h m s f) + left_out mode (address h m s f)
after_frame mode h m s f =
    let step = frame_step (m % 10 == 0) (s == 0) (nat_lt f mode.dropped) f mode.dropped (below_yes f mode.dropped) (below_no f mode.dropped) in
    omega (arith, step)

after_second : (mode : Mode) (h m s : ℕ) → 0 < mode.nominal → mode.dropped ≤ mode.nominal
    → lost_before mode.dropped (address h m (suc s) 0) ≡ lost_before mode.dropped (address h m s (mode.nominal - 1)) + left_out mode (address h m s (mode.nominal - 1))
after_second mode h m s some fewer =
    let step = second_step (m % 10 == 0) (s == 0) (nat_lt (mode.nominal - 1) mode.dropped) mode.nominal mode.dropped some fewer (below_yes (mode.nominal - 1) mode.dropped) (below_no (mode.nominal - 1) mode.dropped) in
    let later : lost_in_minute mode.dropped (address h m (suc s) 0) ≡ cond (m % 10 == 0) 0 mode.dropped = ap (λ b. cond (m % 10 == 0) 0 (cond b (min 0 mode.dropped) mode.dropped)) (not_zero s) in
    omega (arith, step, later)

minute_step : (tenth : Bool) (d minute : ℕ) → (tenth ≡ true → minute % 10 ≡ 0) → (tenth ≡ false → minute % 10 ≢ 0) → d * short_before (minute + 1) ≡ d * short_before minute + cond tenth 0 d
minute_step true d minute zeros others = let e = short_after_tenth minute (zeros refl) in omega (arith, ap (λ n. d * n) e)
minute_step false d minute zeros others = let e = short_after_short minute (others refl) in omega (arith, ap (λ n. d * n) e)

tenth_yes : (m : ℕ) → (m % 10 == 0) ≡ true → m % 10 ≡ 0
tenth_yes m e = grind (arith, nat_tests)

tenth_no : (m : ℕ) → (m % 10 == 0) ≡ false → m % 10 ≢ 0
tenth_no m e z = let z : (m % 10 == 0) ≡ true = ap (λ n. n == 0) z in true≢false (sym z ∙ e)

none_of : (tenth : Bool) (d : ℕ) → cond tenth 0 (min 0 d) ≡ 0
none_of true d = refl
none_of false d = omega arith

after_minute : (mode : Mode) (h m : ℕ)
    → lost_before mode.dropped (address h (suc m) 0 0) ≡ lost_before mode.dropped (address h m 59 (mode.nominal - 1)) + left_out mode (address h m 59 (mode.nominal - 1))
after_minute mode h m =
    let minute : h * 60 + suc m ≡ (h * 60 + m) + 1 = omega arith in
    let same : (h * 60 + m) % 10 ≡ m % 10 = omega arith in
    let step = minute_step (m % 10 == 0) mode.dropped (h * 60 + m) (λ e. same ∙ tenth_yes m e) (λ e z. tenth_no m e (sym same ∙ z)) in
    let first = none_of (suc m % 10 == 0) mode.dropped in
    omega (arith, step, first, ap (λ n. mode.dropped * short_before n) minute)

after_hour : (mode : Mode) (h : ℕ)
    → lost_before mode.dropped (address (suc h) 0 0 0) ≡ lost_before mode.dropped (address h 59 59 (mode.nominal - 1)) + left_out mode (address h 59 59 (mode.nominal - 1))
after_hour mode h =
    let minute : suc h * 60 + 0 ≡ (h * 60 + 59) + 1 = omega arith in
    let step = short_after_short (h * 60 + 59) (λ e. absurd (omega arith)) in
    omega (arith, ap (λ n. mode.dropped * n) step, ap (λ n. mode.dropped * short_before n) minute)

-- an address is counted or left out
one_of : (b : Bool) → cond b 1 0 + cond b 0 1 ≡ 1
one_of true = refl
one_of false = refl

-- one more of either
joined : (kept kept' lost lost' t here gone : ℕ) → kept' ≡ kept + here → lost' ≡ lost + gone → here + gone ≡ 1 → kept + lost ≡ t → kept' + lost' ≡ suc t
joined kept kept' lost lost' t here gone p q r e = omega arith

-- one more address: what is counted before it and what is left out before it
step_on : (mode : Mode) (t : ℕ) (a b : TimeAddress) → slice_get (day_of mode.nominal) t ≡ Some b
    → lost_before mode.dropped a ≡ lost_before mode.dropped b + left_out mode b
    → length (filter (is_counted mode) (take t (day_of mode.nominal))) + lost_before mode.dropped b ≡ t
    → length (filter (is_counted mode) (take (suc t) (day_of mode.nominal))) + lost_before mode.dropped a ≡ suc t
step_on mode t a b there lost before =
    let short : t < length (day_of mode.nominal) = slice_get_within (day_of mode.nominal) t b there in
    let is : get_or (day_of mode.nominal) t b ≡ b = get_or_from_slice_get (day_of mode.nominal) t b b there in
    let more : length (filter (is_counted mode) (take (suc t) (day_of mode.nominal))) ≡ length (filter (is_counted mode) (take t (day_of mode.nominal))) + cond (is_counted mode b) 1 0 =
    ap (λ n. length (filter (is_counted mode) (take n (day_of mode.nominal)))) (sym (add-one t))
    ∙ length-filter_more (is_counted mode) (day_of mode.nominal) t b short
    ∙ ap (λ x. length (filter (is_counted mode) (take t (day_of mode.nominal))) + cond (is_counted mode x) 1 0) is in
    joined _ _ _ _ t _ _ more lost (one_of (is_counted mode b)) before

-- nothing stands before the first address
at_start : (mode : Mode) (h m s f : ℕ) → 0 < mode.nominal → 0 ≡ place_of mode.nominal (address h m s f)
    → length (filter (is_counted mode) (take 0 (day_of mode.nominal))) + lost_before mode.dropped (address h m s f) ≡ 0
unfolding short_before
at_start mode zero zero zero zero some at = omega (arith, none_of true mode.dropped)
at_start mode h m s (suc f) some at = absurd (omega (arith, at))
at_start mode h m (suc s) f some at = absurd (omega (arith, at))
at_start mode h (suc m) s f some at = absurd (omega (arith, at))
at_start mode (suc h) m s f some at = absurd (omega (arith, at))

-- what is counted before an address and what is left out before it make up its place
pub counted_before : (mode : Mode) → 0 < mode.nominal → mode.dropped ≤ mode.nominal → (t h m s f : ℕ) → IsInDay mode.nominal (address h m s f) → t ≡ place_of mode.nominal (address h m s f)
    → length (filter (is_counted mode) (take t (day_of mode.nominal))) + lost_before mode.dropped (address h m s f) ≡ t
counted_before mode some fewer (suc t) h m s (suc f) inside at =
    let b = address h m s f in
    let inside' : IsInDay mode.nominal b = record { hours = inside.hours; minutes = inside.minutes; seconds = inside.seconds; frames = omega (arith, inside.frames) } in
    let at' : t ≡ place_of mode.nominal b = omega (arith, at) in
    step_on mode t (address h m s (suc f)) b (ap (slice_get (day_of mode.nominal)) at' ∙ day_at mode.nominal b inside') (after_frame mode h m s f) (counted_before mode some fewer t h m s f inside' at')
counted_before mode some fewer (suc t) h m (suc s) zero inside at =
    let b = address h m s (mode.nominal - 1) in
    let inside' : IsInDay mode.nominal b = record { hours = inside.hours; minutes = inside.minutes; seconds = omega (arith, inside.seconds); frames = omega arith } in
    let at' : t ≡ place_of mode.nominal b = omega (arith, at) in
    step_on mode t (address h m (suc s) 0) b (ap (slice_get (day_of mode.nominal)) at' ∙ day_at mode.nominal b inside') (after_second mode h m s some fewer) (counted_before mode some fewer t h m s (mode.nominal - 1) inside' at')
counted_before mode some fewer (suc t) h (suc m) zero zero inside at =
    let b = address h m 59 (mode.nominal - 1) in
    let inside' : IsInDay mode.nominal b = record { hours = inside.hours; minutes = omega (arith, inside.minutes); seconds = omega arith; frames = omega arith } in
    let at' : t ≡ place_of mode.nominal b = omega (arith, at) in
    step_on mode t (address h (suc m) 0 0) b (ap (slice_get (day_of mode.nominal)) at' ∙ day_at mode.nominal b inside') (after_minute mode h m) (counted_before mode some fewer t h m 59 (mode.nominal - 1) inside' at')
counted_before mode some fewer (suc t) (suc h) zero zero zero inside at =
    let b = address h 59 59 (mode.nominal - 1) in
    let inside' : IsInDay mode.nominal b = record { hours = omega (arith, inside.hours); minutes = omega arith; seconds = omega arith; frames = omega arith } in
    let at' : t ≡ place_of mode.nominal b = omega (arith, at) in
    step_on mode t (address (suc h) 0 0 0) b (ap (slice_get (day_of mode.nominal)) at' ∙ day_at mode.nominal b inside') (after_hour mode h) (counted_before mode some fewer t h 59 59 (mode.nominal - 1) inside' at')
counted_before mode some fewer (suc t) zero zero zero zero inside at = absurd (omega (arith, at))
counted_before mode some fewer zero h m s f inside at = at_start mode h m s f some at

-- a time address is counted, and so many before it
pub record IsCountedAt (mode : Mode) (k : ℕ) (a : TimeAddress) : Type 0 where
  pub inside : IsInDay mode.nominal a
  pub counted : is_counted mode a ≡ true
  pub place : k + mode.dropped * ((a.hours * 60 + a.minutes) - (a.hours * 60 + a.minutes) / 10) ≡ place_of mode.nominal a

-- of a counted address, what is left out before it
counted_case : (tenth first low : Bool) (f d minute : ℕ) → (tenth ≡ true → minute % 10 ≡ 0) → (tenth ≡ false → minute % 10 ≢ 0) → (low ≡ false → d ≤ f) → not ((first && low) && not tenth) ≡ true
    → d * short_before minute + cond tenth 0 (cond first (min f d) d) ≡ d * (minute - minute / 10)
unfolding short_before
counted_case true first low f d minute zeros others above counted =
    let zero : minute % 10 ≡ 0 = zeros refl in
    let same : minute - (minute + 9) / 10 ≡ minute - minute / 10 = omega (arith, zero) in
    omega (arith, ap (λ n. d * n) same)
counted_case false true true f d minute zeros others above counted = cc
counted_case false true false f d minute zeros others above counted =
    let h : d ≤ f = above refl in
    let more : minute - (minute + 9) / 10 + 1 ≡ minute - minute / 10 = omega (arith, others refl) in
    omega (arith, ap (λ n. d * n) more)
counted_case false false low f d minute zeros others above counted =
    let more : minute - (minute + 9) / 10 + 1 ≡ minute - minute / 10 = omega (arith, others refl) in
    omega (arith, ap (λ n. d * n) more)

lost_of_counted : (mode : Mode) (a : TimeAddress) → is_counted mode a ≡ true → lost_before mode.dropped a ≡ mode.dropped * ((a.hours * 60 + a.minutes) - (a.hours * 60 + a.minutes) / 10)
lost_of_counted mode a counted =
    let same : (a.hours * 60 + a.minutes) % 10 ≡ a.minutes % 10 = omega arith in
    counted_case (a.minutes % 10 == 0) (a.seconds == 0) (nat_lt a.frames mode.dropped) a.frames mode.dropped (a.hours * 60 + a.minutes)
    (λ e. same ∙ tenth_yes a.minutes e) (λ e z. tenth_no a.minutes e (sym same ∙ z)) (below_no a.frames mode.dropped) counted

-- a counted address stands at its number
pub counted_at : (mode : Mode) (k : ℕ) (a : TimeAddress) → 0 < mode.nominal → mode.dropped ≤ mode.nominal → IsCountedAt mode k a → slice_get (counted_of mode) k ≡ Some a
unfolding counted_of
counted_at mode k a some fewer at =
    let t = place_of mode.nominal a in
    let both = counted_before mode some fewer t a.hours a.minutes a.seconds a.frames at.inside refl in
    let count : k ≡ length (filter (is_counted mode) (take t (day_of mode.nominal))) = omega (arith, both, lost_of_counted mode a at.counted, at.place) in
    ap (slice_get (filter (is_counted mode) (day_of mode.nominal))) count
    ∙ filter_at (is_counted mode) (day_of mode.nominal) t a (day_at mode.nominal a at.inside) at.counted

-- the address at a number is counted there
pub counted_from : (mode : Mode) (k : ℕ) (a : TimeAddress) → 0 < mode.nominal → mode.dropped ≤ mode.nominal → slice_get (counted_of mode) k ≡ Some a → IsCountedAt mode k a
unfolding counted_of
counted_from mode k a some fewer e =
    let found = filter_from (is_counted mode) (day_of mode.nominal) k a e in
    let stands = day_from mode.nominal found.0 a found.1.there in
    let both = counted_before mode some fewer found.0 a.hours a.minutes a.seconds a.frames stands.inside stands.place in
    record {
      inside = stands.inside;
      counted = found.1.passes;
      place = omega (arith, both, lost_of_counted mode a found.1.passes, found.1.count, stands.place);
    }

-- how many addresses of a day are counted
pub day_count : (mode : Mode) → 0 < mode.nominal → mode.dropped ≤ mode.nominal → length (counted_of mode) + 1296 * mode.dropped ≡ 86400 * mode.nominal
unfolding counted_of short_before
day_count mode some fewer =
    let a = address 23 59 59 (mode.nominal - 1) in
    let inside : IsInDay mode.nominal a = record { hours = omega arith; minutes = omega arith; seconds = omega arith; frames = omega arith } in
    let t = place_of mode.nominal a in
    let whole : length (day_of mode.nominal) ≡ 24 * (60 * (60 * mode.nominal)) = length-day mode.nominal in
    let last : suc t ≡ length (day_of mode.nominal) = omega (arith, whole) in
    let both = counted_before mode some fewer t 23 59 59 (mode.nominal - 1) inside refl in
    let there = day_at mode.nominal a inside in
    let short : t < length (day_of mode.nominal) = omega (arith, last) in
    let is : get_or (day_of mode.nominal) t a ≡ a = get_or_from_slice_get (day_of mode.nominal) t a a there in
    let more = length-filter_more (is_counted mode) (day_of mode.nominal) t a short ∙ ap (λ x. length (filter (is_counted mode) (take t (day_of mode.nominal))) + cond (is_counted mode x) 1 0) is in
    let all : length (filter (is_counted mode) (take (t + 1) (day_of mode.nominal))) ≡ length (filter (is_counted mode) (day_of mode.nominal)) =
    ap (λ xs. length (filter (is_counted mode) xs)) (take_all (t + 1) (day_of mode.nominal) (omega (arith, last))) in
    omega (arith, more, all, both, whole)
