-- How many items stand for a list, as far as they count.
use Rattle.std.proofs.Common.{◌≡◌, ◌⊎◌, refl, sym, ap, subst, ◌∙◌, ℕ, ◌+◌, ◌≤◌, ◌<◌, ℤ, Bool, true, false, cond, List, ◌∷◌, length, drop, Option, Some, None, inl, inr, arith}
use Rattle.std.specs.Prelude.{nat_lt}
use Rattle.std.proofs.lemmas.List.{drop_all}
use Rattle.std.proofs.lemmas.Bool.Decides.{nat_tests}
use Rattle.limits.specs.Limits.{most_items}
use Rattle.tick_time.specs.declared.rates.Rate.{Rate}
use Rattle.edl_list.specs.declared.list.Channel.{Channel}
use Rattle.edl_list.specs.declared.list.Event.{Event}
use Rattle.edl_list.specs.Laws.{IsTimed}
use Rattle.edl_frames.specs.Counted.{event_count, channel_count}
use Rattle.edl_frames.specs.Shown.{is_on, on_channel}
use Rattle.edl_law.specs.Fits.{AreAhead}
use Rattle.edl_conform.specs.Steps.{IsCounting, saturated}
use Rattle.edl_conform.proofs.ItemSteps.{filter_in}

-- a saturated count is the count, or both are above
pub cases : (n : ℕ)
    → (saturated n ≡ n) ⊎ ((saturated n ≡ most_items + 1) × (most_items < n))
cases n = by (nat_lt n (most_items + 1)) refl
  where
    by : (t : Bool) → nat_lt n (most_items + 1) ≡ t
        → (cond t n (most_items + 1) ≡ n)
        ⊎ ((cond t n (most_items + 1) ≡ most_items + 1) × (most_items < n))
    by true e = inl refl
    by false e = inr (refl, grind (arith, nat_tests, e))

high : (n : ℕ) → most_items < n → saturated n ≡ most_items + 1
high n h =
    let t : nat_lt n (most_items + 1) ≡ false = grind (arith, nat_tests, h) in
    ap (λ b. cond b n (most_items + 1)) t

pub saturated_more : (x y : ℕ) → saturated (saturated x + y) ≡ saturated (x + y)
saturated_more x y = elim (cases x) [
  | inl e ↦ ap (λ n. saturated (n + y)) e
  | inr h ↦ (
      let e = h.0 in let g = h.1 in
      high (saturated x + y) (omega (arith, e)) ∙ sym (high (x + y) (omega (arith, g)))
      )
]

pub saturated_behind : (x y : ℕ) → saturated (x + saturated y) ≡ saturated (x + y)
saturated_behind x y = elim (cases y) [
  | inl e ↦ ap (λ n. saturated (x + n)) e
  | inr h ↦ (
      let e = h.0 in let g = h.1 in
      high (x + saturated y) (omega (arith, e)) ∙ sym (high (x + y) (omega (arith, g)))
      )
]

above : (m n : ℕ) → most_items < m → most_items < n → nat_lt most_items m ≡ nat_lt most_items n
above m n h k =
    let a : nat_lt most_items m ≡ true = grind (arith, nat_tests, h) in
    let b : nat_lt most_items n ≡ true = grind (arith, nat_tests, k) in
    a ∙ sym b

pub large : (x y z : ℕ)
    → nat_lt most_items (saturated x + (saturated y + saturated z))
    ≡ nat_lt most_items (x + (y + z))
large x y z = by (cases x) (cases y) (cases z)
  where
    many : most_items < saturated x + (saturated y + saturated z) → most_items < x + (y + z)
        → nat_lt most_items (saturated x + (saturated y + saturated z))
        ≡ nat_lt most_items (x + (y + z))
    many h k = above (saturated x + (saturated y + saturated z)) (x + (y + z)) h k

    by : (saturated x ≡ x) ⊎ ((saturated x ≡ most_items + 1) × (most_items < x))
        → (saturated y ≡ y) ⊎ ((saturated y ≡ most_items + 1) × (most_items < y))
        → (saturated z ≡ z) ⊎ ((saturated z ≡ most_items + 1) × (most_items < z))
        → nat_lt most_items (saturated x + (saturated y + saturated z))
        ≡ nat_lt most_items (x + (y + z))
    by (inr h) j k =
        let e = h.0 in let g = h.1 in many (omega (arith, e)) (omega (arith, g))
    by (inl e) (inr h) k =
        let f = h.0 in let g = h.1 in many (omega (arith, f)) (omega (arith, g))
    by (inl e) (inl f) (inr h) =
        let d = h.0 in let g = h.1 in many (omega (arith, d)) (omega (arith, g))
    by (inl e) (inl f) (inl g) =
        let s : saturated x + (saturated y + saturated z) ≡ x + (y + z) = omega (arith, e, f, g) in
        ap (nat_lt most_items) s

pub counting : (rate : Rate) (first : ℤ) (es : List Event) → AreAhead rate None first es
    → IsCounting rate first es es None first 0
counting rate first es h =
    let e : 0 + channel_count rate None first es ≡ channel_count rate None first es = omega arith in
    record { ahead = h; few = omega arith; total = ap saturated e }

pub count_on : (rate : Rate) (first at out : ℤ) (c : Channel) (all l rest : List Event)
    (before : Option Event) (e : Event) (old more new : ℕ)
    → l ≡ e ∷ rest → is_on c e ≡ true → (IsTimed rate e.rec_out → out ≡ e.rec_out)
    → IsCounting rate first all (on_channel c l) before at old
    → more ≡ event_count rate before at e → new ≡ saturated (old + more) → new ≤ most_items + 1
    → IsCounting rate first all (on_channel c rest) (Some e) out new
count_on rate first at out c all l rest before e old more new f h o w m n few =
    let here = subst (λ z. IsCounting rate first all z before at old)
    (ap (on_channel c) f ∙ filter_in c e rest true h) w in
    let left = channel_count rate (Some e) e.rec_out (on_channel c rest) in
    let order : (old + event_count rate before at e) + left
    ≡ old + (event_count rate before at e + left) = omega arith in
    subst (λ z. IsCounting rate first all (on_channel c rest) (Some e) z new)
    (sym (o here.ahead.0.event.behind)) (record {
      ahead = here.ahead.1;
      few = few;
      total = ap (λ k. saturated (k + left)) (n ∙ ap (λ k. saturated (old + k)) m)
          ∙ saturated_more (old + event_count rate before at e) left
          ∙ ap saturated order ∙ here.total;
    })

pub count_off : (rate : Rate) (first at : ℤ) (c : Channel) (all l rest : List Event)
    (before : Option Event) (e : Event) (count : ℕ)
    → l ≡ e ∷ rest → is_on c e ≡ false
    → IsCounting rate first all (on_channel c l) before at count
    → IsCounting rate first all (on_channel c rest) before at count
count_off rate first at c all l rest before e count f h w =
    subst (λ z. IsCounting rate first all z before at count)
    (ap (on_channel c) f ∙ filter_in c e rest false h) w

pub count_end : (rate : Rate) (first at : ℤ) (c : Channel) (all events : List Event) (i : ℕ)
    (before : Option Event) (count : ℕ)
    → length events ≤ i → IsCounting rate first all (on_channel c (drop i events)) before at count
    → count ≡ saturated (channel_count rate None first all)
count_end rate first at c all events i before count h w =
    let here = subst (λ z. IsCounting rate first all z before at count)
    (ap (on_channel c) (drop_all i events h)) w in
    let few = here.few in
    let none : count + 0 ≡ count = omega arith in
    own count few ∙ ap saturated (sym none) ∙ here.total
  where
    own : (n : ℕ) → n ≤ most_items + 1 → n ≡ saturated n
    own n k = elim (cases n) [
      | inl e ↦ sym e
      | inr g ↦ (let a = g.0 in let b = g.1 in omega (arith, a, b, k))
    ]
