-- Children that get other source ranges: what they are then, how long, and how the plan ends.
use Rattle.std.proofs.Common.{◌≡◌, refl, sym, ap, ap₂, subst, ◌∙◌, ℕ, zero, suc, ◌+◌, ◌-◌, ◌<◌, ◌≤◌}
use Rattle.std.proofs.Common.{◌^◌, ℤ, pos, ◌≤ℤ◌, ◌+ℤ◌, ◌-ℤ◌, ◌*ℤ◌, Bool, true, false, cond, List, [], ◌∷◌}
use Rattle.std.proofs.Common.{◌++◌, Option, Some, None, length, take, drop, slice_get, add-one, arith}
use Rattle.std.specs.Prelude.{◌||◌, ◌&&◌, map, slice_set, not, nat_lt, int_le, unsigned_abs}
use Rattle.std.proofs.lemmas.Bool.Decides.{nat_tests}
use Rattle.std.proofs.lemmas.Int.{ints}
use Rattle.std.proofs.lemmas.Bool.{or_parts as or_none}
use Rattle.limits.specs.Limits.{most_items, most_ticks}
use Rattle.tick_time.specs.declared.spans.Span.{Span}
use Rattle.otio_model.specs.declared.compositions.ItemOf.{ItemOf}
use Rattle.otio_model.specs.declared.compositions.ItemOf.TheVariants.{Clip, Gap, Transition, Stack}
use Rattle.otio_model.specs.declared.compositions.ItemOf.TheVariants.{Track}
use Rattle.otio_model.specs.declared.compositions.Listed.{Listed}
use Rattle.otio_model.specs.declared.timelines.Timeline.{Timeline}
use Rattle.otio_model.specs.declared.patches.Patch.{Patch}
use Rattle.otio_model.specs.declared.patches.Put.TheVariants.{Items, Ranges}
use Rattle.otio_model.specs.declared.edit_types.Edit.{Edit}
use Rattle.otio_model.specs.Counts.{count, count_of, counts_by}
use Rattle.otio_model.specs.Falls.{count-listed}
use Rattle.otio_model.specs.Edits.{list_at, replaced, with_at}
use Rattle.otio_model.specs.Kept.{capped_count}
use Rattle.otio_model.specs.Lengths.{added, length_of, lengths, or_zero, source_of}
use Rattle.otio_model.specs.Patches.{applied, target, with_list}
use Rattle.otio_model.specs.Retimed.{retimed, sources, with_source, with_sources}
use Rattle.otio_model.specs.Speeds.{keeps_speed}
use Rattle.otio_model.specs.Sums.{capped}
use Rattle.otio_model.specs.Trees.{is_transition, items_of, listed}
use Rattle.otio_model.proofs.KeptLemmas.{taken_all}
use Rattle.otio_model.proofs.Views.{listed-items}
use Rattle.coord.specs.declared.faults.ItemFault.{ItemFault}
use Rattle.coord.specs.declared.faults.ItemFault.TheVariants.{NoLength, Speed, Long}
use Rattle.coord.specs.Soundness.{IsSound, available_ticks, fault_of, is_long, media_end, most_end}
use Rattle.coord.specs.Soundness.{ranged_fault}
use Rattle.coord.specs.Speeds.{effects_of, speed_of}
use Rattle.edits.specs.After.{frame_of, list_of, place_of, rate_of}
use Rattle.edits.specs.Edits.{edited}
use Rattle.edits.specs.Refusals.{HasMany, IsAfter, IsTooLong, place_fault}
use Rattle.edits_law.proofs.Anywhere.{count_at}
use Rattle.edit_plans.specs.declared.totals.Amount.{Amount}
use Rattle.edit_plans.specs.Amounts.{amount_in, ticks_in}
use Rattle.edit_plans.specs.Planned.{IsMiddle, IsPlan, IsRetiming}
use Rattle.edit_plans.specs.Retimings.{KeepsUnranged, ranged_from}
use Rattle.edit_plans.specs.Ways.{has_long, is_long_fault, is_way_long}
use Rattle.edit_plans.proofs.AmountLemmas.{dropped, one_ticks, ticks-append}
use Rattle.edit_plans.proofs.Exchanges.{one_list}
use Rattle.edit_plans.proofs.PinLemmas.{up_to}
use Rattle.edit_plans.proofs.TrackLemmas.{list_is}
use Rattle.edit_plans.proofs.Endings.{not_too_long, not_too_many, place_is, planned, too_long}
use Rattle.edit_plans.proofs.Endings.{target_is, too_many}

-- ---- one item

same_source : (x : ItemOf Listed) → source_of x ≡ None → with_source None x ≡ x
same_source (Clip c) e = ap (λ r. Clip (record c { source_range = r })) (sym e)
same_source (Gap c) e = ap (λ r. Gap (record c { source_range = r })) (sym e)
same_source (Transition c) e = refl
same_source (Stack c) e = ap (λ r. Stack (record c { source_range = r })) (sym e)
same_source (Track c) e = ap (λ r. Track (record c { source_range = r })) (sym e)

pub ticks_kept : (x : ItemOf Listed) (r : Option Span) → r ≡ None → source_of x ≡ None
    → or_zero (length_of x) ≡ or_zero (length_of (with_source r x))
ticks_kept x r e f = ap (λ y. or_zero (length_of y)) (sym (same_source x f))
    ∙ ap (λ q. or_zero (length_of (with_source q x))) (sym e)

pub ticks_none : (x : ItemOf Listed) (r : Option Span) → is_transition x ≡ true
    → 0 ≡ or_zero (length_of (with_source r x))
ticks_none (Clip c) r e = absurd (cc e)
ticks_none (Gap c) r e = absurd (cc e)
ticks_none (Transition c) r e = refl
ticks_none (Stack c) r e = absurd (cc e)
ticks_none (Track c) r e = absurd (cc e)

pub ticks_new : (x : ItemOf Listed) (s : Span) → is_transition x ≡ false
    → unsigned_abs s.len.ticks ≡ or_zero (length_of (with_source (Some s) x))
ticks_new (Clip c) s e = refl
ticks_new (Gap c) s e = refl
ticks_new (Transition c) s e = absurd (cc e)
ticks_new (Stack c) s e = refl
ticks_new (Track c) s e = refl

-- ---- whether it is too long

not_long : (o : Option ItemFault) → o ≡ None → is_long_fault o ≡ false
not_long o e = ap is_long_fault e

pub long_kept : (x : ItemOf Listed) (r : Option Span) → r ≡ None → source_of x ≡ None
    → fault_of x ≡ None → false ≡ is_long_fault (fault_of (with_source r x))
long_kept x r e f g = sym (ap (λ q. is_long_fault (fault_of (with_source q x))) e
    ∙ ap (λ y. is_long_fault (fault_of y)) (same_source x f) ∙ not_long (fault_of x) g)

pub long_thing : (x : ItemOf Listed) (r : Option Span) → is_transition x ≡ true
    → false ≡ is_long_fault (fault_of (with_source r x))
long_thing (Clip c) r e = absurd (cc e)
long_thing (Gap c) r e = absurd (cc e)
long_thing (Transition c) r e = refl
long_thing (Stack c) r e = absurd (cc e)
long_thing (Track c) r e = absurd (cc e)

-- what an item without a fault is, but for its source range
record Fine (x : ItemOf Listed) : Type 0 where
  speed : keeps_speed (pos 1000000) (effects_of x) ≡ true
  available : nat_lt most_ticks (available_ticks x) ≡ false

no_long : (b : Bool) → cond b (Some Long) None ≡ None → b ≡ false
no_long false e = refl
no_long true e = absurd (cc e)

no_speed : (k b : Bool) → cond k (cond b (Some Long) None) (Some Speed) ≡ None
    → (k ≡ true) × (b ≡ false)
no_speed true b e = (refl, no_long b e)
no_speed false b e = absurd (cc e)

fine_by_length : (x : ItemOf Listed) (o : Option ℕ) → ◌≡◌ {A = Option ItemFault}
    (elim o [ None ↦ Some NoLength | Some n ↦ ranged_fault x n ]) None → Fine x
fine_by_length x None e = absurd (cc e)
fine_by_length x (Some n) e =
    let k = no_speed (keeps_speed (pos 1000000) (effects_of x)) (is_long x n) e in
    let a = or_none (nat_lt most_ticks n) _ k.1 in
    let b = or_none (nat_lt most_ticks (available_ticks x)) _ a.1 in
    record { speed = k.0; available = b.0 }

fine : (x : ItemOf Listed) → is_transition x ≡ false → fault_of x ≡ None → Fine x
fine (Clip c) t e = fine_by_length (Clip c) (length_of (Clip c)) e
fine (Gap c) t e = fine_by_length (Gap c) (length_of (Gap c)) e
fine (Transition c) t e = absurd (cc t)
fine (Stack c) t e = fine_by_length (Stack c) (length_of (Stack c)) e
fine (Track c) t e = fine_by_length (Track c) (length_of (Track c)) e

ranged_long : (k b : Bool) → k ≡ true
    → b ≡ is_long_fault (cond k (cond b (Some Long) None) (Some Speed))
ranged_long true true e = refl
ranged_long true false e = refl
ranged_long false b e = absurd (cc e)

pub long_new : (x : ItemOf Listed) (s : Span) (b : Bool) → is_transition x ≡ false
    → fault_of x ≡ None → b ≡ is_long (with_source (Some s) x) (unsigned_abs s.len.ticks)
    → b ≡ is_long_fault (fault_of (with_source (Some s) x))
long_new (Clip c) s b t e f = f ∙ ranged_long _ _ (fine (Clip c) t e).speed
long_new (Gap c) s b t e f = f ∙ ranged_long _ _ (fine (Gap c) t e).speed
long_new (Transition c) s b t e f = absurd (cc t)
long_new (Stack c) s b t e f = f ∙ ranged_long _ _ (fine (Stack c) t e).speed
long_new (Track c) s b t e f = f ∙ ranged_long _ _ (fine (Track c) t e).speed

-- where such an item ends in its media
new_end : (x : ItemOf Listed) (s : Span) (n : ℕ) → is_transition x ≡ false
    → media_end (with_source (Some s) x) n ≡ ((s.start.ticks *ℤ pos 1000000) +ℤ (pos n *ℤ speed_of x))
new_end (Clip c) s n t = refl
new_end (Gap c) s n t = refl
new_end (Transition c) s n t = absurd (cc t)
new_end (Stack c) s n t = refl
new_end (Track c) s n t = refl

new_available : (x : ItemOf Listed) (s : Span)
    → available_ticks (with_source (Some s) x) ≡ available_ticks x
new_available (Clip c) s = refl
new_available (Gap c) s = refl
new_available (Transition c) s = refl
new_available (Stack c) s = refl
new_available (Track c) s = refl

-- a span is no longer than a million seconds
span_short : (n : ℕ) → n ≤ most_ticks → nat_lt most_ticks n ≡ false
span_short n h = grind (arith, nat_tests, h)

pub ends_long : (x : ItemOf Listed) (s : Span) (z : ℤ) → is_transition x ≡ false
    → fault_of x ≡ None → unsigned_abs s.len.ticks ≤ most_ticks
    → z ≡ ((s.start.ticks *ℤ pos 1000000) +ℤ (pos (unsigned_abs s.len.ticks) *ℤ speed_of x))
    → not (int_le (pos 0 -ℤ most_end) z && int_le z most_end)
    ≡ is_long (with_source (Some s) x) (unsigned_abs s.len.ticks)
ends_long x s z t e h f =
    let n = unsigned_abs s.len.ticks in
    let a : nat_lt most_ticks (available_ticks (with_source (Some s) x)) ≡ false =
    ap (nat_lt most_ticks) (new_available x s) ∙ (fine x t e).available in
    let g : media_end (with_source (Some s) x) n ≡ z = new_end x s n t ∙ sym f in
    let shown : is_long (with_source (Some s) x) n
    ≡ not (int_le (pos 0 -ℤ most_end) (media_end (with_source (Some s) x) n)
    && int_le (media_end (with_source (Some s) x) n) most_end) = rw (span_short n h, a) refl in
    sym (shown ∙ ap (λ m. not (int_le (pos 0 -ℤ most_end) m && int_le m most_end)) g)

pub ends_at : (x : ItemOf Listed) (s : Span) (n : ℕ) (v p z : ℤ) → n ≡ unsigned_abs s.len.ticks
    → v ≡ speed_of x → p ≡ (pos n *ℤ v) → z ≡ ((s.start.ticks *ℤ pos 1000000) +ℤ p)
    → z ≡ ((s.start.ticks *ℤ pos 1000000) +ℤ (pos (unsigned_abs s.len.ticks) *ℤ speed_of x))
ends_at x s n v p z e f g h = h ∙ ap (λ q. (s.start.ticks *ℤ pos 1000000) +ℤ q)
    (g ∙ ap₂ (λ a b. pos a *ℤ b) e f)

-- ---- lists

sourced : (rs : List (Option Span)) (xs : List (ItemOf Listed)) (i : ℕ) (r : Option Span)
    (x : ItemOf Listed) → slice_get rs i ≡ Some r → slice_get xs i ≡ Some x
    → slice_get (with_sources rs (take (length rs) xs)) i ≡ Some (with_source r x)
sourced [] xs zero r x e f = absurd (cc e)
sourced [] xs (suc i) r x e f = absurd (cc e)
sourced (q ∷ rs) [] zero r x e f = absurd (cc f)
sourced (q ∷ rs) [] (suc i) r x e f = absurd (cc f)
sourced (q ∷ rs) (y ∷ xs) zero r x e f =
    let a : q ≡ r = cc e in let b : y ≡ x = cc f in ap₂ (λ p z. Some (with_source p z)) a b
sourced (q ∷ rs) (y ∷ xs) (suc i) r x e f = sourced rs xs i r x e f

-- the item at an index of those that get source ranges
pub ranged_get : (at : ℕ) (rs : List (Option Span)) (xs : List (ItemOf Listed)) (i : ℕ)
    (r : Option Span) (x : ItemOf Listed) → slice_get rs i ≡ Some r
    → slice_get xs (at + i) ≡ Some x
    → slice_get (ranged_from at rs xs) i ≡ Some (with_source r x)
ranged_get at rs xs i r x e f = sourced rs (drop at xs) i r x e (dropped at i xs ∙ f)

sourced_length : (rs : List (Option Span)) (xs : List (ItemOf Listed)) → length rs ≤ length xs
    → length (with_sources rs (take (length rs) xs)) ≡ length rs
sourced_length [] xs h = refl
sourced_length (r ∷ rs) [] h = absurd (omega (arith, h))
sourced_length (r ∷ rs) (x ∷ xs) h = ap suc (sourced_length rs xs (omega (arith, h)))

long_rest : (at : ℕ) (xs : List (ItemOf Listed)) (n : ℕ) → at + n ≤ length xs
    → n ≤ length (drop at xs)
long_rest zero xs n h = omega (arith, h)
long_rest (suc at) [] n h = absurd (omega (arith, h))
long_rest (suc at) (x ∷ xs) n h = long_rest at xs n (omega (arith, h))

pub ranged_length : (at : ℕ) (rs : List (Option Span)) (xs : List (ItemOf Listed))
    → at + length rs ≤ length xs → length (ranged_from at rs xs) ≡ length rs
ranged_length at rs xs h = sourced_length rs (drop at xs) (long_rest at xs (length rs) h)

sources_are : (rs : List (Option Span)) (xs : List (ItemOf Listed)) → length rs ≤ length xs
    → with_sources rs xs ≡ with_sources rs (take (length rs) xs) ++ drop (length rs) xs
sources_are [] xs h = refl
sources_are (r ∷ rs) [] h = absurd (omega (arith, h))
sources_are (r ∷ rs) (x ∷ xs) h =
    ap (λ ys. with_source r x ∷ ys) (sources_are rs xs (omega (arith, h)))

-- the list is the old one with them in place of so many children
pub retimed_is : (at : ℕ) (rs : List (Option Span)) (xs : List (ItemOf Listed))
    → at + length rs ≤ length xs
    → retimed at rs xs ≡ replaced at (length rs) (ranged_from at rs xs) xs
retimed_is zero rs xs h =
    let same : length rs ≡ 0 + length rs = omega arith in
    sources_are rs xs (omega (arith, h))
    ∙ ap (λ n. with_sources rs (take (length rs) xs) ++ drop n xs) same
retimed_is (suc at) rs [] h = absurd (omega (arith, h))
retimed_is (suc at) rs (x ∷ xs) h =
    let same : suc (at + length rs) ≡ suc at + length rs = omega arith in
    ap (λ ys. x ∷ ys) (retimed_is at rs xs (omega (arith, h)))
    ∙ ap (λ n. x ∷ (take at xs ++ (ranged_from at rs xs ++ drop n (x ∷ xs)))) same

-- ---- other source ranges of some

pub own_source : (x : ItemOf Listed) → with_source (source_of x) x ≡ x
own_source (Clip c) = refl
own_source (Gap c) = refl
own_source (Transition c) = refl
own_source (Stack c) = refl
own_source (Track c) = refl

pub no_sources : (xs : List (ItemOf Listed)) → with_sources (sources xs) xs ≡ xs
no_sources [] = refl
no_sources (x ∷ xs) = ap₂ (λ y ys. y ∷ ys) (own_source x) (no_sources xs)

-- the items of a list with their own source ranges, but for one
pub one_source : (xs : List (ItemOf Listed)) (i : ℕ) (r : Option Span) (x : ItemOf Listed)
    → slice_get xs i ≡ Some x → with_sources (slice_set (sources xs) i r) xs
    ≡ take i xs ++ ((with_source r x ∷ []) ++ drop (i + 1) xs)
one_source xs i r x e = by xs i e
    ∙ ap (λ k. take i xs ++ (with_source r x ∷ drop k xs)) (sym (add-one i))
  where
    by : (xs : List (ItemOf Listed)) (i : ℕ) → slice_get xs i ≡ Some x
        → with_sources (slice_set (sources xs) i r) xs
        ≡ take i xs ++ (with_source r x ∷ drop (suc i) xs)
    by [] i e = absurd (cc e)
    by (y ∷ xs) zero e = let same : y ≡ x = cc e in
        ap₂ (λ z zs. with_source r z ∷ zs) same (no_sources xs)
    by (y ∷ xs) (suc i) e = ap₂ (λ z zs. z ∷ zs) (own_source y) (by xs i e)

-- a source range more of as many as there are
pub all_sources : (rs qs : List (Option Span)) (r : Option Span) (xs ys : List (ItemOf Listed))
    (x : ItemOf Listed) → length rs ≡ length xs
    → with_sources (rs ++ (r ∷ qs)) (xs ++ (x ∷ ys))
    ≡ with_sources rs xs ++ (with_source r x ∷ with_sources qs ys)
all_sources [] qs r [] ys x e = refl
all_sources [] qs r (y ∷ xs) ys x e = absurd (omega (arith, e))
all_sources (q ∷ rs) qs r [] ys x e = absurd (omega (arith, e))
all_sources (q ∷ rs) qs r (y ∷ xs) ys x e =
    ap (λ zs. with_source q y ∷ zs) (all_sources rs qs r xs ys x (omega (arith, e)))

-- ---- who gets none

pub kept_own : (xs : List (ItemOf Listed)) → KeepsUnranged (sources xs) xs
kept_own [] zero x e f = absurd (cc f)
kept_own [] (suc i) x e f = absurd (cc f)
kept_own (y ∷ xs) zero x e f = let same : y ≡ x = cc f in let none : source_of y ≡ None = cc e in
    ap source_of (sym same) ∙ none
kept_own (y ∷ xs) (suc i) x e f = kept_own xs i x e f

pub kept_one : (xs : List (ItemOf Listed)) (i : ℕ) (r : Option Span) (x : ItemOf Listed)
    → slice_get xs i ≡ Some x → (r ≡ None → source_of x ≡ None)
    → KeepsUnranged (slice_set (sources xs) i r) xs
kept_one [] i r x e h k y f g = absurd (cc e)
kept_one (z ∷ xs) zero r x e h zero y f g = let same : z ≡ x = cc e in let also : z ≡ y = cc g in
    let none : r ≡ None = cc f in ap source_of (sym also ∙ same) ∙ h none
kept_one (z ∷ xs) zero r x e h (suc k) y f g = kept_own xs k y f g
kept_one (z ∷ xs) (suc i) r x e h zero y f g = kept_own (z ∷ xs) zero y f g
kept_one (z ∷ xs) (suc i) r x e h (suc k) y f g = kept_one xs i r x e h k y f g

pub kept_all : (rs qs : List (Option Span)) (r : Option Span) (xs ys : List (ItemOf Listed))
    (x : ItemOf Listed) → length rs ≡ length xs → KeepsUnranged rs xs
    → (r ≡ None → source_of x ≡ None) → KeepsUnranged qs ys
    → KeepsUnranged (rs ++ (r ∷ qs)) (xs ++ (x ∷ ys))
kept_all [] qs r [] ys x e a h b zero y f g = let same : x ≡ y = cc g in
    let none : r ≡ None = cc f in ap source_of (sym same) ∙ h none
kept_all [] qs r [] ys x e a h b (suc i) y f g = b i y f g
kept_all [] qs r (z ∷ xs) ys x e a h b i y f g = absurd (omega (arith, e))
kept_all (q ∷ rs) qs r [] ys x e a h b i y f g = absurd (omega (arith, e))
kept_all (q ∷ rs) qs r (z ∷ xs) ys x e a h b zero y f g = a zero y f g
kept_all (q ∷ rs) qs r (z ∷ xs) ys x e a h b (suc i) y f g =
    kept_all rs qs r xs ys x (omega (arith, e)) (λ j. a (suc j)) h b i y f g

-- ---- one more

capped_more : (a b c n : ℕ) → a ≡ capped b → n ≡ b + c → capped (a + c) ≡ capped n
capped_more a b c n e f = omega (arith, e, f)

pub ticks_next : (ys : List (ItemOf Listed)) (i : ℕ) (y : ItemOf Listed) (a n : ℕ)
    → slice_get ys i ≡ Some y → a ≡ capped (ticks_in (take i ys)) → n ≡ or_zero (length_of y)
    → capped (a + n) ≡ capped (ticks_in (take (i + 1) ys))
ticks_next ys i y a n e f g =
    let k = ap ticks_in (up_to ys i y e) ∙ ticks-append (take i ys) (y ∷ [])
    ∙ ap (λ m. ticks_in (take i ys) + m) (one_ticks (length_of y)) in
    capped_more a (ticks_in (take i ys)) n (ticks_in (take (i + 1) ys)) f
    (k ∙ ap (λ m. ticks_in (take i ys) + m) (sym g))

-- what the item at an index needs
pub kept_there : (at : ℕ) (rs : List (Option Span)) (xs : List (ItemOf Listed)) (i : ℕ)
    (r : Option Span) (x : ItemOf Listed) → KeepsUnranged rs (drop at xs)
    → slice_get rs i ≡ Some r → slice_get xs (at + i) ≡ Some x → r ≡ None → source_of x ≡ None
kept_there at rs xs i r x k e f g = k i x (e ∙ ap Some g) (dropped at i xs ∙ f)

pub ticks_done : (ys : List (ItemOf Listed)) (i n a : ℕ) → length ys ≡ n → n ≤ i
    → a ≡ capped (ticks_in (take i ys)) → a ≡ capped (ticks_in ys)
ticks_done ys i n a e h f =
    f ∙ ap (λ l. capped (ticks_in l)) (taken_all ys i (omega (arith, e, h)))

-- ---- how many items there are

source_count : (r : Option Span) (x : ItemOf Listed) → count_of (with_source r x) ≡ count_of x
source_count r (Clip c) = refl
source_count r (Gap c) = refl
source_count r (Transition c) = refl
source_count r (Stack c) = refl
source_count r (Track c) = refl

sources_count : (rs : List (Option Span)) (xs : List (ItemOf Listed))
    → counts_by count (with_sources rs xs) ≡ counts_by count xs
sources_count [] xs = refl
sources_count (r ∷ rs) [] = refl
sources_count (r ∷ rs) (x ∷ xs) =
    let a = source_count r x in let b = sources_count rs xs in omega (arith, a, b)

retimed_count : (at : ℕ) (rs : List (Option Span)) (xs : List (ItemOf Listed))
    → counts_by count (retimed at rs xs) ≡ counts_by count xs
retimed_count zero rs xs = sources_count rs xs
retimed_count (suc at) rs [] = refl
retimed_count (suc at) rs (x ∷ xs) = let b = retimed_count at rs xs in omega (arith, b)

-- as many as before
count_then : (place : List ℕ) (at : ℕ) (rs : List (Option Span)) (l c : Listed)
    → list_at place l ≡ Some c
    → count (with_at place (listed (retimed at rs (items_of c))) l) ≡ count l
count_then place at rs l c e =
    let a = count_at place (listed (retimed at rs (items_of c))) l c e in
    let b = count-listed (retimed at rs (items_of c)) ∙ retimed_count at rs (items_of c)
    ∙ sym (count-listed (items_of c)) ∙ ap count (listed-items c) in
    omega (arith, a, b)

-- ---- as items that come in place of so many

middle_is : (t : Timeline) (e : Edit) (place : List ℕ) (at : ℕ) (rs : List (Option Span))
    → IsRetiming t e place at rs
    → IsMiddle t e place at (length rs) (ranged_from at rs (list_of t e))
middle_is t e place at rs m =
    let n = ranged_length at rs (list_of t e) m.within in
    let few = m.few in
    record {
      there = m.there;
      item = m.item;
      early = m.early;
      within = m.within;
      made = m.made ∙ ap Some (retimed_is at rs (list_of t e) m.within);
      few_out = m.few;
      few_in = omega (arith, n, few);
    }

-- the list at the place is that of the edit
its_list : (t : Timeline) (e : Edit) (place : List ℕ) (at : ℕ) (rs : List (Option Span))
    (c : Listed) → IsRetiming t e place at rs → list_at place t.tracks.children ≡ Some c
    → items_of c ≡ list_of t e
its_list t e place at rs c m f = list_is t e place c m.there f

sum_is : (t : Timeline) (e : Edit) (place : List ℕ) (at ticks : ℕ) (rs : List (Option Span))
    (c : Listed) → IsRetiming t e place at rs → list_at place t.tracks.children ≡ Some c
    → ticks ≡ capped (ticks_in (retimed at rs (items_of c)))
    → (l : Listed) → list_at place t.tracks.children ≡ Some l
    → ticks ≡ capped (ticks_in (replaced at (length rs) (ranged_from at rs (list_of t e))
    (items_of l)))
sum_is t e place at ticks rs c m f k l g =
    let same = its_list t e place at rs c m f in
    k ∙ ap (λ xs. capped (ticks_in (retimed at rs xs))) same
    ∙ ap (λ xs. capped (ticks_in xs)) (retimed_is at rs (list_of t e) m.within)
    ∙ ap (λ xs. capped (ticks_in (replaced at (length rs) (ranged_from at rs (list_of t e)) xs)))
    (sym (its_list t e place at rs l m g))

number_is : (t : Timeline) (e : Edit) (place : List ℕ) (at items : ℕ) (rs : List (Option Span))
    (c : Listed) → IsRetiming t e place at rs → list_at place t.tracks.children ≡ Some c
    → items ≡ capped_count (count t.tracks.children)
    → (l : Listed) → list_at place t.tracks.children ≡ Some l
    → items ≡ capped_count (count (with_at place (listed (replaced at (length rs)
    (ranged_from at rs (list_of t e)) (items_of l))) t.tracks.children))
number_is t e place at items rs c m f k l g =
    let same = its_list t e place at rs l m g in
    k ∙ ap capped_count (sym (count_then place at rs t.tracks.children l g))
    ∙ ap (λ xs. capped_count (count (with_at place (listed xs) t.tracks.children)))
    (ap (retimed at rs) same ∙ retimed_is at rs (list_of t e) m.within
    ∙ ap (replaced at (length rs) (ranged_from at rs (list_of t e))) (sym same))

-- what the tests have said
pub record Tests (t : Timeline) (place : List ℕ) (at ticks items : ℕ) (rs : List (Option Span))
    (long : Bool) : Type 0 where
  pub children : Listed
  pub leads : list_at place t.tracks.children ≡ Some children
  pub sum : ticks ≡ capped (ticks_in (retimed at rs (items_of children)))
  pub is : long ≡ (has_long (ranged_from at rs (items_of children)) || is_way_long place ticks t)
  pub number : items ≡ capped_count (count t.tracks.children)

-- the same of a list that is the one of these ranges
pub tests_say : {t : Timeline} {place : List ℕ} {at ticks items : ℕ} {rs shown : List (Option Span)}
    {long : Bool} {children : Listed} → list_at place t.tracks.children ≡ Some children
    → shown ≡ rs → ticks ≡ capped (ticks_in (retimed at shown (items_of children)))
    → long ≡ (has_long (ranged_from at rs (items_of children)) || is_way_long place ticks t)
    → items ≡ capped_count (count t.tracks.children) → Tests t place at ticks items rs long
tests_say {at = at} {children = children} leads same sum is number = record {
  children = children;
  leads = leads;
  sum = sum ∙ ap (λ qs. capped (ticks_in (retimed at qs (items_of children)))) same;
  is = is;
  number = number;
}

test_is : (t : Timeline) (e : Edit) (place : List ℕ) (at ticks items : ℕ) (rs : List (Option Span))
    (b : Bool) → IsRetiming t e place at rs → Tests t place at ticks items rs b
    → (has_long (ranged_from at rs (list_of t e)) || is_way_long place ticks t) ≡ b
test_is t e place at ticks items rs b m k =
    ap (λ xs. has_long (ranged_from at rs xs) || is_way_long place ticks t)
    (sym (its_list t e place at rs k.children m k.leads)) ∙ sym k.is

pub retimed_long : (t : Timeline) (e : Edit) (place : List ℕ) (at ticks items : ℕ)
    (rs : List (Option Span)) (b : Bool) → IsSound t → count t.tracks.children < 2 ^ 32
    → Tests t place at ticks items rs b → b ≡ true → IsRetiming t e place at rs → IsTooLong t e
retimed_long t e place at ticks items rs b s h k f m =
    too_long t e place at (length rs) ticks (ranged_from at rs (list_of t e)) s h
    (middle_is t e place at rs m)
    (sum_is t e place at ticks rs k.children m k.leads k.sum)
    (test_is t e place at ticks items rs b m k ∙ f)

pub retimed_short : (t : Timeline) (e : Edit) (place : List ℕ) (at ticks items : ℕ)
    (rs : List (Option Span)) (b : Bool) → IsSound t → count t.tracks.children < 2 ^ 32
    → Tests t place at ticks items rs b → b ≡ false → IsRetiming t e place at rs
    → IsTooLong t e → ⊥
retimed_short t e place at ticks items rs b s h k f m =
    not_too_long t e place at (length rs) ticks (ranged_from at rs (list_of t e)) s h
    (middle_is t e place at rs m)
    (sum_is t e place at ticks rs k.children m k.leads k.sum)
    (test_is t e place at ticks items rs b m k ∙ f)

pub retimed_many : (t : Timeline) (e : Edit) (place : List ℕ) (at ticks items : ℕ)
    (rs : List (Option Span)) (b : Bool) → IsSound t → count t.tracks.children < 2 ^ 32
    → Tests t place at ticks items rs b → most_items < items → IsRetiming t e place at rs
    → HasMany t e
retimed_many t e place at ticks items rs b s h k f m =
    too_many t e place at (length rs) items (ranged_from at rs (list_of t e)) s h
    (middle_is t e place at rs m)
    (number_is t e place at items rs k.children m k.leads k.number) f

retimed_few : (t : Timeline) (e : Edit) (place : List ℕ) (at ticks items : ℕ)
    (rs : List (Option Span)) (b : Bool) → IsSound t → count t.tracks.children < 2 ^ 32
    → Tests t place at ticks items rs b → items ≤ most_items → IsRetiming t e place at rs
    → HasMany t e → ⊥
retimed_few t e place at ticks items rs b s h k f m =
    not_too_many t e place at (length rs) items (ranged_from at rs (list_of t e)) s h
    (middle_is t e place at rs m)
    (number_is t e place at items rs k.children m k.leads k.number) f

-- ---- the plan

abbrev by_items : List ℕ → ℕ → List (Option Span) → List (ItemOf Listed) → Patch
by_items place at rs put = record { place = place; at = at; put = Items (length rs) put }

abbrev by_ranges : List ℕ → ℕ → List (Option Span) → Patch
by_ranges place at rs = record { place = place; at = at; put = Ranges rs }

same_after : (t : Timeline) (e : Edit) (place : List ℕ) (at : ℕ) (rs : List (Option Span))
    (c : Listed) → list_at place t.tracks.children ≡ Some c → IsRetiming t e place at rs
    → applied (by_items place at rs (ranged_from at rs (list_of t e))) t
    ≡ applied (by_ranges place at rs) t
same_after t e place at rs c f m =
    let same = its_list t e place at rs c m f in
    let put = ranged_from at rs (list_of t e) in
    let is : replaced at (length rs) put (items_of c) ≡ retimed at rs (items_of c) =
    ap (replaced at (length rs) put) same ∙ sym (retimed_is at rs (list_of t e) m.within)
    ∙ ap (retimed at rs) (sym same) in
    target_is (by_items place at rs put) t c f
    ∙ ap (λ xs. record t {
      tracks = record t.tracks { children = with_at place (listed xs) t.tracks.children };
    }) is
    ∙ sym (target_is (by_ranges place at rs) t c f)

ranges_plan : (t : Timeline) (e : Edit) (place : List ℕ) (at : ℕ) (rs : List (Option Span))
    (c : Listed) → list_at place t.tracks.children ≡ Some c → IsRetiming t e place at rs
    → IsPlan t e (by_items place at rs (ranged_from at rs (list_of t e)))
    → IsPlan t e (by_ranges place at rs)
ranges_plan t e place at rs c f m p =
    let same = same_after t e place at rs c f m in
    let few = m.few in
    record {
      fit = record { track = p.fit.track; within = p.fit.within };
      after = subst (IsAfter t e) same p.after;
      sound = subst IsSound same p.sound;
      few_out = m.few;
      few_in = omega (arith, few);
    }

pub retimed_plan : (t : Timeline) (e : Edit) (place : List ℕ) (at ticks items : ℕ)
    (rs : List (Option Span)) (b : Bool) → IsSound t → count t.tracks.children < 2 ^ 32
    → Tests t place at ticks items rs b → b ≡ false → items ≤ most_items
    → IsRetiming t e place at rs → IsPlan t e (record { place = place; at = at; put = Ranges rs })
retimed_plan t e place at ticks items rs b s h k f g m =
    ranges_plan t e place at rs k.children k.leads m
    (planned t e place at (length rs) (ranged_from at rs (list_of t e)) s h
    (middle_is t e place at rs m)
    (retimed_short t e place at ticks items rs b s h k f m)
    (retimed_few t e place at ticks items rs b s h k g m))

-- ---- what the tests need

pub ranges_there : (t : Timeline) (e : Edit) (place : List ℕ) (at : ℕ) (rs : List (Option Span))
    → IsRetiming t e place at rs → place_fault place t ≡ None
ranges_there t e place at rs m = place_is t e place at (length rs)
    (ranged_from at rs (list_of t e)) (middle_is t e place at rs m)

pub ranges_within : (t : Timeline) (e : Edit) (place : List ℕ) (at : ℕ) (rs : List (Option Span))
    (c : Listed) → IsRetiming t e place at rs → list_at place t.tracks.children ≡ Some c
    → at + length rs ≤ length (items_of c)
ranges_within t e place at rs c m f = subst (λ k. at + length rs ≤ length k)
    (sym (its_list t e place at rs c m f)) m.within

pub ranges_kept : (t : Timeline) (e : Edit) (place : List ℕ) (at : ℕ) (rs : List (Option Span))
    (c : Listed) → IsRetiming t e place at rs → list_at place t.tracks.children ≡ Some c
    → KeepsUnranged rs (drop at (items_of c))
ranges_kept t e place at rs c m f = subst (λ k. KeepsUnranged rs (drop at k))
    (sym (its_list t e place at rs c m f)) m.kept
