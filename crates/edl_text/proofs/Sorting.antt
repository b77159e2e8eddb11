-- Events that are sorted.
use Rattle.std.proofs.Common.{◌≡◌, ◌⊎◌, inl, inr, ◌<◌, ◌≤◌, ◌==◌, ◌&&◌, not, ℕ, ℤ, false, List, AllPairs, get_or, refl, sym, ap, ap₂, ◌∙◌, arith}
use Rattle.std.specs.Ordering.{int_cmp, int_eq, nat_cmp, is_eq, is_lt, ordering_reverse, ordering_then}
use Rattle.std.specs.declared.cmp.Ordering.{Ordering}
use Rattle.std.specs.declared.cmp.Ordering.TheVariants.{Less, Equal, Greater}
use Rattle.std.specs.List.Sorted.{IsSortedBy, IsStableBy, ties}
use Rattle.std.specs.List.{filter}
use Rattle.std.specs.Cmp.{IsTotalOrder}
use Rattle.std.proofs.lemmas.Bool.Decides.{nat_tests}
use Rattle.std.proofs.lemmas.Int.{ints}
use Rattle.std.proofs.lemmas.List.Elements.{filter_agree}
use Rattle.std.proofs.lemmas.Cmp.{ranked, int_ranked, nat_cmp_total, on_total, then_total}
use Rattle.std.proofs.lemmas.List.Sorted.{sorted_far, ranks_by}
use Rattle.edl_list.specs.declared.list.Event.{Event}
use Rattle.edl_list.specs.Formed.{rank}
use Rattle.edl_list.proofs.RecordOrder.{record_cmp, record_cmp-total}
use Rattle.edl_text.specs.Order.{KeepsPlaces, StandsNoLater, has_place_of}

-- by place in the record, and then by line
abbrev line_cmp : Event → Event → Ordering
line_cmp a b = ordering_then (record_cmp a b) (nat_cmp a.line b.line)

line_cmp-total : IsTotalOrder line_cmp
line_cmp-total = then_total record_cmp-total (on_total (λ e. e.line) nat_cmp_total)

by_line : (a b : Event) (o : Ordering) → o ≡ nat_cmp b.line a.line → is_lt o ≡ false → a.line ≤ b.line
by_line a b Less e h = cc
by_line a b Equal e h = let same : b.line ≡ a.line = ranked b.line a.line Equal e in omega (arith, same)
by_line a b Greater e h = let above : a.line < b.line = ranked b.line a.line Greater e in omega (arith, above)

by_channel : (a b : Event) (o : Ordering) → o ≡ nat_cmp (rank b.channel) (rank a.channel) → is_lt (ordering_then o (nat_cmp b.line a.line)) ≡ false
    → (rank a.channel < rank b.channel) ⊎ ((rank a.channel ≡ rank b.channel) × (a.line ≤ b.line))
by_channel a b Less e h = cc
by_channel a b Equal e h = inr (sym (ranked (rank b.channel) (rank a.channel) Equal e), by_line a b (nat_cmp b.line a.line) refl h)
by_channel a b Greater e h = inl (ranked (rank b.channel) (rank a.channel) Greater e)

by_start : (a b : Event) (o : Ordering) → o ≡ int_cmp b.rec_in a.rec_in → is_lt (ordering_then (ordering_then o (nat_cmp (rank b.channel) (rank a.channel))) (nat_cmp b.line a.line)) ≡ false → StandsNoLater a b
by_start a b Less e h = cc
by_start a b Equal e h = inr (sym (int_ranked b.rec_in a.rec_in Equal e), by_channel a b (nat_cmp (rank b.channel) (rank a.channel)) refl h)
by_start a b Greater e h = inl (int_ranked b.rec_in a.rec_in Greater e)

-- sorted events stand in order
pub sorted_stand : (events : List Event) → IsSortedBy (λ a b. is_lt (line_cmp a b)) events → AllPairs StandsNoLater events
sorted_stand events sorted i j d l m =
    by_start (get_or events i d) (get_or events j d) (int_cmp (get_or events j d).rec_in (get_or events i d).rec_in) refl
    (sorted_far (λ a b. is_lt (line_cmp a b)) (ranks_by line_cmp-total (λ e. e)) events sorted i j d (omega (arith, l)) m)

level_ints : (x y : ℤ) (o : Ordering) → o ≡ int_cmp x y → is_eq o ≡ int_eq x y
level_ints x y Less e = let l = int_ranked x y Less e in grind (arith, ints, l)
level_ints x y Equal e = let l = int_ranked x y Equal e in grind (arith, ints, l)
level_ints x y Greater e = let l = int_ranked x y Greater e in grind (arith, ints, l)

level_numbers : (x y : ℕ) (o : Ordering) → o ≡ nat_cmp x y → is_eq o ≡ (x == y)
level_numbers x y Less e = let l = ranked x y Less e in grind (arith, nat_tests, l)
level_numbers x y Equal e = let l = ranked x y Equal e in grind (arith, nat_tests, l)
level_numbers x y Greater e = let l = ranked x y Greater e in grind (arith, nat_tests, l)

level_both : (o p : Ordering) → is_eq (ordering_then o p) ≡ (is_eq o && is_eq p)
level_both Less p = refl
level_both Equal p = refl
level_both Greater p = refl

level_ways : (o : Ordering) → (not (is_lt o) && not (is_lt (ordering_reverse o))) ≡ is_eq o
level_ways Less = refl
level_ways Equal = refl
level_ways Greater = refl

-- events tie where they have one place
tie-is_place : (a b : Event) → ties (λ x y. is_lt (line_cmp x y)) a b ≡ has_place_of a b
tie-is_place a b =
    ap (λ o. not (is_lt (line_cmp a b)) && not (is_lt o)) (line_cmp-total.antisymm b a)
    ∙ level_ways (line_cmp a b)
    ∙ level_both (record_cmp a b) (nat_cmp a.line b.line)
    ∙ ap₂ (λ s t. s && t)
    (level_both (int_cmp a.rec_in b.rec_in) (nat_cmp (rank a.channel) (rank b.channel))
    ∙ ap₂ (λ s t. s && t) (level_ints a.rec_in b.rec_in (int_cmp a.rec_in b.rec_in) refl)
    (level_numbers (rank a.channel) (rank b.channel) (nat_cmp (rank a.channel) (rank b.channel)) refl))
    (level_numbers a.line b.line (nat_cmp a.line b.line) refl)

-- a stable sort keeps the order of events of one place
pub stable-keeps_places : (old new : List Event)
    → IsStableBy (λ a b. is_lt (line_cmp a b)) old new → KeepsPlaces old new
stable-keeps_places old new stable event = sym (agree new) ∙ stable event ∙ agree old
  where
    agree : (events : List Event) → filter (ties (λ a b. is_lt (line_cmp a b)) event) events
        ≡ filter (has_place_of event) events
    agree = filter_agree (ties (λ a b. is_lt (line_cmp a b)) event) (has_place_of event)
        (tie-is_place event)
