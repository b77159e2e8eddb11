-- Runs that are sorted by their groups and first numbers.
use Rattle.std.proofs.Common.{◌≡◌, refl, sym, inl, inr, ◌≤◌, ◌≤ℤ◌, Bool, false, List, get_or, arith}
use Rattle.std.specs.Ordering.{int_cmp, nat_cmp, is_lt, ordering_then}
use Rattle.std.specs.declared.cmp.Ordering.{Ordering}
use Rattle.std.specs.declared.cmp.Ordering.TheVariants.{Less, Equal, Greater}
use Rattle.std.specs.List.Sorted.{IsSortedBy}
use Rattle.std.specs.Cmp.{IsTotalOrder, IsStrictWeakOrder}
use Rattle.std.proofs.lemmas.Cmp.{ranked, int_ranked, int_cmp_total, nat_cmp_total, on_total, then_total}
use Rattle.std.proofs.lemmas.Int.{ints}
use Rattle.std.proofs.lemmas.List.Sorted.{sorted_far, ranks_by}
use Rattle.pull_list.specs.Runs.{AreSorted, StartsBy}
use Rattle.pull_list.specs.declared.runs.Run.{Run}
use Rattle.pull_list.proofs.RunLists.{sorted_from}

-- the order of runs: group, first number
abbrev run_cmp : Run → Run → Ordering
run_cmp a b = ordering_then (nat_cmp a.group b.group) (int_cmp a.first b.first)

run_total : IsTotalOrder run_cmp
run_total =
    then_total (on_total (λ r. r.group) nat_cmp_total) (on_total (λ r. r.first) int_cmp_total)

abbrev stands_before : Run → Run → Bool
stands_before a b = is_lt (run_cmp a b)

run_order-is_strict : IsStrictWeakOrder stands_before
run_order-is_strict = ranks_by run_total (λ r. r)

by_first : (a b : Run) (o : Ordering) → o ≡ int_cmp b.first a.first → is_lt o ≡ false
    → a.first ≤ℤ b.first
by_first a b Less e h = cc
by_first a b Equal e h = let same = int_ranked b.first a.first Equal e in omega (arith, ints, same)
by_first a b Greater e h = let above = int_ranked b.first a.first Greater e in omega (arith, ints, above)

by_group : (a b : Run) (o : Ordering) → o ≡ nat_cmp b.group a.group
    → is_lt (ordering_then o (int_cmp b.first a.first)) ≡ false → StartsBy a b
by_group a b Less e h = cc
by_group a b Equal e h = inr (
  sym (ranked b.group a.group Equal e),
  by_first a b (int_cmp b.first a.first) refl h,
)
by_group a b Greater e h = inl (ranked b.group a.group Greater e)

-- sorted runs start in order
pub sorted_stand : (rs : List Run) → IsSortedBy stands_before rs → AreSorted rs
sorted_stand rs sorted = sorted_from rs (λ i j d l m.
    by_group (get_or rs i d) (get_or rs j d)
    (nat_cmp (get_or rs j d).group (get_or rs i d).group) refl
    (sorted_far stands_before run_order-is_strict rs sorted i j d (omega (arith, l)) m))
