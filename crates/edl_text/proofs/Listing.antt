-- The list that lines give at their end.
use Rattle.std.proofs.Common.{◌≡◌, ◌⊎◌, ℕ, zero, suc, ◌<◌, ◌++◌, Bool, true, false, nat_lt, ◌≤ℤ◌, List, [], ◌∷◌, length, get_or, unwrap_or, inl, inr, refl, sym, ap, subst, ◌∙◌, arith}
use Rattle.std.specs.List.{AllPairs, Contains}
use Rattle.std.specs.List.Sorted.{IsPermutation}
use Rattle.std.proofs.lemmas.Int.{ints}
use Rattle.std.proofs.lemmas.Bool.Decides.{nat_tests}
use Rattle.std.proofs.lemmas.List.Sorted.{Contains-permutation, IsPermutation-sym}
use Rattle.tick_time.specs.declared.rates.Rate.{Rate}
use Rattle.edl_text.specs.Statements.{Statement}
use Rattle.edl_list.specs.Formed.{AreApart}
use Rattle.edl_list.specs.declared.list.Event.{Event}
use Rattle.edl_list.specs.declared.list.EventList.{EventList}
use Rattle.edl_text.specs.Overlaps.{AreRead, WasReadBefore}
use Rattle.edl_text.specs.declared.list_so_far.Said.{Said}
use Rattle.edl_text.specs.Past.{blocks_in}
use Rattle.edl_text.specs.Lists.{events_in, IsSaid}
use Rattle.edl_text.specs.Order.{StandsBefore}
use Rattle.edl_text.specs.StateSaid.{Stands, closed_events}
use Rattle.edl_text.proofs.EventLines.{closed_is}

-- the events, once the latest event line is done
pub all_events : (rate : Rate) (past : List Statement) (old : Said) (events : List Event) → Stands rate past old → events ≡ old.events.items ++ closed_events old.pending → events ≡ events_in rate past
all_events rate past old events h e = e ∙ closed_is rate old.pending old.events.items (blocks_in past) h.holds.lines

-- no event stands before itself
not_itself : (a : Event) → StandsBefore a a → ⊥
not_itself a (inl h) = absurd (omega (arith, ints, h))
not_itself a (inr (e, inl h)) = absurd (omega (arith, h))
not_itself a (inr (e, inr (r, l))) = absurd (omega (arith, l))

turned : (a b : Event) → AreApart b a → AreApart a b
turned a b h e = swap (h (sym e))
  where
    swap : (b.rec_out ≤ℤ a.rec_in) ⊎ (a.rec_out ≤ℤ b.rec_in) → (a.rec_out ≤ℤ b.rec_in) ⊎ (b.rec_out ≤ℤ a.rec_in)
    swap (inl x) = inr x
    swap (inr x) = inl x

same_default : (xs : List Event) (k : ℕ) (a b : Event) → k < length xs → get_or xs k a ≡ get_or xs k b
same_default [] k a b h = absurd (omega (arith, h))
same_default (x ∷ xs) zero a b h = refl
same_default (x ∷ xs) (suc k) a b h = same_default xs k a b (omega (arith, h))

-- two events of a list whose events are apart, by where they stand there
apart_by : (s t : Bool) (xs : List Event) (a b : Event) (p : Contains xs a) (q : Contains xs b) → nat_lt p.0 q.0 ≡ s → nat_lt q.0 p.0 ≡ t → AllPairs AreApart xs → StandsBefore a b → AreApart a b
apart_by true t xs a b p q e f h before =
    let below : p.0 < q.0 = grind (arith, nat_tests) in
    subst (λ y. AreApart a y) (same_default xs q.0 a b q.1 ∙ q.2) (subst (λ x. AreApart x (get_or xs q.0 a)) p.2 (h p.0 q.0 a below q.1))
apart_by false true xs a b p q e f h before =
    let below : q.0 < p.0 = grind (arith, nat_tests) in
    turned a b (subst (λ y. AreApart b y) (same_default xs p.0 b a p.1 ∙ p.2) (subst (λ x. AreApart x (get_or xs p.0 b)) q.2 (h q.0 p.0 b below p.1)))
apart_by false false xs a b p q e f h before =
    let same : p.0 ≡ q.0 = grind (arith, nat_tests) in
    let one : a ≡ b = sym p.2 ∙ ap (λ k. get_or xs k a) same ∙ same_default xs q.0 a b q.1 ∙ q.2 in
    absurd (not_itself b (subst (λ x. StandsBefore x b) one before))

-- events that are apart are so in another order too
pub apart_ordered : (xs ys : List Event) → AllPairs AreApart xs → IsPermutation xs ys → AllPairs StandsBefore ys → AllPairs AreApart ys
apart_ordered xs ys h same order = λ i j d below short.
    let a = get_or ys i d in
    let b = get_or ys j d in
    let ia : i < length ys = omega (arith, below, short) in
    let p = there i a ia (same_default ys i a d ia) in
    let q = there j b short (same_default ys j b d short) in
    apart_by (nat_lt p.0 q.0) (nat_lt q.0 p.0) xs a b p q refl refl h (order i j d below short)
  where
    there : (k : ℕ) (x : Event) → k < length ys → get_or ys k x ≡ x → Contains xs x
    there k x s e = Contains-permutation ys xs x (IsPermutation-sym xs ys same) (k, s, e)

-- the list
pub said_list : (rate : Rate) (past : List Statement) (old : Said) (events : List Event) (list : EventList) → Stands rate past old → events ≡ events_in rate past → AreRead (events_in rate past)
    → list.title ≡ unwrap_or old.title [] → list.rate ≡ old.rate → list.drop ≡ unwrap_or old.first_drop false → IsPermutation events list.events → (AllPairs WasReadBefore events → AllPairs StandsBefore list.events)
    → IsSaid rate past list
said_list rate past old events list h e read title counted drop same strict = record {
  title = title ∙ ap (λ o. unwrap_or o []) h.holds.title;
  counted = counted ∙ h.holds.counted;
  drop = drop ∙ ap (λ o. unwrap_or o false) h.holds.first;
  events = record {
    same = subst (λ l. IsPermutation l list.events) e same;
    order = strict (subst (λ l. AllPairs WasReadBefore l) (sym e) read.order);
  };
}
