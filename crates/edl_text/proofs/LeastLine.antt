-- The least of the lines found on the three channels.
use Rattle.std.proofs.Common.{◌≡◌, ◌⊎◌, inl, inr, ◌<◌, ◌≤◌, ℕ, Bool, true, false, nat_lt, if◌then◌else◌, List, Option, Some, None, MatchOption, IfNone, AllPairs, refl, sym, subst, arith}
use Rattle.std.proofs.lemmas.Bool.Decides.{nat_tests}
use Rattle.edl_list.specs.declared.list.Channel.{Channel}
use Rattle.edl_list.specs.declared.list.Channel.TheVariants.{V, A, A2}
use Rattle.edl_list.specs.declared.list.Event.{Event}
use Rattle.edl_list.specs.Formed.{AreApart}
use Rattle.edl_text.specs.Overlaps.{IsOverlap, IsFirstOverlap, AreRead}
use Rattle.edl_text.specs.StateSpans.{IsOverlapOn, FindsOn, lesser_of}
use Rattle.edl_text.proofs.Finding.{no_overlap, all_apart}

-- the least number that P holds of
abbrev LeastOf : (ℕ → Type 0) → Option ℕ → Type 0
LeastOf P o = MatchOption o ((n : ℕ) → P n → ⊥) (λ n. P n × ((m : ℕ) → P m → n ≤ m))

both_least : (P Q : ℕ → Type 0) (a b : ℕ) (t : Bool) → nat_lt b a ≡ t → P a × ((m : ℕ) → P m → a ≤ m) → Q b × ((m : ℕ) → Q m → b ≤ m)
    → LeastOf (λ n. P n ⊎ Q n) (if t then Some b else Some a)
both_least P Q a b true e p q = (inr q.0, by)
  where
    below : b < a
    below = grind (arith, nat_tests)

    by : (m : ℕ) → P m ⊎ Q m → b ≤ m
    by m (inl h) = omega (arith, below, p.1 m h)
    by m (inr h) = q.1 m h
both_least P Q a b false e p q = (inl p.0, by)
  where
    above : a ≤ b
    above = grind (arith, nat_tests)

    by : (m : ℕ) → P m ⊎ Q m → a ≤ m
    by m (inl h) = p.1 m h
    by m (inr h) = omega (arith, above, q.1 m h)

lesser_least : (P Q : ℕ → Type 0) (a b : Option ℕ) → LeastOf P a → LeastOf Q b → LeastOf (λ n. P n ⊎ Q n) (lesser_of a b)
lesser_least P Q None None p q = by
  where
    by : (n : ℕ) → P n ⊎ Q n → ⊥
    by n (inl h) = p n h
    by n (inr h) = q n h
lesser_least P Q None (Some b) p q = (inr q.0, by)
  where
    by : (m : ℕ) → P m ⊎ Q m → b ≤ m
    by m (inl h) = absurd (p m h)
    by m (inr h) = q.1 m h
lesser_least P Q (Some a) None p q = (inl p.0, by)
  where
    by : (m : ℕ) → P m ⊎ Q m → a ≤ m
    by m (inl h) = p.1 m h
    by m (inr h) = absurd (q m h)
lesser_least P Q (Some a) (Some b) p q = both_least P Q a b (nat_lt b a) refl p q

on_least : (channel : Channel) (events : List Event) (o : Option ℕ) → FindsOn channel events o → LeastOf (IsOverlapOn channel events) o
on_least channel events None apart = λ n o. no_overlap channel events apart o.is.earlier o.is.later o.is.has_earlier o.is.has_later (omega (arith, o.is.before, o.is.is)) o.is.meet o.on
on_least channel events (Some line) first = (first.is, first.least)

-- an overlap is one on the three channels
OnOne : List Event → ℕ → Type 0
OnOne events n = IsOverlapOn V events n ⊎ (IsOverlapOn A events n ⊎ IsOverlapOn A2 events n)

split_by : (events : List Event) (n : ℕ) (o : IsOverlap events n) (c : Channel) → o.later.channel ≡ c → OnOne events n
unfolding OnOne
split_by events n o V e = inl (record { is = o; on = e })
split_by events n o A e = inr (inl (record { is = o; on = e }))
split_by events n o A2 e = inr (inr (record { is = o; on = e }))

joined : (events : List Event) (n : ℕ) → OnOne events n → IsOverlap events n
unfolding OnOne
joined events n (inl o) = o.is
joined events n (inr (inl o)) = o.is
joined events n (inr (inr o)) = o.is

same_least : (P Q : ℕ → Type 0) → ((n : ℕ) → P n → Q n) → ((n : ℕ) → Q n → P n) → (o : Option ℕ) → LeastOf P o → LeastOf Q o
same_least P Q f g None none = λ n h. none n (g n h)
same_least P Q f g (Some n) least = (f n least.0, λ m h. least.1 m (g m h))

three : (events : List Event) (v a b : Option ℕ) → FindsOn V events v → FindsOn A events a → FindsOn A2 events b → LeastOf (OnOne events) (lesser_of v (lesser_of a b))
unfolding OnOne
three events v a b p q r =
    lesser_least (IsOverlapOn V events) (λ n. IsOverlapOn A events n ⊎ IsOverlapOn A2 events n) v (lesser_of a b) (on_least V events v p)
    (lesser_least (IsOverlapOn A events) (IsOverlapOn A2 events) a b (on_least A events a q) (on_least A2 events b r))

as_record : (events : List Event) (o : Option ℕ) → LeastOf (IsOverlap events) o → MatchOption o ((line : ℕ) → IsOverlap events line → ⊥) (IsFirstOverlap events)
as_record events None none = none
as_record events (Some line) least = record { is = least.0; least = least.1 }

-- what was found on the three channels is the first overlap
pub first_of_three : (events : List Event) (v a b found : Option ℕ) → found ≡ lesser_of v (lesser_of a b) → FindsOn V events v → FindsOn A events a → FindsOn A2 events b
    → MatchOption found ((line : ℕ) → IsOverlap events line → ⊥) (IsFirstOverlap events)
first_of_three events v a b found e p q r =
    subst (λ o. MatchOption o ((line : ℕ) → IsOverlap events line → ⊥) (IsFirstOverlap events)) (sym e)
    (as_record events (lesser_of v (lesser_of a b))
    (same_least (OnOne events) (IsOverlap events) (joined events) (λ n o. split_by events n o o.later.channel refl) (lesser_of v (lesser_of a b)) (three events v a b p q r)))

none_apart : (events : List Event) (o : Option ℕ) → AreRead events → MatchOption o ((line : ℕ) → IsOverlap events line → ⊥) (IsFirstOverlap events) → IfNone o (AllPairs AreApart events)
none_apart events None read none = all_apart events read none
none_apart events (Some line) read first = tt

-- and without one no two events share a frame on one channel
pub apart_in_three : (events : List Event) (v a b found : Option ℕ) → AreRead events → found ≡ lesser_of v (lesser_of a b) → FindsOn V events v → FindsOn A events a → FindsOn A2 events b
    → IfNone found (AllPairs AreApart events)
apart_in_three events v a b found read e p q r = none_apart events found read (first_of_three events v a b found e p q r)
