-- The first fault of the events of a list.
use Rattle.std.proofs.Common.{◌≡◌, ℕ, zero, suc, ◌<◌, ◌≤◌, Bool, true, false, not, cond, nat_lt, List, [], ◌∷◌, length, take, get_or, get_or-take, length-take, Option, Some, None, MatchOption, inl, inr, refl, sym, ap, subst, ◌∙◌, arith}
use Rattle.std.specs.Bool.{MatchBool}
use Rattle.std.specs.List.{All, AllPairs}
use Rattle.std.proofs.lemmas.Grind.{common_steps}
use Rattle.std.proofs.lemmas.Bool.Decides.{nat_tests}
use Rattle.std.proofs.lemmas.List.Elements.{All-contains}
use Rattle.edl_list.specs.declared.list.Event.{Event}
use Rattle.edl_text.specs.Overlaps.{AreRead, WasReadBefore}
use Rattle.edl_text.specs.declared.faults.EdlFault.TheVariants.{Unequal, Overlap}
use Rattle.edl_text.specs.Overlaps.{IsOverlap, IsFirstOverlap}
use Rattle.edl_text.specs.Late.{IsUnequal, IsUnequalAt, AreFine, AreFineBefore, IsLateFault}
use Rattle.edl_text.specs.StateLate.{IsEven, IsEqual, IsFirstUnequal, late_of}

pub unequal_by : (event : Event) (t : Bool) → event.to.speed ≡ None → MatchBool t (IsEven event) (IsEven event → ⊥) → MatchBool (not t) (IsUnequal event) (IsEqual event)
unequal_by event true e h = λ u. u.differ h
unequal_by event false e h = record { no_speed = e; differ = h }

pub all_of : (events : List Event) (n : ℕ) → length events ≤ n → All IsEqual (take n events) → All IsEqual events
all_of events n h k = subst (λ l. All IsEqual l) (same events n h) k
  where
    same : (events : List Event) (n : ℕ) → length events ≤ n → take n events ≡ events
    same events n h = grind (arith, common_steps)

none_unequal : (events : List Event) (n : ℕ) → All IsEqual events → IsUnequalAt events n → ⊥
none_unequal events n h u = All-contains IsEqual events u.event h u.among u.unequal

-- the line of an event is no less than that of one before it
no_less : (a b : Event) → WasReadBefore a b → a.line ≤ b.line
no_less a b (inl h) = omega arith
no_less a b (inr h) = omega (arith, h.0)

same_default : (events : List Event) (k : ℕ) (a b : Event) → k < length events → get_or events k a ≡ get_or events k b
same_default [] k a b h = absurd (omega (arith, h))
same_default (e ∷ es) zero a b h = refl
same_default (e ∷ es) (suc k) a b h = same_default es k a b (omega (arith, h))

later : (t : Bool) (events : List Event) (i k : ℕ) (a b : Event) → nat_lt i k ≡ t → AllPairs WasReadBefore events → i ≤ k → k < length events → get_or events i a ≡ a → get_or events k b ≡ b → a.line ≤ b.line
later true events i k a b e order h short ea eb =
    let below : i < k = grind (arith, nat_tests) in
    let both : WasReadBefore a b =
    subst (λ y. WasReadBefore a y) (same_default events k a b short ∙ eb) (subst (λ x. WasReadBefore x (get_or events k a)) ea (order i k a below short)) in
    no_less a b both
later false events i k a b e order h short ea eb =
    let same : i ≡ k = grind (arith, nat_tests) in
    let line : a ≡ b = sym ea ∙ ap (λ j. get_or events j a) same ∙ same_default events k a b short ∙ eb in
    let lines : a.line ≡ b.line = ap (λ (x : Event). x.line) line in
    omega arith

-- no event of an earlier line is unequal
least_by : (t : Bool) (events : List Event) (n m : ℕ) (first : IsFirstUnequal events n) (u : IsUnequalAt events m) → nat_lt u.among.0 first.index ≡ t → AreRead events → m < n → ⊥
least_by true events n m first u e read h =
    let below : u.among.0 < first.index = grind (arith, nat_tests) in
    let k = u.among.0 in
    let there : get_or (take first.index events) k u.event ≡ u.event = get_or-take first.index events k u.event below ∙ u.among.2 in
    let short : k < length (take first.index events) = omega (arith, length-take first.index events, first.within, below) in
    subst IsEqual there (first.before k u.event short) u.unequal
least_by false events n m first u e read h =
    let past : first.index ≤ u.among.0 = grind (arith, nat_tests) in
    let lines = later (nat_lt first.index u.among.0) events first.index u.among.0 first.event u.event refl read.order past u.among.1 first.at u.among.2 in
    omega (arith, lines, first.line, u.line, h)

least : (events : List Event) (n : ℕ) → AreRead events → IsFirstUnequal events n → (m : ℕ) → m < n → IsUnequalAt events m → ⊥
least events n read first m h u = least_by (nat_lt u.among.0 first.index) events n m first u refl read h

unequal_at : (events : List Event) (n : ℕ) → IsFirstUnequal events n → IsUnequalAt events n
unequal_at events n first = record { event = first.event; among = (first.index, first.within, first.at); line = first.line; unequal = first.unequal }

-- the faults before a line
none_before : (events : List Event) (n : ℕ) → ((m : ℕ) → m < n → IsUnequalAt events m → ⊥) → ((m : ℕ) → m < n → IsOverlap events m → ⊥) → AreFineBefore events n
none_before events n u o m h (inl e) = u m h e
none_before events n u o m h (inr e) = o m h e

above : (events : List Event) (m n : ℕ) → IsFirstOverlap events m → n ≤ m → (k : ℕ) → k < n → IsOverlap events k → ⊥
above events m n over h k s e = let least : m ≤ k = over.least k e in absurd (omega arith)

both : (events : List Event) (n m : ℕ) (t : Bool) → nat_lt m n ≡ t → AreRead events → IsFirstUnequal events n → IsFirstOverlap events m
    → MatchOption (cond t (Some (Overlap m)) (Some (Unequal n))) (AreFine events) (IsLateFault events)
both events n m true e read first over =
    let below : m < n = grind (arith, nat_tests) in (
      over.is,
      least events n read first m below,
      none_before events m (λ k h. least events n read first k (omega arith)) (above events m m over (omega arith)),
    )
both events n m false e read first over =
    let past : n ≤ m = grind (arith, nat_tests) in (
      unequal_at events n first,
      none_before events n (least events n read first) (above events m n over past),
    )

fine : (events : List Event) → All IsEqual events → ((line : ℕ) → IsOverlap events line → ⊥) → AreFine events
fine events equal over n (inl u) = none_unequal events n equal u
fine events equal over n (inr o) = over n o

abbrev Overlaps : List Event → Option ℕ → Type 0
Overlaps events o = MatchOption o ((line : ℕ) → IsOverlap events line → ⊥) (IsFirstOverlap events)

late_by : (events : List Event) (u o : Option ℕ) → AreRead events → MatchOption u (All IsEqual events) (IsFirstUnequal events) → Overlaps events o
    → MatchOption (late_of u o) (AreFine events) (IsLateFault events)
late_by events None None read equal over = fine events equal over
late_by events (Some n) None read first over = (unequal_at events n first, none_before events n (least events n read first) (λ k h. over k))
late_by events None (Some m) read equal over =
    (over.is, none_unequal events m equal, none_before events m (λ k h. none_unequal events k equal) (above events m m over (omega arith)))
late_by events (Some n) (Some m) read first over = both events n m (nat_lt m n) refl read first over

pub late_is : (events : List Event) (u o : Option ℕ) → AreRead events → MatchOption u (All IsEqual events) (IsFirstUnequal events)
    → MatchOption o ((line : ℕ) → IsOverlap events line → ⊥) (IsFirstOverlap events) → MatchOption (late_of u o) (AreFine events) (IsLateFault events)
late_is events u o read unequal over = late_by events u o read unequal over
