-- The events that are read stand in order, and none has a fault that shows at the end.
use Rattle.std.proofs.Common.{◌≡◌, ◌<◌, ◌≤◌, ◌⊎◌, inl, inr, ℕ, zero, suc, ◌-ℤ◌, ◌≤ℤ◌, ◌<ℤ◌, List, [], ◌∷◌, None, All, AllPairs, length, get_or, refl, sym, ap, ap₂, subst, ◌∙◌, arith}
use Rattle.std.proofs.lemmas.Int.{ints}
use Rattle.std.specs.List.{Contains}
use Rattle.tick_time.specs.declared.rates.Rate.{Rate}
use Rattle.edl_list.specs.declared.list.Event.{Event}
use Rattle.edl_list.specs.Formed.{AreInOrder, AreApart, rank}
use Rattle.edl_list.specs.Speeds.{count_of, speed_of}
use Rattle.edl_list.specs.Alike.{IsEvenEvent}
use Rattle.edl_text.specs.Overlaps.{IsOverlap}
use Rattle.edl_text.specs.Late.{IsUnequal, AreFine}
use Rattle.edl_text.specs.Order.{StandsBefore}
use Rattle.edl_law.proofs.EventMatches.{Matches}
use Rattle.edl_law.proofs.EventLists.{AreRising, AreMatched}

pub matched_length : (rate : Rate) (xs ys : List Event) → AreMatched rate xs ys → length xs ≡ length ys
matched_length rate [] [] h = refl
matched_length rate [] (y ∷ ys) h = absurd h
matched_length rate (x ∷ xs) [] h = absurd h
matched_length rate (x ∷ xs) (y ∷ ys) h = ap suc (matched_length rate xs ys h.1)

matched_at : (rate : Rate) (xs ys : List Event) (k : ℕ) (d : Event) → AreMatched rate xs ys → k < length ys → Matches rate (get_or xs k d) (get_or ys k d)
matched_at rate [] [] k d h within = absurd (omega arith)
matched_at rate [] (y ∷ ys) k d h within = absurd h
matched_at rate (x ∷ xs) [] k d h within = absurd h
matched_at rate (x ∷ xs) (y ∷ ys) zero d h within = h.0
matched_at rate (x ∷ xs) (y ∷ ys) (suc k) d h within = matched_at rate xs ys k d h.1 (omega (arith, within))

rising_above : (low : ℕ) (ys : List Event) (k : ℕ) (d : Event) → AreRising low ys → k < length ys → low < (get_or ys k d).line
rising_above low [] k d r within = absurd (omega arith)
rising_above low (y ∷ ys) zero d r within = r.0
rising_above low (y ∷ ys) (suc k) d r within = let h = rising_above y.line ys k d r.1 (omega (arith, within)) in omega (arith, h, r.0)

rising_at : (low : ℕ) (ys : List Event) (i j : ℕ) (d : Event) → AreRising low ys → i < j → j < length ys → (get_or ys i d).line < (get_or ys j d).line
rising_at low [] i j d r less within = absurd (omega arith)
rising_at low (y ∷ ys) zero zero d r less within = absurd (omega arith)
rising_at low (y ∷ ys) zero (suc j) d r less within = rising_above y.line ys j d r.1 (omega (arith, within))
rising_at low (y ∷ ys) (suc i) zero d r less within = absurd (omega arith)
rising_at low (y ∷ ys) (suc i) (suc j) d r less within = rising_at y.line ys i j d r.1 (omega (arith, less)) (omega (arith, within))

less_or : (m n : ℕ) → m ≤ n → (m < n) ⊎ (m ≡ n)
less_or m n h = grind (arith, h)

rank_or : (a b m n : ℕ) → m < n → (a < b) ⊎ (a ≡ b) → (a < b) ⊎ ((a ≡ b) × (m < n))
rank_or a b m n less (inl l) = inl l
rank_or a b m n less (inr e) = inr (e, less)

by_rank : (a b m n : ℕ) → a ≤ b → m < n → (a < b) ⊎ ((a ≡ b) × (m < n))
by_rank a b m n h less = rank_or a b m n less (less_or a b h)

stands_by : (rate : Rate) (a b c d : Event) → Matches rate a c → Matches rate b d → c.line < d.line → AreInOrder a b → StandsBefore c d
stands_by rate a b c d p q less (inl earlier) = inl (subst (λ z. z <ℤ d.rec_in) (sym p.rec_in) (subst (λ z. a.rec_in <ℤ z) (sym q.rec_in) earlier))
stands_by rate a b c d p q less (inr same) =
    let ranks : rank c.channel ≤ rank d.channel = subst (λ x. rank x ≤ rank d.channel) (sym p.channel) (subst (λ x. rank a.channel ≤ rank x) (sym q.channel) same.1) in
    inr (p.rec_in ∙ same.0 ∙ sym q.rec_in, by_rank (rank c.channel) (rank d.channel) c.line d.line ranks less)

-- the events that are read stand in order
pub read_ordered : (rate : Rate) (low : ℕ) (xs ys : List Event) → AreMatched rate xs ys → AreRising low ys → AllPairs AreInOrder xs → AllPairs StandsBefore ys
read_ordered rate low xs ys m r order = λ i j d less within.
    let n = matched_length rate xs ys m in
    stands_by rate (get_or xs i d) (get_or xs j d) (get_or ys i d) (get_or ys j d) (matched_at rate xs ys i d m (omega (arith, less, within))) (matched_at rate xs ys j d m within)
    (rising_at low ys i j d r less within) (order i j d less (omega (arith, n, within)))

even_read : (rate : Rate) (a c : Event) → Matches rate a c → IsEvenEvent rate a → c.to.speed ≡ None → (c.to.src_out -ℤ c.to.src_in) ≡ (c.rec_out -ℤ c.rec_in)
even_read rate a c m even none =
    ap₂ (λ x y. x -ℤ y) m.src_out m.src_in ∙ even (m.speed ∙ ap (speed_of (count_of rate)) none) ∙ ap₂ (λ x y. x -ℤ y) (sym m.rec_out) (sym m.rec_in)

not_unequal : (rate : Rate) (xs ys : List Event) → AreMatched rate xs ys → All (IsEvenEvent rate) xs → (event : Event) → Contains ys event → IsUnequal event → ⊥
not_unequal rate xs ys m even event among unequal =
    let k = among.0 in
    let n = matched_length rate xs ys m in
    let match : Matches rate (get_or xs k event) event = subst (Matches rate (get_or xs k event)) among.2 (matched_at rate xs ys k event m among.1) in
    unequal.differ (even_read rate (get_or xs k event) event match (even k event (omega (arith, n, among.1))) unequal.no_speed)

same_default : (ys : List Event) (k : ℕ) (d e : Event) → k < length ys → get_or ys k d ≡ get_or ys k e
same_default [] k d e within = absurd (omega arith)
same_default (y ∷ ys) zero d e within = refl
same_default (y ∷ ys) (suc k) d e within = same_default ys k d e (omega (arith, within))

apart_by : (rate : Rate) (a b c d : Event) → Matches rate a c → Matches rate b d → (a.rec_out ≤ℤ b.rec_in) ⊎ (b.rec_out ≤ℤ a.rec_in) → c.rec_in <ℤ d.rec_out → d.rec_in <ℤ c.rec_out → ⊥
apart_by rate a b c d p q (inl h) begins ends = let e = p.rec_out in let f = q.rec_in in omega (arith, ints, h, e, f, ends)
apart_by rate a b c d p q (inr h) begins ends = let e = p.rec_in in let f = q.rec_out in omega (arith, ints, h, e, f, begins)

three_ways : (i j : ℕ) → (i < j) ⊎ ((j < i) ⊎ (i ≡ j))
three_ways i j = grind arith

meets_none : (rate : Rate) (low : ℕ) (xs ys : List Event) (i j : ℕ) (event : Event) → AreMatched rate xs ys → AreRising low ys → AllPairs AreApart xs → i < length ys → j < length ys
    → (get_or ys j event).line < (get_or ys i event).line → (get_or ys j event).channel ≡ (get_or ys i event).channel → (get_or ys j event).rec_in <ℤ (get_or ys i event).rec_out
    → (get_or ys i event).rec_in <ℤ (get_or ys j event).rec_out → (i < j) ⊎ ((j < i) ⊎ (i ≡ j)) → ⊥
meets_none rate low xs ys i j event m r apart here there line channel begins ends (inl less) =
    let n = matched_length rate xs ys m in
    let p = matched_at rate xs ys i event m here in
    let q = matched_at rate xs ys j event m there in
    apart_by rate (get_or xs i event) (get_or xs j event) (get_or ys i event) (get_or ys j event) p q (apart i j event less (omega (arith, n, there)) (sym p.channel ∙ sym channel ∙ q.channel)) ends begins
meets_none rate low xs ys i j event m r apart here there line channel begins ends (inr (inl less)) =
    let n = matched_length rate xs ys m in
    let p = matched_at rate xs ys i event m here in
    let q = matched_at rate xs ys j event m there in
    apart_by rate (get_or xs j event) (get_or xs i event) (get_or ys j event) (get_or ys i event) q p (apart j i event less (omega (arith, n, here)) (sym q.channel ∙ channel ∙ p.channel)) begins ends
meets_none rate low xs ys i j event m r apart here there line channel begins ends (inr (inr same)) =
    let e : (get_or ys i event).line ≡ (get_or ys j event).line = ap (λ k. (get_or ys k event).line) same in
    omega (arith, line, e)

not_overlap : (rate : Rate) (low : ℕ) (xs ys : List Event) → AreMatched rate xs ys
    → AreRising low ys → AllPairs AreApart xs → (line : ℕ) → IsOverlap ys line → ⊥
not_overlap rate low xs ys m r apart line over =
    let event = over.later in
    let among = over.has_later in
    let earlier = over.earlier in
    let before = over.has_earlier in
    let i = among.0 in
    let j = before.0 in
    let mine = sym among.2 in
    let other : earlier ≡ get_or ys j event =
    sym before.2 ∙ same_default ys j earlier event before.1 in
    let less : earlier.line < event.line = omega (arith, over.before, over.is) in
    meets_none rate low xs ys i j event m r apart among.1 before.1
    (subst (λ x. x.line < (get_or ys i event).line) other
    (subst (λ x. earlier.line < x.line) mine less))
    (subst (λ x. x.channel ≡ (get_or ys i event).channel) other
    (subst (λ x. earlier.channel ≡ x.channel) mine over.meet.channel))
    (subst (λ x. x.rec_in <ℤ (get_or ys i event).rec_out) other
    (subst (λ x. earlier.rec_in <ℤ x.rec_out) mine over.meet.first))
    (subst (λ x. (get_or ys i event).rec_in <ℤ x.rec_out) other
    (subst (λ x. x.rec_in <ℤ earlier.rec_out) mine over.meet.second))
    (three_ways i j)

-- no fault of theirs shows at the end
pub read_fine : (rate : Rate) (low : ℕ) (xs ys : List Event) → AreMatched rate xs ys → AreRising low ys → All (IsEvenEvent rate) xs → AllPairs AreApart xs → AreFine ys
read_fine rate low xs ys m r even apart n (inl unequal) = not_unequal rate xs ys m even unequal.event unequal.among unequal.unequal
read_fine rate low xs ys m r even apart n (inr over) = not_overlap rate low xs ys m r apart n over
