-- Bytes are one list at most.
use Rattle.std.proofs.Common.{◌≡◌, ◌<◌, ◌⊎◌, inl, inr, ℕ, zero, suc, Bool, List, [], ◌∷◌, AllPairs, length, get_or, refl, sym, ap, ap₂, subst, ◌∙◌, arith}
use Rattle.std.proofs.lemmas.Int.{ints}
use Rattle.std.proofs.lemmas.List.Sorted.{Contains-permutation, IsPermutation-sym}
use Rattle.std.specs.List.{Contains}
use Rattle.tick_time.specs.declared.rates.Rate.{Rate}
use Rattle.text_lines.specs.Lines.{lines_of}
use Rattle.edl_text.specs.Statements.{Statement}
use Rattle.edl_text.proofs.OneStatement.{says_unique}
use Rattle.edl_list.specs.declared.list.Event.{Event}
use Rattle.edl_list.specs.declared.list.EventList.{EventList}
use Rattle.edl_list.specs.Formed.{rank}
use Rattle.edl_text.specs.Lines.{AreSound}
use Rattle.edl_text.specs.Lists.{IsList, IsSaid, AreOrdered, events_in}
use Rattle.edl_text.specs.Order.{StandsBefore}

-- lines say one list of statements
pub one_past : (rate : Rate) (past : List Statement) (lines : List (List ℕ)) (p q : List Statement) → AreSound rate past lines p → AreSound rate past lines q → p ≡ q
one_past rate past [] p q a b = a ∙ sym b
one_past rate past (line ∷ lines) p q a b =
    let same = says_unique line b.0 a.0 b.1.says a.1.says in
    one_past rate (a.0 ∷ past) lines p q a.2 (subst (λ s. AreSound rate (s ∷ past) lines q) same b.2)

ranks_both : (a b m n : ℕ) → (a < b) ⊎ ((a ≡ b) × (m < n)) → (b < a) ⊎ ((b ≡ a) × (n < m)) → ⊥
ranks_both a b m n (inl p) (inl q) = omega (arith, p, q)
ranks_both a b m n (inl p) (inr q) = omega (arith, p, q.0)
ranks_both a b m n (inr p) (inl q) = omega (arith, p.0, q)
ranks_both a b m n (inr p) (inr q) = omega (arith, p.1, q.1)

never_both : (a b : Event) → StandsBefore a b → StandsBefore b a → ⊥
never_both a b (inl p) (inl q) = omega (arith, ints, p, q)
never_both a b (inl p) (inr q) = let e = q.0 in omega (arith, ints, p, e)
never_both a b (inr p) (inl q) = let e = p.0 in omega (arith, ints, q, e)
never_both a b (inr p) (inr q) = ranks_both (rank a.channel) (rank b.channel) a.line b.line p.1 q.1

first_or : (x : Event) (xs : List Event) (y : Event) → Contains (x ∷ xs) y → (x ≡ y) ⊎ Contains xs y
first_or x xs y c = by c.0 c.1 c.2
  where
    by : (k : ℕ) → k < length (x ∷ xs) → get_or (x ∷ xs) k y ≡ y → (x ≡ y) ⊎ Contains xs y
    by zero within e = inl e
    by (suc k) within e = inr (k, omega (arith, within), e)

here : (x : Event) (xs : List Event) → Contains (x ∷ xs) x
here x xs = (0, omega arith, refl)

there : (x : Event) (xs : List Event) (y : Event) → Contains xs y → Contains (x ∷ xs) y
there x xs y c = (suc c.0, omega (arith, c.1), c.2)

nowhere : (y : Event) → Contains [] y → ⊥
nowhere y c = omega (arith, c.1)

stands_first : (x : Event) (xs : List Event) (y : Event) → AllPairs StandsBefore (x ∷ xs) → Contains xs y → StandsBefore x y
stands_first x xs y order c = subst (StandsBefore x) c.2 (order 0 (suc c.0) y (omega arith) (omega (arith, c.1)))

behind_first : (x : Event) (xs : List Event) → AllPairs StandsBefore (x ∷ xs) → AllPairs StandsBefore xs
behind_first x xs order = λ i j d less within. order (suc i) (suc j) d (omega (arith, less)) (omega (arith, within))

one_head : (x y : Event) (xs ys : List Event) → AllPairs StandsBefore (x ∷ xs) → AllPairs StandsBefore (y ∷ ys) → (x ≡ y) ⊎ Contains xs y → (y ≡ x) ⊎ Contains ys x → x ≡ y
one_head x y xs ys p q (inl e) other = e
one_head x y xs ys p q (inr c) (inl e) = sym e
one_head x y xs ys p q (inr c) (inr d) = absurd (never_both x y (stands_first x xs y p c) (stands_first y ys x q d))

behind_both : (x y : Event) (xs ys : List Event) → x ≡ y → AllPairs StandsBefore (x ∷ xs) → (e : Event) → Contains xs e → (y ≡ e) ⊎ Contains ys e → Contains ys e
behind_both x y xs ys same p e c (inl is) =
    let before : StandsBefore x x = subst (StandsBefore x) (sym (same ∙ is)) (stands_first x xs e p c) in
    absurd (never_both x x before before)
behind_both x y xs ys same p e c (inr d) = d

-- events stand in this order in one way
one_order : (xs ys : List Event) → AllPairs StandsBefore xs → AllPairs StandsBefore ys → ((e : Event) → Contains xs e → Contains ys e) → ((e : Event) → Contains ys e → Contains xs e) → xs ≡ ys
one_order [] [] p q f g = refl
one_order [] (y ∷ ys) p q f g = absurd (nowhere y (g y (here y ys)))
one_order (x ∷ xs) [] p q f g = absurd (nowhere x (f x (here x xs)))
one_order (x ∷ xs) (y ∷ ys) p q f g =
    let same : x ≡ y = one_head x y xs ys p q (first_or x xs y (g y (here y ys))) (first_or y ys x (f x (here x xs))) in
    let rest : xs ≡ ys =
    one_order xs ys (behind_first x xs p) (behind_first y ys q) (λ e c. behind_both x y xs ys same p e c (first_or y ys e (f e (there x xs e c))))
    (λ e c. behind_both y x ys xs (sym same) q e c (first_or x xs e (g e (there y ys e c)))) in
    ap₂ (λ z zs. z ∷ zs) same rest

one_ordered : (events xs ys : List Event) → AreOrdered events xs → AreOrdered events ys → xs ≡ ys
one_ordered events xs ys p q =
    one_order xs ys p.order q.order (λ e c. Contains-permutation events ys e q.same (Contains-permutation xs events e (IsPermutation-sym events xs p.same) c))
    (λ e c. Contains-permutation events xs e p.same (Contains-permutation ys events e (IsPermutation-sym events ys q.same) c))

abbrev made : List ℕ → Rate → Bool → List Event → EventList
made title rate drop events = record { title = title; rate = rate; drop = drop; events = events }

one_said : (rate : Rate) (past : List Statement) (a b : EventList) → IsSaid rate past a → IsSaid rate past b → a ≡ b
one_said rate past a b p q =
    ap (λ t. made t a.rate a.drop a.events) (p.title ∙ sym q.title)
    ∙ ap (λ r. made b.title r a.drop a.events) (p.counted ∙ sym q.counted)
    ∙ ap (λ d. made b.title b.rate d a.events) (p.drop ∙ sym q.drop)
    ∙ ap (made b.title b.rate b.drop) (one_ordered (events_in rate past) a.events b.events p.events q.events)

-- bytes are at most one list
pub one_list : (rate : Rate) (bytes : List ℕ) (a b : EventList) → IsList rate bytes a → IsList rate bytes b → a ≡ b
one_list rate bytes a b p q =
    let same = one_past rate [] (lines_of bytes) q.past p.past q.sound p.sound in
    one_said rate p.past a b p.says (subst (λ past. IsSaid rate past b) same q.says)
