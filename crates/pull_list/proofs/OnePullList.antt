-- A timeline has one pull list.
use Rattle.std.proofs.Common.{◌≡◌, refl, sym, ap₂, subst, ◌∙◌, ◌⊎◌, inl, inr, ℕ, zero, suc, ◌<◌, ℤ, pos, ◌<ℤ◌, List, [], ◌∷◌, ◌++◌, AllPairs, arith}
use Rattle.std.specs.List.{All, Contains}
use Rattle.std.proofs.lemmas.Int.{ints}
use Rattle.std.proofs.lemmas.List.Elements.{All-head, All-tail}
use Rattle.otio_model.specs.declared.compositions.Clip.{Clip as ClipRow}
use Rattle.otio_model.specs.declared.timelines.Timeline.{Timeline}
use Rattle.otio_model.specs.Timelines.{bare}
use Rattle.pull_list.specs.Used.{ClipGroup}
use Rattle.pull_list.specs.Wanted.{IsOf, clips_of}
use Rattle.pull_list.proofs.SpareLemmas.{pull_list_bare}
use Rattle.pull_list.specs.Pulled.{HasFrameOf, IsIn, IsPullList, Precedes, StandsFirst, Stretch, past}

-- ---- which group stands first

-- of two groups one alone stands first
stands_once : (g h : ClipGroup) (ahead before : List ClipRow) (x y : ClipRow)
    (after rest : List ClipRow)
    → ahead ++ x ∷ after ≡ before ++ y ∷ rest → IsOf g x → IsOf h y
    → All (λ c. IsOf h c → ⊥) (ahead ++ x ∷ []) → All (λ c. IsOf g c → ⊥) (before ++ y ∷ []) → ⊥
stands_once g h [] [] x y after rest e a b p q =
    let same : x ≡ y = cc in
    All-head (λ c. IsOf h c → ⊥) x [] p (subst (IsOf h) (sym same) b)
stands_once g h [] (z ∷ before) x y after rest e a b p q =
    let same : x ≡ z = cc in
    All-head (λ c. IsOf g c → ⊥) z (before ++ y ∷ []) q (subst (IsOf g) same a)
stands_once g h (z ∷ ahead) [] x y after rest e a b p q =
    let same : z ≡ y = cc in
    All-head (λ c. IsOf h c → ⊥) z (ahead ++ x ∷ []) p (subst (IsOf h) (sym same) b)
stands_once g h (z ∷ ahead) (w ∷ before) x y after rest e a b p q =
    let same : ahead ++ x ∷ after ≡ before ++ y ∷ rest = cc in
    stands_once g h ahead before x y after rest same a b
    (All-tail (λ c. IsOf h c → ⊥) z (ahead ++ x ∷ []) p)
    (All-tail (λ c. IsOf g c → ⊥) w (before ++ y ∷ []) q)

not_both : (clips : List ClipRow) (g h : ClipGroup) → StandsFirst clips g h → StandsFirst clips h g → ⊥
not_both clips g h s r =
    stands_once g h s.ahead r.ahead s.first r.first s.after r.after (sym s.clips_are ∙ r.clips_are)
    s.is_first r.is_first s.not_yet r.not_yet

-- no group stands before itself
not_self : (clips : List ClipRow) (g h : ClipGroup) → g ≡ h → StandsFirst clips g h → ⊥
not_self clips g h e s =
    let self = subst (StandsFirst clips g) (sym e) s in not_both clips g g self self

-- ---- where a frame is

-- the stretch of the group has the number
abbrev IsFrameOf : Stretch → ClipGroup → ℤ → Type 0
IsFrameOf s g v = (s.group ≡ g) × IsIn s v

-- the frame comes after the stretch, and does not touch it
abbrev IsAfter : Timeline → Stretch → ClipGroup → ℤ → Type 0
IsAfter t s g v = ((s.group ≡ g) × (past s <ℤ v)) ⊎ StandsFirst (clips_of t) s.group g

of_first : (s : Stretch) (ss : List Stretch) (g : ClipGroup) (v : ℤ) → IsFrameOf s g v
    → HasFrameOf (s ∷ ss) g v
of_first s ss g v is = record {
  stretch = s;
  among = (0, omega arith, refl);
  group = is.0;
  number = is.1;
}

of_rest : (s : Stretch) (ss : List Stretch) (g : ClipGroup) (v : ℤ) → HasFrameOf ss g v
    → HasFrameOf (s ∷ ss) g v
of_rest s ss g v h = record {
  stretch = h.stretch;
  among = (suc h.among.0, omega (arith, h.among.1), h.among.2);
  group = h.group;
  number = h.number;
}

first_or_rest : (s x : Stretch) (ss : List Stretch) (g : ClipGroup) (v : ℤ) → Contains (s ∷ ss) x
    → IsFrameOf x g v → IsFrameOf s g v ⊎ HasFrameOf ss g v
first_or_rest s x ss g v (zero, lt, e) is = inl (subst (λ y. IsFrameOf y g v) (sym e) is)
first_or_rest s x ss g v (suc k, lt, e) is = inr (record {
  stretch = x;
  among = (k, omega (arith, lt), e);
  group = is.0;
  number = is.1;
})

after : (t : Timeline) (s : Stretch) (ss : List Stretch) (g : ClipGroup) (v : ℤ)
    → All (Precedes t s) ss → HasFrameOf ss g v → IsAfter t s g v
after t s ss g v all h =
    by (subst (Precedes t s) h.among.2 (all h.among.0 h.stretch h.among.1))
  where
    by : Precedes t s h.stretch → IsAfter t s g v
    by (inl e) = let low = h.number.0 in let less = e.1 in
        inl (e.0 ∙ h.group, omega (arith, ints, less, low))
    by (inr stands) = inr (subst (StandsFirst (clips_of t) s.group) h.group stands)

-- a frame is of the first stretch, or comes after it
split : (t : Timeline) (s : Stretch) (ss : List Stretch) (g : ClipGroup) (v : ℤ)
    → All (Precedes t s) ss → HasFrameOf (s ∷ ss) g v → IsFrameOf s g v ⊎ IsAfter t s g v
split t s ss g v all h = by (first_or_rest s h.stretch ss g v h.among (h.group, h.number))
  where
    by : IsFrameOf s g v ⊎ HasFrameOf ss g v → IsFrameOf s g v ⊎ IsAfter t s g v
    by (inl is) = inl is
    by (inr more) = inr (after t s ss g v all more)

-- and not both
apart : (t : Timeline) (s : Stretch) (g : ClipGroup) (v : ℤ) → IsFrameOf s g v → IsAfter t s g v → ⊥
apart t s g v is (inl e) = let high = is.1.1 in let less = e.1 in omega (arith, ints, high, less)
apart t s g v is (inr stands) = not_self (clips_of t) s.group g is.0 stands

-- ---- two lists

-- the first stretches begin alike, where the first frame of each is in the other list
begin_alike : (t : Timeline) (r s : Stretch) → pos 0 <ℤ r.count → pos 0 <ℤ s.count
    → IsFrameOf s r.group r.first ⊎ IsAfter t s r.group r.first
    → IsFrameOf r s.group s.first ⊎ IsAfter t r s.group s.first
    → (r.group ≡ s.group) × (r.first ≡ s.first)
begin_alike t r s m n (inl a) (inl b) =
    let x = a.1.0 in let y = b.1.0 in (b.0, omega (arith, ints, x, y))
begin_alike t r s m n (inl a) (inr (inl b)) =
    let x = a.1.0 in let y = b.1 in absurd (omega (arith, ints, x, y, m))
begin_alike t r s m n (inl a) (inr (inr b)) =
    absurd (not_self (clips_of t) r.group s.group (sym a.0) b)
begin_alike t r s m n (inr (inl a)) (inl b) =
    let x = a.1 in let y = b.1.0 in absurd (omega (arith, ints, x, y, n))
begin_alike t r s m n (inr (inl a)) (inr (inl b)) =
    let x = a.1 in let y = b.1 in absurd (omega (arith, ints, x, y, m, n))
begin_alike t r s m n (inr (inl a)) (inr (inr b)) =
    absurd (not_self (clips_of t) r.group s.group (sym a.0) b)
begin_alike t r s m n (inr (inr a)) (inl b) =
    absurd (not_self (clips_of t) s.group r.group (sym b.0) a)
begin_alike t r s m n (inr (inr a)) (inr (inl b)) =
    absurd (not_self (clips_of t) s.group r.group (sym b.0) a)
begin_alike t r s m n (inr (inr a)) (inr (inr b)) =
    absurd (not_both (clips_of t) s.group r.group a b)

first_frame : (s : Stretch) (ss : List Stretch) → pos 0 <ℤ s.count
    → HasFrameOf (s ∷ ss) s.group s.first
first_frame s ss n =
    of_first s ss s.group s.first (refl, (omega (arith, ints), omega (arith, ints, n)))

-- no stretch ends later than the first one of a list that has its frames and begins as it does
ends_by : (t : Timeline) (r s : Stretch) (rs ss : List Stretch) → All (Precedes t r) rs
    → pos 0 <ℤ r.count → r.group ≡ s.group → r.first ≡ s.first
    → ((g : ClipGroup) (v : ℤ) → HasFrameOf (s ∷ ss) g v → HasFrameOf (r ∷ rs) g v)
    → past r <ℤ past s → ⊥
ends_by t r s rs ss all n group first has less =
    by (split t r rs s.group (past r) all
    (has s.group (past r) (of_first s ss s.group (past r)
    (refl, (omega (arith, ints, first, n), less)))))
  where
    by : IsFrameOf r s.group (past r) ⊎ IsAfter t r s.group (past r) → ⊥
    by (inl is) = let high = is.1.1 in omega (arith, ints, high)
    by (inr (inl e)) = let more = e.1 in omega (arith, ints, more)
    by (inr (inr stands)) = not_self (clips_of t) r.group s.group group stands

same_count : (r s : Stretch) → r.first ≡ s.first → (past r <ℤ past s → ⊥)
    → (past s <ℤ past r → ⊥) → r.count ≡ s.count
same_count r s first no_later no_sooner = grind (arith, ints, first, no_later, no_sooner)

stretch_is : (r s : Stretch) → r.group ≡ s.group → r.first ≡ s.first → r.count ≡ s.count → r ≡ s
stretch_is r s a b c = λ i. record { group = a i; first = b i; count = c i }

-- the lists without their first stretch have the same frames
rest_has : (t : Timeline) (s : Stretch) (xs ys : List Stretch) → All (Precedes t s) xs
    → ((g : ClipGroup) (v : ℤ) → HasFrameOf (s ∷ xs) g v → HasFrameOf (s ∷ ys) g v)
    → (g : ClipGroup) (v : ℤ) → HasFrameOf xs g v → HasFrameOf ys g v
rest_has t s xs ys all has g v h =
    by (first_or_rest s one.stretch ys g v one.among (one.group, one.number))
  where
    one : HasFrameOf (s ∷ ys) g v
    one = has g v (of_rest s xs g v h)

    by : IsFrameOf s g v ⊎ HasFrameOf ys g v → HasFrameOf ys g v
    by (inl is) = absurd (apart t s g v is (after t s xs g v all h))
    by (inr more) = more

pairs_head : (t : Timeline) (s : Stretch) (ss : List Stretch) → AllPairs (Precedes t) (s ∷ ss)
    → All (Precedes t s) ss
pairs_head t s ss all = λ k d lt. all 0 (suc k) d (omega arith) (omega (arith, lt))

pairs_tail : (t : Timeline) (s : Stretch) (ss : List Stretch) → AllPairs (Precedes t) (s ∷ ss)
    → AllPairs (Precedes t) ss
pairs_tail t s ss all = λ i j d lt m. all (suc i) (suc j) d (omega (arith, lt)) (omega (arith, m))

none_has : (g : ClipGroup) (v : ℤ) → HasFrameOf [] g v → ⊥
none_has g v h = let lt = h.among.1 in omega (arith, lt)

abbrev AreSome : List Stretch → Type 0
AreSome ss = All (λ s. pos 0 <ℤ s.count) ss

abbrev HaveFrames : List Stretch → List Stretch → Type 0
HaveFrames xs ys = (g : ClipGroup) (v : ℤ) → HasFrameOf xs g v → HasFrameOf ys g v

-- lists in order that have the same frames are the same
same_list : (t : Timeline) (xs ys : List Stretch) → AllPairs (Precedes t) xs
    → AllPairs (Precedes t) ys → AreSome xs → AreSome ys → HaveFrames xs ys → HaveFrames ys xs
    → xs ≡ ys
same_list t [] [] p q m n f g = refl
same_list t [] (s ∷ ss) p q m n f g =
    absurd (none_has s.group s.first (g s.group s.first
    (first_frame s ss (All-head (λ s. pos 0 <ℤ s.count) s ss n))))
same_list t (r ∷ rs) [] p q m n f g =
    absurd (none_has r.group r.first (f r.group r.first
    (first_frame r rs (All-head (λ s. pos 0 <ℤ s.count) r rs m))))
same_list t (r ∷ rs) (s ∷ ss) p q m n f g =
    ap₂ (λ x xs. x ∷ xs) same
    (same_list t rs ss (pairs_tail t r rs p) (pairs_tail t s ss q)
    (All-tail (λ s. pos 0 <ℤ s.count) r rs m) (All-tail (λ s. pos 0 <ℤ s.count) s ss n)
    (rest_has t r rs ss after_r (subst (λ x. HaveFrames (r ∷ rs) (x ∷ ss)) (sym same) f))
    (rest_has t s ss rs after_s (subst (λ x. HaveFrames (s ∷ ss) (x ∷ rs)) same g)))
  where
    after_r : All (Precedes t r) rs
    after_r = pairs_head t r rs p

    after_s : All (Precedes t s) ss
    after_s = pairs_head t s ss q

    some_r : pos 0 <ℤ r.count
    some_r = All-head (λ s. pos 0 <ℤ s.count) r rs m

    some_s : pos 0 <ℤ s.count
    some_s = All-head (λ s. pos 0 <ℤ s.count) s ss n

    alike : (r.group ≡ s.group) × (r.first ≡ s.first)
    alike = begin_alike t r s some_r some_s
        (split t s ss r.group r.first after_s (f r.group r.first (first_frame r rs some_r)))
        (split t r rs s.group s.first after_r (g s.group s.first (first_frame s ss some_s)))

    same : r ≡ s
    same =
        let first = alike.1 in
        let no_later : past r <ℤ past s → ⊥ = ends_by t r s rs ss after_r some_r alike.0 first g in
        let no_sooner : past s <ℤ past r → ⊥ =
        ends_by t s r ss rs after_s some_s (sym alike.0) (sym first) f in
        stretch_is r s alike.0 first (same_count r s first no_later no_sooner)

one_list : (t : Timeline) (handles : ℕ) (a b : List Stretch) → IsPullList t handles a
    → IsPullList t handles b → a ≡ b
one_list t handles a b p q =
    same_list t a b p.ordered q.ordered p.some q.some
    (λ g v h. q.all g v (p.only g v h)) (λ g v h. p.all g v (q.only g v h))

-- and so have two that are equal but for the memory that they keep to spare
pub one_pull_list : (t u : Timeline) (handles : ℕ) (a b : List Stretch) → bare t ≡ bare u
    → IsPullList t handles a → IsPullList u handles b → a ≡ b
one_pull_list t u handles a b same p q =
    one_list t handles a b p (pull_list_bare u t handles b (sym same) q)
