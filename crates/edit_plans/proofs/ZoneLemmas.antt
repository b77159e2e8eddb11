-- What comes in place of the touched children makes the whole list.
use Rattle.std.proofs.Common.{◌≡◌, refl, sym, subst, ap, ap₂, ◌∙◌, ℕ, zero, suc, ◌+◌, ◌-◌, ◌*◌, ◌<◌, ◌^◌}
use Rattle.std.proofs.Common.{◌≤◌, ℤ, pos, ◌+ℤ◌, ◌-ℤ◌, ◌≤ℤ◌, ◌<ℤ◌, Bool, true, false, ◌||◌}
use Rattle.std.proofs.Common.{List, [], ◌∷◌, ◌++◌, Option, Some, None, take, drop, length}
use Rattle.std.proofs.Common.{arith, ◌⊎◌, inl, inr}
use Rattle.std.specs.Prelude.{option_map, slice_get}
use Rattle.std.proofs.lemmas.Int.{ints}
use Rattle.std.proofs.lemmas.List.{append-nil as none_more}
use Rattle.tick_time.specs.declared.rates.Rate.{Rate}
use Rattle.otio_model.specs.declared.compositions.ItemOf.{ItemOf}
use Rattle.otio_model.specs.declared.compositions.Listed.{Listed}
use Rattle.otio_model.specs.Counts.{count}
use Rattle.otio_model.specs.Edits.{replaced}
use Rattle.otio_model.specs.Trees.{items_of}
use Rattle.otio_model.proofs.LengthLimits.{few_enough}
use Rattle.coord.specs.Sights.{overlap_of}
use Rattle.edits.specs.Splices.{is_stripped}
use Rattle.edits.specs.Children.{Child, ticks, made, all_made, with_first}
use Rattle.edits.specs.Cuts.{front, back, strip, olds, put_between}
use Rattle.edits.specs.Edges.{added}
use Rattle.edits.specs.Narrow.{ahead, touched, beyond}
use Rattle.edits.specs.Children.{has_far}
use Rattle.edits.specs.Children.{is_far}
use Rattle.edits_law.proofs.Parted.{narrow_between, made_narrow, replaced_middle, between_few}
use Rattle.edits_law.proofs.Touched.{apart, in_parts, ahead_early}
use Rattle.pieces.specs.Short.{AreCuttable, IsCuttable, AreShort}
use Rattle.pieces.proofs.Faultless.{faultless_is_short}
use Rattle.edit_plans.specs.declared.replaced_children.Stretch.{Stretch}
use Rattle.edit_plans.specs.declared.replaced_children.Zone.{Zone}
use Rattle.edit_plans.specs.Touched.{AreTouched}
use Rattle.edit_plans.proofs.Passing.{added_ahead, ahead_count}
use Rattle.pieces.proofs.SameTimes.{or_left, or_right}
use Rattle.coord.proofs.Members.{next}
use Rattle.pieces.proofs.StripLemmas.{Stripped, strip_first, keep_as, drop_as, near_end}
use Rattle.pieces.proofs.StripLemmas.{short_together}

-- ---- lists that are made are made together

first_made : (o : Option (ItemOf Listed)) (l k : Option (List (ItemOf Listed)))
    (p q m : List (ItemOf Listed)) → with_first o l ≡ Some p → l ≡ Some m → k ≡ Some (m ++ q)
    → with_first o k ≡ Some (p ++ q)
first_made None l k p q m e f g = absurd (cc e)
first_made (Some a) None k p q m e f g = absurd (cc e)
first_made (Some a) (Some b) k p q m e f g =
    let same : b ≡ m = cc f in
    let whole : a ∷ b ≡ p = cc e in
    ap (with_first (Some a)) g ∙ ap (λ z. Some ((a ∷ z) ++ q)) (sym same)
    ∙ ap (λ z. Some (z ++ q)) whole

some_first : (o : Option (ItemOf Listed)) (l : Option (List (ItemOf Listed)))
    (p : List (ItemOf Listed)) → with_first o l ≡ Some p → (m : List (ItemOf Listed)) × (l ≡ Some m)
some_first None l p e = absurd (cc e)
some_first (Some a) None p e = absurd (cc e)
some_first (Some a) (Some b) p e = (b, refl)

pub made_both : (r : Rate) (c d : List Child) (p q : List (ItemOf Listed)) → all_made r c ≡ Some p
    → all_made r d ≡ Some q → all_made r (c ++ d) ≡ Some (p ++ q)
made_both r [] d p q e f = let same : [] ≡ p = cc e in f ∙ ap (λ z. Some (z ++ q)) same
made_both r (x ∷ c) d p q e f =
    let rest = some_first (made r x) (all_made r c) p e in
    first_made (made r x) (all_made r c) (all_made r (c ++ d)) p q rest.0 e rest.1
    (made_both r c d rest.0 q rest.1 f)

pub between_made : (r : Rate) (l : List (ItemOf Listed)) (a b u v : ℤ)
    (f p k all : List (ItemOf Listed)) → all_made r (front l u) ≡ Some f
    → all_made r (back l v) ≡ Some k → all ≡ f ++ (p ++ k) → u ≡ a → v ≡ b
    → (n : List Child) → all_made r n ≡ Some p → all_made r (put_between l a n b) ≡ Some all
between_made r l a b u v f p k all e g h i j n m =
    made_both r (front l a) (n ++ back l b) f (p ++ k)
    (ap (λ z. all_made r (front l z)) (sym i) ∙ e)
    (made_both r n (back l b) p k m (ap (λ z. all_made r (back l z)) (sym j) ∙ g)) ∙ ap Some (sym h)

-- ---- starts and lengths out of range

pub far_left : (c d : List Child) → has_far c ≡ true → has_far (c ++ d) ≡ true
far_left [] d e = absurd (cc e)
far_left (x ∷ c) d e = by (is_far x) refl (far_left c d)
  where
    by : (b : Bool) → is_far x ≡ b → (has_far c ≡ true → has_far (c ++ d) ≡ true)
        → has_far ((x ∷ c) ++ d) ≡ true
    by true f i = or_left (is_far x) (has_far (c ++ d)) f
    by false f i = or_right (is_far x) (has_far (c ++ d)) (i (rest (is_far x) (has_far c) f e))
      where
        rest : (p q : Bool) → p ≡ false → (p || q) ≡ true → q ≡ true
        rest false q g h = h
        rest true q g h = absurd (cc g)

pub far_right : (c d : List Child) → has_far d ≡ true → has_far (c ++ d) ≡ true
far_right [] d e = e
far_right (x ∷ c) d e = or_right (is_far x) (has_far (c ++ d)) (far_right c d e)

pub front_far : (l : List (ItemOf Listed)) (a b u : ℤ) → has_far (front l u) ≡ true → u ≡ a
    → (n : List Child) → has_far (put_between l a n b) ≡ true
front_far l a b u e i n = far_left (front l a) (n ++ back l b)
    (ap (λ z. has_far (front l z)) (sym i) ∙ e)

-- ---- faultless parts of faultless lists

pub drop_faultless : (l : List (ItemOf Listed)) (i : ℕ) → AreCuttable l → AreCuttable (drop i l)
drop_faultless l zero h = h
drop_faultless [] (suc i) h = h
drop_faultless (x ∷ l) (suc i) h = drop_faultless l i (λ j y e. h (suc j) y e)

pub take_faultless : (l : List (ItemOf Listed)) (i : ℕ) → AreCuttable l → AreCuttable (take i l)
take_faultless l zero h = λ j y e. absurd (cc e)
take_faultless [] (suc i) h = h
take_faultless (x ∷ l) (suc i) h = with_head x (take i l) (h 0 x refl)
    (take_faultless l i (λ j y e. h (suc j) y e))
  where
    with_head : (x : ItemOf Listed) (l : List (ItemOf Listed)) → IsCuttable x → AreCuttable l
        → AreCuttable (x ∷ l)
    with_head x l h k zero y e = let same : x ≡ y = cc e in subst IsCuttable same h
    with_head x l h k (suc j) y e = k j y e

with_first_faultless : (x : ItemOf Listed) (l : List (ItemOf Listed)) → IsCuttable x → AreCuttable l
    → AreCuttable (x ∷ l)
with_first_faultless x l h k zero y e = let same : x ≡ y = cc e in subst IsCuttable same h
with_first_faultless x l h k (suc j) y e = k j y e

strip_one : (x : ItemOf Listed) (l : List (ItemOf Listed)) (a b : ℤ) (c : Bool)
    → is_stripped a b (overlap_of x) ≡ c → IsCuttable x → AreCuttable (strip l a b)
    → AreCuttable (strip l (a -ℤ ticks x) (b -ℤ ticks x)) → AreCuttable (strip (x ∷ l) a b)
strip_one x l a b true e h i k = let q : strip (x ∷ l) a b ≡ strip l a b = rw e refl in
    subst AreCuttable (sym q) i
strip_one x l a b false e h i k = let q : strip (x ∷ l) a b ≡ x
    ∷ strip l (a -ℤ ticks x) (b -ℤ ticks x) = rw e refl in
    subst AreCuttable (sym q) (with_first_faultless x _ h k)

pub strip_faultless : (l : List (ItemOf Listed)) (a b : ℤ) → AreCuttable l
    → AreCuttable (strip l a b)
strip_faultless [] a b h = h
strip_faultless (x ∷ l) a b h = strip_one x l a b (is_stripped a b (overlap_of x)) refl (h 0 x refl)
    (strip_faultless l a b (λ j y e. h (suc j) y e))
    (strip_faultless l (a -ℤ ticks x) (b -ℤ ticks x) (λ j y e. h (suc j) y e))

-- ---- the touched children by their index

drop_front : {A : Type 0} (l r : List A) → drop (length l) (l ++ r) ≡ r
drop_front [] r = refl
drop_front (x ∷ l) r = drop_front l r

take_front : {A : Type 0} (l r : List A) → take (length l) (l ++ r) ≡ l
take_front [] r = refl
take_front (x ∷ l) r = ap (λ q. x ∷ q) (take_front l r)

pub touched_is : (l : List (ItemOf Listed)) (a b : ℤ)
    → take (length (touched l a b)) (drop (length (ahead l a b)) l) ≡ touched l a b
touched_is l a b =
    ap (λ q. take (length (touched l a b)) (drop (length (ahead l a b)) q)) (sym (in_parts l a b))
    ∙ ap (take (length (touched l a b))) (drop_front (ahead l a b) (touched l a b ++ beyond l a b))
    ∙ take_front (touched l a b) (beyond l a b)

len_both : {A : Type 0} (l r : List A) → length (l ++ r) ≡ length l + length r
len_both [] r = zero_plus (length r)
  where
    zero_plus : (n : ℕ) → n ≡ 0 + n
    zero_plus n = omega arith
len_both (x ∷ l) r = ap suc (len_both l r) ∙ plus_suc (length l) (length r)
  where
    plus_suc : (m n : ℕ) → suc (m + n) ≡ suc m + n
    plus_suc m n = omega arith

pub touched_there : (l : List (ItemOf Listed)) (a b : ℤ)
    → length (ahead l a b) + length (touched l a b) ≤ length l
touched_there l a b =
    let e = ap length (in_parts l a b) in
    let f = len_both (ahead l a b) (touched l a b ++ beyond l a b) in
    let g = len_both (touched l a b) (beyond l a b) in
    omega (arith, e, f, g)

-- the zone begins after what stands ahead of it
pub zone_low : (l : List (ItemOf Listed)) (a b : ℤ) → pos 0 ≤ℤ a → a ≤ℤ b → added (ahead l a b) ≤ℤ a
zone_low l a b h k = by (ahead_early l a b k (omega (arith, ints, h, k)))
  where
    by : (ahead l a b ≡ []) ⊎ (added (ahead l a b) <ℤ a) → added (ahead l a b) ≤ℤ a
    by (inl e) = let z : added (ahead l a b) ≡ pos 0 = ap added e in omega (arith, ints, z, h)
    by (inr e) = omega (arith, ints, e)

-- ---- the whole list

-- the children to be are those ahead, what comes of the touched ones, and those beyond
narrowed : (l : List (ItemOf Listed)) (a b u v : ℤ) (n : List Child) (at count : ℕ) → pos 0 ≤ℤ a
    → a ≤ℤ b → at ≡ length (ahead l a b) → count ≡ length (touched l a b)
    → u ≡ a -ℤ added (ahead l a b) → v ≡ b -ℤ added (ahead l a b)
    → put_between (strip l a b) a n b ≡ olds (ahead l a b)
    ++ (put_between (strip (take count (drop at l)) u v) u n v ++ olds (beyond l a b))
narrowed l a b u v n at count h k e f g i =
    let A : List (ItemOf Listed) = ahead l a b in
    let T : List (ItemOf Listed) = touched l a b in
    let B : List (ItemOf Listed) = beyond l a b in
    let same : take count (drop at l) ≡ T = ap₂ (λ x y. take x (drop y l)) f e ∙ touched_is l a b in
    let zone : put_between (strip (take count (drop at l)) u v) u n v
    ≡ put_between (strip T (a -ℤ added A) (b -ℤ added A)) (a -ℤ added A) n (b -ℤ added A) =
    ap (λ q. put_between (strip q u v) u n v) same
    ∙ ap₂ (λ x y. put_between (strip T x y) x n y) g i in
    ap (λ q. put_between (strip q a b) a n b) (sym (in_parts l a b))
    ∙ narrow_between A T B a b n (apart l a b k (omega (arith, ints, h, k)))
    ∙ ap (λ q. olds A ++ (q ++ olds B)) (sym zone)

pub middle_made : (r : Rate) (l : List (ItemOf Listed)) (a b u v : ℤ) (put p : List (ItemOf Listed))
    (n : List Child) (at count : ℕ) → pos 0 ≤ℤ a → a ≤ℤ b → at ≡ length (ahead l a b)
    → count ≡ length (touched l a b) → u ≡ a -ℤ added (ahead l a b)
    → v ≡ b -ℤ added (ahead l a b)
    → all_made r (put_between (strip (take count (drop at l)) u v) u n v) ≡ Some p
    → all_made r (put_between (strip l a b) a n b) ≡ Some (replaced at count p l)
middle_made r l a b u v put p n at count h k e f g i m =
    let A : List (ItemOf Listed) = ahead l a b in
    let T : List (ItemOf Listed) = touched l a b in
    let B : List (ItemOf Listed) = beyond l a b in
    let list : replaced at count p l ≡ A ++ (p ++ B) = ap₂ (λ x y. replaced x y p l) e f
    ∙ ap (replaced (length A) (length T) p) (sym (in_parts l a b)) ∙ replaced_middle A T B p in
    ap (all_made r) (narrowed l a b u v n at count h k e f g i)
    ∙ made_narrow r A (put_between (strip (take count (drop at l)) u v) u n v) B
    ∙ ap (option_map (λ q. A ++ (q ++ B))) m ∙ ap Some (sym list)

pub middle_far : (l : List (ItemOf Listed)) (a b u v : ℤ) (n : List Child) (at count : ℕ)
    → pos 0 ≤ℤ a → a ≤ℤ b → at ≡ length (ahead l a b) → count ≡ length (touched l a b)
    → u ≡ a -ℤ added (ahead l a b) → v ≡ b -ℤ added (ahead l a b)
    → has_far (put_between (strip (take count (drop at l)) u v) u n v) ≡ true
    → has_far (put_between (strip l a b) a n b) ≡ true
middle_far l a b u v n at count h k e f g i m =
    ap has_far (narrowed l a b u v n at count h k e f g i)
    ∙ far_right (olds (ahead l a b)) _
    (far_left (put_between (strip (take count (drop at l)) u v) u n v) (olds (beyond l a b)) m)

-- ---- items that can be cut

pub short_all : (l : List (ItemOf Listed)) → AreCuttable l → AreShort l
short_all l h = λ i x e. faultless_is_short x (h i x e)

pub kept_faultless : (l k : List (ItemOf Listed)) (n a : ℕ) (u v : ℤ) → AreCuttable l
    → k ≡ strip (take n (drop a l)) u v → AreCuttable k
kept_faultless l k n a u v h e = subst AreCuttable (sym e)
    (strip_faultless (take n (drop a l)) u v (take_faultless (drop a l) n (drop_faultless l a h)))

-- the same zone, with each end by an equation
pub kept_as : (l kept : List (ItemOf Listed)) (u v x y : ℤ) → kept ≡ strip l u v → u ≡ x → v ≡ y
    → kept ≡ strip l x y
kept_as l kept u v x y e f g = e ∙ ap₂ (strip l) f g

-- the touched ones, with each end of the zone by an equation
pub touched_as : (l : List (ItemOf Listed)) (z inner : Zone) (s : Stretch) (x y : ℤ) → x ≡ z.from
    → y ≡ z.to → s.at ≡ length (ahead l x y) → s.count ≡ length (touched l x y)
    → inner.from ≡ z.from -ℤ added (ahead l x y) → inner.to ≡ z.to -ℤ added (ahead l x y)
    → AreTouched l z s inner
touched_as l z inner s x y ex ey e f g h = record {
  at = e ∙ ap₂ (λ c d. length (ahead l c d)) ex ey;
  count = f ∙ ap₂ (λ c d. length (touched l c d)) ex ey;
  from = g ∙ ap₂ (λ c d. z.from -ℤ added (ahead l c d)) ex ey;
  to = h ∙ ap₂ (λ c d. z.to -ℤ added (ahead l c d)) ex ey;
}

-- what comes in their place, with the list without the transitions by an equation
pub made_as : (r : Rate) (l k : List (ItemOf Listed)) (z inner : Zone) (s : Stretch) (u v : ℤ)
    (p : List (ItemOf Listed)) (n : List Child) → AreTouched l z s inner → u ≡ inner.from
    → v ≡ inner.to → k ≡ strip (take s.count (drop s.at l)) u v
    → all_made r (put_between k inner.from n inner.to) ≡ Some p
    → all_made r (put_between (strip l z.from z.to) z.from n z.to)
    ≡ Some (replaced s.at s.count p l)
made_as r l k z inner s u v p n t ex ey e m =
    middle_made r l z.from z.to inner.from inner.to [] p n s.at s.count z.low z.forward t.at
    t.count t.from t.to
    (subst (λ q. all_made r (put_between q inner.from n inner.to) ≡ Some p)
    (kept_as (take s.count (drop s.at l)) k u v inner.from inner.to e ex ey) m)

pub far_as : (l k : List (ItemOf Listed)) (z inner : Zone) (s : Stretch) (u v : ℤ)
    (n : List Child) → AreTouched l z s inner → u ≡ inner.from → v ≡ inner.to
    → k ≡ strip (take s.count (drop s.at l)) u v
    → has_far (put_between k inner.from n inner.to) ≡ true
    → has_far (put_between (strip l z.from z.to) z.from n z.to) ≡ true
far_as l k z inner s u v n t ex ey e m =
    middle_far l z.from z.to inner.from inner.to n s.at s.count z.low z.forward t.at t.count
    t.from t.to
    (subst (λ q. has_far (put_between q inner.from n inner.to) ≡ true)
    (kept_as (take s.count (drop s.at l)) k u v inner.from inner.to e ex ey) m)

pub there_as : (l : List (ItemOf Listed)) (x y : ℤ) (at count : ℕ) → at ≡ length (ahead l x y)
    → count ≡ length (touched l x y) → at + count ≤ length l
there_as l x y at count e f = let h = touched_there l x y in omega (arith, h, e, f)

pub stretch_faultless : (l k : List (ItemOf Listed)) (n a : ℕ) → AreCuttable l
    → k ≡ take n (drop a l) → AreCuttable k
stretch_faultless l k n a h e = subst AreCuttable (sym e)
    (take_faultless (drop a l) n (drop_faultless l a h))

pub ahead_short : (l : List (ItemOf Listed)) (x y t : ℤ) → AreCuttable l → t ≡ added (ahead l x y)
    → (pos 0 ≤ℤ t) × (t ≤ℤ pos (length l * 705600000000000000000000))
ahead_short l x y t h e =
    let b = added_ahead l x y (short_all l h) in
    let n = ahead_count l x y in
    (omega (arith, ints, b.0, e), omega (arith, ints, b.1, n, e))

-- ---- how few come in place of the touched ones

pub olds_made : (r : Rate) (l : List (ItemOf Listed)) → all_made r (olds l) ≡ Some l
olds_made r [] = refl
olds_made r (x ∷ l) = ap (with_first (Some x)) (olds_made r l)

with_one : (o : Option (ItemOf Listed)) (l : Option (List (ItemOf Listed)))
    (p : List (ItemOf Listed)) (n : ℕ) → ((m : List (ItemOf Listed)) → l ≡ Some m → length m ≡ n)
    → with_first o l ≡ Some p → length p ≡ suc n
with_one None l p n f e = absurd (cc e)
with_one (Some a) None p n f e = absurd (cc e)
with_one (Some a) (Some b) p n f e =
    let whole : a ∷ b ≡ p = cc e in
    ap length (sym whole) ∙ ap suc (f b refl)

made_length : (r : Rate) (c : List Child) (p : List (ItemOf Listed)) → all_made r c ≡ Some p
    → length p ≡ length c
made_length r [] p e = let same : [] ≡ p = cc e in ap length (sym same)
made_length r (x ∷ c) p e =
    with_one (made r x) (all_made r c) p (length c) (λ m f. made_length r c m f) e

olds_length : (l : List (ItemOf Listed)) → length (olds l) ≡ length l
olds_length [] = refl
olds_length (x ∷ l) = ap suc (olds_length l)

take_few : {A : Type 0} (l : List A) (n : ℕ) → length (take n l) ≤ n
take_few l zero = omega arith
take_few [] (suc n) = omega arith
take_few (x ∷ l) (suc n) = let h = take_few l n in omega (arith, h)

pub few_as : (r : Rate) (l k : List (ItemOf Listed)) (z inner : Zone) (s : Stretch) (u v : ℤ)
    (put p : List (ItemOf Listed)) → AreTouched l z s inner → u ≡ inner.from → v ≡ inner.to
    → k ≡ strip (take s.count (drop s.at l)) u v
    → ((n : List Child) → all_made r n ≡ Some put
    → all_made r (put_between k inner.from n inner.to) ≡ Some p)
    → length p ≤ length (touched l z.from z.to) + 1 + length put
few_as r l k z inner s u v put p t ex ey e f =
    let made_of : length p ≡ length (put_between k inner.from (olds put) inner.to) =
    made_length r (put_between k inner.from (olds put) inner.to) p
    (f (olds put) (olds_made r put)) in
    let same : length (put_between k inner.from (olds put) inner.to)
    ≡ length (put_between (strip (take s.count (drop s.at l)) inner.from inner.to) inner.from
    (olds put) inner.to) =
    ap (λ q. length (put_between q inner.from (olds put) inner.to))
    (kept_as (take s.count (drop s.at l)) k u v inner.from inner.to e ex ey) in
    let few = between_few (take s.count (drop s.at l)) inner.from inner.to (olds put)
    inner.forward in
    let taken = take_few (drop s.at l) s.count in
    let number = t.count in
    let many = olds_length put in
    omega (arith, made_of, same, few, taken, number, many)

-- ---- the touched ones without the transitions that go

take_next : {A : Type 0} (l : List A) (n i m : ℕ) (x : A) → slice_get l i ≡ Some x → n ≡ suc m
    → take n (drop i l) ≡ x ∷ take m (drop (i + 1) l)
take_next l n i m x e f =
    ap₂ (λ k q. take k q) f (next l i x e)

none_taken : {A : Type 0} (l : List A) (n : ℕ) → n ≡ 0 → take n l ≡ []
none_taken l n e = ap (λ k. take k l) e

-- so many children are together not too long
pub kept_long : (l : List (ItemOf Listed)) (at number : ℕ) → AreCuttable l → number ≤ 2 ^ 32
    → added (take number (drop at l)) ≤ℤ pos 100000000000000000000000000000000000000
kept_long l at number h few =
    let s = short_together (take number (drop at l))
    (short_all _ (take_faultless (drop at l) number (drop_faultless l at h))) in
    let n = take_few (drop at l) number in omega (arith, ints, s, n, few)

-- what is kept of so many children from a first on, and what is left
pub record IsKept (l : List (ItemOf Listed)) (at number : ℕ) (a b : ℤ)
    (kept : List (ItemOf Listed)) (start : ℤ) (i : ℕ) : Type 0 where
  pub later : at ≤ i
  pub is : Stripped (take number (drop at l)) a b kept (take ((at + number) - i) (drop i l)) start

pub kept_first : (l : List (ItemOf Listed)) (at number : ℕ) (a b : ℤ)
    → IsKept l at number a b [] (pos 0) at
kept_first l at number a b =
    let e : (at + number) - at ≡ number = omega arith in
    record {
      later = omega arith;
      is = strip_first (take number (drop at l)) (take ((at + number) - at) (drop at l)) a b
          (ap (λ n. take n (drop at l)) e);
    }

pub kept_more : (l kept new : List (ItemOf Listed)) (at number i : ℕ) (a b start now : ℤ)
    (x : ItemOf Listed) (r : Bool) → IsKept l at number a b kept start i → i < at + number
    → slice_get l i ≡ Some x → r ≡ is_stripped (a -ℤ start) (b -ℤ start) (overlap_of x)
    → r ≡ false → new ≡ kept ++ x ∷ [] → now ≡ start +ℤ ticks x
    → IsKept l at number a b new now (i + 1)
kept_more l kept new at number i a b start now x r k h got e f g z = record {
  later = omega (arith, k.later);
  is = keep_as (take number (drop at l)) _ _ kept new a b start now x r k.is
      (take_next l ((at + number) - i) i ((at + number) - (i + 1)) x got (omega (arith, h))) e f g z;
}

pub kept_less : (l kept new : List (ItemOf Listed)) (at number i : ℕ) (a b start now : ℤ)
    (x : ItemOf Listed) (r : Bool) → IsKept l at number a b kept start i → i < at + number
    → slice_get l i ≡ Some x → r ≡ is_stripped (a -ℤ start) (b -ℤ start) (overlap_of x)
    → r ≡ true → new ≡ kept → now ≡ start → IsKept l at number a b new now (i + 1)
kept_less l kept new at number i a b start now x r k h got e f g z = record {
  later = omega (arith, k.later);
  is = drop_as (take number (drop at l)) _ _ kept new a b start now x r k.is
      (take_next l ((at + number) - i) i ((at + number) - (i + 1)) x got (omega (arith, h))) e f g z;
}

-- where the next child ends
pub kept_near : (l kept : List (ItemOf Listed)) (at number i : ℕ) (a b start m : ℤ)
    (x : ItemOf Listed) → IsKept l at number a b kept start i → i < at + number
    → slice_get l i ≡ Some x → added (take number (drop at l)) ≤ℤ m → (start +ℤ ticks x) ≤ℤ m
kept_near l kept at number i a b start m x k h got e =
    near_end (take number (drop at l)) kept _ _ a b start m x k.is
    (take_next l ((at + number) - i) i ((at + number) - (i + 1)) x got (omega (arith, h))) e

-- it is below the bound of lists that are stripped
pub kept_below : (l : Listed) (kept : List (ItemOf Listed)) (at number i : ℕ) (a b start : ℤ)
    (x : ItemOf Listed) → count l < 2 ^ 32 → AreCuttable (items_of l)
    → at + number ≤ length (items_of l) → IsKept (items_of l) at number a b kept start i
    → i < at + number → slice_get (items_of l) i ≡ Some x
    → (start +ℤ ticks x) ≤ℤ pos 100000000000000000000000000000000000000
kept_below l kept at number i a b start x few h there k below got =
    let fewer = few_enough l few in
    kept_near (items_of l) kept at number i a b start _ x k below got
    (kept_long (items_of l) at number h (omega (arith, fewer, there)))

pub kept_end : (l kept : List (ItemOf Listed)) (at number i : ℕ) (a b c d start : ℤ)
    → IsKept l at number a b kept start i → at + number ≤ i → a ≡ c → b ≡ d
    → kept ≡ strip (take number (drop at l)) c d
kept_end l kept at number i a b c d start k h e f =
    let s = k.is in
    sym (s.is ∙ ap (λ q. kept ++ strip q (a -ℤ start) (b -ℤ start))
    (none_taken (drop i l) ((at + number) - i) (omega (arith, h))) ∙ none_more kept)
    ∙ ap₂ (strip (take number (drop at l))) e f
