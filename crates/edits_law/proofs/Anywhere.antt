-- Items after a list at a place was changed, and how many there are.
use Rattle.std.proofs.Common.{◌≡◌, refl, sym, subst, ap, ◌∙◌, ◌⊎◌, inl, inr, ℕ, zero, suc, ◌+◌, List, [], ◌∷◌, Option, Some, None, arith}
use Rattle.std.specs.Prelude.{slice_get, option_and_then, option_map}
use Rattle.otio_model.specs.declared.compositions.ItemOf.{ItemOf}
use Rattle.otio_model.specs.declared.compositions.ItemOf.TheVariants.{Clip, Gap, Transition, Stack, Track}
use Rattle.otio_model.specs.declared.compositions.Listed.{Listed}
use Rattle.otio_model.specs.declared.compositions.Listed.TheViews.{roll-out-Listed}
use Rattle.otio_model.specs.Trees.{items_of, children_of, below, item_at}
use Rattle.otio_model.specs.Edits.{deeper, changed, list_at, with_at}
use Rattle.otio_model.specs.Counts.{count, counts_by, count_of}
use Rattle.otio_model.specs.Falls.{count-listed}
use Rattle.otio_model.proofs.Views.{items-listed}
use Rattle.edits.specs.Everywhere.{Everywhere, OnTheWay}

-- a member of a list with one member changed
record Changed (f : ItemOf Listed → ItemOf Listed) (i j : ℕ) (xs : List (ItemOf Listed)) (x : ItemOf Listed) : Type 0 where
  was : ItemOf Listed
  there : slice_get xs i ≡ Some was
  here : j ≡ i
  now : f was ≡ x

some_is : (x y : ItemOf Listed) → Some x ≡ Some y → x ≡ y
some_is x y e = cc e

got_changed : (f : ItemOf Listed → ItemOf Listed) (i j : ℕ) (xs : List (ItemOf Listed)) (x : ItemOf Listed) → slice_get (changed f i xs) j ≡ Some x → (slice_get xs j ≡ Some x) ⊎ Changed f i j xs x
got_changed f i j [] x e = inl e
got_changed f zero zero (y ∷ xs) x e = inr (record { was = y; there = refl; here = refl; now = some_is (f y) x e })
got_changed f zero (suc j) (y ∷ xs) x e = inl e
got_changed f (suc i) zero (y ∷ xs) x e = inl e
got_changed f (suc i) (suc j) (y ∷ xs) x e = elim (got_changed f i j xs x e) [
  | inl g ↦ inl g
  | inr g ↦ inr (record { was = g.was; there = g.there; here = ap suc g.here; now = g.now })
]

children_deeper : (f : Listed → Listed) (x : ItemOf Listed) → children_of (deeper f x) ≡ option_map f (children_of x)
children_deeper f (Clip c) = refl
children_deeper f (Gap g) = refl
children_deeper f (Transition t) = refl
children_deeper f (Stack s) = refl
children_deeper f (Track t) = refl

-- what stands below an item stands among its children
record Inner (k : ℕ) (q : List ℕ) (o : Option Listed) (x : ItemOf Listed) : Type 0 where
  children : Listed
  are : o ≡ Some children
  at : item_at (k ∷ q) children ≡ Some x

inner : (k : ℕ) (q : List ℕ) (o : Option Listed) (x : ItemOf Listed) → option_and_then (item_at (k ∷ q)) o ≡ Some x → Inner k q o x
inner k q None x e = absurd (cc e)
inner k q (Some c) x e = record { children = c; are = refl; at = e }

record Mapped (f : Listed → Listed) (o : Option Listed) (c : Listed) : Type 0 where
  was : Listed
  is : o ≡ Some was
  now : f was ≡ c

mapped : (f : Listed → Listed) (o : Option Listed) (c : Listed) → option_map f o ≡ Some c → Mapped f o c
mapped f None c e = absurd (cc e)
mapped f (Some b) c e = record { was = b; is = refl; now = cc e }

-- what a place leads to from an item
at_item : (i : ℕ) (l : Listed) (y : ItemOf Listed) (q : List ℕ) (o : Option (ItemOf Listed)) → slice_get (items_of l) i ≡ Some y → below q y ≡ o → item_at (i ∷ q) l ≡ o
at_item i l y q o e f = ap (option_and_then (below q)) e ∙ f

below_inner : (k : ℕ) (q : List ℕ) (y : ItemOf Listed) (c : Listed) (o : Option (ItemOf Listed)) → children_of y ≡ Some c → item_at (k ∷ q) c ≡ o → below (k ∷ q) y ≡ o
below_inner k q y c o e f = ap (option_and_then (item_at (k ∷ q))) e ∙ f

record Begins (i : ℕ) (q : List ℕ) (l : Listed) (x : ItemOf Listed) : Type 0 where
  item : ItemOf Listed
  there : slice_get (items_of l) i ≡ Some item
  leads : below q item ≡ Some x

begins : (i : ℕ) (q : List ℕ) (l : Listed) (x : ItemOf Listed) → item_at (i ∷ q) l ≡ Some x → Begins i q l x
begins i q l x e = by (slice_get (items_of l) i) refl e
  where
    by : (o : Option (ItemOf Listed)) → slice_get (items_of l) i ≡ o → option_and_then (below q) o ≡ Some x → Begins i q l x
    by None f g = absurd (cc g)
    by (Some y) f g = record { item = y; there = f; leads = g }

-- one level of the way
step : (P : ItemOf Listed → Type 0) (i : ℕ) (place : List ℕ) (m l : Listed)
    → ((b : Listed) → Everywhere P b → OnTheWay P place (with_at place m b) → Everywhere P (with_at place m b))
    → Everywhere P l → OnTheWay P (i ∷ place) (with_at (i ∷ place) m l) → Everywhere P (with_at (i ∷ place) m l)
step P i place m l deep old way [] x e = absurd (cc e)
step P i place m l deep old way (j ∷ q) x e =
    let b = begins j q (with_at (i ∷ place) m l) x e in
    elim (got_changed (deeper (with_at place m)) i j (items_of l) b.item (ap (λ xs. slice_get xs j) (sym (items-listed (changed (deeper (with_at place m)) i (items_of l)))) ∙ b.there)) [
      | inl g ↦ old (j ∷ q) x (at_item j l b.item q (Some x) g b.leads)
      | inr g ↦ changed_one q b g e
    ]
  where
    changed_one : (r : List ℕ) (b : Begins j r (with_at (i ∷ place) m l) x) → Changed (deeper (with_at place m)) i j (items_of l) b.item → item_at (j ∷ r) (with_at (i ∷ place) m l) ≡ Some x → P x
    changed_one [] b g k = way (i ∷ []) place x refl (subst (λ n. item_at (n ∷ []) (with_at (i ∷ place) m l) ≡ Some x) g.here k)
    changed_one (k ∷ r) b g h =
        let c = inner k r (children_of b.item) x b.leads in
        let d = mapped (with_at place m) (children_of g.was) c.children (sym (children_deeper (with_at place m) g.was) ∙ ap children_of g.now ∙ c.are) in
        let there : slice_get (items_of (with_at (i ∷ place) m l)) i ≡ Some b.item = subst (λ n. slice_get (items_of (with_at (i ∷ place) m l)) n ≡ Some b.item) g.here b.there in
        deep d.was (kept d.was g.was g.there d.is) (on_way d.was b.item c.children there c.are d.now) (k ∷ r) x (subst (λ z. item_at (k ∷ r) z ≡ Some x) (sym d.now) c.at)
      where
        kept : (w : Listed) (y : ItemOf Listed) → slice_get (items_of l) i ≡ Some y → children_of y ≡ Some w → Everywhere P w
        kept w y f a [] z n = absurd (cc n)
        kept w y f a (k2 ∷ r2) z n = old (i ∷ k2 ∷ r2) z (at_item i l y (k2 ∷ r2) (Some z) f (below_inner k2 r2 y w (Some z) a n))

        on_way : (w : Listed) (y : ItemOf Listed) (c : Listed) → slice_get (items_of (with_at (i ∷ place) m l)) i ≡ Some y → children_of y ≡ Some c → with_at place m w ≡ c → OnTheWay P place (with_at place m w)
        on_way w y c f a n [] back z o u = absurd (cc u)
        on_way w y c f a n (k2 ∷ r2) back z o u = way (i ∷ k2 ∷ r2) back z (ap (λ q2. i ∷ q2) o)
            (at_item i (with_at (i ∷ place) m l) y (k2 ∷ r2) (Some z) f (below_inner k2 r2 y c (Some z) a (subst (λ v. item_at (k2 ∷ r2) v ≡ Some z) n u)))

-- what holds of the old items, of the new list's and of those on the way holds of all
pub everywhere : (P : ItemOf Listed → Type 0) (place : List ℕ) (m l : Listed) → Everywhere P l → Everywhere P m → OnTheWay P place (with_at place m l) → Everywhere P (with_at place m l)
everywhere P [] m l old new way = new
everywhere P (i ∷ place) m l old new way = step P i place m l (λ b o w. everywhere P place m b o new w) old way

-- ---- how many there are

counts_changed : (f : ItemOf Listed → ItemOf Listed) (i k n : ℕ) (xs : List (ItemOf Listed)) (x : ItemOf Listed) → slice_get xs i ≡ Some x → count_of (f x) + k ≡ count_of x + n → counts_by count (changed f i xs) + k ≡ counts_by count xs + n
counts_changed f zero k n [] x e h = absurd (cc e)
counts_changed f (suc i) k n [] x e h = absurd (cc e)
counts_changed f zero k n (y ∷ xs) x e h = let same : y ≡ x = some_is y x e in let g : count_of (f y) + k ≡ count_of y + n = subst (λ z. count_of (f z) + k ≡ count_of z + n) (sym same) h in omega (arith, g)
counts_changed f (suc i) k n (y ∷ xs) x e h = omega (arith, counts_changed f i k n xs x e h)

count_deeper : (f : Listed → Listed) (x : ItemOf Listed) (c : Listed) (k n : ℕ) → children_of x ≡ Some c → count (f c) + k ≡ count c + n → count_of (deeper f x) + k ≡ count_of x + n
count_deeper f (Clip a) c k n e h = absurd (cc e)
count_deeper f (Gap a) c k n e h = absurd (cc e)
count_deeper f (Transition a) c k n e h = absurd (cc e)
count_deeper f (Stack s) c k n e h = let same : s.children ≡ c = cc e in let g : count (f s.children) + k ≡ count s.children + n = subst (λ z. count (f z) + k ≡ count z + n) (sym same) h in omega (arith, g)
count_deeper f (Track s) c k n e h = let same : s.children ≡ c = cc e in let g : count (f s.children) + k ≡ count s.children + n = subst (λ z. count (f z) + k ≡ count z + n) (sym same) h in omega (arith, g)

count_items : (l : Listed) → counts_by count (items_of l) ≡ count l
count_items l = sym (count-listed (items_of l)) ∙ ap count (roll-out-Listed l)

-- as many more as the new list has more than the old one
pub count_at : (place : List ℕ) (m l c : Listed) → list_at place l ≡ Some c → count (with_at place m l) + count c ≡ count l + count m
count_at [] m l c e = let same : l ≡ c = cc e in let g = ap count same in omega (arith, g)
count_at (i ∷ place) m l c e = by (slice_get (items_of l) i) refl e (λ b f. count_at place m b c f)
  where
    deep : (x : ItemOf Listed) (o : Option Listed) → slice_get (items_of l) i ≡ Some x → children_of x ≡ o → option_and_then (list_at place) o ≡ Some c → ((b : Listed) → list_at place b ≡ Some c → count (with_at place m b) + count c ≡ count b + count m)
        → count (with_at (i ∷ place) m l) + count c ≡ count l + count m
    deep x None f g h k = absurd (cc h)
    deep x (Some b) f g h k =
        let a = count_deeper (with_at place m) x b (count c) (count m) g (k b h) in
        let d = counts_changed (deeper (with_at place m)) i (count c) (count m) (items_of l) x f a in
        let n = count-listed (changed (deeper (with_at place m)) i (items_of l)) in
        let o = count_items l in
        omega (arith, d, n, o)

    by : (o : Option (ItemOf Listed)) → slice_get (items_of l) i ≡ o → option_and_then (λ x. option_and_then (list_at place) (children_of x)) o ≡ Some c → ((b : Listed) → list_at place b ≡ Some c → count (with_at place m b) + count c ≡ count b + count m)
        → count (with_at (i ∷ place) m l) + count c ≡ count l + count m
    by None f g k = absurd (cc g)
    by (Some x) f g k = deep x (children_of x) f refl g k
