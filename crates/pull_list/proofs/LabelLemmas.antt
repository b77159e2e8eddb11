-- Groups by their labels, in a map.
use Rattle.std.proofs.Common.{◌≡◌, refl, sym, ap, subst, ◌∙◌, ℕ, zero, suc, ◌+◌, ◌-◌, take, length-append, ◌<◌, ℤ, ◌⊎◌, inl, inr, Bool, true, false, cond, List, [], ◌∷◌, ◌++◌, length, map, Option, Some, None, MatchOption, slice_get, arith}
use Rattle.std.specs.BTreeMap.{BTreeMap, UpdatesBy, get_by, is_at}
use Rattle.std.specs.Map.{lookup}
use Rattle.std.specs.Cmp.Lexicographic.{slice_cmp}
use Rattle.std.specs.Ordering.{int_cmp, is_eq, nat_cmp, ordering_then}
use Rattle.std.specs.declared.cmp.Ordering.{Ordering}
use Rattle.std.specs.declared.cmp.Ordering.TheVariants.{Less, Equal, Greater}
use Rattle.std.specs.Str.{bytes_eq}
use Rattle.std.proofs.lemmas.Cmp.{int_ranked, ranked, tied_itself, int_cmp_total, nat_cmp_total, nat_list_cmp_total}
use Rattle.std.proofs.lemmas.Map.Text.{is_eq-slice_cmp}
use Rattle.std.proofs.lemmas.Slice.Eq.{bytes_eq-Decides}
use Rattle.std.proofs.lemmas.List.{length-map}
use Rattle.std.proofs.lemmas.Option.{same_Some}
use Rattle.coord.specs.Looks.{Key, Url, Sequence, Generator, Reel, Name}
use Rattle.pull_list.specs.Labels.{AreNumbered, HasNumber, IsLabel, IsNumber, Label, label_cmp, second_of, sort_of, text_of, third_of}
use Rattle.pull_list.specs.Used.{ClipGroup}

-- ---- a group by its label

key_by : ℕ → List ℕ → List ℕ → List ℕ → Key
key_by zero a b c = Url a
key_by (suc zero) a b c = Sequence a b c
key_by (suc (suc zero)) a b c = Generator a
key_by (suc (suc (suc zero))) a b c = Reel a
key_by (suc (suc (suc (suc n)))) a b c = Name a

key_back : (k : Key) → key_by (sort_of k) (text_of k) (second_of k) (third_of k) ≡ k
unfolding key_by
key_back (Url a) = refl
key_back (Sequence a b c) = refl
key_back (Generator a) = refl
key_back (Reel a) = refl
key_back (Name a) = refl

group_by : Key → ℤ → ℤ → ClipGroup
group_by k n d = record { key = k; rate = record { num = n; den = d } }

-- groups of one label are the same
pub same_group : (g h : ClipGroup) → sort_of g.key ≡ sort_of h.key → text_of g.key ≡ text_of h.key
    → second_of g.key ≡ second_of h.key → third_of g.key ≡ third_of h.key
    → g.rate.num ≡ h.rate.num → g.rate.den ≡ h.rate.den → g ≡ h
unfolding group_by
same_group g h a b c d n m =
    let key : g.key ≡ h.key = sym (key_back g.key)
    ∙ ap (λ x. key_by x (text_of g.key) (second_of g.key) (third_of g.key)) a
    ∙ ap (λ x. key_by (sort_of h.key) x (second_of g.key) (third_of g.key)) b
    ∙ ap (λ x. key_by (sort_of h.key) (text_of h.key) x (third_of g.key)) c
    ∙ ap (key_by (sort_of h.key) (text_of h.key) (second_of h.key)) d ∙ key_back h.key in
    ap (λ k. group_by k g.rate.num g.rate.den) key ∙ ap (λ x. group_by h.key x g.rate.den) n
    ∙ ap (group_by h.key h.rate.num) m

-- ---- orders

-- the order of labels
abbrev pub label_order : Label → Label → Ordering
label_order a b = ordering_then (ordering_then (ordering_then (ordering_then (ordering_then
    (nat_cmp a.0 b.0) (slice_cmp nat_cmp a.1.now b.1.now))
    (slice_cmp nat_cmp a.2.now b.2.now)) (slice_cmp nat_cmp a.3.now b.3.now))
    (int_cmp a.4 b.4)) (int_cmp a.5 b.5)

then_equal : (x y : Ordering) → is_eq (ordering_then x y) ≡ true → (is_eq x ≡ true) × (is_eq y ≡ true)
then_equal Less y h = absurd (cc h)
then_equal Equal y h = (refl, h)
then_equal Greater y h = absurd (cc h)

nat_equal : (a b : ℕ) → is_eq (nat_cmp a b) ≡ true → a ≡ b
nat_equal a b h = by (nat_cmp a b) refl h
  where
    by : (o : Ordering) → o ≡ nat_cmp a b → is_eq o ≡ true → a ≡ b
    by Less e h = absurd (cc h)
    by Equal e h = ranked a b Equal e
    by Greater e h = absurd (cc h)

int_equal : (a b : ℤ) → is_eq (int_cmp a b) ≡ true → a ≡ b
int_equal a b h = by (int_cmp a b) refl h
  where
    by : (o : Ordering) → o ≡ int_cmp a b → is_eq o ≡ true → a ≡ b
    by Less e h = absurd (cc h)
    by Equal e h = int_ranked a b Equal e
    by Greater e h = absurd (cc h)

text_equal : (a b : List ℕ) → is_eq (slice_cmp nat_cmp a b) ≡ true → a ≡ b
text_equal a b h = (bytes_eq-Decides a b).0 (sym (is_eq-slice_cmp a b) ∙ h)

-- the label with the group's key and rate; the pointers are those of another label
abbrev label_as : Label → ClipGroup → Label
label_as l g = (
  sort_of g.key,
  record l.1 { now = text_of g.key },
  record l.2 { now = second_of g.key },
  record l.3 { now = third_of g.key },
  g.rate.num,
  g.rate.den,
)

equal_labels : (a b : Label) (g h : ClipGroup) → IsLabel g a → IsLabel h b
    → is_eq (label_order a b) ≡ true → g ≡ h
equal_labels a b g h p q e =
    let five = then_equal _ _ e in let four = then_equal _ _ five.0 in
    let three = then_equal _ _ four.0 in let two = then_equal _ _ three.0 in
    let one = then_equal _ _ two.0 in
    same_group g h (sym p.sort ∙ nat_equal a.0 b.0 one.0 ∙ q.sort)
    (sym p.text ∙ text_equal a.1.now b.1.now one.1 ∙ q.text)
    (sym p.second ∙ text_equal a.2.now b.2.now two.1 ∙ q.second)
    (sym p.third ∙ text_equal a.3.now b.3.now three.1 ∙ q.third)
    (sym p.num ∙ int_equal a.4 b.4 four.1 ∙ q.num)
    (sym p.den ∙ int_equal a.5 b.5 five.1 ∙ q.den)

is_as : (l : Label) (g : ClipGroup) → IsLabel g (label_as l g)
is_as l g = record { sort = refl; text = refl; second = refl; third = refl; num = refl; den = refl }

-- what is looked up by a label is what is looked up by its group
abbrev by_parts : ℕ → List ℕ → List ℕ → List ℕ → ℤ → ℤ → Label → Ordering
by_parts a b c d n m l = ordering_then (ordering_then (ordering_then (ordering_then (ordering_then
    (nat_cmp a l.0) (slice_cmp nat_cmp b l.1.now)) (slice_cmp nat_cmp c l.2.now))
    (slice_cmp nat_cmp d l.3.now)) (int_cmp n l.4)) (int_cmp m l.5)

pub looked_up : (numbers : BTreeMap Label ℕ) (l : Label) (g : ClipGroup) → IsLabel g l
    → get_by (label_order l) numbers ≡ get_by (label_cmp g) numbers
looked_up numbers l g is =
    ap (λ x. get_by (by_parts x l.1.now l.2.now l.3.now l.4 l.5) numbers) is.sort
    ∙ ap (λ x. get_by (by_parts (sort_of g.key) x l.2.now l.3.now l.4 l.5) numbers) is.text
    ∙ ap (λ x. get_by (by_parts (sort_of g.key) (text_of g.key) x l.3.now l.4 l.5) numbers) is.second
    ∙ ap (λ x. get_by (by_parts (sort_of g.key) (text_of g.key) (second_of g.key) x l.4 l.5) numbers) is.third
    ∙ ap (λ x. get_by (by_parts (sort_of g.key) (text_of g.key) (second_of g.key) (third_of g.key) x l.5) numbers) is.num
    ∙ ap (λ x. get_by (by_parts (sort_of g.key) (text_of g.key) (second_of g.key) (third_of g.key) g.rate.num x) numbers) is.den

-- ---- what is found

pub is_found : (numbers : BTreeMap Label ℕ) (groups : List ClipGroup) (g : ClipGroup) (n : ℕ)
    → AreNumbered numbers groups → get_by (label_cmp g) numbers ≡ Some n → IsNumber groups g n
is_found numbers groups g n are e =
    let at = subst (λ (o : Option ℕ). MatchOption o (HasNumber groups g → ⊥) (λ k. slice_get groups k ≡ Some g)) e
    (are.found g) in record {
      at = at;
      only = λ k f. are.apart g k n f at;
    }

pub not_found : (numbers : BTreeMap Label ℕ) (groups : List ClipGroup) (g : ClipGroup)
    → AreNumbered numbers groups → get_by (label_cmp g) numbers ≡ None → HasNumber groups g → ⊥
not_found numbers groups g are e =
    subst (λ (o : Option ℕ). MatchOption o (HasNumber groups g → ⊥) (λ k. slice_get groups k ≡ Some g)) e
    (are.found g)

pub is_number_at : (numbers : BTreeMap Label ℕ) (groups : List ClipGroup) (g : ClipGroup) (n : ℕ)
    → AreNumbered numbers groups → slice_get groups n ≡ Some g → IsNumber groups g n
is_number_at numbers groups g n are at = record { at = at; only = λ k f. are.apart g k n f at }

-- no groups
pub none_numbered : (numbers : BTreeMap Label ℕ) → numbers.entries ≡ [] → AreNumbered numbers []
none_numbered numbers e = record {
  found = λ g. rw e (λ h. absurd (none h.0 g h.1));
  apart = λ g j k f h. absurd (none j g f);
}
  where
    none : (k : ℕ) (g : ClipGroup) → slice_get [] k ≡ Some g → ⊥
    none zero g f = cc f
    none (suc k) g f = cc f

-- ---- two labels

-- the order of two labels of one group
pub tied_labels : (a b : Label) (g h : ClipGroup) → IsLabel g a → IsLabel h b → g ≡ h
    → label_order a b ≡ Equal
tied_labels a b g h p q same =
    let r = subst (λ x. IsLabel x b) (sym same) q in
    rw (p.sort, p.text, p.second, p.third, p.num, p.den, r.sort, r.text, r.second, r.third, r.num, r.den)
    (rw (
      tied_itself nat_cmp_total (sort_of g.key),
      tied_itself nat_list_cmp_total (text_of g.key),
      tied_itself nat_list_cmp_total (second_of g.key),
      tied_itself nat_list_cmp_total (third_of g.key),
      tied_itself int_cmp_total g.rate.num,
      tied_itself int_cmp_total g.rate.den,
    ) refl)

pub same_by_order : (a b : Label) (g h : ClipGroup) (o : Ordering) → IsLabel g a → IsLabel h b
    → o ≡ label_order a b → o ≡ Equal → g ≡ h
same_by_order a b g h o p q e f = equal_labels a b g h p q (ap is_eq (sym e ∙ f))

pub length_as : {A B : Type 0} (f : A → B) (xs : List A) (ys : List B) (n : ℕ) → map f xs ≡ ys
    → n < length ys → n < length xs
length_as f xs ys n e lt = let a = ap length e in let b = length-map xs f in omega (arith, a, b, lt)

-- ---- one group more

pub get_front : {A : Type 0} (xs ys : List A) (i : ℕ) (x : A) → slice_get xs i ≡ Some x
    → slice_get (xs ++ ys) i ≡ Some x
get_front [] ys zero x e = cc e
get_front [] ys (suc i) x e = cc e
get_front (y ∷ xs) ys zero x e = e
get_front (y ∷ xs) ys (suc i) x e = get_front xs ys i x e

get_last : {A : Type 0} (xs : List A) (x : A) → slice_get (xs ++ x ∷ []) (length xs) ≡ Some x
get_last [] x = refl
get_last (y ∷ xs) x = get_last xs x

pub get_either : {A : Type 0} (xs : List A) (y : A) (i : ℕ) (x : A) → slice_get (xs ++ y ∷ []) i ≡ Some x
    → (slice_get xs i ≡ Some x) ⊎ ((i ≡ length xs) × (y ≡ x))
get_either [] y zero x e = inr (refl, same_Some y x e)
get_either [] y (suc i) x e = absurd (nothing i x e)
  where
    nothing : {A : Type 0} (i : ℕ) (x : A) → slice_get [] i ≡ Some x → ⊥
    nothing zero x e = cc e
    nothing (suc i) x e = cc e
get_either (z ∷ xs) y zero x e = inl e
get_either (z ∷ xs) y (suc i) x e = by (get_either xs y i x e)
  where
    by : (slice_get xs i ≡ Some x) ⊎ ((i ≡ length xs) × (y ≡ x))
        → (slice_get xs i ≡ Some x) ⊎ ((suc i ≡ suc (length xs)) × (y ≡ x))
    by (inl h) = inl h
    by (inr h) = inr (ap suc h.0, h.1)

-- what is found where a group was put, and elsewhere
found_where : (old new : BTreeMap Label ℕ) (groups : List ClipGroup) (g h : ClipGroup) (o : Option ℕ)
    (t : Bool) → AreNumbered old groups → (t ≡ true → g ≡ h) → (g ≡ h → t ≡ true)
    → o ≡ cond t (Some (length groups)) (get_by (label_cmp h) old)
    → MatchOption o (HasNumber (groups ++ g ∷ []) h → ⊥)
    (λ n. slice_get (groups ++ g ∷ []) n ≡ Some h)
found_where old new groups g h o true are same back e =
    rw e (subst (λ x. slice_get (groups ++ g ∷ []) (length groups) ≡ Some x) (same refl) (get_last groups g))
found_where old new groups g h o false are same back e =
    rw e (by (get_by (label_cmp h) old) (are.found h))
  where
    other : g ≡ h → ⊥
    other f = absurd (let t = back f in cc t)

    none : (HasNumber groups h → ⊥) → HasNumber (groups ++ g ∷ []) h → ⊥
    none n k = split (get_either groups g k.0 h k.1)
      where
        split : (slice_get groups k.0 ≡ Some h) ⊎ ((k.0 ≡ length groups) × (g ≡ h)) → ⊥
        split (inl f) = n (k.0, f)
        split (inr f) = other f.1

    by : (p : Option ℕ)
        → MatchOption p (HasNumber groups h → ⊥) (λ n. slice_get groups n ≡ Some h)
        → MatchOption p (HasNumber (groups ++ g ∷ []) h → ⊥)
        (λ n. slice_get (groups ++ g ∷ []) n ≡ Some h)
    by None n = none n
    by (Some k) f = get_front groups (g ∷ []) k h f

apart_more : (groups : List ClipGroup) (g : ClipGroup) → (HasNumber groups g → ⊥)
    → ((h : ClipGroup) (j k : ℕ) → slice_get groups j ≡ Some h → slice_get groups k ≡ Some h → j ≡ k)
    → (h : ClipGroup) (j k : ℕ) → slice_get (groups ++ g ∷ []) j ≡ Some h
    → slice_get (groups ++ g ∷ []) k ≡ Some h → j ≡ k
apart_more groups g new apart h j k e f = by (get_either groups g j h e) (get_either groups g k h f)
  where
    by : (slice_get groups j ≡ Some h) ⊎ ((j ≡ length groups) × (g ≡ h))
        → (slice_get groups k ≡ Some h) ⊎ ((k ≡ length groups) × (g ≡ h)) → j ≡ k
    by (inl a) (inl b) = apart h j k a b
    by (inl a) (inr b) = absurd (new (j, subst (λ x. slice_get groups j ≡ Some x) (sym b.1) a))
    by (inr a) (inl b) = absurd (new (k, subst (λ x. slice_get groups k ≡ Some x) (sym a.1) b))
    by (inr a) (inr b) = a.0 ∙ sym b.0

pub numbered_more : (old new : BTreeMap Label ℕ) (groups : List ClipGroup) (g : ClipGroup) (l : Label) (n : ℕ)
    → IsLabel g l → AreNumbered old groups → (HasNumber groups g → ⊥) → n ≡ length groups
    → UpdatesBy label_order (label_order l) old new (Some n) → AreNumbered new (groups ++ g ∷ [])
numbered_more old new groups g l n is are fresh size put = record {
  found = λ h. found_where old new groups g h (get_by (label_cmp h) new)
      (is_eq (label_order l (label_as l h))) are
      (λ e. equal_labels l (label_as l h) g h is (is_as l h) e)
      (λ e. ap is_eq (tied_labels l (label_as l h) g h is (is_as l h) e))
      (subst (λ m. get_by (label_cmp h) new ≡ cond (is_eq (label_order l (label_as l h))) (Some m) (get_by (label_cmp h) old)) size (put.0 (label_as l h)));
  apart = apart_more groups g fresh are.apart;
}

-- ---- what the code has

map_more : {A B : Type 0} (f : A → B) (zs : List A) (x : A)
    → map f (zs ++ x ∷ []) ≡ map f zs ++ f x ∷ []
map_more f [] x = refl
map_more f (z ∷ zs) x = ap (λ l. f z ∷ l) (map_more f zs x)

take_all : {A : Type 0} (xs ys : List A) → take (length xs) (xs ++ ys) ≡ xs
take_all [] ys = refl
take_all (x ∷ xs) ys = ap (λ l. x ∷ l) (take_all xs ys)

-- what is left once the last was taken away again
pub popped : {A : Type 0} (xs ys zs : List A) (x : A) (n : ℕ) → ys ≡ xs ++ x ∷ [] → zs ≡ take (n - 1) ys
    → n ≡ length ys → zs ≡ xs
popped xs ys zs x n e f size =
    let long : length (xs ++ x ∷ []) ≡ length xs + 1 = length-append xs (x ∷ []) in
    let k : n - 1 ≡ length xs = let a = ap length e in omega (arith, a, long, size) in
    f ∙ ap (λ m. take m ys) k ∙ ap (take (length xs)) e ∙ take_all xs (x ∷ [])

pub map_last : {A B : Type 0} (f : A → B) (xs ys : List A) (x : A) → ys ≡ xs ++ x ∷ []
    → map f ys ≡ map f xs ++ f x ∷ []
map_last f xs ys x e = ap (map f) e ∙ map_more f xs x

pub get_last_of : {A B : Type 0} (f : A → B) (xs ys : List A) (x : A) (n : ℕ) → ys ≡ xs ++ x ∷ []
    → n ≡ length xs → slice_get (map f ys) n ≡ Some (f x)
get_last_of f xs ys x n e size =
    subst (λ l. slice_get l n ≡ Some (f x)) (sym (map_last f xs ys x e))
    (subst (λ k. slice_get (map f xs ++ f x ∷ []) k ≡ Some (f x)) (length-map xs f ∙ sym size)
    (get_last (map f xs) (f x)))

pub numbered_same : (old new : BTreeMap Label ℕ) (groups same : List ClipGroup) → new.entries ≡ old.entries
    → same ≡ groups → AreNumbered old groups → AreNumbered new same
numbered_same old new groups same e f are = subst (AreNumbered new) (sym f) (record {
  found = λ g. subst (λ o. MatchOption o (HasNumber groups g → ⊥) (λ n. slice_get groups n ≡ Some g))
      (ap (lookup (is_at (label_cmp g))) (sym e)) (are.found g);
  apart = are.apart;
})
