-- No two transitions stand side by side among children.
use Rattle.std.proofs.Common.{◌≡◌, refl, sym, subst, ◌∙◌, ℤ, pos, ◌-ℤ◌, ◌≤ℤ◌, ◌<ℤ◌, Bool, true}
use Rattle.std.proofs.Common.{false, ◌&&◌, ◌||◌, Option, Some, None, List, [], ◌∷◌, ◌++◌, arith}
use Rattle.std.specs.Prelude.{int_lt, int_le, is_some}
use Rattle.std.specs.Option.{option_or}
use Rattle.std.proofs.lemmas.Int.{ints, by_lt_z}
pub use Rattle.std.proofs.lemmas.Bool.{or_parts as neither}
use Rattle.otio_model.specs.declared.compositions.ItemOf.{ItemOf}
use Rattle.otio_model.specs.declared.compositions.Listed.{Listed}
use Rattle.otio_model.specs.Misplaced.{side_by_side}
use Rattle.otio_model.specs.Trees.{is_transition}
use Rattle.coord.specs.Looks.{Overlap}
use Rattle.coord.specs.Sights.{overlap_of}
use Rattle.edits.specs.Splices.{is_stripped}
use Rattle.edits.specs.Children.{Child, ticks}
use Rattle.edits.specs.Cuts.{strip, olds, front, back}
use Rattle.edits.specs.Edges.{added, first_changed, last_changed, last_item}
use Rattle.edits.specs.Good.{item_of}
use Rattle.edits_law.proofs.Splice.{cases}
use Rattle.edits_law.proofs.Pieces.{no_transition}
use Rattle.edits_law.proofs.Sorts.{point, thing, sort}
use Rattle.edits_law.proofs.Parted.{lt_yes, le_yes}

abbrev pub flag : Child → Bool
flag c = is_transition (item_of c)

-- no two transitions stand side by side, where p says that one stands before
abbrev pub Apart : Bool → List Child → Type 0
Apart p [] = Unit {0}
Apart p (c ∷ l) = (p ≡ true → flag c ≡ false) × Apart (flag c) l

-- nor does one stand at the end
abbrev pub Shut : Bool → List Child → Type 0
Shut p [] = p ≡ false
Shut p (c ∷ l) = (p ≡ true → flag c ≡ false) × Shut (flag c) l

-- no transitions at all
abbrev pub AreThings : List Child → Type 0
AreThings [] = Unit {0}
AreThings (c ∷ l) = (flag c ≡ false) × AreThings l

-- ---- what stands before

pub no_false : false ≡ true → ⊥
no_false e = cc e

pub eased : (p : Bool) (l : List Child) → Apart true l → Apart p l
eased p [] a = tt
eased p (c ∷ l) a = (λ e. a.0 refl, a.1)

pub freed : (p : Bool) (l : List Child) → Apart p l → Apart false l
freed p [] a = tt
freed p (c ∷ l) a = (λ e. absurd (no_false e), a.1)

-- ---- lists put together

pub join_item : (p : Bool) (a : List Child) (c : Child) (r : List Child) → Apart p a
    → flag c ≡ false → Apart false r → Apart p (a ++ (c ∷ r))
join_item p [] c r k e b = (λ f. e, subst (λ q. Apart q r) (sym e) b)
join_item p (x ∷ a) c r k e b = (k.0, join_item (flag x) a c r k.1 e b)

pub join_shut : (p : Bool) (a b : List Child) → Shut p a → Apart false b → Apart p (a ++ b)
join_shut p [] b s k = subst (λ q. Apart q b) (sym s) k
join_shut p (x ∷ a) b s k = (s.0, join_shut (flag x) a b s.1 k)

pub things_apart : (p : Bool) (n : List Child) → AreThings n → Apart p n
things_apart p [] i = tt
things_apart p (c ∷ n) i = (λ f. i.0, things_apart (flag c) n i.1)

pub things_first : (n r : List Child) → AreThings n → Apart false r → Apart false (n ++ r)
things_first [] r i k = k
things_first (c ∷ n) r i k =
    (λ f. i.0, subst (λ q. Apart q (n ++ r)) (sym i.0) (things_first n r i.1 k))

pub things_last : (p : Bool) (a n : List Child) → Apart p a → AreThings n → Apart p (a ++ n)
things_last p [] n k i = things_apart p n i
things_last p (x ∷ a) n k i = (k.0, things_last (flag x) a n k.1 i)

-- ---- transitions that a zone strips

pub thing_flag : (x : ItemOf Listed) → overlap_of x ≡ None → is_transition x ≡ false
thing_flag x e = elim (sort x) [ point o t f z ↦ absurd (cc (sym f ∙ e)) | thing t f ↦ t ]

flat : (x : ItemOf Listed) → is_transition x ≡ true → ticks x ≡ pos 0
flat x e = elim (sort x) [ point o t f z ↦ z | thing t f ↦ absurd (cc (sym t ∙ e)) ]

or_true : (q : Bool) → (q || true) ≡ true
or_true true = refl
or_true false = refl

-- a cut in the zone
over : (a b : ℤ) (o : Overlap) → a ≤ℤ pos 0 → pos 0 ≤ℤ b → is_stripped a b (Some o) ≡ true
over a b o h g =
    let e = le_yes a (pos 0) h in
    let f = le_yes (pos 0) b g in
    rw (e, f) (or_true (int_lt (pos 0 -ℤ o.before) b && int_lt a o.after))

not_over : (a b : ℤ) (o : Overlap) → is_stripped a b (Some o) ≡ false → a ≤ℤ pos 0 → pos 0 ≤ℤ b → ⊥
not_over a b o s h g = no_false (sym s ∙ over a b o h g)

-- where one stands before, no other follows
before_one : (p q : Bool) → (p ≡ true → q ≡ false) → q ≡ true → p ≡ false
before_one true q h t = absurd (no_false (sym (h refl) ∙ t))
before_one false q h t = refl

pub strip_apart : (p : Bool) (l : List (ItemOf Listed)) (a b : ℤ) → Apart p (olds l)
    → Apart p (olds (strip l a b))
strip_apart p [] a b k = tt
strip_apart p (x ∷ l) a b k = elim (sort x) [
  | point o t e z ↦ cases (is_stripped a b (overlap_of x))
      (λ s. rw s (eased p (olds (strip l a b))
      (strip_apart true l a b (subst (λ q. Apart q (olds l)) t k.1))))
      (λ s. rw s (k.0, strip_apart (is_transition x) l (a -ℤ ticks x) (b -ℤ ticks x) k.1))
  | thing t e ↦
      rw e (k.0, strip_apart (is_transition x) l (a -ℤ ticks x) (b -ℤ ticks x) k.1)
]

-- a zone that holds the list's end leaves no transition there
pub strip_shut : (p : Bool) (l : List (ItemOf Listed)) (a b : ℤ) → Apart p (olds l)
    → (p ≡ true → a ≤ℤ pos 0 → pos 0 ≤ℤ b → ⊥) → a ≤ℤ added l → added l ≤ℤ b
    → Shut p (olds (strip l a b))
strip_shut true [] a b k n h g = absurd (n refl h g)
strip_shut false [] a b k n h g = refl
strip_shut p (x ∷ l) a b k n h g = elim (sort x) [
  | point o t e z ↦ cases (is_stripped a b (overlap_of x))
      (λ s. rw s (subst (λ q. Shut q (olds (strip l a b)))
      (sym (before_one p (is_transition x) k.0 t))
      (strip_shut false l a b (freed (is_transition x) (olds l) k.1) (λ f. absurd (no_false f))
      (omega (arith, ints, h, z)) (omega (arith, ints, g, z)))))
      (λ s. rw s (
        k.0,
        strip_shut (is_transition x) l (a -ℤ ticks x) (b -ℤ ticks x) k.1
            (λ f i j. not_over a b o (rw e at s) (omega (arith, ints, i, z))
            (omega (arith, ints, j, z)))
            (omega (arith, ints, h)) (omega (arith, ints, g)),
      ))
  | thing t e ↦ rw e (
    k.0,
    strip_shut (is_transition x) l (a -ℤ ticks x) (b -ℤ ticks x) k.1
        (λ f. absurd (no_false (sym t ∙ f))) (omega (arith, ints, h)) (omega (arith, ints, g)),
  )
]

-- a zone that holds the list's start leaves none there
pub strip_led : (p : Bool) (l : List (ItemOf Listed)) (a b : ℤ) → Apart p (olds l)
    → a ≤ℤ pos 0 → pos 0 ≤ℤ b → Apart true (olds (strip l a b))
strip_led p [] a b k h g = tt
strip_led p (x ∷ l) a b k h g = elim (sort x) [
  | point o t e z ↦
      let s : is_stripped a b (overlap_of x) ≡ true = rw e (over a b o h g) in
      rw s (strip_led (is_transition x) l a b k.1 h g)
  | thing t e ↦
      rw e (λ f. t, strip_apart (is_transition x) l (a -ℤ ticks x) (b -ℤ ticks x) k.1)
]

-- ---- front and back

idle : (p : Bool) (t : ℤ) → (p ≡ true → pos 0 <ℤ t) → t ≤ℤ pos 0 → p ≡ false
idle true t n h = let m = n refl in absurd (omega (arith, ints, m, h))
idle false t n h = refl

pub lt_not : (a b : ℤ) → b ≤ℤ a → int_lt a b ≡ false
lt_not a b h = grind (arith, ints)

pub le_not : (a b : ℤ) → b <ℤ a → int_le a b ≡ false
le_not a b h = grind (arith, ints)

-- a front ends with an item
pub front_shut : (p : Bool) (l : List (ItemOf Listed)) (t : ℤ) → Apart p (olds l)
    → (p ≡ true → pos 0 <ℤ t) → Shut p (front l t)
front_shut p [] t k n = by_lt_z (pos 0) t
    (λ h. let e = lt_yes (pos 0) t h in rw e (λ f. refl, refl))
    (λ h. let e = lt_not (pos 0) t h in rw e (idle p t n h))
front_shut p (x ∷ l) t k n = by_lt_z (pos 0) t
    (λ h. let e = lt_yes (pos 0) t h in by_lt_z t (ticks x)
    (λ j. let f = le_not (ticks x) t j in rw (e, f) (k.0, thing_flag x (no_transition x t h j)))
    (λ j. let f = le_yes (ticks x) t j in
    rw (e, f) (
      k.0,
      front_shut (is_transition x) l (t -ℤ ticks x) k.1
          (λ u. let z = flat x u in omega (arith, ints, z, h)),
    )))
    (λ h. let e = lt_not (pos 0) t h in rw e (idle p t n h))

pub back_apart : (p : Bool) (l : List (ItemOf Listed)) (t : ℤ) → Apart p (olds l)
    → Apart false (back l t)
back_apart p [] t k = tt
back_apart p (x ∷ l) t k = by_lt_z (pos 0) t
    (λ h. let e = lt_yes (pos 0) t h in by_lt_z t (ticks x)
    (λ j. let f = le_not (ticks x) t j in rw (e, f) (λ i. absurd (no_false i), k.1))
    (λ j. let f = le_yes (ticks x) t j in
    rw (e, f) (back_apart (is_transition x) l (t -ℤ ticks x) k.1)))
    (λ h. let e = lt_not (pos 0) t h in rw e (λ i. absurd (no_false i), k.1))

-- ---- the first and the last item changed

some_either : (o q : Option (ItemOf Listed)) → is_some o ≡ true → is_some (option_or o q) ≡ true
some_either None q e = absurd (no_false e)
some_either (Some x) q e = refl

last_there : (p : Bool) (x : ItemOf Listed) (l : List (ItemOf Listed)) → Shut p (olds (x ∷ l))
    → is_some (last_item (x ∷ l)) ≡ true
last_there p x [] k = let e = k.1 in rw e refl
last_there p x (y ∷ l) k =
    some_either (last_item (y ∷ l)) _ (last_there (is_transition x) y l k.1)

none_left : (p : Bool) (l : List (ItemOf Listed)) → is_some (last_item l) ≡ false
    → Shut p (olds l) → l ≡ []
none_left p [] e k = refl
none_left p (x ∷ l) e k = absurd (no_false (sym e ∙ last_there p x l k))

-- what each item becomes holds no transition
abbrev pub GivesThings : (ItemOf Listed → List Child) → Type 0
GivesThings f = (x : ItemOf Listed) → is_transition x ≡ false → AreThings (f x)

pub last_apart : (f : ItemOf Listed → List Child) (p : Bool) (l : List (ItemOf Listed))
    → GivesThings f → Shut p (olds l) → Apart p (last_changed f l)
last_apart f p [] g k = tt
last_apart f p (x ∷ l) g k = cases (is_some (last_item l) || is_transition x)
    (λ s. rw s (k.0, last_apart f (is_transition x) l g k.1))
    (λ s. let q = neither (is_some (last_item l)) (is_transition x) s in
    rw s (subst (λ m. Apart p (f x ++ olds m)) (sym (none_left (is_transition x) l q.0 k.1))
    (things_apart p (f x ++ []) (things_end (f x) (g x q.1)))))
  where
    things_end : (n : List Child) → AreThings n → AreThings (n ++ [])
    things_end [] i = tt
    things_end (c ∷ n) i = (i.0, things_end n i.1)

pub first_apart : (f : ItemOf Listed → List Child) (l : List (ItemOf Listed)) → GivesThings f
    → Apart true (olds l) → Apart false (first_changed f l)
first_apart f [] g k = tt
first_apart f (x ∷ l) g k =
    let t : is_transition x ≡ false = k.0 refl in
    rw t (things_first (f x) (olds l) (g x t) (freed (is_transition x) (olds l) k.1))

-- ---- parts of a list

pub part_first : (p : Bool) (l m : List (ItemOf Listed)) → Apart p (olds (l ++ m))
    → Apart p (olds l)
part_first p [] m k = tt
part_first p (x ∷ l) m k = (k.0, part_first (is_transition x) l m k.1)

pub part_second : (p : Bool) (l m : List (ItemOf Listed)) → Apart p (olds (l ++ m))
    → Apart false (olds m)
part_second p [] m k = freed p (olds m) k
part_second p (x ∷ l) m k = part_second (is_transition x) l m k.1

-- ---- lists of items

pub apart_items : (l : List (ItemOf Listed)) → side_by_side l ≡ false → Apart false (olds l)
apart_items [] e = tt
apart_items (x ∷ []) e = (λ f. absurd (no_false f), tt)
apart_items (x ∷ y ∷ l) e =
    let q = neither (is_transition x && is_transition y) (side_by_side (y ∷ l)) e in
    let r = apart_items (y ∷ l) q.1 in
    (λ f. absurd (no_false f), (second (is_transition x) (is_transition y) q.0, r.1))
  where
    second : (a b : Bool) → (a && b) ≡ false → a ≡ true → b ≡ false
    second true b e f = e
    second false b e f = absurd (no_false f)

pub items_apart : (p : Bool) (l : List (ItemOf Listed)) → Apart p (olds l) → side_by_side l ≡ false
items_apart p [] k = refl
items_apart p (x ∷ []) k = refl
items_apart p (x ∷ y ∷ l) k =
    first (is_transition x) (is_transition y) _ k.1.0 (items_apart (is_transition x) (y ∷ l) k.1)
  where
    first : (a b c : Bool) → (a ≡ true → b ≡ false) → c ≡ false → ((a && b) || c) ≡ false
    first true b c h e = let f = h refl in rw (f, e) refl
    first false b c h e = e
