-- What stands next to an item once the transitions of a zone round it are gone.
use Rattle.std.proofs.Common.{◌≡◌, refl, sym, ap, ap₂, ◌∙◌, ℤ, pos, ◌-ℤ◌, ◌≤ℤ◌, ◌&&◌, ◌||◌, Bool, true, false, Option, Some, None, List, [], ◌∷◌, ◌++◌, arith}
use Rattle.std.specs.Prelude.{int_lt, int_le}
use Rattle.std.specs.Option.{option_or}
use Rattle.std.proofs.lemmas.Int.{ints}
use Rattle.limits.proofs.ListLemmas.{option_or-none as or_none}
use Rattle.otio_model.specs.declared.compositions.ItemOf.{ItemOf}
use Rattle.otio_model.specs.declared.compositions.Listed.{Listed}
use Rattle.coord.specs.Looks.{Overlap, total}
use Rattle.otio_model.specs.Trees.{is_transition}
use Rattle.coord.specs.Sights.{View, looks, overlap_of}
use Rattle.edits.specs.Splices.{is_stripped}
use Rattle.edits.specs.Children.{Child, Old, ticks}
use Rattle.edits.specs.Cuts.{strip, olds}
use Rattle.edits.specs.Edges.{added, first_item, last_item, first_changed, last_changed}
use Rattle.edits_law.proofs.Splice.{cases}
use Rattle.edits_law.proofs.Sorts.{point, thing, sort, strip_thing}

-- a transition whose cut lies in the zone is stripped
stripped_at : (a b : ℤ) (o : Overlap) → a ≤ℤ pos 0 → pos 0 ≤ℤ b → is_stripped a b (Some o) ≡ true
stripped_at a b o h k = let e : int_le a (pos 0) ≡ true = grind (arith, ints) in let f : int_le (pos 0) b ≡ true = grind (arith, ints) in rw (e, f) (always (int_lt (pos 0 -ℤ o.before) b && int_lt a o.after))
  where
    always : (t : Bool) → (t || true) ≡ true
    always true = refl
    always false = refl

strip_gone : (x : ItemOf Listed) (o : Overlap) (l : List (ItemOf Listed)) (a b : ℤ) → overlap_of x ≡ Some o → a ≤ℤ pos 0 → pos 0 ≤ℤ b → strip (x ∷ l) a b ≡ strip l a b
strip_gone x o l a b e h k = let f : is_stripped a b (overlap_of x) ≡ true = rw e (stripped_at a b o h k) in rw f

-- what is stripped takes no time
pub total_strip : (v : View) (l : List (ItemOf Listed)) (a b : ℤ) → total (looks v (strip l a b)) ≡ added l
total_strip v [] a b = refl
total_strip v (x ∷ l) a b = elim (sort x) [
  | point o t e z ↦ cases (is_stripped a b (overlap_of x))
      (λ s. let f = total_strip v l a b in rw s (omega (arith, ints)))
      (λ s. let f = total_strip v l (a -ℤ ticks x) (b -ℤ ticks x) in rw s (omega (arith, ints)))
  | thing t e ↦ let f = total_strip v l (a -ℤ ticks x) (b -ℤ ticks x) in rw (strip_thing x l a b e) (omega (arith, ints))
]

-- strips of lists in parts
pub strip_append : (l r : List (ItemOf Listed)) (a b : ℤ) → strip (l ++ r) a b ≡ strip l a b ++ strip r (a -ℤ added l) (b -ℤ added l)
strip_append [] r a b = ap₂ (strip r) (omega (arith, ints)) (omega (arith, ints))
strip_append (x ∷ l) r a b = elim (sort x) [
  | point o t e z ↦ cases (is_stripped a b (overlap_of x))
      (λ s. rw s (strip_append l r a b ∙ ap₂ (λ c d. strip l a b ++ strip r c d) (omega (arith, ints)) (omega (arith, ints))))
      (λ s. rw s (ap (λ m. x ∷ m) (strip_append l r (a -ℤ ticks x) (b -ℤ ticks x) ∙ ap₂ (λ c d. strip l (a -ℤ ticks x) (b -ℤ ticks x) ++ strip r c d) (omega (arith, ints)) (omega (arith, ints)))))
  | thing t e ↦ rw (strip_thing x (l ++ r) a b e, strip_thing x l a b e)
      (ap (λ m. x ∷ m) (strip_append l r (a -ℤ ticks x) (b -ℤ ticks x) ∙ ap₂ (λ c d. strip l (a -ℤ ticks x) (b -ℤ ticks x) ++ strip r c d) (omega (arith, ints)) (omega (arith, ints))))
]

-- ---- before the item

-- how a list ends that ends in the zone: with its last item, or it is empty
pub data Ending (l : List (ItemOf Listed)) (o : Option (ItemOf Listed)) : Type 0 where
  bare : o ≡ None → l ≡ [] → Ending l o
  last : (m : List (ItemOf Listed)) (y : ItemOf Listed) → o ≡ Some y → overlap_of y ≡ None → is_transition y ≡ false → l ≡ m ++ (y ∷ []) → Ending l o

-- without an item a list takes no time
no_time : (l : List (ItemOf Listed)) → last_item l ≡ None → added l ≡ pos 0
no_time [] e = refl
no_time (x ∷ l) e = elim (sort x) [
  | point o t f z ↦ let k = no_time l (rest (last_item l) (rw t at e)) in omega (arith, ints)
  | thing t f ↦ absurd (some_or (last_item l) x (rw t at e))
]
  where
    rest : (o : Option (ItemOf Listed)) → option_or o None ≡ None → o ≡ None
    rest None f = refl
    rest (Some y) f = absurd (cc f)

    some_or : (o : Option (ItemOf Listed)) (y : ItemOf Listed) → option_or o (Some y) ≡ None → ⊥
    some_or None y f = cc f
    some_or (Some z) y f = cc f

over : (x : ItemOf Listed) (l m : List (ItemOf Listed)) (o q : Option (ItemOf Listed)) → Ending l o → m ≡ l → q ≡ o → Ending m q
over x l m o q (bare e f) h k = bare (k ∙ e) (h ∙ f)
over x l m o q (last n y e i t f) h k = last n y (k ∙ e) i t (h ∙ f)

pub ending : (l : List (ItemOf Listed)) (a b : ℤ) → a ≤ℤ added l → added l ≤ℤ b → Ending (strip l a b) (last_item l)
ending [] a b h k = bare refl refl
ending (x ∷ l) a b h k = elim (sort x) [
  | point o t e z ↦ point_case o t e z (ending l a b (omega (arith, ints)) (omega (arith, ints))) (ending l (a -ℤ ticks x) (b -ℤ ticks x) (omega (arith, ints)) (omega (arith, ints)))
  | thing t e ↦ thing_case t e (ending l (a -ℤ ticks x) (b -ℤ ticks x) (omega (arith, ints)) (omega (arith, ints)))
]
  where
    same_last : is_transition x ≡ true → last_item (x ∷ l) ≡ last_item l
    same_last t = rw t (or_none (last_item l))

    point_case : (o : Overlap) → is_transition x ≡ true → overlap_of x ≡ Some o → ticks x ≡ pos 0 → Ending (strip l a b) (last_item l) → Ending (strip l (a -ℤ ticks x) (b -ℤ ticks x)) (last_item l) → Ending (strip (x ∷ l) a b) (last_item (x ∷ l))
    point_case o t e z (bare f g) m = let n = no_time l f in bare (same_last t ∙ f) (strip_gone x o l a b e (omega (arith, ints)) (omega (arith, ints)) ∙ g)
    point_case o t e z (last m y f i u g) (bare f2 g2) = absurd (cc (sym f ∙ f2))
    point_case o t e z (last m y f i u g) (last m2 y2 f2 i2 u2 g2) = cases (is_stripped a b (overlap_of x))
        (λ s. let k : strip (x ∷ l) a b ≡ strip l a b = rw s refl in last m y (same_last t ∙ f) i u (k ∙ g))
        (λ s. let k : strip (x ∷ l) a b ≡ x ∷ strip l (a -ℤ ticks x) (b -ℤ ticks x) = rw s refl in last (x ∷ m2) y2 (same_last t ∙ f2) i2 u2 (k ∙ ap (λ r. x ∷ r) g2))

    thing_case : is_transition x ≡ false → overlap_of x ≡ None → Ending (strip l (a -ℤ ticks x) (b -ℤ ticks x)) (last_item l) → Ending (strip (x ∷ l) a b) (last_item (x ∷ l))
    thing_case t e (bare f g) = last [] x (rw (f, t)) e t (strip_thing x l a b e ∙ ap (λ r. x ∷ r) g)
    thing_case t e (last m y f i u g) = last (x ∷ m) y (rw f) i u (strip_thing x l a b e ∙ ap (λ r. x ∷ r) g)

last_of : (m : List (ItemOf Listed)) (y : ItemOf Listed) → is_transition y ≡ false → last_item (m ++ (y ∷ [])) ≡ Some y
last_of [] y t = rw t
last_of (x ∷ m) y t = rw (last_of m y t)

-- what comes in the place of the last
pub last_put : (f : ItemOf Listed → List Child) (m : List (ItemOf Listed)) (y : ItemOf Listed) → is_transition y ≡ false → last_changed f (m ++ (y ∷ [])) ≡ olds m ++ (f y ++ [])
last_put f [] y t = rw t
last_put f (x ∷ m) y t = rw (last_of m y t) (ap (λ r. Old x ∷ r) (last_put f m y t))

-- ---- after the item

pub data Opening (l : List (ItemOf Listed)) (o : Option (ItemOf Listed)) : Type 0 where
  nothing : o ≡ None → l ≡ [] → Opening l o
  first : (z : ItemOf Listed) (m : List (ItemOf Listed)) → o ≡ Some z → overlap_of z ≡ None → is_transition z ≡ false → l ≡ z ∷ m → Opening l o

pub opening : (l : List (ItemOf Listed)) (a b : ℤ) → a ≤ℤ pos 0 → pos 0 ≤ℤ b → Opening (strip l a b) (first_item l)
opening [] a b h k = nothing refl refl
opening (x ∷ l) a b h k = elim (sort x) [
  | point o t e z ↦ again t (strip_gone x o l a b e h k) (opening l a b h k)
  | thing t e ↦ first x (strip l (a -ℤ ticks x) (b -ℤ ticks x)) (rw t) e t (strip_thing x l a b e)
]
  where
    same_first : is_transition x ≡ true → first_item (x ∷ l) ≡ first_item l
    same_first t = rw t

    again : is_transition x ≡ true → strip (x ∷ l) a b ≡ strip l a b → Opening (strip l a b) (first_item l) → Opening (strip (x ∷ l) a b) (first_item (x ∷ l))
    again t s (nothing f g) = nothing (same_first t ∙ f) (s ∙ g)
    again t s (first z m f i u g) = first z m (same_first t ∙ f) i u (s ∙ g)

pub first_put : (f : ItemOf Listed → List Child) (z : ItemOf Listed) (m : List (ItemOf Listed)) → is_transition z ≡ false → first_changed f (z ∷ m) ≡ f z ++ olds m
first_put f z m t = rw t
