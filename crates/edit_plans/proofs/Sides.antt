-- Which items of a list are the sides of an overlap, hold an instant, or lie there in a stack.
use Rattle.std.proofs.Common.{◌≡◌, refl, sym, ap, ◌∙◌, ℕ, zero, suc, ◌+◌, ◌<◌, ◌==◌, ℤ, pos}
use Rattle.std.proofs.Common.{◌-ℤ◌, ◌≤ℤ◌, ◌<ℤ◌, Bool, true, false, ◌||◌, cond, List, [], ◌∷◌}
use Rattle.std.proofs.Common.{Option, Some, None, drop, take, slice_get, add-one, arith}
use Rattle.std.proofs.lemmas.Int.{ints}
use Rattle.otio_model.specs.declared.compositions.ItemOf.{ItemOf}
use Rattle.otio_model.specs.declared.compositions.ItemOf.TheVariants.{Clip, Gap, Transition, Stack}
use Rattle.otio_model.specs.declared.compositions.ItemOf.TheVariants.{Track}
use Rattle.otio_model.specs.declared.compositions.Listed.{Listed}
use Rattle.otio_model.specs.Trees.{is_transition}
use Rattle.otio_model.specs.Lengths.{length_of, or_zero}
use Rattle.otio_model.specs.Overlaps.{overlaps, within}
use Rattle.otio_model.specs.Seeks.{lens}
use Rattle.otio_model.specs.Seeks as seeks
use Rattle.coord.specs.Looks.{Look, total}
use Rattle.coord.specs.Sights.{View, sight, seen, looks}
use Rattle.coord.proofs.Members.{next}
use Rattle.coord.proofs.SightLemmas.{look_length}
use Rattle.coord.proofs.LookSteps.{is_within, missed_behind}
use Rattle.edits_law.specs.Down.{passed, is_here, is_next, is_side, is_holder, is_above}
use Rattle.edit_plans.specs.Way.{further, is_last}

abbrev pub ticks : ItemOf Listed → ℕ
ticks x = or_zero (length_of x)

-- ---- an item that is looked for

further_more : (i : ℕ) (k : Option ℕ) → further (suc i) k ≡ passed (further i k)
further_more zero k = refl
further_more (suc i) k = further_more i (passed k)

none_further : (i : ℕ) → is_here (further i None) ≡ false
none_further zero = refl
none_further (suc i) = none_further i

-- it stands so many items further on exactly where its index is this
pub here_is : (i k : ℕ) → is_here (further i (Some k)) ≡ (i == k)
here_is zero zero = grind arith
here_is zero (suc k) = grind arith
here_is (suc i) zero = none_further i ∙ grind arith
here_is (suc i) (suc k) = here_is i k ∙ grind arith

-- ---- the items next to an index

-- one item more that is looked at for the last one
pub last_more : (k : Option ℕ) (last : Bool) (xs : List (ItemOf Listed)) (i : ℕ) (x : ItemOf Listed)
    → slice_get xs i ≡ Some x → is_last k last (take (suc i) xs)
    ≡ cond (is_transition x) (is_last k last (take i xs)) (is_here (further i k))
last_more k last [] zero x e = absurd (cc e)
last_more k last [] (suc i) x e = absurd (cc e)
last_more k last (y ∷ xs) zero x e =
    let same : y ≡ x = cc e in ap (λ z. cond (is_transition z) last (is_here k)) same
last_more k last (y ∷ xs) (suc i) x e =
    last_more (passed k) (cond (is_transition y) last (is_here k)) xs i x e

next_plain : (v : View) (k : Option ℕ) (x : ItemOf Listed) (xs : List (ItemOf Listed))
    → is_next k (looks v (x ∷ xs)) ≡ cond (is_transition x) (is_next (passed k) (looks v xs)) (is_here k)
next_plain v k (Clip c) xs = refl
next_plain v k (Gap g) xs = refl
next_plain v k (Transition t) xs = refl
next_plain v k (Stack s) xs = refl
next_plain v k (Track t) xs = refl

-- one item less that is looked at for the first one
pub next_less : (v : View) (k : Option ℕ) (xs : List (ItemOf Listed)) (i : ℕ) (x : ItemOf Listed)
    → slice_get xs i ≡ Some x → is_next (further i k) (looks v (drop i xs))
    ≡ cond (is_transition x) (is_next (further (i + 1) k) (looks v (drop (i + 1) xs)))
    (is_here (further i k))
next_less v k xs i x e =
    ap (λ m. is_next (further i k) (looks v m)) (next xs i x e)
    ∙ next_plain v (further i k) x (drop (i + 1) xs)
    ∙ ap (λ f. cond (is_transition x) (is_next f (looks v (drop (i + 1) xs))) (is_here (further i k)))
    (sym (further_more i k) ∙ ap (λ n. further n k) (sym (add-one i)))

-- ---- the first overlap that holds an instant

-- whether the overlap of the item at an index does, by the list alone
abbrev pub holds_at : List (ItemOf Listed) → ℤ → ℕ → Bool
holds_at [] w j = false
holds_at (x ∷ xs) w zero = overlaps x w
holds_at (x ∷ xs) w (suc j) = holds_at xs (w -ℤ pos (ticks x)) j

abbrev pub holds_by : ℤ → Option (ItemOf Listed) → Bool
holds_by u o = elim o [ None ↦ false | Some x ↦ overlaps x u ]

pub holds_is : (xs : List (ItemOf Listed)) (w : ℤ) (j : ℕ)
    → holds_by (w -ℤ pos (seeks.total (take j (lens xs)))) (slice_get xs j) ≡ holds_at xs w j
holds_is [] w zero = refl
holds_is [] w (suc j) = refl
holds_is (x ∷ xs) w zero = ap (overlaps x) (omega (arith, ints))
holds_is (x ∷ xs) w (suc j) =
    ap (λ u. holds_by u (slice_get xs j)) (omega (arith, ints))
    ∙ holds_is xs (w -ℤ pos (ticks x)) j

-- the search goes on after an item whose overlap doesn't hold the instant
side_past : (v : View) (k : Option ℕ) (last : Bool) (x : ItemOf Listed) (xs : List (ItemOf Listed))
    (w : ℤ) → overlaps x w ≡ false → is_side k last (looks v (x ∷ xs)) w
    ≡ is_side (passed k) (cond (is_transition x) last (is_here k)) (looks v xs) (w -ℤ pos (ticks x))
side_past v k last (Clip c) xs w h =
    ap (λ n. is_side (passed k) (is_here k) (looks v xs) (w -ℤ n)) (look_length v (Clip c) _ refl)
side_past v k last (Gap g) xs w h =
    ap (λ n. is_side (passed k) (is_here k) (looks v xs) (w -ℤ n)) (look_length v (Gap g) _ refl)
side_past v k last (Transition t) xs w h =
    ap (λ b. cond b (Some (last || is_next (passed k) (looks v xs)))
    (is_side (passed k) last (looks v xs) w)) h
    ∙ ap (is_side (passed k) last (looks v xs)) (omega (arith, ints))
side_past v k last (Stack s) xs w h =
    ap (λ n. is_side (passed k) (is_here k) (looks v xs) (w -ℤ n)) (look_length v (Stack s) _ refl)
side_past v k last (Track t) xs w h =
    ap (λ n. is_side (passed k) (is_here k) (looks v xs) (w -ℤ n)) (look_length v (Track t) _ refl)

side_here : (v : View) (k : Option ℕ) (last : Bool) (x : ItemOf Listed) (xs : List (ItemOf Listed))
    (w : ℤ) → overlaps x w ≡ true
    → is_side k last (looks v (x ∷ xs)) w ≡ Some (last || is_next (passed k) (looks v xs))
side_here v k last (Clip c) xs w h = absurd (cc h)
side_here v k last (Gap g) xs w h = absurd (cc h)
side_here v k last (Transition t) xs w h =
    ap (λ b. cond b (Some (last || is_next (passed k) (looks v xs)))
    (is_side (passed k) last (looks v xs) w)) h
side_here v k last (Stack s) xs w h = absurd (cc h)
side_here v k last (Track t) xs w h = absurd (cc h)

-- the sides of the first overlap that holds the instant
pub side_found : (v : View) (k : Option ℕ) (last : Bool) (xs : List (ItemOf Listed)) (w : ℤ) (j : ℕ)
    → holds_at xs w j ≡ true → ((i : ℕ) → i < j → holds_at xs w i ≡ false)
    → is_side k last (looks v xs) w
    ≡ Some (is_last k last (take j xs) || is_next (further (suc j) k) (looks v (drop (suc j) xs)))
side_found v k last [] w j h n = absurd (cc h)
side_found v k last (x ∷ xs) w zero h n = side_here v k last x xs w h
side_found v k last (x ∷ xs) w (suc j) h n =
    side_past v k last x xs w (n zero (omega arith))
    ∙ side_found v (passed k) (cond (is_transition x) last (is_here k)) xs (w -ℤ pos (ticks x)) j h
    (λ i l. n (suc i) (omega (arith, l)))

-- no overlap holds it
pub side_none : (v : View) (k : Option ℕ) (last : Bool) (xs : List (ItemOf Listed)) (w : ℤ)
    → ((i : ℕ) → holds_at xs w i ≡ false) → is_side k last (looks v xs) w ≡ None
side_none v k last [] w n = refl
side_none v k last (x ∷ xs) w n =
    side_past v k last x xs w (n zero)
    ∙ side_none v (passed k) (cond (is_transition x) last (is_here k)) xs (w -ℤ pos (ticks x))
    (λ i. n (suc i))

-- ---- the item that holds an instant

pub holder_is : (v : View) (k : Option ℕ) (xs : List (ItemOf Listed)) (w : ℤ) (i : ℕ)
    → pos (seeks.total (take i (lens xs))) ≤ℤ w → w <ℤ pos (seeks.total (take (suc i) (lens xs)))
    → is_holder k (looks v xs) w ≡ is_here (further i k)
holder_is v k [] w zero h g = absurd (omega (arith, ints, h, g))
holder_is v k [] w (suc i) h g = absurd (omega (arith, ints, h, g))
holder_is v k (x ∷ xs) w zero h g =
    let n = look_length v x (ticks x) refl in
    ap (λ b. cond b (is_here k) (is_holder (passed k) (looks v xs) (w -ℤ (seen v (sight x)).length)))
    (is_within (pos 0) (seen v (sight x)).length w (omega (arith, ints, h)) (omega (arith, ints, g, n)))
holder_is v k (x ∷ xs) w (suc i) h g =
    let n = look_length v x (ticks x) refl in
    ap (λ b. cond b (is_here k) (is_holder (passed k) (looks v xs) (w -ℤ (seen v (sight x)).length)))
    (missed_behind (pos 0) (seen v (sight x)).length w (omega (arith, ints, h, n)))
    ∙ ap (λ m. is_holder (passed k) (looks v xs) (w -ℤ m)) n
    ∙ holder_is v (passed k) xs (w -ℤ pos (ticks x)) i (omega (arith, ints, h))
    (omega (arith, ints, g))

-- ---- how long items are

pub total_taken : (v : View) (xs : List (ItemOf Listed)) (i : ℕ)
    → total (take i (looks v xs)) ≡ pos (seeks.total (take i (lens xs)))
total_taken v [] zero = refl
total_taken v [] (suc i) = refl
total_taken v (x ∷ xs) zero = refl
total_taken v (x ∷ xs) (suc i) =
    let n = look_length v x (ticks x) refl in
    let m = total_taken v xs i in omega (arith, ints, n, m)

pub total_all : (v : View) (xs : List (ItemOf Listed))
    → total (looks v xs) ≡ pos (seeks.total (lens xs))
total_all v [] = refl
total_all v (x ∷ xs) =
    let n = look_length v x (ticks x) refl in
    let m = total_all v xs in omega (arith, ints, n, m)

pub taken_more : (xs : List (ItemOf Listed)) (i : ℕ) (x : ItemOf Listed) → slice_get xs i ≡ Some x
    → seeks.total (take (suc i) (lens xs)) ≡ seeks.total (take i (lens xs)) + ticks x
taken_more [] zero x e = absurd (cc e)
taken_more [] (suc i) x e = absurd (cc e)
taken_more (y ∷ xs) zero x e =
    let same : y ≡ x = cc e in let f = ap ticks same in omega (arith, f)
taken_more (y ∷ xs) (suc i) x e = omega (arith, taken_more xs i x e)

-- ---- an item of a stack

none_above : (l : List Look) (w : ℤ) → is_above None l w ≡ false
none_above [] w = refl
none_above (x ∷ l) w = none_above l w

or_false : (a b : Bool) → b ≡ false → (a || b) ≡ a
or_false true b e = refl
or_false false b e = e

pub above_is : (v : View) (xs : List (ItemOf Listed)) (i : ℕ) (x : ItemOf Listed) (w : ℤ)
    → slice_get xs i ≡ Some x
    → is_above (Some i) (looks v xs) w ≡ within (pos 0) (pos (ticks x)) w
above_is v [] zero x w e = absurd (cc e)
above_is v [] (suc i) x w e = absurd (cc e)
above_is v (y ∷ xs) zero x w e =
    let same : y ≡ x = cc e in
    or_false (within (pos 0) (seen v (sight y)).length w) _ (none_above (looks v xs) w)
    ∙ ap (λ n. within (pos 0) n w) (look_length v y (ticks x) (ap ticks (sym same)))
above_is v (y ∷ xs) (suc i) x w e = above_is v xs i x w e
