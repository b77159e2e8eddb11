-- The pieces of an item show what it showed, and cut lists look like cut looks.
use mathlib.Core.Path.{fun_ext}
use Rattle.std.proofs.Common.{◌≡◌, refl, ap, ap₂, ◌∙◌, ℤ, pos, negsuc, ◌+ℤ◌, ◌-ℤ◌, ◌*ℤ◌, ◌≤ℤ◌, ◌<ℤ◌, true, false, List, [], ◌∷◌, ◌++◌, Option, None, arith, ◌*◌}
use Rattle.std.specs.Prelude.{int_lt, int_le, unsigned_abs, ◌%◌}
use Rattle.std.proofs.lemmas.Int.{ints, by_lt_z}
use Rattle.std.proofs.lemmas.Bool.{eqb-true}
use borrow.Author.Differences.{up, down, same_in, sum_is_lem, product_is}
use Rattle.std.specs.Int.{int_div_euclid, int_rem_euclid}
use Rattle.otio_model.specs.declared.compositions.ItemOf.{ItemOf}
use Rattle.otio_model.specs.declared.compositions.ItemOf.TheVariants.{Clip, Gap, Transition, Stack, Track}
use Rattle.otio_model.specs.declared.compositions.Listed.{Listed}
use Rattle.coord.specs.Looks.{Show, Look, Overlap}
use Rattle.coord.specs.Speeds.{speed_of, media_at}
use Rattle.coord.specs.Sights.{View, sight, sights, seen, looks, shows_inside, overlap_of}
use Rattle.otio_model.specs.Lengths.{trimmed_start}
use Rattle.edits.specs.Children.{Child, ticks, seen_child, child_looks, new_gap}
use Rattle.edits.specs.Splices as L
use Rattle.edits.specs.Splices.{is_stripped}
use Rattle.edits.specs.Cuts.{left_piece, right_piece, is_whole_at, strip, olds, front, back, cuts_whole, put_between}
use Rattle.edits_law.proofs.Splice.{cases}

-- the floor and the rest, by a million
pub floor_is : (z : ℤ) → ((int_div_euclid z (pos 1000000) *ℤ pos 1000000) +ℤ int_rem_euclid z (pos 1000000)) ≡ z
floor_is (pos a) = omega (arith, ints)
floor_is (negsuc a) = omega (arith, ints)

pub floor_rest : (z : ℤ) → (pos 0 ≤ℤ int_rem_euclid z (pos 1000000)) × (int_rem_euclid z (pos 1000000) <ℤ pos 1000000)
floor_rest (pos a) = (omega (arith, ints), omega (arith, ints))
floor_rest (negsuc a) = (omega (arith, ints), omega (arith, ints))

-- a floor, where a whole number of millions is added
floor_sum : (y z : ℤ) → int_rem_euclid y (pos 1000000) ≡ pos 0 → int_div_euclid (z +ℤ y) (pos 1000000) ≡ int_div_euclid y (pos 1000000) +ℤ int_div_euclid z (pos 1000000)
floor_sum y z e =
    let a = floor_is y in let b = floor_is z in let c = floor_is (z +ℤ y) in
    let d = floor_rest z in let f = floor_rest (z +ℤ y) in
    omega (arith, ints)

pub sum-times : (a b p : ℤ) → (a +ℤ b) *ℤ p ≡ (a *ℤ p) +ℤ (b *ℤ p)
sum-times a b p =
    let e = sum_is_lem a b in
    let f = ap (λ n. n * up p) e in
    let g = ap (λ n. n * down p) e in
    same_in _ _ (omega (arith, f, g, product_is (a +ℤ b) p, product_is a p, product_is b p, sum_is_lem (a *ℤ p) (b *ℤ p)))

-- a whole number of millions leaves no rest
rest_none : (z : ℤ) → unsigned_abs z % 1000000 ≡ 0 → int_rem_euclid z (pos 1000000) ≡ pos 0
rest_none (pos a) e = omega (arith, ints, e)
rest_none (negsuc a) e = omega (arith, ints, e)

pub whole_rest : (x : ItemOf Listed) (t : ℤ) → is_whole_at x t ≡ true → int_rem_euclid (t *ℤ speed_of x) (pos 1000000) ≡ pos 0
whole_rest x t e = rest_none (t *ℤ speed_of x) (eqb-true (unsigned_abs (t *ℤ speed_of x) % 1000000) 0 e)

pub media_sum : (start speed t u : ℤ) → int_rem_euclid (t *ℤ speed) (pos 1000000) ≡ pos 0 → media_at (media_at start speed t) speed u ≡ media_at start speed (u +ℤ t)
media_sum start speed t u e =
    let f = floor_sum (t *ℤ speed) (u *ℤ speed) e in
    let g : int_div_euclid ((u +ℤ t) *ℤ speed) (pos 1000000) ≡ int_div_euclid ((u *ℤ speed) +ℤ (t *ℤ speed)) (pos 1000000) = ap (λ z. int_div_euclid z (pos 1000000)) (sum-times u t speed) in
    omega (arith, ints)

-- ---- a piece looks like a piece of what the item looks like

pub left_looks : (v : View) (x : ItemOf Listed) (t : ℤ) → overlap_of x ≡ None → seen_child v (left_piece x t) ≡ L.left (seen v (sight x)) t
left_looks v (Clip c) t e = refl
left_looks v (Gap n) t e = refl
left_looks v (Transition o) t e = absurd (cc e)
left_looks v (Track n) t e = refl
left_looks v (Stack n) t e = refl

same_shows : (n : ℤ) (f g : ℤ → Show) (o : Option Overlap) → o ≡ None → ((u : ℤ) → f u ≡ g u) → Path Look (record { length = n; shows = f; overlap = o }) (record { length = n; shows = g; overlap = None })
same_shows n f g o e h = λ i. record { length = n; shows = fun_ext h i; overlap = e i }

pub right_looks : (v : View) (x : ItemOf Listed) (t : ℤ) → overlap_of x ≡ None → is_whole_at x t ≡ true → seen_child v (right_piece x t) ≡ L.right (seen v (sight x)) t
right_looks v x t e h = same_shows _ _ _ _ e (λ u. ap (shows_inside sights x v) (media_sum (trimmed_start x) (speed_of x) t u (whole_rest x t h)))

-- ---- fronts and backs of items look like those of looks

-- an item that is longer than 0 is no transition
pub no_transition : (x : ItemOf Listed) (t : ℤ) → pos 0 <ℤ t → t <ℤ ticks x → overlap_of x ≡ None
no_transition (Clip c) t h k = refl
no_transition (Gap n) t h k = refl
no_transition (Transition o) t h k = absurd (omega (arith, ints))
no_transition (Track n) t h k = refl
no_transition (Stack n) t h k = refl

pub olds_look : (v : View) (l : List (ItemOf Listed)) → child_looks v (olds l) ≡ looks v l
olds_look v [] = refl
olds_look v (x ∷ l) = ap (λ m. seen v (sight x) ∷ m) (olds_look v l)

gap_look : (v : View) (n : ℤ) → seen_child v (new_gap n) ≡ L.empty n
gap_look v n = refl

pub front_looks : (v : View) (l : List (ItemOf Listed)) (t : ℤ) → child_looks v (front l t) ≡ L.front (looks v l) t
front_looks v [] t = by_lt_z (pos 0) t
    (λ h. let e : int_lt (pos 0) t ≡ true = grind (arith, ints) in rw e (ap (λ y. y ∷ []) (gap_look v t)))
    (λ h. let e : int_lt (pos 0) t ≡ false = grind (arith, ints) in rw e)
front_looks v (x ∷ l) t = by_lt_z (pos 0) t
    (λ h. let e : int_lt (pos 0) t ≡ true = grind (arith, ints) in by_lt_z t (ticks x)
    (λ k. let f : int_le (ticks x) t ≡ false = grind (arith, ints) in rw (e, f) (ap (λ y. y ∷ []) (left_looks v x t (no_transition x t h k))))
    (λ k. let f : int_le (ticks x) t ≡ true = grind (arith, ints) in rw (e, f) (ap (λ m. seen v (sight x) ∷ m) (front_looks v l (t -ℤ ticks x)))))
    (λ h. let e : int_lt (pos 0) t ≡ false = grind (arith, ints) in rw e)

pub back_looks : (v : View) (l : List (ItemOf Listed)) (t : ℤ) → cuts_whole l t ≡ true → child_looks v (back l t) ≡ L.back (looks v l) t
back_looks v [] t c = refl
back_looks v (x ∷ l) t c = by_lt_z (pos 0) t
    (λ h. let e : int_lt (pos 0) t ≡ true = grind (arith, ints) in by_lt_z t (ticks x)
    (λ k. let f : int_le (ticks x) t ≡ false = grind (arith, ints) in rw (e, f) (ap₂ (λ y m. y ∷ m) (right_looks v x t (no_transition x t h k) (rw (e, f) at c)) (olds_look v l)))
    (λ k. let f : int_le (ticks x) t ≡ true = grind (arith, ints) in rw (e, f) (back_looks v l (t -ℤ ticks x) (rw (e, f) at c))))
    (λ h. let e : int_lt (pos 0) t ≡ false = grind (arith, ints) in rw e (ap (λ m. seen v (sight x) ∷ m) (olds_look v l)))

pub strip_looks : (v : View) (l : List (ItemOf Listed)) (a b : ℤ) → looks v (strip l a b) ≡ L.strip (looks v l) a b
strip_looks v [] a b = refl
strip_looks v (x ∷ l) a b = cases (is_stripped a b (overlap_of x))
    (λ t. rw t (strip_looks v l a b))
    (λ t. rw t (ap (λ m. seen v (sight x) ∷ m) (strip_looks v l (a -ℤ ticks x) (b -ℤ ticks x))))

pub append_looks : (v : View) (l m : List Child) → child_looks v (l ++ m) ≡ child_looks v l ++ child_looks v m
append_looks v [] m = refl
append_looks v (c ∷ l) m = ap (λ k. seen_child v c ∷ k) (append_looks v l m)

pub looks_append : (v : View) (l m : List (ItemOf Listed)) → looks v (l ++ m) ≡ looks v l ++ looks v m
looks_append v [] m = refl
looks_append v (x ∷ l) m = ap (λ k. seen v (sight x) ∷ k) (looks_append v l m)

-- others between two cuts look so too
pub between_looks : (v : View) (s : List (ItemOf Listed)) (a : ℤ) (n : List Child) (b : ℤ) → cuts_whole s b ≡ true
    → child_looks v (put_between s a n b) ≡ L.spliced (looks v s) a (child_looks v n) b
between_looks v s a n b c =
    append_looks v (front s a) (n ++ back s b)
    ∙ ap₂ (λ f m. f ++ m) (front_looks v s a) (append_looks v n (back s b) ∙ ap (λ m. child_looks v n ++ m) (back_looks v s b c))
