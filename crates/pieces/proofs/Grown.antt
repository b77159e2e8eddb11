-- Fronts of lists, made one child after another.
use Rattle.std.proofs.Common.{◌≡◌, refl, sym, subst, ap, ◌∙◌, ℕ, ◌≤◌, ℤ, pos, ◌-ℤ◌, ◌≤ℤ◌, ◌<ℤ◌, true, false, List, [], ◌∷◌, ◌++◌, Option, Some, None, drop, length, arith, append_assoc}
use Rattle.std.specs.Prelude.{int_lt, int_le, option_map}
use Rattle.std.proofs.lemmas.Int.{ints}
use Rattle.tick_time.specs.declared.rates.Rate.{Rate}
use Rattle.otio_model.specs.declared.compositions.ItemOf.{ItemOf}
use Rattle.otio_model.specs.declared.compositions.Listed.{Listed}
use Rattle.otio_model.specs.Lengths.{length_of}
use Rattle.otio_model.specs.Lengths.{or_zero}
use Rattle.coord.proofs.Members.{none_left}
use Rattle.coord.proofs.SightLemmas.{length_seen}
use Rattle.edits.specs.Children.{Old, ticks, made, all_made, with_first, new_gap}
use Rattle.edits.specs.Cuts.{front, left_piece}
use Rattle.edits.specs.Children.{is_far, has_far}
use Rattle.pieces.proofs.SameTimes.{or_left}
use Rattle.pieces.proofs.Tests.{lt_yes, le_yes, le_no}

-- an item's length in its list is its own
pub ticks_are : (x : ItemOf Listed) → ticks x ≡ pos (or_zero (length_of x))
ticks_are x = ap (λ o. pos (or_zero o)) (length_seen x)

pub known_short : (x : ItemOf Listed) → ticks x ≤ℤ pos 705600000000000000000000 → or_zero (length_of x) ≤ 705600000000000000000000
known_short x h = let e = ticks_are x in omega (arith, ints)

pub short_value : (x : ItemOf Listed) (n : ℕ) → n ≡ or_zero (length_of x) → pos n ≡ ticks x
short_value x n e = ap pos e ∙ sym (ticks_are x)

pub short_small : (x : ItemOf Listed) (n : ℕ) → n ≡ or_zero (length_of x) → ticks x ≤ℤ pos 705600000000000000000000 → n ≤ 705600000000000000000000
short_small x n e h = let k = known_short x h in omega (arith, e, k)

pub ruleset short_ticks = (short_value, short_small)

-- so much is made, and the front of what is left is to be made
pub record Fronted (rate : Rate) (l : List (ItemOf Listed)) (t : ℤ) (made rest : List (ItemOf Listed)) (left : ℤ) : Type 0 where
  pub is : all_made rate (front l t) ≡ option_map (λ m. made ++ m) (all_made rate (front rest left))
  pub low : pos 0 ≤ℤ left
  pub far : has_far (front rest left) ≡ true → has_far (front l t) ≡ true

pub same_map : (o : Option (List (ItemOf Listed))) → o ≡ option_map (λ m. [] ++ m) o
same_map None = refl
same_map (Some m) = refl

pub front_first : (rate : Rate) (l rest : List (ItemOf Listed)) (t : ℤ) → rest ≡ l → pos 0 ≤ℤ t → Fronted rate l t [] rest t
front_first rate l rest t e h = subst (λ r. Fronted rate l t [] r t) (sym e) (record { is = same_map (all_made rate (front l t)); low = h; far = λ f. f })

pub one_more : (done : List (ItemOf Listed)) (x : ItemOf Listed) (o : Option (List (ItemOf Listed))) → option_map (λ m. done ++ m) (with_first (Some x) o) ≡ option_map (λ m. (done ++ x ∷ []) ++ m) o
one_more done x None = refl
one_more done x (Some m) = ap Some (sym (append_assoc done (x ∷ []) m))

-- one whole child more
pub front_next : (rate : Rate) (l rest more done : List (ItemOf Listed)) (t left : ℤ) (x : ItemOf Listed) → Fronted rate l t done rest left → rest ≡ x ∷ more → pos 0 <ℤ left → ticks x ≤ℤ left
    → Fronted rate l t (done ++ x ∷ []) more (left -ℤ ticks x)
front_next rate l rest more done t left x f e h k =
    let g : int_lt (pos 0) left ≡ true = lt_yes (pos 0) left h in
    let i : int_le (ticks x) left ≡ true = le_yes (ticks x) left k in
    let whole : front (x ∷ more) left ≡ Old x ∷ front more (left -ℤ ticks x) = rw (g, i) refl in
    record {
      is = f.is ∙ ap (λ r. option_map (λ m. done ++ m) (all_made rate r)) (ap (λ r. front r left) e ∙ whole) ∙ one_more done x (all_made rate (front more (left -ℤ ticks x)));
      low = omega (arith, ints);
      far = λ g. f.far (ap has_far (ap (λ r. front r left) e ∙ whole) ∙ g);
    }

-- the last one, which is cut
pub front_cut : (rate : Rate) (l rest more done : List (ItemOf Listed)) (t left : ℤ) (x y : ItemOf Listed) → Fronted rate l t done rest left → rest ≡ x ∷ more → pos 0 <ℤ left → left <ℤ ticks x → made rate (left_piece x left) ≡ Some y
    → all_made rate (front l t) ≡ Some (done ++ y ∷ [])
front_cut rate l rest more done t left x y f e h k n =
    let g : int_lt (pos 0) left ≡ true = lt_yes (pos 0) left h in
    let i : int_le (ticks x) left ≡ false = le_no (ticks x) left k in
    let cut : front (x ∷ more) left ≡ left_piece x left ∷ [] = rw (g, i) refl in
    f.is ∙ ap (λ r. option_map (λ m. done ++ m) (all_made rate r)) (ap (λ r. front r left) e ∙ cut) ∙ ap (λ o. option_map (λ m. done ++ m) (with_first o (Some []))) n

-- nothing is left to be made
pub front_done : (rate : Rate) (l rest done : List (ItemOf Listed)) (t left : ℤ) → Fronted rate l t done rest left → left ≤ℤ pos 0 → all_made rate (front l t) ≡ Some done
front_done rate l rest done t left f h = f.is ∙ ap (λ r. option_map (λ m. done ++ m) (all_made rate r)) (stop rest) ∙ ap Some (none_more done)
  where
    stop : (r : List (ItemOf Listed)) → front r left ≡ []
    stop [] = let g : int_lt (pos 0) left ≡ false = grind (arith, ints) in rw g refl
    stop (x ∷ r) = let g : int_lt (pos 0) left ≡ false = grind (arith, ints) in rw g refl

    none_more : (r : List (ItemOf Listed)) → r ++ [] ≡ r
    none_more [] = refl
    none_more (x ∷ r) = ap (λ q. x ∷ q) (none_more r)

-- and a gap for the missing length
pub front_gap : (rate : Rate) (l done : List (ItemOf Listed)) (i : ℕ) (t left : ℤ) (y : ItemOf Listed) → Fronted rate l t done (drop i l) left → length l ≤ i → pos 0 <ℤ left → made rate (new_gap left) ≡ Some y
    → all_made rate (front l t) ≡ Some (done ++ y ∷ [])
front_gap rate l done i t left y f n h k =
    let g : int_lt (pos 0) left ≡ true = lt_yes (pos 0) left h in
    let gap : front [] left ≡ new_gap left ∷ [] = rw g refl in
    f.is ∙ ap (λ r. option_map (λ m. done ++ m) (all_made rate (front r left))) (none_left l i n) ∙ ap (λ r. option_map (λ m. done ++ m) (all_made rate r)) gap ∙ ap (λ o. option_map (λ m. done ++ m) (with_first o (Some []))) k

-- the same steps, with each number by an equation
pub next_as : (rate : Rate) (l rest more done new : List (ItemOf Listed)) (t s left less : ℤ) (x y : ItemOf Listed) → Fronted rate l t done rest left → s ≡ t → rest ≡ x ∷ more → pos 0 <ℤ left → ticks x ≤ℤ left → less ≡ left -ℤ ticks x → y ≡ x → new ≡ done ++ y ∷ []
    → Fronted rate l s new more less
next_as rate l rest more done new t s left less x y f e g h k m n o =
    let a = front_next rate l rest more done t left x f g h k in
    subst (λ z. Fronted rate l z new more less) (sym e) (subst (λ z. Fronted rate l t new more z) (sym m) (subst (λ z. Fronted rate l t z more (left -ℤ ticks x)) (sym (o ∙ ap (λ z. done ++ z ∷ []) n)) a))

pub cut_as : (rate : Rate) (l rest more done new : List (ItemOf Listed)) (t s left cut : ℤ) (x y : ItemOf Listed) → Fronted rate l t done rest left → s ≡ t → rest ≡ x ∷ more → pos 0 <ℤ left → left <ℤ ticks x → made rate (left_piece x cut) ≡ Some y → cut ≡ left → new ≡ done ++ y ∷ []
    → all_made rate (front l s) ≡ Some new
cut_as rate l rest more done new t s left cut x y f e g h k n m o =
    ap (λ z. all_made rate (front l z)) e ∙ front_cut rate l rest more done t left x y f g h k (subst (λ z. made rate (left_piece x z) ≡ Some y) m n) ∙ ap Some (sym o)

pub done_as : (rate : Rate) (l rest done : List (ItemOf Listed)) (t s left : ℤ) → Fronted rate l t done rest left → s ≡ t → left ≤ℤ pos 0 → all_made rate (front l s) ≡ Some done
done_as rate l rest done t s left f e h = ap (λ z. all_made rate (front l z)) e ∙ front_done rate l rest done t left f h

pub gap_as : (rate : Rate) (l done new : List (ItemOf Listed)) (i : ℕ) (t s left gap : ℤ) (y : ItemOf Listed) → Fronted rate l t done (drop i l) left → s ≡ t → length l ≤ i → pos 0 <ℤ left → made rate (new_gap gap) ≡ Some y → gap ≡ left → new ≡ done ++ y ∷ []
    → all_made rate (front l s) ≡ Some new
gap_as rate l done new i t s left gap y f e n h k m o =
    ap (λ z. all_made rate (front l z)) e ∙ front_gap rate l done i t left y f n h (subst (λ z. made rate (new_gap z) ≡ Some y) m k) ∙ ap Some (sym o)

pub gap_far : (rate : Rate) (l done : List (ItemOf Listed)) (i : ℕ) (t s left gap : ℤ) → Fronted rate l t done (drop i l) left → s ≡ t → length l ≤ i → pos 0 <ℤ left → gap ≡ left → is_far (new_gap gap) ≡ true
    → has_far (front l s) ≡ true
gap_far rate l done i t s left gap f e n h m b =
    let p : int_lt (pos 0) left ≡ true = lt_yes (pos 0) left h in
    let only : front [] left ≡ new_gap left ∷ [] = rw p refl in
    ap (λ z. has_far (front l z)) e ∙ f.far (ap has_far (ap (λ r. front r left) (none_left l i n) ∙ only) ∙ or_left _ _ (subst (λ z. is_far (new_gap z) ≡ true) m b))
