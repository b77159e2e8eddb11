-- Backs of lists, made one child after another.
use Rattle.std.proofs.Common.{◌≡◌, refl, sym, subst, ap, ◌∙◌, ℕ, ◌≤◌, ℤ, pos, ◌-ℤ◌, ◌≤ℤ◌, ◌<ℤ◌, true, false, List, [], ◌∷◌, ◌++◌, Some, drop, length, arith}
use Rattle.std.specs.Prelude.{int_lt, int_le, option_map}
use Rattle.std.proofs.lemmas.Int.{ints}
use Rattle.std.proofs.lemmas.List.{append-nil as none_more}
use Rattle.tick_time.specs.declared.rates.Rate.{Rate}
use Rattle.otio_model.specs.declared.compositions.ItemOf.{ItemOf}
use Rattle.otio_model.specs.declared.compositions.Listed.{Listed}
use Rattle.edits.specs.Children.{Child, Old, ticks, made, all_made, with_first}
use Rattle.edits.specs.Cuts.{back, right_piece, olds}
use Rattle.pieces.proofs.Tests.{lt_yes, lt_no, le_yes, le_no}
use Rattle.coord.proofs.Members.{none_left}
use Rattle.pieces.proofs.Grown.{one_more, same_map}

-- so much is made, and the back of what is left is to be made
pub record Backed (rate : Rate) (l : List (ItemOf Listed)) (t : ℤ) (made rest : List (ItemOf Listed)) (left : ℤ) : Type 0 where
  pub is : all_made rate (back l t) ≡ option_map (λ m. made ++ m) (all_made rate (back rest left))
  pub low : pos 0 ≤ℤ left

pub back_first : (rate : Rate) (l rest : List (ItemOf Listed)) (t : ℤ) → rest ≡ l → pos 0 ≤ℤ t → Backed rate l t [] rest t
back_first rate l rest t e h = subst (λ r. Backed rate l t [] r t) (sym e) (record { is = same_map (all_made rate (back l t)); low = h })

-- nothing is left to be skipped
back_all : (l : List (ItemOf Listed)) (t : ℤ) → t ≤ℤ pos 0 → back l t ≡ olds l
back_all [] t h = refl
back_all (x ∷ l) t h = let g : int_lt (pos 0) t ≡ false = lt_no (pos 0) t h in rw g refl

-- what is left of the list with its first child put, in one of three ways
step_is : (rate : Rate) (l rest more done new : List (ItemOf Listed)) (t left less : ℤ) (c : Child) (y : ItemOf Listed) → Backed rate l t done rest left → back rest left ≡ c ∷ back more less → made rate c ≡ Some y → new ≡ done ++ y ∷ [] → pos 0 ≤ℤ less
    → Backed rate l t new more less
step_is rate l rest more done new t left less c y f e m n low = record {
  is = f.is ∙ ap (λ q. option_map (λ m. done ++ m) (all_made rate q)) e ∙ ap (λ o. option_map (λ m. done ++ m) (with_first o (all_made rate (back more less)))) m ∙ one_more done y (all_made rate (back more less)) ∙ ap (λ q. option_map (λ m. q ++ m) (all_made rate (back more less))) (sym n);
  low = low;
}

pub back_copied : (rate : Rate) (l rest more done new : List (ItemOf Listed)) (t left : ℤ) (x y : ItemOf Listed) → Backed rate l t done rest left → rest ≡ x ∷ more → left ≤ℤ pos 0 → y ≡ x → new ≡ done ++ y ∷ []
    → Backed rate l t new more left
back_copied rate l rest more done new t left x y f e h m n =
    let a : back rest left ≡ Old x ∷ back more left = ap (λ r. back r left) e ∙ back_all (x ∷ more) left h ∙ ap (λ q. Old x ∷ q) (sym (back_all more left h)) in
    step_is rate l rest more done new t left left (Old x) y f a (ap Some (sym m)) n f.low

cut_is : (rest more : List (ItemOf Listed)) (left less : ℤ) (x : ItemOf Listed) → rest ≡ x ∷ more → pos 0 <ℤ left → left <ℤ ticks x → less ≡ pos 0 → back rest left ≡ right_piece x left ∷ back more less
cut_is rest more left less x e h k z =
    let g : int_lt (pos 0) left ≡ true = lt_yes (pos 0) left h in
    let i : int_le (ticks x) left ≡ false = le_no (ticks x) left k in
    let low : less ≤ℤ pos 0 = omega (arith, ints, z) in
    let whole : back (x ∷ more) left ≡ right_piece x left ∷ olds more = rw (g, i) refl in
    ap (λ r. back r left) e ∙ whole ∙ ap (λ q. right_piece x left ∷ q) (sym (back_all more less low))

pub back_cut : (rate : Rate) (l rest more done new : List (ItemOf Listed)) (t left cut less : ℤ) (x y : ItemOf Listed) → Backed rate l t done rest left → rest ≡ x ∷ more → pos 0 <ℤ left → left <ℤ ticks x → made rate (right_piece x cut) ≡ Some y → cut ≡ left → less ≡ pos 0 → new ≡ done ++ y ∷ []
    → Backed rate l t new more less
back_cut rate l rest more done new t left cut less x y f e h k m same z n =
    step_is rate l rest more done new t left less (right_piece x left) y f (cut_is rest more left less x e h k z) (subst (λ c. made rate (right_piece x c) ≡ Some y) same m) n (omega (arith, ints, z))

skip_is : (rest more : List (ItemOf Listed)) (left less : ℤ) (x : ItemOf Listed) → rest ≡ x ∷ more → pos 0 <ℤ left → ticks x ≤ℤ left → less ≡ left -ℤ ticks x → back rest left ≡ back more less
skip_is rest more left less x e h k z =
    let g : int_lt (pos 0) left ≡ true = lt_yes (pos 0) left h in
    let i : int_le (ticks x) left ≡ true = le_yes (ticks x) left k in
    let whole : back (x ∷ more) left ≡ back more (left -ℤ ticks x) = rw (g, i) refl in
    ap (λ r. back r left) e ∙ whole ∙ ap (back more) (sym z)

pub back_skipped : (rate : Rate) (l rest more done : List (ItemOf Listed)) (t left less : ℤ) (x : ItemOf Listed) → Backed rate l t done rest left → rest ≡ x ∷ more → pos 0 <ℤ left → ticks x ≤ℤ left → less ≡ left -ℤ ticks x
    → Backed rate l t done more less
back_skipped rate l rest more done t left less x f e h k z =
    let a = skip_is rest more left less x e h k z in
    record {
      is = f.is ∙ ap (λ q. option_map (λ m. done ++ m) (all_made rate q)) a;
      low = omega (arith, ints, z, k);
    }

pub put_copied : (rate : Rate) (l rest more done new : List (ItemOf Listed)) (t left less : ℤ) (x y : ItemOf Listed) → Backed rate l t done rest left → rest ≡ x ∷ more → left ≤ℤ pos 0 → y ≡ x → new ≡ done ++ y ∷ [] → less ≡ left
    → Backed rate l t new more less
put_copied rate l rest more done new t left less x y f e h m n z = subst (λ k. Backed rate l t new more k) (sym z) (back_copied rate l rest more done new t left x y f e h m n)

pub skip_kept : (rate : Rate) (l rest more done new : List (ItemOf Listed)) (t left less : ℤ) (x : ItemOf Listed) → Backed rate l t done rest left → rest ≡ x ∷ more → pos 0 <ℤ left → ticks x ≤ℤ left → less ≡ left -ℤ ticks x → new ≡ done
    → Backed rate l t new more less
skip_kept rate l rest more done new t left less x f e h k z n = subst (λ d. Backed rate l t d more less) (sym n) (back_skipped rate l rest more done t left less x f e h k z)

pub back_end : (rate : Rate) (l done : List (ItemOf Listed)) (i : ℕ) (t s left : ℤ) → Backed rate l t done (drop i l) left → s ≡ t → length l ≤ i → all_made rate (back l s) ≡ Some done
back_end rate l done i t s left f e n = ap (λ z. all_made rate (back l z)) e ∙ f.is ∙ ap (λ r. option_map (λ m. done ++ m) (all_made rate (back r left))) (none_left l i n) ∙ ap Some (none_more done)
