-- Whether a list can be cut, found child by child.
use Rattle.std.proofs.Common.{◌≡◌, refl, sym, subst, ap, ◌∙◌, ℕ, ◌≤◌, ℤ, pos, ◌-ℤ◌, ◌≤ℤ◌, ◌<ℤ◌, Bool, true, false, List, [], ◌∷◌, drop, length, arith}
use Rattle.std.specs.Prelude.{int_lt, int_le}
use Rattle.std.proofs.lemmas.Int.{ints}
use Rattle.otio_model.specs.declared.compositions.ItemOf.{ItemOf}
use Rattle.otio_model.specs.declared.compositions.Listed.{Listed}
use Rattle.edits.specs.Children.{ticks}
use Rattle.edits.specs.Cuts.{cuts_whole, is_whole_at}
use Rattle.pieces.proofs.Tests.{lt_yes, lt_no, le_yes, le_no}
use Rattle.coord.proofs.Members.{none_left}

-- the list can be cut where what is left of it can
pub record IsWhole (l : List (ItemOf Listed)) (t : ℤ) (rest : List (ItemOf Listed)) (left : ℤ) : Type 0 where
  pub is : cuts_whole l t ≡ cuts_whole rest left
  pub low : pos 0 ≤ℤ left

pub whole_first : (l rest : List (ItemOf Listed)) (t s : ℤ) → rest ≡ l → s ≡ t → pos 0 ≤ℤ t → IsWhole l t rest s
whole_first l rest t s e f h = subst (λ z. IsWhole l t rest z) (sym f) (subst (λ r. IsWhole l t r t) (sym e) (record { is = refl; low = h }))

at_once : (r : List (ItemOf Listed)) (z : ℤ) → z ≤ℤ pos 0 → cuts_whole r z ≡ true
at_once [] z h = refl
at_once (x ∷ r) z h = let g : int_lt (pos 0) z ≡ false = lt_no (pos 0) z h in rw g refl

pub whole_done : (l rest : List (ItemOf Listed)) (t left : ℤ) → IsWhole l t rest left → left ≤ℤ pos 0 → true ≡ cuts_whole l t
whole_done l rest t left w h = sym (w.is ∙ at_once rest left h)

pub whole_here : (l rest more : List (ItemOf Listed)) (t left : ℤ) (x : ItemOf Listed) (b : Bool) → IsWhole l t rest left → rest ≡ x ∷ more → pos 0 <ℤ left → left <ℤ ticks x → b ≡ is_whole_at x left → b ≡ cuts_whole l t
whole_here l rest more t left x b w e h k f =
    let g : int_lt (pos 0) left ≡ true = lt_yes (pos 0) left h in
    let i : int_le (ticks x) left ≡ false = le_no (ticks x) left k in
    let here : cuts_whole (x ∷ more) left ≡ is_whole_at x left = rw (g, i) refl in
    f ∙ sym (w.is ∙ ap (λ r. cuts_whole r left) e ∙ here)

pub whole_next : (l rest more : List (ItemOf Listed)) (t left less : ℤ) (x : ItemOf Listed) → IsWhole l t rest left → rest ≡ x ∷ more → pos 0 <ℤ left → ticks x ≤ℤ left → less ≡ left -ℤ ticks x → IsWhole l t more less
whole_next l rest more t left less x w e h k z =
    let g : int_lt (pos 0) left ≡ true = lt_yes (pos 0) left h in
    let i : int_le (ticks x) left ≡ true = le_yes (ticks x) left k in
    let here : cuts_whole (x ∷ more) left ≡ cuts_whole more (left -ℤ ticks x) = rw (g, i) refl in
    record {
      is = w.is ∙ ap (λ r. cuts_whole r left) e ∙ here ∙ ap (cuts_whole more) (sym z);
      low = omega (arith, ints, z, k);
    }

pub whole_end : (l : List (ItemOf Listed)) (i : ℕ) (t left : ℤ) → IsWhole l t (drop i l) left → length l ≤ i → true ≡ cuts_whole l t
whole_end l i t left w n = sym (w.is ∙ ap (λ r. cuts_whole r left) (none_left l i n))
