-- The nearest item before an index, and after it.
use Rattle.std.proofs.Common.{◌≡◌, inl, inr, refl, sym, subst, ap, ◌∙◌, ℕ, zero, suc, ◌+◌, ◌<◌}
use Rattle.std.proofs.Common.{◌≤◌, true, false, cond, List, [], ◌∷◌, Option, Some, None, take}
use Rattle.std.proofs.Common.{drop, length, arith}
use Rattle.std.specs.Prelude.{IfSome}
use Rattle.std.specs.Prelude.{slice_get}
use Rattle.std.proofs.Math.Nat.{eq-or-lt_of_le}
use Rattle.std.specs.Option.{option_or}
use Rattle.otio_model.specs.declared.compositions.ItemOf.{ItemOf}
use Rattle.otio_model.specs.declared.compositions.Listed.{Listed}
use Rattle.otio_model.specs.Trees.{is_transition}
use Rattle.edits.specs.Edges.{Held, first_item, last_item}
use Rattle.coord.proofs.Members.{next, none_left}
use Rattle.edit_plans.specs.Neighbours.{IsAfter, IsBefore, IsBetween, IsNotTransition}

-- ---- before

-- the children from n up to the index are transitions
pub record Passed (l : List (ItemOf Listed)) (index n : ℕ) : Type 0 where
  pub same : last_item (take index l) ≡ last_item (take n l)
  pub between : (j : ℕ) (x : ItemOf Listed) → n ≤ j → j < index → slice_get l j ≡ Some x
      → is_transition x ≡ true

last_here : (l : List (ItemOf Listed)) (i : ℕ) (x : ItemOf Listed) → slice_get l i ≡ Some x
    → is_transition x ≡ false → last_item (take (suc i) l) ≡ Some x
last_here [] i x e t = absurd (cc e)
last_here (y ∷ l) zero x e t =
    let same : y ≡ x = cc e in
    ap (λ z. option_or (last_item []) (cond (is_transition z) None (Some z))) same
    ∙ ap (λ b. cond b None (Some x)) t
last_here (y ∷ l) (suc i) x e t =
    ap (λ o. option_or o (cond (is_transition y) None (Some y))) (last_here l i x e t)

last_past : (l : List (ItemOf Listed)) (i : ℕ) (x : ItemOf Listed) → slice_get l i ≡ Some x
    → is_transition x ≡ true → last_item (take (suc i) l) ≡ last_item (take i l)
last_past [] i x e t = absurd (cc e)
last_past (y ∷ l) zero x e t =
    let same : y ≡ x = cc e in
    ap (λ z. option_or (last_item []) (cond (is_transition z) None (Some z))) same
    ∙ ap (λ b. cond b None (Some x)) t
last_past (y ∷ l) (suc i) x e t =
    ap (λ o. option_or o (cond (is_transition y) None (Some y))) (last_past l i x e t)

pub before_begins : (l : List (ItemOf Listed)) (index : ℕ) → Passed l index index
before_begins l index = record { same = refl; between = λ j x a b. absurd (omega arith) }

same_child : (l : List (ItemOf Listed)) (i j : ℕ) (x y : ItemOf Listed) → i ≡ j
    → slice_get l i ≡ Some x → slice_get l j ≡ Some y → is_transition x ≡ true
    → is_transition y ≡ true
same_child l i j x y e f g t =
    let h : x ≡ y = cc (sym f ∙ ap (slice_get l) e ∙ g) in ap is_transition (sym h) ∙ t

more_between : (l : List (ItemOf Listed)) (i index : ℕ) (x : ItemOf Listed)
    → Passed l index (suc i) → slice_get l i ≡ Some x → is_transition x ≡ true
    → (j : ℕ) (y : ItemOf Listed) → i ≤ j → j < index → slice_get l j ≡ Some y
    → is_transition y ≡ true
more_between l i index x p f t j y a b g = elim (eq-or-lt_of_le a) [
  | inl e ↦ same_child l i j x y e f g t
  | inr h ↦ p.between j y h b g
]

-- one transition more is passed
pub before_next : (l : List (ItemOf Listed)) (index i n : ℕ) (x : ItemOf Listed) → n ≡ suc i
    → Passed l index n → slice_get l i ≡ Some x → is_transition x ≡ true → Passed l index i
before_next l index i n x e p f t = next_of (subst (λ m. Passed l index m) e p)
  where
    next_of : Passed l index (suc i) → Passed l index i
    next_of q = record {
      same = q.same ∙ last_past l i x f t;
      between = more_between l i index x q f t;
    }

pub before_found : (l : List (ItemOf Listed)) (index i n : ℕ) (x : ItemOf Listed) → n ≡ suc i
    → n ≤ index → Passed l index n → slice_get l i ≡ Some x → is_transition x ≡ false
    → IsBefore l index i
before_found l index i n x e h p f t = found (subst (λ m. Passed l index m) e p)
  where
    found : Passed l index (suc i) → IsBefore l index i
    found q = record {
      before = omega (arith, e, h);
      item = x;
      there = f;
      last = q.same ∙ last_here l i x f t;
      between = λ j y a b g. q.between j y a b g;
    }

pub before_none : (l : List (ItemOf Listed)) (index n : ℕ) → n ≡ 0 → Passed l index n
    → last_item (take index l) ≡ None
before_none l index n e p = p.same ∙ ap (λ m. last_item (take m l)) e ∙ nothing l
  where
    nothing : (m : List (ItemOf Listed)) → last_item (take 0 m) ≡ None
    nothing [] = refl
    nothing (y ∷ m) = refl

-- ---- after

-- the children after the index and before n are transitions
pub record Skipped (l : List (ItemOf Listed)) (index n : ℕ) : Type 0 where
  pub same : first_item (drop (index + 1) l) ≡ first_item (drop n l)
  pub between : (j : ℕ) (x : ItemOf Listed) → index < j → j < n → slice_get l j ≡ Some x
      → is_transition x ≡ true

pub after_begins : (l : List (ItemOf Listed)) (index n : ℕ) → n ≡ index + 1 → Skipped l index n
after_begins l index n e = record {
  same = ap (λ m. first_item (drop m l)) (sym e);
  between = λ j x a b. absurd (omega arith);
}

first_is : (l : List (ItemOf Listed)) (n : ℕ) (x : ItemOf Listed) → slice_get l n ≡ Some x
    → first_item (drop n l)
    ≡ cond (is_transition x) (first_item (drop (n + 1) l)) (Some x)
first_is l n x e = ap first_item (next l n x e)

pub after_next : (l : List (ItemOf Listed)) (index n : ℕ) (x : ItemOf Listed)
    → Skipped l index n → slice_get l n ≡ Some x → is_transition x ≡ true
    → Skipped l index (n + 1)
after_next l index n x p f t = record {
  same = p.same ∙ first_is l n x f
      ∙ ap (λ b. cond b (first_item (drop (n + 1) l)) (Some x)) t;
  between = more;
}
  where
    more : (j : ℕ) (y : ItemOf Listed) → index < j → j < n + 1 → slice_get l j ≡ Some y
        → is_transition y ≡ true
    more j y a b g = elim (eq-or-lt_of_le {n = j} {m = n} (omega arith)) [
      | inl e ↦ same_child l n j x y (sym e) f g t
      | inr h ↦ p.between j y a h g
    ]

pub after_found : (l : List (ItemOf Listed)) (index n : ℕ) (x : ItemOf Listed) → index < n
    → Skipped l index n → slice_get l n ≡ Some x → is_transition x ≡ false → IsAfter l index n
after_found l index n x h p f t = record {
  behind = h;
  item = x;
  there = f;
  first = p.same ∙ first_is l n x f
      ∙ ap (λ b. cond b (first_item (drop (n + 1) l)) (Some x)) t;
  between = p.between;
}

pub after_none : (l : List (ItemOf Listed)) (index n : ℕ) → length l ≤ n → Skipped l index n
    → first_item (drop (index + 1) l) ≡ None
after_none l index n h p = p.same ∙ ap first_item (none_left l n h)

-- ---- held between neighbours

-- a list of one, or of none
abbrev alone : Option (ItemOf Listed) → List (ItemOf Listed)
alone None = []
alone (Some x) = x ∷ []

last_alone : (o : Option (ItemOf Listed)) → IfSome o IsNotTransition → last_item (alone o) ≡ o
last_alone None h = refl
last_alone (Some x) h = ap (λ b. cond b None (Some x)) h

first_alone : (o : Option (ItemOf Listed)) → IfSome o IsNotTransition → first_item (alone o) ≡ o
first_alone None h = refl
first_alone (Some x) h = ap (λ b. cond b (first_item []) (Some x)) h

pub held-between : (before : Option (ItemOf Listed)) (item : ItemOf Listed)
    (behind : Option (ItemOf Listed)) → IfSome before IsNotTransition
    → IfSome behind IsNotTransition → (h : Held) × IsBetween before item behind h
held-between before item behind a b = (
  record { before = alone before; item = item; behind = alone behind },
  record { last = last_alone before a; held = refl; first = first_alone behind b },
)
