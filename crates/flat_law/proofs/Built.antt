-- Stretches that are found one after another are the longest ones.
use Rattle.std.proofs.Common.{◌≡◌, ◌≢◌, refl, sym, subst, ap, ap₂, ◌∙◌, ℕ, suc, ◌+◌, ℤ, pos, ◌+ℤ◌, ◌-ℤ◌, ◌≤ℤ◌, ◌<ℤ◌, Bool, true, false, Option, Some, None, cond, List, [], ◌∷◌, ◌++◌, take, arith, append_assoc}
use Rattle.std.specs.Prelude.{int_lt, slice_get}
use Rattle.std.specs.Option.{option_or}
use Rattle.std.proofs.lemmas.Int.{ints, by_lt_z}
use Rattle.otio_model.specs.declared.compositions.ItemOf.{ItemOf}
use Rattle.otio_model.specs.declared.compositions.Listed.{Listed}
use Rattle.otio_model.specs.Overlaps.{within}
use Rattle.edits.specs.Children.{ticks}
use Rattle.edits.specs.Edges.{added}
use Rattle.coord.proofs.LookSteps.{is_within, missed_behind}
use Rattle.flat.specs.Roots.{is_layer, items_in}
use Rattle.flat.specs.Pieces.{Giver, gives, holder, giver, Piece, AreLongest, no_more, one_more}
use Rattle.flat.specs.Built.{left_of, nearer, steady_for, IsBefore, Leaves, IsOne}
use Rattle.coord.proofs.Members.{same_some}
use Rattle.flat_law.proofs.Firsts.{giver_at, IsGivenAt}

-- ---- one list

held_same : (k i : ℕ) (s : ℤ) (l : List (ItemOf Listed)) (w v : ℤ) → pos 0 ≤ℤ w → w ≤ℤ v → IsBefore (left_of l w) (v -ℤ w) → holder k i s l v ≡ holder k i s l w
held_same k i s [] w v n h b = refl
held_same k i s (x ∷ l) w v n h b = by_lt_z w (ticks x)
    (λ k1. let e = is_within (pos 0) (ticks x) w n k1 in
    let c : (v -ℤ w) <ℤ (ticks x -ℤ w) = rw e at b in
    rw (e, is_within (pos 0) (ticks x) v (omega (arith, ints)) (omega (arith, ints, c))) refl)
    (λ k1. let e = missed_behind (pos 0) (ticks x) w k1 in
    let c : IsBefore (left_of l (w -ℤ ticks x)) (v -ℤ w) = rw e at b in
    let same : v -ℤ w ≡ (v -ℤ ticks x) -ℤ (w -ℤ ticks x) = omega (arith, ints) in
    rw (e, missed_behind (pos 0) (ticks x) v (omega (arith, ints)))
    (held_same k (suc i) (s +ℤ ticks x) l (w -ℤ ticks x) (v -ℤ ticks x) (omega (arith, ints)) (omega (arith, ints)) (subst (IsBefore (left_of l (w -ℤ ticks x))) same c)))

-- ---- all layers

nearer_both : (o p : Option ℤ) (d : ℤ) → IsBefore (nearer o p) d → IsBefore o d × IsBefore p d
nearer_both None p d b = (tt, b)
nearer_both (Some x) None d b = (b, tt)
nearer_both (Some x) (Some y) d b = by_lt_z y x
    (λ h. let e : int_lt y x ≡ true = grind (arith, ints) in let c : d <ℤ y = rw e at b in (omega (arith, ints, c), c))
    (λ h. let e : int_lt y x ≡ false = grind (arith, ints) in let c : d <ℤ x = rw e at b in (c, omega (arith, ints, c)))

-- the giver stays the same until an item ends
pub given_same : (k : ℕ) (kind : List ℕ) (l : List (ItemOf Listed)) (w v : ℤ) → pos 0 ≤ℤ w → w ≤ℤ v → IsBefore (steady_for kind l w) (v -ℤ w) → giver k kind l v ≡ giver k kind l w
given_same k kind [] w v n h b = refl
given_same k kind (x ∷ l) w v n h b =
    let both = nearer_both (cond (is_layer kind x) (left_of (items_in x) w) None) (steady_for kind l w) (v -ℤ w) b in
    ap₂ option_or (given_same (suc k) kind l w v n h both.1) (of (is_layer kind x) both.0)
  where
    of : (c : Bool) → IsBefore (cond c (left_of (items_in x) w) None) (v -ℤ w) → cond c (holder k 0 (pos 0) (items_in x) v) None ≡ cond c (holder k 0 (pos 0) (items_in x) w) None
    of true b = held_same k 0 (pos 0) (items_in x) w v n h b
    of false b = refl

-- ---- the same indexes are the same giver

starts_at : (k i : ℕ) (s : ℤ) (l : List (ItemOf Listed)) (w : ℤ) (g : Giver) → holder k i s l w ≡ Some g → (j : ℕ) × (g.child ≡ i + j) × (g.start ≡ (s +ℤ added (take j l)))
starts_at k i s [] w g e = absurd (cc e)
starts_at k i s (x ∷ l) w g e = by (λ f. starts_at k (suc i) (s +ℤ ticks x) l (w -ℤ ticks x) g f) (within (pos 0) (ticks x) w) e
  where
    here : (c : Bool) → cond c (Some (record { track = k; child = i; start = s; item = x })) None ≡ Some g → (j : ℕ) × (g.child ≡ i + j) × (g.start ≡ (s +ℤ added (take j (x ∷ l))))
    here false m = absurd (cc m)
    here true m =
        let is : Path Giver (record { track = k; child = i; start = s; item = x }) g = cc m in
        (0, ap (λ (q : Giver). q.child) (sym is) ∙ (let z : i ≡ i + 0 = omega arith in z), ap (λ (q : Giver). q.start) (sym is) ∙ (let z : s ≡ s +ℤ pos 0 = omega (arith, ints) in z))

    later : (j : ℕ) × (g.child ≡ suc i + j) × (g.start ≡ ((s +ℤ ticks x) +ℤ added (take j l))) → (j : ℕ) × (g.child ≡ i + j) × (g.start ≡ (s +ℤ added (take j (x ∷ l))))
    later h = let a = h.1 in let b = h.2 in (suc h.0, omega (arith, a), omega (arith, ints, b))

    by : (holder k (suc i) (s +ℤ ticks x) l (w -ℤ ticks x) ≡ Some g → (j : ℕ) × (g.child ≡ suc i + j) × (g.start ≡ ((s +ℤ ticks x) +ℤ added (take j l)))) → (c : Bool)
        → cond c (cond (gives x) (Some (record { track = k; child = i; start = s; item = x })) None) (holder k (suc i) (s +ℤ ticks x) l (w -ℤ ticks x)) ≡ Some g
        → (j : ℕ) × (g.child ≡ i + j) × (g.start ≡ (s +ℤ added (take j (x ∷ l))))
    by rest true m = here (gives x) m
    by rest false m = later (rest m)

-- where the giver starts in its track
pub given_start : (k : ℕ) (kind : List ℕ) (l : List (ItemOf Listed)) (w : ℤ) (g : Giver) → giver k kind l w ≡ Some g → (j : ℕ) × (x : ItemOf Listed) × (g.track ≡ k + j) × (slice_get l j ≡ Some x) × (g.start ≡ added (take g.child (items_in x)))
given_start k kind [] w g e = absurd (cc e)
given_start k kind (x ∷ l) w g e = by (λ f. given_start (suc k) kind l w g f) (giver (suc k) kind l w) refl e
  where
    here : (c : Bool) → cond c (holder k 0 (pos 0) (items_in x) w) None ≡ Some g → (j : ℕ) × (y : ItemOf Listed) × (g.track ≡ k + j) × (slice_get (x ∷ l) j ≡ Some y) × (g.start ≡ added (take g.child (items_in y)))
    here false m = absurd (cc m)
    here true m =
        let s = starts_at k 0 (pos 0) (items_in x) w g m in
        let t = Rattle.flat_law.proofs.Firsts.holder_at k 0 (pos 0) (items_in x) w g m in
        let c = s.1 in let b = s.2 in
        let same : s.0 ≡ g.child = omega (arith, c) in
        (0, x, t.1 ∙ (let z : k ≡ k + 0 = omega arith in z), refl, (let z : g.start ≡ added (take s.0 (items_in x)) = omega (arith, ints, b) in z) ∙ ap (λ n. added (take n (items_in x))) same)

    by : (giver (suc k) kind l w ≡ Some g → (j : ℕ) × (y : ItemOf Listed) × (g.track ≡ suc k + j) × (slice_get l j ≡ Some y) × (g.start ≡ added (take g.child (items_in y)))) → (o : Option Giver) → giver (suc k) kind l w ≡ o
        → option_or o (cond (is_layer kind x) (holder k 0 (pos 0) (items_in x) w) None) ≡ Some g → (j : ℕ) × (y : ItemOf Listed) × (g.track ≡ k + j) × (slice_get (x ∷ l) j ≡ Some y) × (g.start ≡ added (take g.child (items_in y)))
    by rest None f m = here (is_layer kind x) m
    by rest (Some q) f m = let r = rest (f ∙ m) in let t = r.2 in (suc r.0, r.1, (let z : g.track ≡ k + suc r.0 = omega (arith, t) in z), r.3, r.4)

pub given_one : (kind : List ℕ) (l : List (ItemOf Listed)) (w v : ℤ) (g h : Giver) → giver 0 kind l w ≡ Some g → giver 0 kind l v ≡ Some h → g.track ≡ h.track → g.child ≡ h.child → g ≡ h
given_one kind l w v g h e f t c =
    let a = giver_at 0 kind l w g e in let b = giver_at 0 kind l v h f in
    let at = a.track in let bt = b.track in
    let root : a.at ≡ b.at = omega (arith, at, bt, t) in
    let of : a.of ≡ b.of = same_some a.of b.of (sym a.root ∙ ap (slice_get l) root ∙ b.root) in
    let item : g.item ≡ h.item = same_some g.item h.item (sym a.there ∙ ap (λ z. slice_get (items_in z) g.child) of ∙ ap (slice_get (items_in b.of)) c ∙ b.there) in
    let x = given_start 0 kind l w g e in let y = given_start 0 kind l v h f in
    let xt = x.2 in let yt = y.2 in
    let index : x.0 ≡ y.0 = omega (arith, xt, yt, t) in
    let one : x.1 ≡ y.1 = same_some x.1 y.1 (sym x.3 ∙ ap (slice_get l) index ∙ y.3) in
    let start : g.start ≡ h.start = x.4 ∙ ap (λ z. added (take g.child (items_in z))) one ∙ ap (λ n. added (take n (items_in y.1))) c ∙ sym y.4 in
    λ i. record { track = t i; child = c i; start = start i; item = item i }

-- ---- the loop over stretches

pub leaves_all : (g : ℤ → Option Giver) (end : ℤ) → Leaves g end [] (pos 0)
leaves_all g end rest a = a

pub leaves_rest : (g : ℤ → Option Giver) (end at to : ℤ) (p : Option Giver) (done : List Piece) → Leaves g end done at → at <ℤ to → to ≤ℤ end → IsOne g at to p → (to <ℤ end → g to ≢ p)
    → Leaves g end (done ++ record { from = at; to = to; of = p } ∷ []) to
leaves_rest g end at to p done l h k one other rest a =
    subst (AreLongest g end (pos 0)) (sym (append_assoc done (record { from = at; to = to; of = p } ∷ []) rest))
    (l (record { from = at; to = to; of = p } ∷ rest) (one_more at to p rest (record { from = at; to = to; of = p } ∷ rest) h k one other a refl))

none_more : (l : List Piece) → l ++ [] ≡ l
none_more [] = refl
none_more (x ∷ l) = ap (λ m. x ∷ m) (none_more l)

pub leaves_none : (g : ℤ → Option Giver) (end at : ℤ) (done : List Piece) → Leaves g end done at → at ≡ end → AreLongest g end (pos 0) done
leaves_none g end at done l e = subst (AreLongest g end (pos 0)) (none_more done) (l [] (no_more at [] e refl))

-- a stretch grows
pub one_grows : (g : ℤ → Option Giver) (at mid to : ℤ) (p : Option Giver) → IsOne g at mid p → IsOne g mid to p → IsOne g at to p
one_grows g at mid to p a b w h k = by_lt_z w mid (λ m. a w h m) (λ m. b w m k)
