-- What the children of one track give, one after another.
use mir.Syntax.{w128}
use Rattle.std.proofs.Common.{◌≡◌, refl, sym, subst, ap, ap₂, ◌∙◌, ℕ, zero, suc, ◌+◌, ◌-◌, ◌≤◌, ◌<◌, ℤ, pos, ◌+ℤ◌, ◌-ℤ◌, ◌≤ℤ◌, ◌<ℤ◌, ◌&&◌, Bool, true, false, Option, Some, None, cond, List, [], ◌∷◌, ◌++◌, length, take, drop, arith, FitsSigned}
use Rattle.std.specs.Prelude.{slice_get, int_lt}
use Rattle.std.proofs.lemmas.Int.{ints}
use Rattle.limits.specs.Limits.{most_ticks}
use Rattle.otio_model.specs.declared.compositions.ItemOf.{ItemOf}
use Rattle.otio_model.specs.declared.compositions.Listed.{Listed}
use Rattle.coord.proofs.Members.{none_left, next}
use Rattle.edits.specs.Children.{ticks}
use Rattle.edits.specs.Edges.{added}
use Rattle.edits_law.proofs.Parted.{added_low}
use Rattle.coord.proofs.LookSteps.{is_within, missed_behind}
use Rattle.flat.specs.Roots.{is_layer, items_in}
use Rattle.flat.specs.Pieces.{gives, holder, giver, longest}
use Rattle.flat.specs.Built.{IsOne}
use Rattle.flat_stack.specs.declared.stretches.Given.{Given}
use Rattle.flat_stack.specs.declared.stretches.Stretch.{Stretch}
use Rattle.flat_stack.specs.Runs.{item_in, given_of, AreRuns, given_by, longer, LeavesRuns, IsAlong}
use Rattle.edits.proofs.NextStarts.{added_next}
use Rattle.flat_stack.proofs.RunLemmas.{leaves_first, leaves_more, leaves_all, runs_as}
use Rattle.limits.proofs.IntegerTests.{below-int_lt, above-int_lt}

held_past : (k i : ℕ) (s : ℤ) (l : List (ItemOf Listed)) (n : ℕ) (w : ℤ) → added (take n l) ≤ℤ w
    → holder k i s l w
    ≡ holder k (i + n) (s +ℤ added (take n l)) (drop n l) (w -ℤ added (take n l))
held_past k i s l zero w h =
    ap₂ (λ (j : ℕ) z. holder k j z l w) (let e : i ≡ i + 0 = omega arith in e) (let e : s ≡ s +ℤ pos 0 = omega (arith, ints) in e)
    ∙ ap (holder k (i + 0) (s +ℤ pos 0) l) (let e : w ≡ w -ℤ pos 0 = omega (arith, ints) in e)
held_past k i s [] (suc n) w h = refl
held_past k i s (x ∷ l) (suc n) w h =
    let low = added_low (take n l) in
    let past = missed_behind (pos 0) (ticks x) w (omega (arith, ints, h, low)) in
    let index : suc i + n ≡ i + suc n = omega arith in
    let start : (s +ℤ ticks x) +ℤ added (take n l) ≡ s +ℤ (ticks x +ℤ added (take n l)) = omega (arith, ints) in
    let at : (w -ℤ ticks x) -ℤ added (take n l) ≡ w -ℤ (ticks x +ℤ added (take n l)) = omega (arith, ints) in
    rw past (held_past k (suc i) (s +ℤ ticks x) l n (w -ℤ ticks x) (omega (arith, ints, h))
    ∙ ap₂ (λ (j : ℕ) z. holder k j z (drop n l) ((w -ℤ ticks x) -ℤ added (take n l))) index start
    ∙ ap (holder k (i + suc n) (s +ℤ (ticks x +ℤ added (take n l))) (drop n l)) at)

item_is : (roots l : List (ItemOf Listed)) (k n : ℕ) (y x : ItemOf Listed) → slice_get roots k ≡ Some y
    → items_in y ≡ l → slice_get l n ≡ Some x → item_in (slice_get roots k) n ≡ x
item_is roots l k n y x e f g =
    ap (λ o. item_in o n) e
    ∙ ap (λ o. elim o [ None ↦ Rattle.edits.specs.Children.plain_gap | Some z ↦ z ]) (ap (λ m. slice_get m n) f ∙ g)

given_is : (roots : List (ItemOf Listed)) (k n : ℕ) (at : ℤ) (x : ItemOf Listed)
    → item_in (slice_get roots k) n ≡ x
    → cond (gives x) (Some (record { track = k; child = n; start = at; item = x })) None
    ≡ given_of roots (given_by x k n at)
given_is roots k n at x e = of (gives x)
  where
    of : (b : Bool) → cond b (Some (record { track = k; child = n; start = at; item = x })) None
        ≡ given_of roots (cond b (Some (record { track = k; child = n; start = at })) None)
    of true = ap (λ z. Some (record { track = k; child = n; start = at; item = z })) (sym e)
    of false = refl

-- the child there gives what stands in its time
one_child : (roots l : List (ItemOf Listed)) (k n : ℕ) (y x : ItemOf Listed) (at to : ℤ)
    → slice_get roots k ≡ Some y → items_in y ≡ l → slice_get l n ≡ Some x
    → at ≡ added (take n l) → to ≤ℤ (at +ℤ ticks x)
    → IsOne (holder k 0 (pos 0) l) at to (given_of roots (given_by x k n at))
one_child roots l k n y x at to e f g h m w low high =
    let start : added (take n l) ≤ℤ w = subst (λ z. z ≤ℤ w) h low in
    let held = is_within (pos 0) (ticks x) (w -ℤ added (take n l)) (omega (arith, ints, low, h)) (omega (arith, ints, high, m, h)) in
    let index : 0 + n ≡ n = omega arith in
    let first : pos 0 +ℤ added (take n l) ≡ at = omega (arith, ints, h) in
    held_past k 0 (pos 0) l n w start
    ∙ ap (λ r. holder k (0 + n) (pos 0 +ℤ added (take n l)) r (w -ℤ added (take n l))) (next l n x g)
    ∙ rw held (ap₂ (λ (j : ℕ) z. cond (gives x) (Some (record { track = k; child = j; start = z; item = x })) None) index first)
    ∙ given_is roots k n at x (item_is roots l k n y x e f g)

-- behind the last child there is nothing
pub one_none : (l : List (ItemOf Listed)) (k n : ℕ) (at to : ℤ) → length l ≤ n
    → at ≡ added (take n l) → IsOne (holder k 0 (pos 0) l) at to None
one_none l k n at to h e w low high =
    held_past k 0 (pos 0) l n w (subst (λ z. z ≤ℤ w) e low)
    ∙ ap (λ r. holder k (0 + n) (pos 0 +ℤ added (take n l)) r (w -ℤ added (take n l))) (none_left l n h)

-- ---- the loop over a track's children

pub along_first : (k : ℕ) (l : List (ItemOf Listed)) (end : ℤ) → pos 0 <ℤ end → IsAlong k l end [] (pos 0) 0
along_first k l end h = record {
  leaves = λ roots x e f. leaves_first roots (holder k 0 (pos 0) l) end;
  start = refl;
  low = omega (arith, ints);
  high = h;
}

-- a child that takes no time
pub along_empty : (k : ℕ) (l : List (ItemOf Listed)) (end at n now : ℤ) (i : ℕ) (x : ItemOf Listed)
    (all new : List Stretch) → IsAlong k l end all at i → slice_get l i ≡ Some x → n ≡ ticks x
    → n ≤ℤ pos 0 → new ≡ all → now ≡ at → IsAlong k l end new now (i + 1)
along_empty k l end at n now i x all new a e f h m q =
    let zero_long : ticks x ≡ pos 0 = omega (arith, ints, f, h) in
    let t = added_next l i x e in
    let s = a.start in
    record {
      leaves = λ roots y u v. subst (λ z. LeavesRuns roots (holder k 0 (pos 0) l) end z now) (sym m)
          (subst (LeavesRuns roots (holder k 0 (pos 0) l) end all) (sym q) (a.leaves roots y u v));
      start = omega (arith, ints, t, s, zero_long, q);
      low = omega (arith, ints, a.low, q);
      high = omega (arith, ints, a.high, q);
    }

-- the instant at which a child ends fits 128 bits
pub sum_fits : {k : ℕ} {l : List (ItemOf Listed)} {end at n : ℤ} {i : ℕ} {all : List Stretch}
    → IsAlong k l end all at i → end ≤ℤ pos 705600000000000000000000 → pos 0 ≤ℤ n
    → n ≤ℤ pos most_ticks → FitsSigned w128 (at +ℤ n)
sum_fits a h m k = let low = a.low in let high = a.high in omega (arith, ints, low, high, h, m, k)

-- a child that ends before the end
pub along_more : (k : ℕ) (l : List (ItemOf Listed)) (end at n now : ℤ) (i : ℕ) (x : ItemOf Listed)
    (all new : List Stretch) (given : Option Given) → IsAlong k l end all at i
    → slice_get l i ≡ Some x → n ≡ ticks x → pos 0 <ℤ n → (at +ℤ n) <ℤ end
    → given ≡ given_by x k i at → now ≡ at +ℤ n
    → new ≡ all ++ record { to = now; given = given } ∷ [] → IsAlong k l end new now (i + 1)
along_more k l end at n now i x all new given a e f h m g q s =
    let t = added_next l i x e in
    let b = a.start in
    record {
      leaves = λ roots y u v.
          leaves_more roots (holder k 0 (pos 0) l) end at (record { to = now; given = given }) all new
          (a.leaves roots y u v) (omega (arith, ints, h, q)) (omega (arith, ints, m, q))
          (subst (λ z. IsOne (holder k 0 (pos 0) l) at now (given_of roots z)) (sym g)
          (one_child roots l k i y x at now u v e b (omega (arith, ints, q, f)))) s;
      start = omega (arith, ints, t, b, q, f);
      low = omega (arith, ints, a.low, h, q);
      high = omega (arith, ints, m, q);
    }

-- a child that ends there or later
pub along_last : (k : ℕ) (l : List (ItemOf Listed)) (end at n : ℤ) (i : ℕ) (x : ItemOf Listed)
    (all new : List Stretch) (given : Option Given) → IsAlong k l end all at i
    → slice_get l i ≡ Some x → n ≡ ticks x → end ≤ℤ (at +ℤ n) → given ≡ given_by x k i at
    → new ≡ all ++ record { to = end; given = given } ∷ []
    → (roots : List (ItemOf Listed)) (y : ItemOf Listed) → slice_get roots k ≡ Some y
    → items_in y ≡ l → AreRuns roots (holder k 0 (pos 0) l) end (pos 0) new
along_last k l end at n i x all new given a e f m g s roots y u v =
    leaves_all roots (holder k 0 (pos 0) l) end end new
    (leaves_more roots (holder k 0 (pos 0) l) end at (record { to = end; given = given }) all new
    (a.leaves roots y u v) a.high (omega (arith, ints))
    (subst (λ z. IsOne (holder k 0 (pos 0) l) at end (given_of roots z)) (sym g)
    (one_child roots l k i y x at end u v e a.start (omega (arith, ints, m, f)))) s) refl

-- the children end before
pub along_all : (k : ℕ) (l : List (ItemOf Listed)) (end at : ℤ) (i : ℕ) (all new : List Stretch)
    → IsAlong k l end all at i → length l ≤ i → new ≡ all ++ record { to = end; given = None } ∷ []
    → (roots : List (ItemOf Listed)) (y : ItemOf Listed) → slice_get roots k ≡ Some y
    → items_in y ≡ l → AreRuns roots (holder k 0 (pos 0) l) end (pos 0) new
along_all k l end at i all new a h s roots y u v =
    leaves_all roots (holder k 0 (pos 0) l) end end new
    (leaves_more roots (holder k 0 (pos 0) l) end at (record { to = end; given = None }) all new
    (a.leaves roots y u v) a.high (omega (arith, ints)) (one_none l k i at end h a.start) s) refl

-- ---- one root child

-- a layer's stretches are what it alone gives
pub layer_runs : (roots : List (ItemOf Listed)) (kind : List ℕ) (k : ℕ) (x : ItemOf Listed) (end : ℤ)
    (s : List Stretch) → is_layer kind x ≡ true
    → AreRuns roots (holder k 0 (pos 0) (items_in x)) end (pos 0) s
    → AreRuns roots (giver k kind (x ∷ [])) end (pos 0) s
layer_runs roots kind k x end s e r =
    runs_as roots (holder k 0 (pos 0) (items_in x)) (giver k kind (x ∷ [])) end (pos 0) s (λ w. rw e refl) r

pub other_runs : (roots : List (ItemOf Listed)) (kind : List ℕ) (k : ℕ) (x : ItemOf Listed) (end : ℤ)
    (s : List Stretch) → is_layer kind x ≡ false → AreRuns roots (λ w. None) end (pos 0) s
    → AreRuns roots (giver k kind (x ∷ [])) end (pos 0) s
other_runs roots kind k x end s e r =
    runs_as roots (λ w. None) (giver k kind (x ∷ [])) end (pos 0) s (λ w. rw e refl) r

-- ---- what one item gives, and how long the longest layer is

pub given_yes : (x : ItemOf Listed) (k i : ℕ) (at : ℤ) → gives x ≡ true
    → Some (record { track = k; child = i; start = at }) ≡ given_by x k i at
given_yes x k i at e = rw e refl

pub given_no : (x : ItemOf Listed) (k i : ℕ) (at : ℤ) → gives x ≡ false → None ≡ given_by x k i at
given_no x k i at e = rw e refl

pub longer_other : (kind : List ℕ) (x : ItemOf Listed) (end : ℤ) → is_layer kind x ≡ false
    → end ≡ longer kind x end
longer_other kind x end e = rw e refl

pub longer_more : (kind : List ℕ) (x : ItemOf Listed) (end n : ℤ) → is_layer kind x ≡ true
    → n ≡ ticks x → end <ℤ n → n ≡ longer kind x end
longer_more kind x end n e d h =
    let f = below-int_lt end (ticks x) (subst (λ z. end <ℤ z) d h) in rw (e, f) d

pub longer_same : (kind : List ℕ) (x : ItemOf Listed) (end n : ℤ) → n ≡ ticks x → n ≤ℤ end
    → end ≡ longer kind x end
longer_same kind x end n d h =
    let f = above-int_lt end (ticks x) (subst (λ z. z ≤ℤ end) d h) in of (is_layer kind x) f
  where
    of : (b : Bool) → int_lt end (ticks x) ≡ false
        → end ≡ cond (b && int_lt end (ticks x)) (ticks x) end
    of true f = rw f refl
    of false f = refl

pub longest_next : (kind : List ℕ) (l : List (ItemOf Listed)) (n : ℕ) (x : ItemOf Listed)
    (end now : ℤ) → 0 < n → slice_get l (n - 1) ≡ Some x → end ≡ longest kind (drop n l)
    → now ≡ longer kind x end → now ≡ longest kind (drop (n - 1) l)
longest_next kind l n x end now h e f g =
    g ∙ ap (longer kind x) f
    ∙ sym (ap (longest kind) (next l (n - 1) x e ∙ ap (λ m. x ∷ drop m l) (let k : (n - 1) + 1 ≡ n = omega (arith, h) in k)))
