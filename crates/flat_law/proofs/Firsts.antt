-- There is one first fault.
use Rattle.std.proofs.Common.{◌≡◌, refl, sym, subst, ap, ◌∙◌, ℕ, zero, suc, ◌+◌, ◌<◌, ℤ, pos, ◌+ℤ◌, ◌-ℤ◌, Bool, true, false, Option, Some, None, cond, List, [], ◌∷◌, length, arith}
use Rattle.std.specs.Prelude.{slice_get, slice_index_or}
use Rattle.std.specs.Option.{option_or}
use Rattle.std.proofs.lemmas.Int.{ints}
use Rattle.otio_model.specs.declared.compositions.ItemOf.{ItemOf}
use Rattle.otio_model.specs.declared.compositions.ItemOf.TheVariants.{Clip, Gap, Transition, Stack, Track}
use Rattle.otio_model.specs.declared.compositions.Listed.{Listed}
use Rattle.otio_model.specs.Overlaps.{within}
use Rattle.coord.proofs.Order.{same, before, behind, compared}
use Rattle.otio_model.specs.Trees.{is_transition}
use Rattle.edits.specs.Children.{ticks}
use Rattle.flat.specs.declared.faults.Cause.{Cause}
use Rattle.flat.specs.Roots.{is_nested, is_layer, items_in}
use Rattle.flat.specs.Pieces.{Giver, gives, holder, giver, longest, Piece, AreLongest, no_more, one_more}
use Rattle.flat.specs.Blocked.{IsRefused, Blocks, no_track, not_plain, nested, transition, phase, IsFirst}
use Rattle.flat.specs.Windowed.{WindowBlocks}
use Rattle.flat.specs.Windowed as W
use Rattle.flat.specs.Joined.{JoinBlocks}
use Rattle.flat.specs.Joined as J
use Rattle.flat_law.proofs.Givers.{giver_given}
use Rattle.coord.proofs.Members.{same_some}

-- ---- document order

-- where there is one cause at a place, there is one first fault
pub one_first : (has : List ℕ → Cause → Type 0) → ((p : List ℕ) (c d : Cause) → has p c → has p d → c ≡ d) → (p q : List ℕ) (c d : Cause) → IsFirst has p c → IsFirst has q d → (p ≡ q) × (c ≡ d)
one_first has one p q c d a b = elim (compared p q) [
  | same e ↦ (e, one q c d (subst (λ z. has z c) e a.there) b.there)
  | before h ↦ absurd (b.first p c h a.there)
  | behind h ↦ absurd (a.first q d h b.there)
]

-- ---- one cause at a place

lengths_differ : (p : List ℕ) (k j i : ℕ) → p ≡ k ∷ [] → p ≡ j ∷ i ∷ [] → ⊥
lengths_differ p k j i e f = let g : 1 ≡ 2 = ap length (sym e ∙ f) in omega (arith, g)

window_cause : (l : List (ItemOf Listed)) (a b : ℤ) (p : List ℕ) (c d : Cause) → WindowBlocks l a b p c → WindowBlocks l a b p d → c ≡ d
window_cause l a b _ _ _ (W.not_plain p k x e f g) (W.not_plain _ j y h i m) = refl
window_cause l a b _ _ _ (W.not_plain p k x e f g) (W.phase _ j i y z h m n o) = absurd (lengths_differ p k j i e h)
window_cause l a b _ _ _ (W.phase p j i y z h m n o) (W.not_plain _ k x e f g) = absurd (lengths_differ p k j i e h)
window_cause l a b _ _ _ (W.phase p k i x y e f g h) (W.phase _ j n z w m o q r) = refl

join_cause : (s t : Bool) (l : List (ItemOf Listed)) (p : List ℕ) (c d : Cause) → JoinBlocks s t l p c → JoinBlocks s t l p d → c ≡ d
join_cause s t l _ _ _ (J.not_plain p k x e f g) (J.not_plain _ j y h i m) = refl
join_cause s t l _ _ _ (J.not_plain p k x e f g) (J.crossing _ j i y z o h m n q r v) = absurd (lengths_differ p k j i e h)
join_cause s t l _ _ _ (J.crossing p j i y z o h m n q r v) (J.not_plain _ k x e f g) = absurd (lengths_differ p k j i e h)
join_cause s t l _ _ _ (J.crossing p k i x y o e f g h m n) (J.crossing _ j q z w r u v a b c d) = refl

-- ---- the clip that a piece is of stands at its place

pub record IsHeldAt (l : List (ItemOf Listed)) (i : ℕ) (g : Giver) : Type 0 where
  pub at : ℕ
  pub child : g.child ≡ i + at
  pub there : slice_get l at ≡ Some g.item

pub holder_at : (k i : ℕ) (s : ℤ) (l : List (ItemOf Listed)) (w : ℤ) (g : Giver) → holder k i s l w ≡ Some g → IsHeldAt l i g × (g.track ≡ k)
holder_at k i s [] w g e = absurd (cc e)
holder_at k i s (x ∷ l) w g e = by (λ f. holder_at k (suc i) (s +ℤ ticks x) l (w -ℤ ticks x) g f) (within (pos 0) (ticks x) w) e
  where
    here : (c : Bool) → cond c (Some (record { track = k; child = i; start = s; item = x })) None ≡ Some g → IsHeldAt (x ∷ l) i g × (g.track ≡ k)
    here false m = absurd (cc m)
    here true m =
        let is : Path Giver (record { track = k; child = i; start = s; item = x }) g = cc m in
        (record { at = 0; child = ap (λ (q : Giver). q.child) (sym is) ∙ (let z : i ≡ i + 0 = omega arith in z); there = ap (λ (q : Giver). Some q.item) is }, ap (λ (q : Giver). q.track) (sym is))

    later : IsHeldAt l (suc i) g × (g.track ≡ k) → IsHeldAt (x ∷ l) i g × (g.track ≡ k)
    later h = let a = h.0 in let c = a.child in (record { at = suc a.at; child = omega (arith, c); there = a.there }, h.1)

    by : (holder k (suc i) (s +ℤ ticks x) l (w -ℤ ticks x) ≡ Some g → IsHeldAt l (suc i) g × (g.track ≡ k)) → (c : Bool)
        → cond c (cond (gives x) (Some (record { track = k; child = i; start = s; item = x })) None) (holder k (suc i) (s +ℤ ticks x) l (w -ℤ ticks x)) ≡ Some g → IsHeldAt (x ∷ l) i g × (g.track ≡ k)
    by rest true m = here (gives x) m
    by rest false m = later (rest m)

-- the giver's item stands at its index in the track at its index
pub record IsGivenAt (kind : List ℕ) (l : List (ItemOf Listed)) (k : ℕ) (g : Giver) : Type 0 where
  pub at : ℕ
  pub of : ItemOf Listed
  pub track : g.track ≡ k + at
  pub root : slice_get l at ≡ Some of
  pub layer : is_layer kind of ≡ true
  pub there : slice_get (items_in of) g.child ≡ Some g.item

pub giver_at : (k : ℕ) (kind : List ℕ) (l : List (ItemOf Listed)) (w : ℤ) (g : Giver) → giver k kind l w ≡ Some g → IsGivenAt kind l k g
giver_at k kind [] w g e = absurd (cc e)
giver_at k kind (x ∷ l) w g e = by (λ f. giver_at (suc k) kind l w g f) (giver (suc k) kind l w) refl e
  where
    here : (c : Bool) → is_layer kind x ≡ c → cond c (holder k 0 (pos 0) (items_in x) w) None ≡ Some g → IsGivenAt kind (x ∷ l) k g
    here true f m =
        let h = holder_at k 0 (pos 0) (items_in x) w g m in let a = h.0 in let c = a.child in
        let same : a.at ≡ g.child = omega (arith, c) in
        record { at = 0; of = x; track = h.1 ∙ (let z : k ≡ k + 0 = omega arith in z); root = refl; layer = f; there = ap (slice_get (items_in x)) (sym same) ∙ a.there }
    here false f m = absurd (cc m)

    later : IsGivenAt kind l (suc k) g → IsGivenAt kind (x ∷ l) k g
    later h = let t = h.track in record { at = suc h.at; of = h.of; track = omega (arith, t); root = h.root; layer = h.layer; there = h.there }

    by : (giver (suc k) kind l w ≡ Some g → IsGivenAt kind l (suc k) g) → (o : Option Giver) → giver (suc k) kind l w ≡ o
        → option_or o (cond (is_layer kind x) (holder k 0 (pos 0) (items_in x) w) None) ≡ Some g → IsGivenAt kind (x ∷ l) k g
    by rest None f m = here (is_layer kind x) refl m
    by rest (Some q) f m = later (rest (f ∙ m))

-- a piece is given at its start
piece_given : (g : ℤ → Option Giver) (end at : ℤ) (l : List Piece) (i : ℕ) (p : Piece) → AreLongest g end at l → i < length l → slice_index_or l i p ≡ p → (w : ℤ) × (g w ≡ p.of)
piece_given g end _ _ i p (no_more at l e f) h k = let z : length l ≡ 0 = ap length f in absurd (omega (arith, h, z))
piece_given g end _ _ i p (one_more at to q rest l m n each other more f) h k =
    of i (let z : length l ≡ suc (length rest) = ap length f in omega (arith, h, z)) (sym (ap (λ z. slice_index_or z i p) f) ∙ k) (λ j a b. piece_given g end to rest j p more a b)
  where
    of : (i : ℕ) → i < suc (length rest) → slice_index_or (record { from = at; to = to; of = q } ∷ rest) i p ≡ p → ((j : ℕ) → j < length rest → slice_index_or rest j p ≡ p → (w : ℤ) × (g w ≡ p.of)) → (w : ℤ) × (g w ≡ p.of)
    of zero h k next = (at, each at (omega (arith, ints)) m ∙ ap (λ (z : Piece). z.of) k)
    of (suc i) h k next = next i (omega (arith, h)) k

refused_clip : (kind : List ℕ) (l : List (ItemOf Listed)) (k i : ℕ) (x y : ItemOf Listed) → IsRefused kind l k i → slice_get l k ≡ Some x → slice_get (items_in x) i ≡ Some y → gives y ≡ true
refused_clip kind l k i x y r e f =
    let c = r.among in
    let w = piece_given (giver 0 kind l) (longest kind l) (pos 0) r.pieces c.0 r.piece r.are c.1 c.2 in
    let given : giver 0 kind l w.0 ≡ Some r.of = w.1 ∙ r.gives in
    let a = giver_at 0 kind l w.0 r.of given in
    let g = giver_given 0 kind l w.0 r.of given in
    let t = a.track in let tr = r.track in
    let root : a.at ≡ k = omega (arith, t, tr) in
    let is : a.of ≡ x = same_some a.of x (sym a.root ∙ ap (slice_get l) root ∙ e) in
    let it : (r.of).item ≡ y = same_some (r.of).item y (sym a.there ∙ ap (λ z. slice_get (items_in z) (r.of).child) is ∙ ap (slice_get (items_in x)) r.child ∙ f) in
    subst (λ z. gives z ≡ true) it g.clip

gives_not_nested : (x : ItemOf Listed) → gives x ≡ true → is_nested x ≡ true → ⊥
gives_not_nested (Clip c) e f = cc f
gives_not_nested (Gap c) e f = cc e
gives_not_nested (Transition c) e f = cc e
gives_not_nested (Stack c) e f = cc e
gives_not_nested (Track c) e f = cc e

gives_not_transition : (x : ItemOf Listed) → gives x ≡ true → is_transition x ≡ true → ⊥
gives_not_transition (Clip c) e f = cc f
gives_not_transition (Gap c) e f = cc e
gives_not_transition (Transition c) e f = cc e
gives_not_transition (Stack c) e f = cc e
gives_not_transition (Track c) e f = cc e

nested_not_transition : (x : ItemOf Listed) → is_nested x ≡ true → is_transition x ≡ true → ⊥
nested_not_transition (Clip c) e f = cc e
nested_not_transition (Gap c) e f = cc e
nested_not_transition (Transition c) e f = cc e
nested_not_transition (Stack c) e f = cc f
nested_not_transition (Track c) e f = cc f

-- two places that are one
record SamePlace (k i j n : ℕ) : Type 0 where
  root : k ≡ j
  child : i ≡ n

same_place : (p : List ℕ) (k i j n : ℕ) → p ≡ k ∷ i ∷ [] → p ≡ j ∷ n ∷ [] → SamePlace k i j n
same_place p k i j n e f = let g : Path (List ℕ) (k ∷ i ∷ []) (j ∷ n ∷ []) = sym e ∙ f in record { root = ap (λ l. slice_index_or l 0 0) g; child = ap (λ l. slice_index_or l 1 0) g }

same_item : (l : List (ItemOf Listed)) (k i j n : ℕ) (x y z w : ItemOf Listed) → SamePlace k i j n → slice_get l k ≡ Some x → slice_get (items_in x) i ≡ Some y → slice_get l j ≡ Some z → slice_get (items_in z) n ≡ Some w → y ≡ w
same_item l k i j n x y z w s a b c d =
    let one : x ≡ z = same_some x z (sym a ∙ ap (slice_get l) s.root ∙ c) in
    same_some y w (sym b ∙ ap (λ q. slice_get (items_in q) i) one ∙ ap (slice_get (items_in z)) s.child ∙ d)

clip_there : (kind : List ℕ) (l : List (ItemOf Listed)) (k i j n : ℕ) (x y : ItemOf Listed) → SamePlace k i j n → slice_get l k ≡ Some x → slice_get (items_in x) i ≡ Some y → IsRefused kind l j n → gives y ≡ true
clip_there kind l k i j n x y s a b r = refused_clip kind l j n x y r (ap (slice_get l) (sym s.root) ∙ a) (ap (slice_get (items_in x)) (sym s.child) ∙ b)

flat_cause : (kind : List ℕ) (l : List (ItemOf Listed)) (p : List ℕ) (c d : Cause) → Blocks kind l p c → Blocks kind l p d → c ≡ d
flat_cause kind l _ _ _ (no_track p k x e f g) (no_track _ j y h i m) = refl
flat_cause kind l _ _ _ (no_track p k x e f g) (not_plain _ j y h i m n) = refl
flat_cause kind l _ _ _ (no_track p k x e f g) (nested _ j i y z h m n o q) = refl
flat_cause kind l _ _ _ (no_track p k x e f g) (transition _ j i y z h m n o q) = absurd (lengths_differ p k j i e h)
flat_cause kind l _ _ _ (no_track p k x e f g) (phase _ j i h m) = absurd (lengths_differ p k j i e h)
flat_cause kind l _ _ _ (not_plain p k x e f g v) (no_track _ j y h i m) = refl
flat_cause kind l _ _ _ (not_plain p k x e f g v) (not_plain _ j y h i m n) = refl
flat_cause kind l _ _ _ (not_plain p k x e f g v) (nested _ j i y z h m n o q) = refl
flat_cause kind l _ _ _ (not_plain p k x e f g v) (transition _ j i y z h m n o q) = absurd (lengths_differ p k j i e h)
flat_cause kind l _ _ _ (not_plain p k x e f g v) (phase _ j i h m) = absurd (lengths_differ p k j i e h)
flat_cause kind l _ _ _ (nested p j i y z h m n o q) (no_track _ k x e f g) = refl
flat_cause kind l _ _ _ (nested p j i y z h m n o q) (not_plain _ k x e f g v) = refl
flat_cause kind l _ _ _ (nested p j i y z h m n o q) (nested _ k r x w a b c d e) = refl
flat_cause kind l _ _ _ (nested p j i y z h m n o q) (transition _ k r x w a b c d e) =
    absurd (nested_not_transition w (subst (λ u. is_nested u ≡ true) (same_item l j i k r y z x w (same_place p j i k r h a) m o b d) q) e)
flat_cause kind l _ _ _ (nested p j i y z h m n o q) (phase _ k r a b) = absurd (gives_not_nested z (clip_there kind l j i k r y z (same_place p j i k r h a) m o b) q)
flat_cause kind l _ _ _ (transition p j i y z h m n o q) (no_track _ k x e f g) = absurd (lengths_differ p k j i e h)
flat_cause kind l _ _ _ (transition p j i y z h m n o q) (not_plain _ k x e f g v) = absurd (lengths_differ p k j i e h)
flat_cause kind l _ _ _ (transition p j i y z h m n o q) (nested _ k r x w a b c d e) =
    absurd (nested_not_transition w e (subst (λ u. is_transition u ≡ true) (same_item l j i k r y z x w (same_place p j i k r h a) m o b d) q))
flat_cause kind l _ _ _ (transition p j i y z h m n o q) (transition _ k r x w a b c d e) = refl
flat_cause kind l _ _ _ (transition p j i y z h m n o q) (phase _ k r a b) = absurd (gives_not_transition z (clip_there kind l j i k r y z (same_place p j i k r h a) m o b) q)
flat_cause kind l _ _ _ (phase p k r a b) (no_track _ j x e f g) = absurd (lengths_differ p j k r e a)
flat_cause kind l _ _ _ (phase p k r a b) (not_plain _ j x e f g v) = absurd (lengths_differ p j k r e a)
flat_cause kind l _ _ _ (phase p k r a b) (nested _ j i y z h m n o q) = absurd (gives_not_nested z (clip_there kind l j i k r y z (same_place p j i k r h a) m o b) q)
flat_cause kind l _ _ _ (phase p k r a b) (transition _ j i y z h m n o q) = absurd (gives_not_transition z (clip_there kind l j i k r y z (same_place p j i k r h a) m o b) q)
flat_cause kind l _ _ _ (phase p k r a b) (phase _ j i h m) = refl

pub first_flat : (kind : List ℕ) (l : List (ItemOf Listed)) (p q : List ℕ) (c d : Cause) → IsFirst (Blocks kind l) p c → IsFirst (Blocks kind l) q d → (p ≡ q) × (c ≡ d)
first_flat kind l = one_first (Blocks kind l) (flat_cause kind l)

pub first_window : (l : List (ItemOf Listed)) (a b : ℤ) (p q : List ℕ) (c d : Cause) → IsFirst (WindowBlocks l a b) p c → IsFirst (WindowBlocks l a b) q d → (p ≡ q) × (c ≡ d)
first_window l a b = one_first (WindowBlocks l a b) (window_cause l a b)

pub first_join : (s t : Bool) (l : List (ItemOf Listed)) (p q : List ℕ) (c d : Cause) → IsFirst (JoinBlocks s t l) p c → IsFirst (JoinBlocks s t l) q d → (p ≡ q) × (c ≡ d)
first_join s t l = one_first (JoinBlocks s t l) (join_cause s t l)
