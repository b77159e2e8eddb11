-- Parts of a flat track that can't be cut from their clips, found part by part.
use Rattle.std.proofs.Common.{◌≡◌, refl, sym, subst, ap, ◌∙◌, ◌⊎◌, inl, inr, ℕ, zero, suc, ◌+◌, ◌<◌, ◌≤◌, ◌^◌, pos, ◌-ℤ◌, ◌&&◌, Bool, true, false, Option, Some, None, List, [], ◌∷◌, length, map, arith}
use Rattle.std.specs.Prelude.{slice_get, Contains}
use Rattle.otio_model.specs.declared.compositions.ItemOf.{ItemOf}
use Rattle.otio_model.specs.declared.compositions.ItemOf.TheVariants.{Clip, Gap, Transition, Stack, Track}
use Rattle.otio_model.specs.declared.compositions.Listed.{Listed}
use Rattle.otio_model.specs.Counts.{count}
use Rattle.otio_model.specs.Trees.{items_of, children_of}
use Rattle.coord.specs.Soundness.{Precedes, AreFaultless}
use Rattle.coord.proofs.Members.{got_below, child_few, index_few, same_some}
use Rattle.edits_law.proofs.Splice.{cases}
use Rattle.flat.specs.declared.faults.Cause.{Cause}
use Rattle.flat.specs.declared.faults.Cause.TheVariants as C
use Rattle.flat.specs.Roots.{is_track, items_in}
use Rattle.flat.specs.Pieces.{Giver, giver, longest, cuts_at, is_cut}
use Rattle.flat.specs.Blocked.{Blocks, IsFree, IsRefused}
use Rattle.flat.specs.Blocked as B
use Rattle.flat_law.proofs.Ones.{one_list}
use Rattle.pieces.specs.Short.{IsCuttable}
use Rattle.flat_stack.specs.declared.stretches.Given.{Given}
use Rattle.flat_stack.specs.declared.same_clips.Part.{Part}
use Rattle.flat_stack.specs.Runs.{giver_of, given_of, item_in, piece_of}
use Rattle.flat_stack.specs.declared.fault_places.Spot.{Spot}
use Rattle.flat_stack.specs.Misfits.{Misfits}
use Rattle.flat_stack.specs.Parts.{IsChildOf, AreAll}
use Rattle.flat_stack.specs.Refused.{IsRefusal, IsRefusedTo}
use Rattle.flat_stack.specs.Sought.{earlier, IsSought}
use Rattle.flat_stack.specs.Spots.{IsNear}
use Rattle.flat_stack.proofs.FirstLemmas.{below_or}
use Rattle.flat_stack.proofs.SoughtLemmas.{earlier_sought, sought_as}
use Rattle.pieces.proofs.Inner.{inner_short, inner_cuttable, root_faultless}

-- ---- a child of a track

pub track_items : (x : ItemOf Listed) (c : Listed) → is_track x ≡ true → children_of x ≡ Some c
    → items_in x ≡ items_of c
track_items (Clip y) c e f = absurd (cc e)
track_items (Gap y) c e f = absurd (cc e)
track_items (Transition y) c e f = absurd (cc e)
track_items (Stack y) c e f = absurd (cc e)
track_items (Track y) c e f = ap items_of (same_some y.children c f)

pub track_some : (x : ItemOf Listed) → is_track x ≡ true → children_of x ≡ None → ⊥
track_some (Clip y) e f = cc e
track_some (Gap y) e f = cc e
track_some (Transition y) e f = cc e
track_some (Stack y) e f = cc e
track_some (Track y) e f = cc f

track_children : (x : ItemOf Listed) → is_track x ≡ true → (c : Listed) × (children_of x ≡ Some c)
track_children (Clip y) e = absurd (cc e)
track_children (Gap y) e = absurd (cc e)
track_children (Transition y) e = absurd (cc e)
track_children (Stack y) e = absurd (cc e)
track_children (Track y) e = (y.children, refl)

-- its root child is the one there
pub root_is : (l : List (ItemOf Listed)) (k i : ℕ) (x r : ItemOf Listed) → IsChildOf l k i x
    → slice_get l k ≡ Some r → (is_track r ≡ true) × (slice_get (items_in r) i ≡ Some x)
root_is l k i x r h e =
    let same : h.root ≡ r = same_some h.root r (sym h.there ∙ e) in (
      ap is_track (sym same) ∙ h.is,
      ap (λ (z : ItemOf Listed). slice_get (items_in z) i) (sym same) ∙ h.inner,
    )

pub child_at : (l : List (ItemOf Listed)) (k i : ℕ) (x y r : ItemOf Listed) (c : Listed)
    → IsChildOf l k i x → slice_get l k ≡ Some r → children_of r ≡ Some c
    → slice_get (items_of c) i ≡ Some y → IsChildOf l k i y
child_at l k i x y r c h e f g =
    let root = root_is l k i x r h e in
    record {
      root = r;
      there = e;
      is = root.0;
      inner = ap (λ m. slice_get m i) (track_items r c root.0 f) ∙ g;
    }

pub child_below : (l : List (ItemOf Listed)) (k i : ℕ) (x r : ItemOf Listed) (c : Listed)
    → IsChildOf l k i x → slice_get l k ≡ Some r → children_of r ≡ Some c → i < length (items_of c)
child_below l k i x r c h e f =
    let root = root_is l k i x r h e in
    got_below (items_of c) i x (ap (λ m. slice_get m i) (sym (track_items r c root.0 f)) ∙ root.1)

-- there is one child there
pub child_one : (l : List (ItemOf Listed)) (k i : ℕ) (x y : ItemOf Listed) → IsChildOf l k i x
    → IsChildOf l k i y → x ≡ y
child_one l k i x y g h =
    let root = root_is l k i x h.root g h.there in same_some x y (sym root.1 ∙ h.inner)

pub child_item : (l : List (ItemOf Listed)) (k i : ℕ) (x : ItemOf Listed) → IsChildOf l k i x
    → item_in (slice_get l k) i ≡ x
child_item l k i x h =
    ap (λ o. item_in o i) h.there
    ∙ ap (λ o. elim o [ None ↦ Rattle.edits.specs.Children.plain_gap | Some z ↦ z ]) h.inner

pub child_cuttable : (l : Listed) (k i : ℕ) (x : ItemOf Listed) → IsChildOf (items_of l) k i x
    → AreFaultless l → count l < 2 ^ 32 → IsCuttable x
child_cuttable l k i x h s few =
    let c = track_children h.root h.is in
    inner_cuttable h.root c.0 c.1 (root_faultless l k h.root s h.there) (child_few l k h.root h.there few) i x
    (ap (λ m. slice_get m i) (sym (track_items h.root c.0 h.is c.1)) ∙ h.inner)

pub child_near : (l : Listed) (k i : ℕ) (x : ItemOf Listed) (c : Cause) → IsChildOf (items_of l) k i x
    → count l < 2 ^ 32 → IsNear (record { cause = c; track = k; child = Some i })
child_near l k i x c h few =
    let inner = track_children h.root h.is in
    let low = child_below (items_of l) k i x h.root inner.0 h h.there inner.1 in
    let high = inner_short h.root inner.0 inner.1 (child_few l k h.root h.there few) in
    record {
      track = index_few l k (got_below (items_of l) k h.root h.there) few;
      child = omega (arith, low, high);
    }

-- ---- one part

no_self : (k i : ℕ) → Precedes (k ∷ i ∷ []) (k ∷ i ∷ []) → ⊥
no_self k i (inl a) = omega (arith, a)
no_self k i (inr (e, inl a)) = omega (arith, a)
no_self k i (inr (e, inr (f, h))) = h

-- the part's clip, cut or not
cut_of : (l : List (ItemOf Listed)) (p : Part) (g : Given) (x : ItemOf Listed)
    → IsChildOf l g.track g.child x
    → is_cut (piece_of l p) (giver_of l g)
    ≡ (cuts_at x (p.from -ℤ g.start) && cuts_at x (p.to -ℤ g.start))
cut_of l p g x h =
    ap (λ z. cuts_at z (p.from -ℤ g.start) && cuts_at z (p.to -ℤ g.start)) (child_item l g.track g.child x h)

pub given_is : (l : List (ItemOf Listed)) (p : Part) (g : Given) → p.given ≡ Some g
    → (piece_of l p).of ≡ Some (giver_of l g)
given_is l p g e = ap (given_of l) e

pub part_refused : (l : List (ItemOf Listed)) (p : Part) (g : Given) (x : ItemOf Listed) (b : Bool)
    → p.given ≡ Some g → IsChildOf l g.track g.child x
    → b ≡ (cuts_at x (p.from -ℤ g.start) && cuts_at x (p.to -ℤ g.start)) → b ≡ false
    → IsSought (IsRefusal (piece_of l p))
    (Some (record { cause = C.Phase; track = g.track; child = Some g.child }))
part_refused l p g x b e h f n = record {
  there = record {
    of = giver_of l g;
    gives = given_is l p g e;
    refused = cut_of l p g x h ∙ sym f ∙ n;
    at = refl;
    cause = refl;
  };
  first = λ before d o r.
      let same : giver_of l g ≡ r.of = same_some (giver_of l g) r.of (sym (given_is l p g e) ∙ r.gives) in
      let place : before ≡ g.track ∷ g.child ∷ [] = r.at ∙ ap (λ (q : Giver). q.track ∷ q.child ∷ []) (sym same) in
      no_self g.track g.child (subst (λ q. Precedes q (g.track ∷ g.child ∷ [])) place o);
}

-- ---- the loop over the parts

pub none_refused : (l : List (ItemOf Listed)) (parts : List Part)
    → IsFree (IsRefusedTo l parts 0)
none_refused l parts = λ place c r. let k = r.less in omega (arith, k)

pub refused_more : (l : List (ItemOf Listed)) (parts : List Part) (n : ℕ) (p : Part)
    (a b : Option Spot) → IsSought (IsRefusedTo l parts n) a → slice_get parts n ≡ Some p
    → IsSought (IsRefusal (piece_of l p)) b → IsSought (IsRefusedTo l parts (n + 1)) (earlier a b)
refused_more l parts n p a b f e g =
    earlier_sought (IsRefusedTo l parts n) (IsRefusal (piece_of l p)) (IsRefusedTo l parts (n + 1)) a b
    (λ place c r. of place c r (below_or r.index n r.less))
    (λ place c r. record {
      index = r.index;
      less = let k = r.less in omega (arith, k);
      part = r.part;
      there = r.there;
      refusal = r.refusal;
    })
    (λ place c r. record { index = n; less = omega arith; part = p; there = e; refusal = r })
    f g
  where
    of : (place : List ℕ) (c : Cause) → (r : IsRefusedTo l parts (n + 1) place c)
        → (r.index < n) ⊎ (r.index ≡ n)
        → IsRefusedTo l parts n place c ⊎ IsRefusal (piece_of l p) place c
    of place c r (inl less) = inl (record {
      index = r.index;
      less = less;
      part = r.part;
      there = r.there;
      refusal = r.refusal;
    })
    of place c r (inr same) =
        let is : r.part ≡ p = same_some r.part p (sym r.there ∙ ap (slice_get parts) same ∙ e) in
        inr (subst (λ q. IsRefusal (piece_of l q) place c) is r.refusal)

pub refused_all : (l : List (ItemOf Listed)) (parts : List Part) (n : ℕ) (a : Option Spot)
    → length parts ≤ n → IsSought (IsRefusedTo l parts n) a
    → IsSought (IsRefusedTo l parts (length parts)) a
refused_all l parts n a h f =
    sought_as (IsRefusedTo l parts n) (IsRefusedTo l parts (length parts)) a
    (λ place c r. record {
      index = r.index;
      less = got_below parts r.index r.part r.there;
      part = r.part;
      there = r.there;
      refusal = r.refusal;
    })
    (λ place c r. record {
      index = r.index;
      less = let k = r.less in omega (arith, k, h);
      part = r.part;
      there = r.there;
      refusal = r.refusal;
    }) f

-- ---- what is wrong at all

mapped_in : {A B : Type 0} (f : A → B) (xs : List A) (i : ℕ) (x : A) → slice_get xs i ≡ Some x
    → Contains (map f xs) (f x)
mapped_in f [] i x e = absurd (cc e)
mapped_in f (y ∷ xs) zero x e = (0, omega arith, ap f (same_some y x e))
mapped_in f (y ∷ xs) (suc i) x e =
    let c = mapped_in f xs i x e in let h = c.1 in (suc c.0, omega (arith, h), c.2)

in_mapped : {A B : Type 0} (f : A → B) (xs : List A) (y : B) → Contains (map f xs) y
    → (i : ℕ) × (x : A) × (slice_get xs i ≡ Some x) × (f x ≡ y)
in_mapped f [] y (i, h, e) = absurd (omega (arith, h))
in_mapped f (x ∷ xs) y (zero, h, e) = (0, x, refl, e)
in_mapped f (x ∷ xs) y (suc i, h, e) =
    let r = in_mapped f xs y (i, omega (arith, h), e) in (suc r.0, r.1, r.2, r.3)

-- a refused part refuses its clip
pub refused_blocks : (kind : List ℕ) (l : List (ItemOf Listed)) (parts : List Part) (n : ℕ)
    (place : List ℕ) (c : Cause) → AreAll kind l parts → IsRefusedTo l parts n place c
    → Blocks kind l place c
refused_blocks kind l parts n place c all r =
    let f = r.refusal in
    subst (Blocks kind l place) (sym f.cause)
    (B.phase place (f.of).track (f.of).child f.at (record {
      pieces = map (piece_of l) parts;
      are = all;
      piece = piece_of l r.part;
      among = mapped_in (piece_of l) parts r.index r.part r.there;
      of = f.of;
      gives = f.gives;
      track = refl;
      child = refl;
      refused = f.refused;
    }))

-- a clip that is refused has a part that is
part_of_refused : (kind : List ℕ) (l : List (ItemOf Listed)) (parts : List Part) (k i : ℕ)
    (place : List ℕ) (c : Cause) → AreAll kind l parts → IsRefused kind l k i
    → place ≡ k ∷ i ∷ [] → c ≡ C.Phase → IsRefusedTo l parts (length parts) place c
part_of_refused kind l parts k i place c all r e f =
    let same = one_list (giver 0 kind l) (longest kind l) (pos 0) r.pieces (map (piece_of l) parts) r.are all in
    let m = in_mapped (piece_of l) parts r.piece (subst (λ q. Contains q r.piece) same r.among) in
    record {
      index = m.0;
      less = got_below parts m.0 m.1 m.2;
      part = m.1;
      there = m.2;
      refusal = subst (λ q. IsRefusal q place c) (sym m.3) (record {
        of = r.of;
        gives = r.gives;
        refused = r.refused;
        at = e ∙ ap (λ j. j ∷ i ∷ []) (sym r.track) ∙ ap (λ j. (r.of).track ∷ j ∷ []) (sym r.child);
        cause = f;
      });
    }

misfit_or : (kind : List ℕ) (l : List (ItemOf Listed)) (parts : List Part) (place : List ℕ)
    (c : Cause) → AreAll kind l parts → Blocks kind l place c
    → Misfits kind l place c ⊎ IsRefusedTo l parts (length parts) place c
misfit_or kind l parts _ _ all (B.no_track place k x e f g) =
    inl (B.no_track place k x e f g, λ h. cc h)
misfit_or kind l parts _ _ all (B.not_plain place k x e f g h) =
    inl (B.not_plain place k x e f g h, λ j. cc j)
misfit_or kind l parts _ _ all (B.nested place k i x y e f g h j) =
    inl (B.nested place k i x y e f g h j, λ m. cc m)
misfit_or kind l parts _ _ all (B.transition place k i x y e f g h j) =
    inl (B.transition place k i x y e f g h j, λ m. cc m)
misfit_or kind l parts _ _ all (B.phase place k i e r) =
    inr (part_of_refused kind l parts k i place C.Phase all r e refl)

pub all_sought : (kind : List ℕ) (l : List (ItemOf Listed)) (parts : List Part)
    (a b : Option Spot) → AreAll kind l parts → IsSought (Misfits kind l) a
    → IsSought (IsRefusedTo l parts (length parts)) b → IsSought (Blocks kind l) (earlier a b)
all_sought kind l parts a b all f g =
    earlier_sought (Misfits kind l) (IsRefusedTo l parts (length parts)) (Blocks kind l) a b
    (λ place c h. misfit_or kind l parts place c all h) (λ place c h. h.0)
    (λ place c h. refused_blocks kind l parts (length parts) place c all h) f g

-- where nothing is wrong each part can be cut
pub free_part : (kind : List ℕ) (l : List (ItemOf Listed)) (parts : List Part) (i : ℕ) (p : Part)
    (g : Giver) → AreAll kind l parts → IsFree (Blocks kind l) → slice_get parts i ≡ Some p
    → (piece_of l p).of ≡ Some g → is_cut (piece_of l p) g ≡ true
free_part kind l parts i p g all free there e = cases (is_cut (piece_of l p) g) (λ h. h)
    (λ h. absurd (free (g.track ∷ g.child ∷ []) C.Phase
    (refused_blocks kind l parts (i + 1) (g.track ∷ g.child ∷ []) C.Phase all (record {
      index = i;
      less = omega arith;
      part = p;
      there = there;
      refusal = record { of = g; gives = e; refused = h; at = refl; cause = refl };
    }))))
