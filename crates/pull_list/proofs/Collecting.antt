-- How the frames of what is shown are collected.
use Rattle.std.proofs.Common.{◌≡◌, refl, sym, ap, subst, ◌∙◌, ℕ, zero, suc, ◌+◌, ◌<◌, ℤ, ◌⊎◌, inl, inr, Bool, true, false, not, ◌&&◌, ◌||◌, cond, List, [], ◌∷◌, ◌++◌, length, map, get_or, Some, slice_get, IfOk, OnOk, arith}
use Rattle.std.specs.List.{Contains}
use Rattle.std.specs.Prelude.{Result, Ok, Err, unsigned_abs}
use Rattle.std.specs.declared.alloc.AllocError.{AllocError}
use Rattle.std.proofs.lemmas.Option.{same_Some}
use Rattle.otio_model.specs.declared.compositions.Clip.{Clip as ClipRow}
use Rattle.otio_model.specs.declared.compositions.ItemOf.{ItemOf}
use Rattle.otio_model.specs.declared.compositions.Listed.{Listed}
use Rattle.otio_model.specs.Trees.{items_of}
use Rattle.coord.specs.Images.{frame_number}
use Rattle.coord.specs.Keys.{key_of, media_rate}
use Rattle.coord.specs.Sights.{exact, framed}
use Rattle.coord.specs.Looks.{Show, Blank, Frame, Mix, Weight, is_blank, mixed, weight}
use Rattle.show_prog.specs.Spots.{Spot, below_index, spots, spots_from, spots_of}
use Rattle.show_prog.proofs.SpotLemmas.{spots_are}
use Rattle.pull_list.specs.Found.{Collects, HasClip, IsShown, IsTaken, Takes, TakesFrame, clips_in, clips_of_item}
use Rattle.pull_list.specs.Labels.{HasNumber, IsNumber}
use Rattle.pull_list.specs.Runs.{Adds, Each, Has, IsRun}
use Rattle.pull_list.specs.Used.{ClipGroup, IsSeen}
use Rattle.pull_list.specs.Wanted.{IsOf}
use Rattle.pull_list.specs.declared.runs.Run.{Run}
use Rattle.show_prog.proofs.ShowLemmas.{blank_is}

-- ---- one frame

pub on_ok_taken : (r : Result (Unit {0}) AllocError) (groups : List ClipGroup) (g : ClipGroup) (v : ℤ)
    (old new : List Run) (k : ℕ) → IsNumber groups g k → OnOk r (Adds old new k v)
    → OnOk r (TakesFrame groups g v old new)
on_ok_taken (Ok u) groups g v old new k is adds = inl (record { number = k; is = is; adds = adds })
on_ok_taken (Err e) groups g v old new k is adds = tt

takes_known : (groups : List ClipGroup) (g : ClipGroup) (m : ℤ) (old new : List Run)
    → IsTaken groups g (frame_number m g.rate) old new → Each IsRun old
    → Takes groups old new (Frame g.key m g.rate)
takes_known groups g m old new taken runs = record {
  has = λ k v. (λ h. there k v ((taken.adds.has k v).0 h), λ h. (taken.adds.has k v).1 (back k v h));
  runs = taken.adds.runs runs;
  within = taken.adds.within;
}
  where
    there : (k : ℕ) (v : ℤ) → Has old k v ⊎ ((k ≡ taken.number) × (v ≡ frame_number m g.rate))
        → Has old k v ⊎ IsShown groups (Frame g.key m g.rate) k v
    there k v (inl h) = inl h
    there k v (inr h) = inr (record {
      group = g;
      at = subst (λ j. slice_get groups j ≡ Some g) (sym h.0) taken.is.at;
      seen = (refl, refl, sym h.1);
    })

    back : (k : ℕ) (v : ℤ) → Has old k v ⊎ IsShown groups (Frame g.key m g.rate) k v
        → Has old k v ⊎ ((k ≡ taken.number) × (v ≡ frame_number m g.rate))
    back k v (inl h) = inl h
    back k v (inr h) =
        let key = sym h.seen.0 in let rate = sym h.seen.1 in
        let same : h.group ≡ g = λ i. record { key = key i; rate = rate i } in
        inr (taken.is.only k (subst (λ x. slice_get groups k ≡ Some x) same h.at), sym h.seen.2)

takes_unknown : (groups : List ClipGroup) (g : ClipGroup) (m : ℤ) (old new : List Run)
    → (HasNumber groups g → ⊥) → new ≡ old → Each IsRun old
    → Takes groups old new (Frame g.key m g.rate)
takes_unknown groups g m old new none e runs = subst (λ x. Takes groups old x (Frame g.key m g.rate)) (sym e)
    (record {
      has = λ k v. (λ h. inl h, by k v);
      runs = runs;
      within = λ h. h;
    })
  where
    by : (k : ℕ) (v : ℤ) → Has old k v ⊎ IsShown groups (Frame g.key m g.rate) k v → Has old k v
    by k v (inl h) = h
    by k v (inr h) =
        let key = sym h.seen.0 in let rate = sym h.seen.1 in
        let same : h.group ≡ g = λ i. record { key = key i; rate = rate i } in
        absurd (none (k, subst (λ x. slice_get groups k ≡ Some x) same h.at))

takes_frame : (groups : List ClipGroup) (g : ClipGroup) (m : ℤ) (old new : List Run)
    → TakesFrame groups g (frame_number m g.rate) old new → Each IsRun old
    → Takes groups old new (Frame g.key m g.rate)
takes_frame groups g m old new (inl taken) runs = takes_known groups g m old new taken runs
takes_frame groups g m old new (inr none) runs = takes_unknown groups g m old new none.0 none.1 runs

pub collects_frame : (groups : List ClipGroup) (g : ClipGroup) (clip : ClipRow) (m v : ℤ) (old new : List Run)
    → TakesFrame groups g v old new → v ≡ frame_number m g.rate → IsOf g clip → Each IsRun old
    → Collects groups (clip ∷ []) old new true (Frame g.key m g.rate)
collects_frame groups g clip m v old new taken e is runs = record {
  takes = takes_frame groups g m old new (subst (λ x. TakesFrame groups g x old new) e taken) runs;
  told = refl;
  among = λ h w seen. record {
    clip = clip;
    among = (0, omega arith, refl);
    is = (is.0 ∙ seen.0, is.1 ∙ ap Some seen.1);
  };
}

-- ---- nothing

pub collects_blank : (groups : List ClipGroup) (clips : List ClipRow) (old : List Run) (s : Show)
    → s ≡ Blank → Each IsRun old → Collects groups clips old old false s
collects_blank groups clips old s e runs = subst (Collects groups clips old old false) (sym e) (record {
  takes = record {
    has = λ k v. (λ h. inl h, by k v);
    runs = runs;
    within = λ h. h;
  };
  told = refl;
  among = λ g v seen. absurd seen;
})
  where
    by : (k : ℕ) (v : ℤ) → Has old k v ⊎ IsShown groups Blank k v → Has old k v
    by k v (inl h) = h
    by k v (inr h) = absurd h.seen

-- ---- the same shown, among more clips

pub collects_as : (groups : List ClipGroup) (clips more : List ClipRow) (old new : List Run) (any : Bool)
    (s t : Show) → Collects groups clips old new any s → s ≡ t
    → ((c : ClipRow) → Contains clips c → Contains more c) → Collects groups more old new any t
collects_as groups clips more old new any s t c e f = subst (Collects groups more old new any) e (record {
  takes = c.takes;
  told = c.told;
  among = λ g v seen. let h = c.among g v seen in
      record { clip = h.clip; among = f h.clip h.among; is = h.is };
})

pub same_clips : {A : Type 0} (xs : List A) (c : A) → Contains xs c → Contains xs c
same_clips xs c h = h

-- ---- a mix

seen_some : (g : ClipGroup) (v : ℤ) (s : Show) → IsSeen g v s → is_blank s ≡ false
seen_some g v Blank h = absurd h
seen_some g v (Frame k m r) h = refl
seen_some g v (Mix k a b w) h = refl

seen_mixed : (t : Bool) (g : ClipGroup) (v : ℤ) (kind : List ℕ) (a b : Show) (w : Weight)
    → IsSeen g v (cond t Blank (Mix kind a b w)) → IsSeen g v a ⊎ IsSeen g v b
seen_mixed true g v kind a b w h = absurd h
seen_mixed false g v kind a b w h = h

mixed_seen : (t : Bool) (g : ClipGroup) (v : ℤ) (kind : List ℕ) (a b : Show) (w : Weight)
    → (t ≡ true → ⊥) → IsSeen g v a ⊎ IsSeen g v b → IsSeen g v (cond t Blank (Mix kind a b w))
mixed_seen true g v kind a b w some h = absurd (some refl)
mixed_seen false g v kind a b w some h = h

both_blank : (p q : Bool) → (p && q) ≡ true → (p ≡ false) ⊎ (q ≡ false) → ⊥
both_blank true true e (inl h) = cc h
both_blank true true e (inr h) = cc h
both_blank true false e h = cc e
both_blank false q e h = cc e

told_mixed : (p q : Bool) (kind : List ℕ) (a b : Show) (w : Weight)
    → (not p || not q) ≡ not (is_blank (cond (p && q) Blank (Mix kind a b w)))
told_mixed true true kind a b w = refl
told_mixed true false kind a b w = refl
told_mixed false true kind a b w = refl
told_mixed false false kind a b w = refl

pub collects_mixed : (groups : List ClipGroup) (clips : List ClipRow) (old mid new : List Run)
    (p q any : Bool) (kind : List ℕ) (a b : Show) (part whole : ℤ) → Collects groups clips old mid p a
    → Collects groups clips mid new q b → any ≡ (p || q)
    → Collects groups clips old new any (mixed kind a b part whole)
collects_mixed groups clips old mid new p q any kind a b part whole c d e = record {
  takes = record {
    has = λ k v. (
      λ h. there k v ((d.takes.has k v).0 h),
      λ h. (d.takes.has k v).1 (back k v h),
    );
    runs = d.takes.runs;
    within = λ h. d.takes.within (c.takes.within h);
  };
  told = e ∙ ap (λ x. x || q) c.told ∙ ap (λ x. not (is_blank a) || x) d.told
      ∙ told_mixed (is_blank a) (is_blank b) kind a b w;
  among = λ g v seen. by g v (seen_mixed (is_blank a && is_blank b) g v kind a b w seen);
}
  where
    w : Weight
    w = weight (unsigned_abs part) (unsigned_abs whole)

    by : (g : ClipGroup) (v : ℤ) → IsSeen g v a ⊎ IsSeen g v b → HasClip clips g
    by g v (inl h) = c.among g v h
    by g v (inr h) = d.among g v h

    some : (g : ClipGroup) (v : ℤ) → IsSeen g v a ⊎ IsSeen g v b → (is_blank a && is_blank b) ≡ true → ⊥
    some g v (inl h) t = both_blank (is_blank a) (is_blank b) t (inl (seen_some g v a h))
    some g v (inr h) t = both_blank (is_blank a) (is_blank b) t (inr (seen_some g v b h))

    shown : (k : ℕ) (v : ℤ) (g : ClipGroup) → slice_get groups k ≡ Some g → IsSeen g v a ⊎ IsSeen g v b
        → IsShown groups (mixed kind a b part whole) k v
    shown k v g at h = record {
      group = g;
      at = at;
      seen = mixed_seen (is_blank a && is_blank b) g v kind a b w (some g v h) h;
    }

    there : (k : ℕ) (v : ℤ) → Has mid k v ⊎ IsShown groups b k v
        → Has old k v ⊎ IsShown groups (mixed kind a b part whole) k v
    there k v (inr h) = inr (shown k v h.group h.at (inr h.seen))
    there k v (inl h) = first ((c.takes.has k v).0 h)
      where
        first : Has old k v ⊎ IsShown groups a k v
            → Has old k v ⊎ IsShown groups (mixed kind a b part whole) k v
        first (inl j) = inl j
        first (inr j) = inr (shown k v j.group j.at (inl j.seen))

    back : (k : ℕ) (v : ℤ) → Has old k v ⊎ IsShown groups (mixed kind a b part whole) k v
        → Has mid k v ⊎ IsShown groups b k v
    back k v (inl h) = inl ((c.takes.has k v).1 (inl h))
    back k v (inr h) = side (seen_mixed (is_blank a && is_blank b) h.group v kind a b w h.seen)
      where
        side : IsSeen h.group v a ⊎ IsSeen h.group v b → Has mid k v ⊎ IsShown groups b k v
        side (inl j) = inl ((c.takes.has k v).1 (inr (record { group = h.group; at = h.at; seen = j })))
        side (inr j) = inr (record { group = h.group; at = h.at; seen = j })

-- ---- what shows nothing, and then what shows something

pub collects_after : (groups : List ClipGroup) (clips : List ClipRow) (old mid new : List Run)
    (any : Bool) (a b : Show) → Collects groups clips old mid false a
    → Collects groups clips mid new any b → Collects groups clips old new any b
collects_after groups clips old mid new any a b c d = record {
  takes = record {
    has = λ k v. (
      λ h. there k v ((d.takes.has k v).0 h),
      λ h. (d.takes.has k v).1 (back k v h),
    );
    runs = d.takes.runs;
    within = λ h. d.takes.within (c.takes.within h);
  };
  told = d.told;
  among = d.among;
}
  where
    none : (k : ℕ) (v : ℤ) → IsShown groups a k v → ⊥
    none k v h = let e = seen_some h.group v a h.seen in let f = c.told ∙ ap not e in cc f

    there : (k : ℕ) (v : ℤ) → Has mid k v ⊎ IsShown groups b k v → Has old k v ⊎ IsShown groups b k v
    there k v (inr h) = inr h
    there k v (inl h) = by ((c.takes.has k v).0 h)
      where
        by : Has old k v ⊎ IsShown groups a k v → Has old k v ⊎ IsShown groups b k v
        by (inl j) = inl j
        by (inr j) = absurd (none k v j)

    back : (k : ℕ) (v : ℤ) → Has old k v ⊎ IsShown groups b k v → Has mid k v ⊎ IsShown groups b k v
    back k v (inl h) = inl ((c.takes.has k v).1 (inl h))
    back k v (inr h) = inr h

-- where nothing was collected, nothing is shown
pub told_blank : (groups : List ClipGroup) (clips : List ClipRow) (old new : List Run) (s : Show)
    → Collects groups clips old new false s → is_blank s ≡ true
told_blank groups clips old new s c = by (is_blank s) c.told
  where
    by : (b : Bool) → false ≡ not b → b ≡ true
    by true e = refl
    by false e = absurd (cc e)

pub told_some : (groups : List ClipGroup) (clips : List ClipRow) (old new : List Run) (s : Show)
    → Collects groups clips old new true s → is_blank s ≡ false
told_some groups clips old new s c = by (is_blank s) c.told
  where
    by : (b : Bool) → true ≡ not b → b ≡ false
    by true e = absurd (cc e)
    by false e = refl

-- ---- clips below an item

pub contains_front : {A : Type 0} (xs ys : List A) (c : A) (i : ℕ) → i < length xs → get_or xs i c ≡ c
    → Contains (xs ++ ys) c
contains_front [] ys c i lt e = absurd (omega (arith, lt))
contains_front (x ∷ xs) ys c zero lt e = (0, omega arith, e)
contains_front (x ∷ xs) ys c (suc i) lt e =
    let h = contains_front xs ys c i (omega (arith, lt)) e in
    (suc h.0, omega (arith, h.1), h.2)

pub contains_back : {A : Type 0} (xs ys : List A) (c : A) → Contains ys c → Contains (xs ++ ys) c
contains_back [] ys c h = h
contains_back (x ∷ xs) ys c h =
    let j = contains_back xs ys c h in (suc j.0, omega (arith, j.1), j.2)

abbrev pub clip_of : Spot → ClipRow
clip_of s = s.clip

pub clips_below : (i : ℕ) (found : List Spot) → map clip_of (below_index i found) ≡ map clip_of found
clips_below i [] = refl
clips_below i (s ∷ found) = ap (λ l. s.clip ∷ l) (clips_below i found)

pub clips_append : (xs ys : List Spot) → map clip_of (xs ++ ys) ≡ map clip_of xs ++ map clip_of ys
clips_append [] ys = refl
clips_append (x ∷ xs) ys = ap (λ l. x.clip ∷ l) (clips_append xs ys)

clips_at : (xs : List (ItemOf Listed)) (n j : ℕ) (x : ItemOf Listed) (c : ClipRow)
    → slice_get xs j ≡ Some x → Contains (clips_of_item x) c
    → Contains (map clip_of (spots_from spots n xs)) c
clips_at [] n zero x c e h = cc e
clips_at [] n (suc j) x c e h = cc e
clips_at (y ∷ xs) n zero x c e h =
    let same : y ≡ x = same_Some y x e in
    let k = subst (λ z. Contains (clips_of_item z) c) (sym same) h in
    subst (λ l. Contains l c) (sym (clips_append (below_index n (spots_of y)) (spots_from spots (n + 1) xs)))
    (subst (λ l. Contains (l ++ map clip_of (spots_from spots (n + 1) xs)) c) (sym (clips_below n (spots_of y)))
    (contains_front (clips_of_item y) (map clip_of (spots_from spots (n + 1) xs)) c k.0 k.1 k.2))
clips_at (y ∷ xs) n (suc j) x c e h =
    subst (λ l. Contains l c) (sym (clips_append (below_index n (spots_of y)) (spots_from spots (n + 1) xs)))
    (contains_back (map clip_of (below_index n (spots_of y))) (map clip_of (spots_from spots (n + 1) xs)) c
    (clips_at xs (n + 1) j x c e h))

pub clip_below : (l : Listed) (j : ℕ) (x : ItemOf Listed) → slice_get (items_of l) j ≡ Some x
    → (c : ClipRow) → Contains (clips_of_item x) c → Contains (clips_in l) c
clip_below l j x e c h =
    subst (λ s. Contains (map clip_of s) c) (spots_are l) (clips_at (items_of l) 0 j x c e h)

-- ---- results

pub ok_as : (r : Result Bool AllocError) (groups : List ClipGroup) (clips more : List ClipRow)
    (old new : List Run) (s t : Show) → IfOk r (λ any. Collects groups clips old new any s) → s ≡ t
    → ((c : ClipRow) → Contains clips c → Contains more c)
    → IfOk r (λ any. Collects groups more old new any t)
ok_as (Ok any) groups clips more old new s t c e f = collects_as groups clips more old new any s t c e f
ok_as (Err x) groups clips more old new s t c e f = tt

-- one child further down that shows nothing
pub collects_none : (groups mids : List ClipGroup) (clips below : List ClipRow) (old mid new : List Run)
    (s : Show) → Collects groups clips old mid false Blank → mids ≡ groups
    → Collects mids below mid new false s → ((c : ClipRow) → Contains below c → Contains clips c)
    → Collects groups clips old new false Blank
collects_none groups mids clips below old mid new s c e d f =
    collects_after groups clips old mid new false Blank Blank c
    (collects_as groups below clips mid new false s Blank
    (subst (λ g. Collects g below mid new false s) e d)
    (blank_is s (told_blank mids below mid new s d)) f)

-- one that shows something
pub collects_some : (groups mids : List ClipGroup) (clips below : List ClipRow) (old mid new : List Run)
    (s t : Show) → Collects groups clips old mid false Blank → mids ≡ groups
    → Collects mids below mid new true s → s ≡ t
    → ((c : ClipRow) → Contains below c → Contains clips c)
    → Collects groups clips old new true t
collects_some groups mids clips below old mid new s t c e d f g =
    collects_after groups clips old mid new true Blank t c
    (collects_as groups below clips mid new true s t
    (subst (λ h. Collects h below mid new true s) e d) f g)

-- ---- the two sides of a mix, as the code has them

pub or_left : (p q : Bool) → p ≡ true → p ≡ (p || q)
or_left true q e = refl
or_left false q e = absurd (cc e)

pub or_right : (p q : Bool) → p ≡ false → q ≡ (p || q)
or_right true q e = absurd (cc e)
or_right false q e = refl

pub mixed_by : (groups mids : List ClipGroup) (clips : List ClipRow) (old mid new : List Run)
    (p q any : Bool) (kind : List ℕ) (one other : ℤ → Show) (x y from to part whole : ℤ)
    → x ≡ from → y ≡ to → Collects groups clips old mid p (one x) → mids ≡ groups
    → Collects mids clips mid new q (other y) → any ≡ (p || q)
    → Collects groups clips old new any (mixed kind (one from) (other to) part whole)
mixed_by groups mids clips old mid new p q any kind one other x y from to part whole e f c g d h =
    collects_mixed groups clips old mid new p q any kind (one from) (other to) part whole
    (subst (λ z. Collects groups clips old mid p (one z)) e c)
    (subst (λ z. Collects groups clips mid new q (other z)) f
    (subst (λ k. Collects k clips mid new q (other y)) g d)) h

-- what a clip that isn't disabled shows
pub framed_is : (c : ClipRow) (kind : List ℕ) (m : ℤ) (g : ClipGroup) → c.enabled ≡ true → IsOf g c
    → Frame g.key m g.rate
    ≡ cond c.enabled (framed (exact kind) (key_of c) m (media_rate c)) Blank
framed_is c kind m g e is = rw (e, is.0, is.1) refl
