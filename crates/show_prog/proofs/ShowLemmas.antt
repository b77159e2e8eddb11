-- What tracks, stacks and mixes show, and what is seen of it.
use Rattle.std.proofs.Common.{◌≡◌, refl, sym, ap, ◌∙◌, subst, ℕ, zero, suc, ℤ, pos, ◌≤ℤ◌, ◌<ℤ◌, ◌&&◌, Bool, true, false, not, cond, List, [], ◌∷◌, ◌++◌, Some, None, take, slice_get, arith}
use Rattle.std.specs.Prelude.{Result, Ok, Err, IfOk, OnErr, unsigned_abs}
use Rattle.std.specs.Str.{bytes_eq}
use Rattle.std.specs.declared.alloc.AllocError.{AllocError}
use Rattle.std.proofs.lemmas.Int.{ints}
use Rattle.otio_model.specs.declared.compositions.StackOf.{StackOf}
use Rattle.otio_model.specs.declared.compositions.TrackOf.{TrackOf}
use Rattle.otio_model.specs.declared.compositions.ItemOf.{ItemOf}
use Rattle.otio_model.specs.declared.compositions.ItemOf.TheVariants.{Stack, Track}
use Rattle.otio_model.specs.declared.compositions.Listed.{Listed}
use Rattle.otio_model.specs.Trees.{items_of}
use Rattle.otio_model.specs.Lengths.{added, lengths, length_of, or_zero}
use Rattle.otio_model.specs.Overlaps.{within}
use Rattle.coord.specs.Looks.{Show, Blank, Frame, Mix, Look, Weight, weight, is_blank, blank, mixed, mix_shows, item_shows, track_shows, stack_shows}
use Rattle.coord.specs.Sights.{exact, View, sight, sights, seen, looks, shows_inside}
use Rattle.coord.specs.Images.{Image, Empty, Single, Mixture, Kind, image, is_empty, is_mix}
use Rattle.show_prog.specs.Pictures.{image_of, image_step}
use Rattle.show_prog.specs.Walk.{mixture}
use Rattle.show_prog.specs.declared.picture.Picture.{Picture}
use Rattle.show_prog.specs.declared.picture.Picture.TheVariants.{Blank as NoPicture}
use Rattle.show_prog.specs.declared.picture.Picture.TheOpen.{Picture-F}
use Rattle.show_prog.specs.declared.picture.Picture.TheFolds.{fold-roll-Picture}
use Rattle.coord.proofs.ImageLemmas.{empty_is}
use Rattle.coord.proofs.SightLemmas.{looks-items, look_length}
use Rattle.coord.proofs.LookSteps.{is_within, missed_before, missed_behind}
use Rattle.show_prog.proofs.Walk.{total_is}

pub image_of-Blank : image_of NoPicture ≡ Empty
unfolding Rattle.show_prog.specs.declared.picture.Picture.TheViews.roll-Picture denote.Hole.Carrier.roll
image_of-Blank = fold-roll-Picture Image image_step Picture-F.Blank

-- ---- results

pub ok_then : (r : Result Picture AllocError) (a b : Show) → IfOk r (λ p. image_of p ≡ image a) → a ≡ b → IfOk r (λ p. image_of p ≡ image b)
ok_then r a b h e = subst (λ (z : Show). IfOk r (λ p. image_of p ≡ image z)) e h

pub seen_then : (r : Result Picture AllocError) (a b : Image) → IfOk r (λ p. image_of p ≡ a) → a ≡ b → IfOk r (λ p. image_of p ≡ b)
seen_then r a b h e = subst (λ (z : Image). IfOk r (λ p. image_of p ≡ z)) e h

pub err_then : (r : Result Picture AllocError) (a b : Show) → OnErr r (is_mix a ≡ true) → a ≡ b → OnErr r (is_mix b ≡ true)
err_then r a b h e = subst (λ (z : Show). OnErr r (is_mix z ≡ true)) e h

pub err_map : (r : Result Picture AllocError) (P Q : Type 0) → OnErr r P → (P → Q) → OnErr r Q
err_map (Ok x) P Q h f = tt
err_map (Err e) P Q h f = f h

pub on_err : {T E : Type 0} (r : Result T E) (P : Type 0) → P → OnErr r P
on_err (Ok x) P h = tt
on_err (Err e) P h = h

-- ---- mixes

pub mix_not_blank : (s : Show) → is_mix s ≡ true → is_blank s ≡ false
mix_not_blank Blank e = absurd (cc e)
mix_not_blank (Frame k m r) e = refl
mix_not_blank (Mix k a b w) e = refl

seen_if : (t : Bool) (k : List ℕ) (a b : Show) (w : Weight) → cond t Empty (Mixture (Rattle.coord.specs.Images.kind_of k) (image a) (image b) w) ≡ image (cond t Blank (Mix k a b w))
seen_if true k a b w = refl
seen_if false k a b w = refl

-- what is seen of a mix
pub seen_mixed : (k : List ℕ) (a b : Show) (p w : ℤ) → mixture k (image a) (image b) p w ≡ image (mixed k a b p w)
seen_mixed k a b p w = rw (empty_is a, empty_is b) (seen_if (is_blank a && is_blank b) k a b (weight (unsigned_abs p) (unsigned_abs w)))

pub mixed_some : (k : List ℕ) (a b : Show) (p w : ℤ) → (is_blank a && is_blank b) ≡ false → is_mix (mixed k a b p w) ≡ true
mixed_some k a b p w e = rw e refl

pub mixed_from : (k : List ℕ) (a b : Show) (p w : ℤ) → is_mix a ≡ true → is_mix (mixed k a b p w) ≡ true
mixed_from k a b p w e = rw (mix_not_blank a e) refl

pub mixed_to : (k : List ℕ) (a b : Show) (p w : ℤ) → is_mix b ≡ true → is_mix (mixed k a b p w) ≡ true
mixed_to k a b p w e = rw (mix_not_blank b e) (by (is_blank a))
  where
    by : (t : Bool) → is_mix (cond (t && false) Blank (Mix k a b (weight (unsigned_abs p) (unsigned_abs w)))) ≡ true
    by true = refl
    by false = refl

-- ---- a track

pub inside_track : (t : TrackOf Listed) (kind : List ℕ) (m : ℤ) → t.enabled ≡ true → bytes_eq t.kind kind ≡ true → shows_inside sights (Track t) (exact kind) m ≡ track_shows (looks (exact kind) (items_of t.children)) m
inside_track t kind m e f = rw (e, f) (ap (λ l. track_shows l m) (looks-items (exact kind) t.children))

pub same_kind : (r : Bool) (a b k : List ℕ) → r ≡ not (bytes_eq a k) → r ≡ false → a ≡ b → bytes_eq b k ≡ true
same_kind r a b k e f g = subst (λ (z : List ℕ). bytes_eq z k ≡ true) g (by (bytes_eq a k) (sym e ∙ f))
  where
    by : (t : Bool) → not t ≡ false → t ≡ true
    by true h = refl
    by false h = absurd (cc h)

pub track_outside : (v : View) (l : Listed) (at : ℤ) → within (pos 0) (pos (added (lengths l))) at ≡ false → track_shows (looks v (items_of l)) at ≡ Blank
track_outside v l at e = rw (total_is v l, e) refl

pub track_mix : (v : View) (l : Listed) (at : ℤ) (s : Show) → within (pos 0) (pos (added (lengths l))) at ≡ true → mix_shows blank (looks v (items_of l)) at ≡ Some s → track_shows (looks v (items_of l)) at ≡ s
track_mix v l at s e f = rw (total_is v l, e, f) refl

pub track_item : (v : View) (l : Listed) (at : ℤ) → within (pos 0) (pos (added (lengths l))) at ≡ true → mix_shows blank (looks v (items_of l)) at ≡ None → track_shows (looks v (items_of l)) at ≡ item_shows (looks v (items_of l)) at
track_item v l at e f = rw (total_is v l, e, f) refl

-- ---- a stack, from its top

pub inside_stack : (t : StackOf Listed) (kind : List ℕ) (m : ℤ) → t.enabled ≡ true → shows_inside sights (Stack t) (exact kind) m ≡ stack_shows (looks (exact kind) (items_of t.children)) m
inside_stack t kind m e = rw e (ap (λ l. stack_shows l m) (looks-items (exact kind) t.children))

pub stack_before : (l : List Look) (m : ℤ) → m <ℤ pos 0 → stack_shows l m ≡ Blank
stack_before [] m h = refl
stack_before (x ∷ l) m h = rw (stack_before l m h, missed_before (pos 0) x.length m h) refl

-- what one item of a stack shows
abbrev pub one : Look → ℤ → Show
one x m = cond (within (pos 0) x.length m) (x.shows m) Blank

-- what is blank shows nothing
pub blank_is : (s : Show) → is_blank s ≡ true → s ≡ Blank
blank_is Blank e = refl
blank_is (Frame k m r) e = absurd (cc e)
blank_is (Mix k a b w) e = absurd (cc e)

stack-last : (l : List Look) (y : Look) (m : ℤ) → stack_shows (l ++ (y ∷ [])) m ≡ cond (is_blank (one y m)) (stack_shows l m) (one y m)
stack-last [] y m = same (one y m)
  where
    same : (s : Show) → s ≡ cond (is_blank s) Blank s
    same Blank = refl
    same (Frame k i r) = refl
    same (Mix k a b w) = refl
stack-last (x ∷ l) y m = rw (stack-last l y m) (by (one y m))
  where
    by : (s : Show) → cond (is_blank (cond (is_blank s) (stack_shows l m) s)) (one x m) (cond (is_blank s) (stack_shows l m) s) ≡ cond (is_blank s) (cond (is_blank (stack_shows l m)) (one x m) (stack_shows l m)) s
    by Blank = refl
    by (Frame k i r) = refl
    by (Mix k a b w) = refl

looks_take : (v : View) (l : List (ItemOf Listed)) (i : ℕ) (x : ItemOf Listed) → slice_get l i ≡ Some x → looks v (take (suc i) l) ≡ looks v (take i l) ++ (seen v (sight x) ∷ [])
looks_take v [] zero x e = absurd (cc e)
looks_take v [] (suc i) x e = absurd (cc e)
looks_take v (y ∷ l) zero x e = let same : y ≡ x = cc e in ap (λ z. seen v (sight z) ∷ []) same
looks_take v (y ∷ l) (suc i) x e = ap (λ m. seen v (sight y) ∷ m) (looks_take v l i x e)

-- one item further down, where the upper one shows nothing
pub stack_down : (v : View) (l : List (ItemOf Listed)) (n i : ℕ) (x : ItemOf Listed) (at : ℤ) (all : Show) → slice_get l i ≡ Some x → n ≡ suc i → all ≡ stack_shows (looks v (take n l)) at
    → one (seen v (sight x)) at ≡ Blank → all ≡ stack_shows (looks v (take i l)) at
stack_down v l n i x at all get e same nothing =
    same ∙ ap (λ k. stack_shows (looks v (take k l)) at) e ∙ ap (λ k. stack_shows k at) (looks_take v l i x get)
    ∙ stack-last (looks v (take i l)) (seen v (sight x)) at ∙ rw nothing refl

-- the upper item shows something
pub stack_here : (v : View) (l : List (ItemOf Listed)) (n i : ℕ) (x : ItemOf Listed) (at : ℤ) (all : Show) → slice_get l i ≡ Some x → n ≡ suc i → all ≡ stack_shows (looks v (take n l)) at
    → pos 0 ≤ℤ at → at <ℤ pos (or_zero (length_of x)) → is_blank ((sight x).shows v at) ≡ false → all ≡ (sight x).shows v at
stack_here v l n i x at all get e same low high something =
    let k = look_length v x (or_zero (length_of x)) refl in
    let in_length : within (pos 0) (seen v (sight x)).length at ≡ true = is_within (pos 0) (seen v (sight x)).length at low (omega (arith, ints)) in
    same ∙ ap (λ k. stack_shows (looks v (take k l)) at) e ∙ ap (λ k. stack_shows k at) (looks_take v l i x get)
    ∙ stack-last (looks v (take i l)) (seen v (sight x)) at ∙ rw (in_length, something) refl

pub nothing_past : (v : View) (x : ItemOf Listed) (at : ℤ) → pos (or_zero (length_of x)) ≤ℤ at → one (seen v (sight x)) at ≡ Blank
nothing_past v x at h =
    let k = look_length v x (or_zero (length_of x)) refl in
    rw (missed_behind (pos 0) (seen v (sight x)).length at (omega (arith, ints))) refl

pub nothing_shown : (v : View) (x : ItemOf Listed) (at : ℤ) → is_blank ((sight x).shows v at) ≡ true → one (seen v (sight x)) at ≡ Blank
nothing_shown v x at h = rw (blank_is ((sight x).shows v at) h) (always (within (pos 0) (seen v (sight x)).length at))
  where
    always : (b : Bool) → cond b Blank Blank ≡ Blank
    always true = refl
    always false = refl
