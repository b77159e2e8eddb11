-- Items that can't show anything, since nothing in them is lit.
use Rattle.std.proofs.Common.{◌≡◌, refl, sym, ap, ◌∙◌, subst, ℕ, zero, suc, ◌+◌, ◌-◌, ◌≤◌, ◌<◌, ℤ, pos, ◌+ℤ◌, ◌-ℤ◌, ◌<ℤ◌, ◌&&◌, Bool, true, false, cond, List, [], ◌∷◌, Option, Some, None, map, take, length, slice_get, get_or, arith, ◌⊎◌, inl, inr}
use Rattle.std.specs.Prelude.{◌||◌, int_lt, unwrap_or}
use Rattle.std.specs.Str.{bytes_eq}
use Rattle.std.proofs.lemmas.Option.{slice_get_cases}
use Rattle.limits.proofs.IntegerTests.{int_lt-false, int_lt-true}
use Rattle.otio_model.specs.declared.compositions.StackOf.{StackOf}
use Rattle.otio_model.specs.declared.compositions.TrackOf.{TrackOf}
use Rattle.otio_model.specs.declared.compositions.ItemOf.{ItemOf}
use Rattle.otio_model.specs.declared.compositions.ItemOf.TheVariants.{Clip, Gap, Transition, Stack, Track}
use Rattle.otio_model.specs.declared.compositions.Listed.{Listed}
use Rattle.otio_model.specs.declared.compositions.Listed.TheFolds.{ind-Listed}
use Rattle.otio_model.specs.Clips.{any_lit, any_lit_by, is_lit}
use Rattle.otio_model.specs.Lengths.{length_of, or_zero}
use Rattle.otio_model.specs.Lights.{HasNoLit, IsLastLit, may_show, shows_at, shows_of}
use Rattle.otio_model.specs.Overlaps.{within}
use Rattle.otio_model.specs.Trees.{listed}
use Rattle.otio_model.proofs.ClipLemmas.{lit-listed}
use Rattle.otio_model.proofs.KeptLemmas.{taken_all}
use Rattle.otio_model.proofs.Known.{Known, forgotten}
use Rattle.otio_model.proofs.Views.{items-listed}
use Rattle.coord.specs.Looks.{Show, Blank, Look, Overlap, from_end, is_blank, item_shows, mix_shows, next_shows, stack_shows, total, track_shows}
use Rattle.coord.specs.Sights.{View, sight, sights, seen, looks, shows_inside}
use Rattle.coord.proofs.SightLemmas.{looks-items}
use Rattle.show_prog.proofs.ShowLemmas.{nothing_past, nothing_shown, one, stack_down}

-- ---- lists of what shows nothing

abbrev AreDark : List Look → Type 0
AreDark [] = Unit {0}
AreDark (x ∷ l) = ((m : ℤ) → x.shows m ≡ Blank) × AreDark l

either_blank : (b : Bool) → cond b Blank Blank ≡ Blank
either_blank true = refl
either_blank false = refl

stack_dark : (l : List Look) (m : ℤ) → AreDark l → stack_shows l m ≡ Blank
stack_dark [] m h = refl
stack_dark (x ∷ l) m h = rw (stack_dark l m h.1, h.0 m) (either_blank (within (pos 0) x.length m))

item_dark : (l : List Look) (w : ℤ) → AreDark l → item_shows l w ≡ Blank
item_dark [] w h = refl
item_dark (x ∷ l) w h =
    rw (h.0 w, item_dark l (w -ℤ x.length) h.1) (either_blank (within (pos 0) x.length w))

next_dark : (l : List Look) (w : ℤ) → AreDark l → next_shows l w ≡ Blank
next_dark [] w h = refl
next_dark (x ∷ l) w h = by x.overlap refl (next_dark l w h.1)
  where
    by : (o : Option Overlap) → x.overlap ≡ o → next_shows l w ≡ Blank
        → next_shows (x ∷ l) w ≡ Blank
    by None e k = rw e (h.0 w)
    by (Some o) e k = rw e k

mix_dark : (last : ℤ → Show) (l : List Look) (w : ℤ) → ((u : ℤ) → last u ≡ Blank) → AreDark l
    → unwrap_or (mix_shows last l w) Blank ≡ Blank
mix_dark last [] w b h = refl
mix_dark last (x ∷ l) w b h =
    by x.overlap refl (mix_dark last l w b h.1)
    (mix_dark (from_end x) l (w -ℤ x.length) (λ u. h.0 (u +ℤ x.length)) h.1)
  where
    either : (t : Bool) → unwrap_or (mix_shows last l w) Blank ≡ Blank
        → unwrap_or (cond t (Some Blank) (mix_shows last l w)) Blank ≡ Blank
    either true k = refl
    either false k = k

    by : (o : Option Overlap) → x.overlap ≡ o → unwrap_or (mix_shows last l w) Blank ≡ Blank
        → unwrap_or (mix_shows (from_end x) l (w -ℤ x.length)) Blank ≡ Blank
        → unwrap_or (mix_shows last (x ∷ l) w) Blank ≡ Blank
    by None e k m = rw e m
    by (Some o) e k m =
        rw (e, b w, next_dark l w h.1) (either (within (pos 0 -ℤ o.before) o.after w) k)

track_dark : (l : List Look) (w : ℤ) → AreDark l → track_shows l w ≡ Blank
track_dark l w h = rw (item_dark l w h, mix_dark (λ u. Blank) l w (λ u. refl) h)
    (either_blank (within (pos 0) (total l) w))

-- ---- items of which none is lit

abbrev IsDark : Listed → Type 0
IsDark l = any_lit l ≡ false → (v : View) → AreDark (map (seen v) (sights l))

or_first : (p q : Bool) → (p || q) ≡ false → p ≡ false
or_first true q e = e
or_first false q e = refl

or_second : (p q : Bool) → (p || q) ≡ false → q ≡ false
or_second true q e = absurd (cc e)
or_second false q e = e

-- what is known of the children of an item
abbrev IsDarkBelow : ItemOf Listed → Type 0
IsDarkBelow (Clip c) = Unit {0}
IsDarkBelow (Gap g) = Unit {0}
IsDarkBelow (Transition t) = Unit {0}
IsDarkBelow (Stack s) = IsDark s.children
IsDarkBelow (Track t) = IsDark t.children

inside_dark : (x : ItemOf Listed) (v : View) (m : ℤ) → IsDarkBelow x → is_lit x ≡ false
    → shows_inside sights x v m ≡ Blank
inside_dark (Clip c) v m k e = rw e refl
inside_dark (Gap g) v m k e = refl
inside_dark (Transition t) v m k e = refl
inside_dark (Stack s) v m k e = by s.enabled refl
  where
    by : (b : Bool) → s.enabled ≡ b → shows_inside sights (Stack s) v m ≡ Blank
    by true f =
        let unlit : any_lit s.children ≡ false = sym (ap (λ b. b && any_lit s.children) f) ∙ e in
        rw f (stack_dark (map (seen v) (sights s.children)) m (k unlit v))
    by false f = rw f refl
inside_dark (Track t) v m k e = by t.enabled refl
  where
    either : AreDark (map (seen v) (sights t.children)) → (b : Bool)
        → cond b (track_shows (map (seen v) (sights t.children)) m) Blank ≡ Blank
    either d true = track_dark (map (seen v) (sights t.children)) m d
    either d false = refl

    by : (b : Bool) → t.enabled ≡ b → shows_inside sights (Track t) v m ≡ Blank
    by true f =
        let unlit : any_lit t.children ≡ false = sym (ap (λ b. b && any_lit t.children) f) ∙ e in
        rw f (either (k unlit v) (bytes_eq t.kind v.kind))
    by false f = rw f refl

head_dark : (x : ItemOf Listed) (xs : List (ItemOf Listed)) (v : View) → IsDarkBelow x
    → any_lit_by any_lit (x ∷ xs) ≡ false → (any_lit_by any_lit xs ≡ false → AreDark (looks v xs))
    → AreDark (looks v (x ∷ xs))
head_dark x xs v k e h = (
  λ m. inside_dark x v _ k (or_first (is_lit x) (any_lit_by any_lit xs) e),
  h (or_second (is_lit x) (any_lit_by any_lit xs) e),
)

abbrev stack_alone : StackOf (Known IsDark) → StackOf Listed
stack_alone s = record {
  metadata = s.metadata;
  name = s.name;
  source_range = s.source_range;
  effects = s.effects;
  markers = s.markers;
  enabled = s.enabled;
  children = s.children.0;
  rest = s.rest;
}

abbrev track_alone : TrackOf (Known IsDark) → TrackOf Listed
track_alone t = record {
  metadata = t.metadata;
  name = t.name;
  source_range = t.source_range;
  effects = t.effects;
  markers = t.markers;
  enabled = t.enabled;
  children = t.children.0;
  kind = t.kind;
  rest = t.rest;
}

all_dark : (ys : List (ItemOf (Known IsDark))) (v : View)
    → any_lit_by any_lit (forgotten IsDark ys) ≡ false → AreDark (looks v (forgotten IsDark ys))
all_dark [] v e = tt
all_dark ((Clip c) ∷ ys) v e =
    head_dark (Clip c) (forgotten IsDark ys) v tt e (all_dark ys v)
all_dark ((Gap g) ∷ ys) v e = head_dark (Gap g) (forgotten IsDark ys) v tt e (all_dark ys v)
all_dark ((Transition t) ∷ ys) v e =
    head_dark (Transition t) (forgotten IsDark ys) v tt e (all_dark ys v)
all_dark ((Stack s) ∷ ys) v e =
    head_dark (Stack (stack_alone s)) (forgotten IsDark ys) v s.children.1 e (all_dark ys v)
all_dark ((Track t) ∷ ys) v e =
    head_dark (Track (track_alone t)) (forgotten IsDark ys) v t.children.1 e (all_dark ys v)

-- children of which none is lit show nothing
children_dark : (l : Listed) → IsDark l
children_dark = ind-Listed IsDark (λ x y is. λ e v.
    let list : any_lit_by any_lit x.list ≡ false → AreDark (looks v x.list) =
    subst (λ z. any_lit_by any_lit z.list ≡ false → AreDark (looks v z.list)) is (all_dark y.list v)
    in
    subst AreDark (sym (looks-items v (listed x.list) ∙ ap (looks v) (items-listed x.list)))
    (list (sym (lit-listed x.list) ∙ e)))

below_dark : (x : ItemOf Listed) → IsDarkBelow x
below_dark (Clip c) = tt
below_dark (Gap g) = tt
below_dark (Transition t) = tt
below_dark (Stack s) = children_dark s.children
below_dark (Track t) = children_dark t.children

-- an item that may not show anything at an instant is blank there
unlit_blank : (v : View) (x : ItemOf Listed) (at : ℤ) → may_show x at ≡ false
    → one (seen v (sight x)) at ≡ Blank
unlit_blank v x at e = by (is_lit x) refl
  where
    by : (b : Bool) → is_lit x ≡ b → one (seen v (sight x)) at ≡ Blank
    by true f =
        nothing_past v x at
        (int_lt-false at (pos (or_zero (length_of x)))
        (sym (ap (λ b. b && int_lt at (pos (or_zero (length_of x)))) f) ∙ e))
    by false f = nothing_shown v x at (ap is_blank (inside_dark x v _ (below_dark x) f))

-- ---- a stack, further down, where nothing between may show anything

stack_past : (v : View) (l : List (ItemOf Listed)) (k i : ℕ) (at : ℤ) (all : Show)
    → all ≡ stack_shows (looks v (take (k + i) l)) at
    → ((j : ℕ) → i ≤ j → j < k + i → shows_at l at j ≡ false)
    → all ≡ stack_shows (looks v (take i l)) at
stack_past v l zero i at all e n = let z : 0 + i ≡ i = omega arith in
    e ∙ ap (λ n. stack_shows (looks v (take n l)) at) z
stack_past v l (suc k) i at all e n =
    by (slice_get_cases l (k + i)).1
    (λ f. stack_past v l k i at all f (λ j a b. n j a (omega (arith, b))))
  where
    next : suc k + i ≡ suc (k + i)
    next = omega arith

    by : ((x : ItemOf Listed) × (k + i < length l) × (slice_get l (k + i) ≡ Some x)
        × (get_or l (k + i) x ≡ x)) ⊎ ((length l ≤ k + i) × (slice_get l (k + i) ≡ None))
        → (all ≡ stack_shows (looks v (take (k + i) l)) at
        → all ≡ stack_shows (looks v (take i l)) at)
        → all ≡ stack_shows (looks v (take i l)) at
    by (inl p) go =
        go (stack_down v l (suc k + i) (k + i) p.0 at all p.2 next e
        (unlit_blank v p.0 at (sym (ap (λ o. shows_of o at) p.2)
        ∙ n (k + i) (omega arith) (omega arith))))
    by (inr p) go =
        go (e ∙ ap (λ m. stack_shows (looks v m) at) (taken_all l (suc k + i) (omega (arith, p.0))
        ∙ sym (taken_all l (k + i) p.0)))

pub stack_to : (v : View) (l : List (ItemOf Listed)) (end i : ℕ) (at : ℤ) (all : Show)
    → all ≡ stack_shows (looks v (take end l)) at → i ≤ end
    → ((j : ℕ) → i ≤ j → j < end → shows_at l at j ≡ false)
    → all ≡ stack_shows (looks v (take i l)) at
stack_to v l end i at all e h n =
    let same : (end - i) + i ≡ end = omega (arith, h) in
    stack_past v l (end - i) i at all
    (e ∙ ap (λ m. stack_shows (looks v (take m l)) at) (sym same))
    (λ j a b. n j a (omega (arith, b, same)))

-- down to the last item that may show something there
pub stack_lit : (v : View) (l : List (ItemOf Listed)) (end i : ℕ) (at : ℤ) (all : Show)
    → all ≡ stack_shows (looks v (take end l)) at → IsLastLit l end at i
    → all ≡ stack_shows (looks v (take (i + 1) l)) at
stack_lit v l end i at all e h =
    stack_to v l end (i + 1) at all e (omega (arith, h.before))
    (λ j a b. h.none_between j (omega (arith, a)) b)

-- where none may, nothing shows
pub stack_unlit : (v : View) (l : List (ItemOf Listed)) (end : ℕ) (at : ℤ) (all : Show)
    → all ≡ stack_shows (looks v (take end l)) at → HasNoLit l end at → all ≡ Blank
stack_unlit v l end at all e h =
    stack_to v l end zero at all e (omega arith) (λ j a b. h j b)
    ∙ ap (λ m. stack_shows (looks v m) at) (taken_none l)
  where
    taken_none : (xs : List (ItemOf Listed)) → take zero xs ≡ []
    taken_none [] = refl
    taken_none (x ∷ xs) = refl

-- it is longer, and is one of them
pub lit_shows : (l : List (ItemOf Listed)) (end i : ℕ) (x : ItemOf Listed) (at : ℤ)
    → IsLastLit l end at i → slice_get l i ≡ Some x → at <ℤ pos (or_zero (length_of x))
lit_shows l end i x at h e =
    int_lt-true at (pos (or_zero (length_of x)))
    (second (is_lit x) (int_lt at (pos (or_zero (length_of x))))
    (sym (ap (λ o. shows_of o at) e) ∙ h.there))
  where
    second : (p q : Bool) → (p && q) ≡ true → q ≡ true
    second true q e = e
    second false q e = absurd (cc e)
