-- The first clip of children, one after another.
use Rattle.std.proofs.Common.{◌≡◌, ℕ, zero, suc, ◌<◌, Bool, true, false, List, [], ◌∷◌, Option, Some, None, refl, ap, sym, ◌∙◌, subst, map, slice_get, arith}
use Rattle.std.specs.Prelude.{◌||◌}
use Rattle.otio_model.specs.declared.compositions.Clip.{Clip as ClipRow}
use Rattle.otio_model.specs.declared.compositions.ItemOf.{ItemOf}
use Rattle.otio_model.specs.declared.compositions.ItemOf.TheVariants.{Clip, Gap, Transition, Stack, Track}
use Rattle.otio_model.specs.declared.compositions.Listed.{Listed}
use Rattle.otio_model.specs.declared.compositions.Listed.TheFolds.{fold-roll-Listed, ind-Listed, map-Listed}
use Rattle.otio_model.specs.declared.compositions.Listed.TheViews.{roll-out-Listed}
use Rattle.otio_model.specs.Clips.{any_clip, any_clip_by, has_clip}
use Rattle.otio_model.specs.Lights.{HasNoClip, IsFirstWithClip, clip_at}
use Rattle.otio_model.specs.Trees.{items_of, listed}
use Rattle.otio_model.proofs.ClipLemmas.{clips-listed}
use Rattle.otio_model.proofs.Known.{Known, forgotten}
use Rattle.coord.specs.Programs.{first_of, clip_by, clip_step, first_clip}

same_clips : (xs : List (ItemOf Listed)) → map (clip_by (λ c. c)) (map-Listed Listed (Option ClipRow) first_clip (record { list = xs })).list ≡ map (clip_by first_clip) xs
same_clips [] = refl
same_clips ((Clip c) ∷ xs) = ap (λ l. Some c ∷ l) (same_clips xs)
same_clips ((Gap g) ∷ xs) = ap (λ l. None ∷ l) (same_clips xs)
same_clips ((Transition t) ∷ xs) = ap (λ l. None ∷ l) (same_clips xs)
same_clips ((Stack s) ∷ xs) = ap (λ l. first_clip s.children ∷ l) (same_clips xs)
same_clips ((Track t) ∷ xs) = ap (λ l. first_clip t.children ∷ l) (same_clips xs)

-- the first clip of children is the first one of their items
pub clip_first : (l : Listed) → first_of (map (clip_by first_clip) (items_of l)) ≡ first_clip l
clip_first l = sym (fold-roll-Listed (Option ClipRow) clip_step (record { list = items_of l }) ∙ ap first_of (same_clips (items_of l))) ∙ ap first_clip (roll-out-Listed l)

-- ---- which items have one

abbrev some_of : Option ClipRow → Bool
some_of None = false
some_of (Some c) = true

first_some : (b : Bool) (o : Option ClipRow) (any : Bool) (l : List (Option ClipRow)) → b ≡ some_of o → any ≡ some_of (first_of l) → (b || any) ≡ some_of (first_of (o ∷ l))
first_some b None any l e f = rw (e, f) refl
first_some b (Some c) any l e f = rw e refl

abbrev IsFound : Listed → Type 0
IsFound l = any_clip l ≡ some_of (first_clip l)

all_found : (ys : List (ItemOf (Known IsFound))) → any_clip_by any_clip (forgotten IsFound ys) ≡ some_of (first_of (map (clip_by first_clip) (forgotten IsFound ys)))
all_found [] = refl
all_found ((Clip c) ∷ ys) = refl
all_found ((Gap g) ∷ ys) = all_found ys
all_found ((Transition t) ∷ ys) = all_found ys
all_found ((Stack s) ∷ ys) = first_some (any_clip s.children.0) (first_clip s.children.0) _ _ s.children.1 (all_found ys)
all_found ((Track t) ∷ ys) = first_some (any_clip t.children.0) (first_clip t.children.0) _ _ t.children.1 (all_found ys)

clip_listed : (xs : List (ItemOf Listed)) → first_clip (listed xs) ≡ first_of (map (clip_by first_clip) xs)
clip_listed xs = fold-roll-Listed (Option ClipRow) clip_step (record { list = xs }) ∙ ap first_of (same_clips xs)

-- children have a clip where they have a first one
children_found : (l : Listed) → IsFound l
children_found = ind-Listed IsFound (λ x y is.
    let list : any_clip_by any_clip x.list ≡ some_of (first_of (map (clip_by first_clip) x.list)) =
    subst (λ z. any_clip_by any_clip z.list ≡ some_of (first_of (map (clip_by first_clip) z.list))) is (all_found y.list) in
    clips-listed x.list ∙ list ∙ ap some_of (sym (clip_listed x.list)))

item_found : (x : ItemOf Listed) → has_clip x ≡ some_of (clip_by first_clip x)
item_found (Clip c) = refl
item_found (Gap g) = refl
item_found (Transition t) = refl
item_found (Stack s) = children_found s.children
item_found (Track t) = children_found t.children

first_here : (o : Option ClipRow) (l : List (Option ClipRow)) → some_of o ≡ true → first_of (o ∷ l) ≡ o
first_here None l e = absurd (cc e)
first_here (Some c) l e = refl

first_later : (o : Option ClipRow) (l : List (Option ClipRow)) → some_of o ≡ false → first_of (o ∷ l) ≡ first_of l
first_later None l e = refl
first_later (Some c) l e = absurd (cc e)

clip_of_first : (xs : List (ItemOf Listed)) (i : ℕ) (x : ItemOf Listed) → slice_get xs i ≡ Some x → clip_at xs i ≡ true → ((j : ℕ) → j < i → clip_at xs j ≡ false) → first_of (map (clip_by first_clip) xs) ≡ clip_by first_clip x
clip_of_first [] zero x e t n = absurd (cc e)
clip_of_first [] (suc i) x e t n = absurd (cc e)
clip_of_first (y ∷ xs) zero x e t n =
    let same : y ≡ x = cc e in
    first_here (clip_by first_clip y) (map (clip_by first_clip) xs) (sym (item_found y) ∙ t) ∙ ap (clip_by first_clip) same
clip_of_first (y ∷ xs) (suc i) x e t n =
    first_later (clip_by first_clip y) (map (clip_by first_clip) xs) (sym (item_found y) ∙ n zero (omega arith))
    ∙ clip_of_first xs i x e t (λ j b. n (suc j) (omega (arith, b)))

no_clip_of : (xs : List (ItemOf Listed)) → HasNoClip xs → first_of (map (clip_by first_clip) xs) ≡ None
no_clip_of [] n = refl
no_clip_of (y ∷ xs) n = first_later (clip_by first_clip y) (map (clip_by first_clip) xs) (sym (item_found y) ∙ n zero) ∙ no_clip_of xs (λ j. n (suc j))

-- the first clip is that of the first item that has one
pub clip_here : (l : Listed) (i : ℕ) (x : ItemOf Listed) → slice_get (items_of l) i ≡ Some x → IsFirstWithClip (items_of l) i → clip_by first_clip x ≡ first_clip l
clip_here l i x e h = sym (clip_of_first (items_of l) i x e h.there h.none_before) ∙ clip_first l

-- and where none has one there is none
pub clip_nowhere : (l : Listed) → HasNoClip (items_of l) → None ≡ first_clip l
clip_nowhere l h = sym (no_clip_of (items_of l) h) ∙ clip_first l
