-- Whether lists of items have a clip, and whether they may show something.
use Rattle.std.proofs.Common.{◌≡◌, Bool, true, false, List, [], ◌∷◌, ◌++◌, refl, ap, ◌∙◌}
use Rattle.std.specs.Prelude.{◌&&◌, ◌||◌}
use Rattle.otio_model.specs.declared.compositions.ItemOf.{ItemOf}
use Rattle.otio_model.specs.declared.compositions.ItemOf.TheVariants.{Clip, Gap, Transition, Stack}
use Rattle.otio_model.specs.declared.compositions.ItemOf.TheVariants.{Track}
use Rattle.otio_model.specs.declared.compositions.Listed.{Listed}
use Rattle.otio_model.specs.declared.compositions.Listed.TheFolds.{fold-roll-Listed, map-Listed}
use Rattle.otio_model.specs.Trees.{listed}
use Rattle.otio_model.specs.Clips.{any_clip, any_clip_by, any_lit, any_lit_by, clips_step, has_clip}
use Rattle.otio_model.specs.Clips.{is_lit, lit_step}

same_clips : (xs : List (ItemOf Listed))
    → any_clip_by (λ b. b) (map-Listed Listed Bool any_clip (record { list = xs })).list
    ≡ any_clip_by any_clip xs
same_clips [] = refl
same_clips ((Clip c) ∷ xs) = refl
same_clips ((Gap g) ∷ xs) = same_clips xs
same_clips ((Transition t) ∷ xs) = same_clips xs
same_clips ((Stack s) ∷ xs) = ap (λ k. any_clip s.children || k) (same_clips xs)
same_clips ((Track t) ∷ xs) = ap (λ k. any_clip t.children || k) (same_clips xs)

-- children have a clip where their list has one
pub clips-listed : (xs : List (ItemOf Listed)) → any_clip (listed xs) ≡ any_clip_by any_clip xs
clips-listed xs = fold-roll-Listed Bool clips_step (record { list = xs }) ∙ same_clips xs

same_lit : (xs : List (ItemOf Listed))
    → any_lit_by (λ b. b) (map-Listed Listed Bool any_lit (record { list = xs })).list
    ≡ any_lit_by any_lit xs
same_lit [] = refl
same_lit ((Clip c) ∷ xs) = ap (λ k. c.enabled || k) (same_lit xs)
same_lit ((Gap g) ∷ xs) = same_lit xs
same_lit ((Transition t) ∷ xs) = same_lit xs
same_lit ((Stack s) ∷ xs) = ap (λ k. (s.enabled && any_lit s.children) || k) (same_lit xs)
same_lit ((Track t) ∷ xs) = ap (λ k. (t.enabled && any_lit t.children) || k) (same_lit xs)

-- and may show something where their list may
pub lit-listed : (xs : List (ItemOf Listed)) → any_lit (listed xs) ≡ any_lit_by any_lit xs
lit-listed xs = fold-roll-Listed Bool lit_step (record { list = xs }) ∙ same_lit xs

or_again : (p q r : Bool) → (p || (q || r)) ≡ ((p || q) || r)
or_again true q r = refl
or_again false q r = refl

pub or_false : (p : Bool) → (p || false) ≡ p
or_false true = refl
or_false false = refl

pub clips-append : (xs ys : List (ItemOf Listed))
    → any_clip_by any_clip (xs ++ ys) ≡ (any_clip_by any_clip xs || any_clip_by any_clip ys)
clips-append [] ys = refl
clips-append (x ∷ xs) ys = ap (λ k. has_clip x || k) (clips-append xs ys)
    ∙ or_again (has_clip x) (any_clip_by any_clip xs) (any_clip_by any_clip ys)

pub lit-append : (xs ys : List (ItemOf Listed))
    → any_lit_by any_lit (xs ++ ys) ≡ (any_lit_by any_lit xs || any_lit_by any_lit ys)
lit-append [] ys = refl
lit-append (x ∷ xs) ys = ap (λ k. is_lit x || k) (lit-append xs ys)
    ∙ or_again (is_lit x) (any_lit_by any_lit xs) (any_lit_by any_lit ys)
