-- One level further down.
use Rattle.std.proofs.Common.{◌≡◌, refl, sym, ap, ap₂, ◌∙◌, ℕ, zero, suc, ◌+◌, ◌<◌, ◌≤◌, ℤ, pos}
use Rattle.std.proofs.Common.{Bool, true, false, cond, List, [], ◌∷◌, Option, Some, None}
use Rattle.std.proofs.Common.{drop, length, slice_get, arith}
use Rattle.std.specs.Prelude.{is_some, option_and_then}
use Rattle.otio_model.specs.declared.compositions.ItemOf.{ItemOf}
use Rattle.otio_model.specs.declared.compositions.ItemOf.TheVariants.{Clip, Gap, Transition, Stack}
use Rattle.otio_model.specs.declared.compositions.ItemOf.TheVariants.{Track}
use Rattle.otio_model.specs.declared.compositions.Listed.{Listed}
use Rattle.otio_model.specs.Overlaps.{within}
use Rattle.otio_model.specs.Lengths.{length_of, or_zero}
use Rattle.coord.specs.Programs.{kind_of}
use Rattle.coord.specs.Sights.{exact}
use Rattle.otio_model.specs.Counts.{count_of}
use Rattle.otio_model.specs.Falls.{child_counts}
use Rattle.coord.specs.Soundness.{IsFaultlessItem}
use Rattle.coord.proofs.JudgingLemmas.{children_sound, sound_child}
use Rattle.coord.proofs.Members.{next}
use Rattle.coord.proofs.SightLemmas.{length_seen}
use Rattle.edits_law.specs.Down.{down_from, down_in, inner, where_so}
use Rattle.edit_plans.specs.Way.{child_of, is_open, reached_in}

abbrev through : List ℕ → ℕ → List ℕ → ItemOf Listed → ℤ → Option ℤ
through kind i place x at =
    option_and_then (λ y. option_and_then (down_from (exact kind) place y)
    (reached_in (exact kind) i x at)) (child_of x i)

-- where the children aren't seen
pub closed : (kind place : List ℕ) (x : ItemOf Listed) (u : ℤ) → is_open kind x ≡ false
    → None ≡ down_from (exact kind) place x u
closed kind place (Clip c) u e = refl
closed kind place (Gap g) u e = refl
closed kind place (Transition t) u e = refl
closed kind [] (Stack s) u e = ap (λ b. where_so b (inner (Stack s) u)) (sym e)
closed kind (i ∷ place) (Stack s) u e =
    ap (λ b. cond b (through kind i place (Stack s) (inner (Stack s) u)) None) (sym e)
closed kind [] (Track t) u e = ap (λ b. where_so b (inner (Track t) u)) (sym e)
closed kind (i ∷ place) (Track t) u e =
    ap (λ b. cond b (through kind i place (Track t) (inner (Track t) u)) None) (sym e)

ended : (kind : List ℕ) (x : ItemOf Listed) (u : ℤ) → is_open kind x ≡ true
    → Some (inner x u) ≡ down_from (exact kind) [] x u
ended kind (Clip c) u e = absurd (cc e)
ended kind (Gap g) u e = absurd (cc e)
ended kind (Transition t) u e = absurd (cc e)
ended kind (Stack s) u e = ap (λ b. where_so b (inner (Stack s) u)) (sym e)
ended kind (Track t) u e = ap (λ b. where_so b (inner (Track t) u)) (sym e)

stepped : (kind : List ℕ) (i : ℕ) (place : List ℕ) (x : ItemOf Listed) (u : ℤ)
    → is_open kind x ≡ true → through kind i place x (inner x u)
    ≡ down_from (exact kind) (i ∷ place) x u
stepped kind i place (Clip c) u e = absurd (cc e)
stepped kind i place (Gap g) u e = absurd (cc e)
stepped kind i place (Transition t) u e = absurd (cc e)
stepped kind i place (Stack s) u e =
    ap (λ b. cond b (through kind i place (Stack s) (inner (Stack s) u)) None) (sym e)
stepped kind i place (Track t) u e =
    ap (λ b. cond b (through kind i place (Track t) (inner (Track t) u)) None) (sym e)

end_at : (p : List ℕ) (i : ℕ) → None ≡ slice_get p i → drop i p ≡ []
end_at [] zero e = refl
end_at [] (suc i) e = refl
end_at (j ∷ p) zero e = absurd (cc e)
end_at (j ∷ p) (suc i) e = end_at p i e

-- at the end of the place
pub at_end : (kind p : List ℕ) (level : ℕ) (x : ItemOf Listed) (u r : ℤ)
    → is_open kind x ≡ true → None ≡ slice_get p level → r ≡ inner x u
    → Some r ≡ down_from (exact kind) (drop level p) x u
at_end kind p level x u r opened e f =
    ap (λ z. Some z) f ∙ ended kind x u opened
    ∙ ap (λ q. down_from (exact kind) q x u) (sym (end_at p level e))

step_as : (kind p : List ℕ) (level i : ℕ) (x : ItemOf Listed) (u : ℤ) → is_open kind x ≡ true
    → Some i ≡ slice_get p level → through kind i (drop (level + 1) p) x (inner x u)
    ≡ down_from (exact kind) (drop level p) x u
step_as kind p level i x u opened e =
    stepped kind i (drop (level + 1) p) x u opened
    ∙ ap (λ q. down_from (exact kind) q x u) (sym (next p level i (sym e)))

-- no child stands there
pub no_child : (kind p : List ℕ) (level i : ℕ) (x : ItemOf Listed) (u : ℤ)
    → is_open kind x ≡ true → Some i ≡ slice_get p level → None ≡ child_of x i
    → None ≡ down_from (exact kind) (drop level p) x u
no_child kind p level i x u opened e none =
    ap (option_and_then (λ y. option_and_then (down_from (exact kind) (drop (level + 1) p) y)
    (reached_in (exact kind) i x (inner x u)))) none
    ∙ step_as kind p level i x u opened e

-- the child that stands there isn't reached
pub not_reached : (kind p : List ℕ) (level i : ℕ) (x y : ItemOf Listed) (u at : ℤ)
    → is_open kind x ≡ true → Some i ≡ slice_get p level → Some y ≡ child_of x i
    → at ≡ inner x u → None ≡ reached_in (exact kind) i x at
    → None ≡ down_from (exact kind) (drop level p) x u
not_reached kind p level i x y u at opened e there f none =
    ap (option_and_then (down_from (exact kind) (drop (level + 1) p) y))
    (none ∙ ap (reached_in (exact kind) i x) f)
    ∙ ap (option_and_then (λ y. option_and_then (down_from (exact kind) (drop (level + 1) p) y)
    (reached_in (exact kind) i x (inner x u)))) there
    ∙ step_as kind p level i x u opened e

-- it is reached
pub is_reached : (kind p : List ℕ) (level i : ℕ) (x y : ItemOf Listed) (u at w z : ℤ)
    (r : Option ℤ) → is_open kind x ≡ true → Some i ≡ slice_get p level → Some y ≡ child_of x i
    → at ≡ inner x u → Some w ≡ reached_in (exact kind) i x at → z ≡ w
    → r ≡ down_from (exact kind) (drop (level + 1) p) y z
    → r ≡ down_from (exact kind) (drop level p) x u
is_reached kind p level i x y u at w z r opened e there f got g h =
    h ∙ ap (down_from (exact kind) (drop (level + 1) p) y) g
    ∙ ap (option_and_then (down_from (exact kind) (drop (level + 1) p) y))
    (got ∙ ap (reached_in (exact kind) i x) f)
    ∙ ap (option_and_then (λ y. option_and_then (down_from (exact kind) (drop (level + 1) p) y)
    (reached_in (exact kind) i x (inner x u)))) there
    ∙ step_as kind p level i x u opened e

-- ---- a root child

pub in_child_length : (place : List ℕ) (u n z : ℤ) (x : ItemOf Listed) (b : Bool) (r : Option ℤ)
    → n ≡ pos (or_zero (length_of x)) → z ≡ u → within (pos 0) n z ≡ b
    → r ≡ cond b (down_from (exact (kind_of x)) place x u) None → r ≡ down_in place u x
in_child_length place u n z x b r e f g h =
    h ∙ ap (λ t. cond t (down_from (exact (kind_of x)) place x u) None)
    (sym g ∙ ap₂ (λ m y. within (pos 0) m y)
    (e ∙ ap (λ o. pos (or_zero o)) (sym (length_seen x))) f)

pub there_in : (xs : List (ItemOf Listed)) (i : ℕ) → is_some (slice_get xs i) ≡ true
    → i < length xs
there_in [] zero e = absurd (cc e)
there_in [] (suc i) e = absurd (cc e)
there_in (x ∷ xs) zero e = omega arith
there_in (x ∷ xs) (suc i) e = omega (arith, there_in xs i e)

-- ---- a child of an item

pub child_smaller : (x : ItemOf Listed) (i : ℕ) (y : ItemOf Listed) → Some y ≡ child_of x i
    → count_of y + 1 ≤ count_of x
child_smaller (Clip c) i y e = absurd (cc e)
child_smaller (Gap g) i y e = absurd (cc e)
child_smaller (Transition t) i y e = absurd (cc e)
child_smaller (Stack s) i y e = omega (arith, child_counts s.children i y (sym e))
child_smaller (Track t) i y e = omega (arith, child_counts t.children i y (sym e))

pub child_sound : (x : ItemOf Listed) (i : ℕ) (y : ItemOf Listed) → Some y ≡ child_of x i
    → IsFaultlessItem x → IsFaultlessItem y
child_sound (Clip c) i y e s = absurd (cc e)
child_sound (Gap g) i y e s = absurd (cc e)
child_sound (Transition t) i y e s = absurd (cc e)
child_sound (Stack k) i y e s =
    sound_child k.children i y (sym e) (children_sound (Stack k) k.children refl s)
child_sound (Track t) i y e s =
    sound_child t.children i y (sym e) (children_sound (Track t) t.children refl s)
