-- Items that have no fault but that they may be too long, and whose transitions stand where they
-- may.
use Rattle.std.proofs.Common.{◌≡◌, refl, sym, subst, ◌∙◌, ◌||◌, ◌&&◌, not, cond, Bool, true, false}
use Rattle.std.proofs.Common.{ℕ}
use Rattle.std.proofs.Common.{ℤ, pos, List, [], ◌∷◌, ◌++◌, Option, Some, None}
use Rattle.std.specs.Prelude.{is_some}
use Rattle.std.proofs.lemmas.Bool.{and_parts as both_true}
use Rattle.tick_time.specs.declared.rates.Rate.{Rate}
use Rattle.tick_time.specs.declared.spans.Span.{Span}
use Rattle.tick_time.specs.Times.{is_speed}
use Rattle.otio_model.specs.declared.compositions.ItemOf.{ItemOf}
use Rattle.otio_model.specs.declared.compositions.ItemOf.TheVariants.{Clip, Gap, Transition, Stack}
use Rattle.otio_model.specs.declared.compositions.ItemOf.TheVariants.{Track}
use Rattle.otio_model.specs.declared.compositions.Listed.{Listed}
use Rattle.otio_model.specs.declared.effect_types.Effect.{Effect}
use Rattle.otio_model.specs.Lengths.{length_of}
use Rattle.otio_model.specs.Misplaced.{has_misplaced}
use Rattle.otio_model.specs.Speeds.{combined, keeps_speed, next_speed}
use Rattle.otio_model.specs.Trees.{below, is_transition}
use Rattle.coord.specs.declared.faults.ItemFault.{ItemFault}
use Rattle.coord.specs.declared.faults.ItemFault.TheVariants.{Long, NoLength, Speed}
use Rattle.coord.specs.Soundness.{fault_of, is_long}
use Rattle.coord.specs.Speeds.{effects_of, speed_of}
use Rattle.edits.specs.Children.{Child, Old, Ranged, made, new_gap, plain_gap, with_range}
use Rattle.edits.specs.Edges.{is_zero}
use Rattle.edits.specs.Edits.{fitted}
use Rattle.edits.specs.Refusals.{is_wrong_fit}
use Rattle.edits_law.proofs.Splice.{cases}
use Rattle.edits_law.specs.Editable.{IsEditItem, is_clip_or_gap}
use Rattle.edits_law.proofs.MadeParts.{ranged_item, same_item}

pub record IsClean (x : ItemOf Listed) : Type 0 where
  pub long : (fault : ItemFault) → fault_of x ≡ Some fault → fault ≡ Long
  pub calm : has_misplaced x ≡ false

-- the item and all below it are so
abbrev pub IsCleanAll : ItemOf Listed → Type 0
IsCleanAll x = (place : List ℕ) (y : ItemOf Listed) → below place x ≡ Some y → IsClean y

-- whatever item a child makes is so
abbrev pub IsCleanChild : Child → Type 0
IsCleanChild c = (r : Rate) (y : ItemOf Listed) → made r c ≡ Some y → IsCleanAll y

abbrev pub AreClean : List (ItemOf Listed) → Type 0
AreClean [] = Unit {0}
AreClean (x ∷ l) = IsCleanAll x × AreClean l

abbrev pub AreCleanChildren : List Child → Type 0
AreCleanChildren [] = Unit {0}
AreCleanChildren (c ∷ l) = IsCleanChild c × AreCleanChildren l

-- ---- what a fault says

pub no_length : NoLength ≡ Long → ⊥
no_length e = cc e

pub no_speed : Speed ≡ Long → ⊥
no_speed e = cc e

pub no_fault : (fault : ItemFault) → Path (Option ItemFault) None (Some fault) → ⊥
no_fault fault e = cc e

-- such an item has a length
pub clean_length : (x : ItemOf Listed) → IsClean x → is_some (length_of x) ≡ true
clean_length x k = cases (is_transition x) (λ t. transition x t) (λ t. by t (length_of x) refl)
  where
    transition : (y : ItemOf Listed) → is_transition y ≡ true → is_some (length_of y) ≡ true
    transition (Clip c) t = absurd (cc t)
    transition (Gap c) t = absurd (cc t)
    transition (Transition c) t = refl
    transition (Stack c) t = absurd (cc t)
    transition (Track c) t = absurd (cc t)

    by : is_transition x ≡ false → (o : Option ℕ) → length_of x ≡ o
        → is_some (length_of x) ≡ true
    by t None e = absurd (no_length (k.long NoLength (rw (t, e) refl)))
    by t (Some n) e = rw e refl

-- and a speed at which it plays
pub clean_speed : (x : ItemOf Listed) → IsClean x → is_transition x ≡ false
    → keeps_speed (pos 1000000) (effects_of x) ≡ true
clean_speed x k t = cases (keeps_speed (pos 1000000) (effects_of x)) (λ s. s)
    (λ s. absurd (by s (length_of x) refl))
  where
    by : keeps_speed (pos 1000000) (effects_of x) ≡ false → (o : Option ℕ) → length_of x ≡ o → ⊥
    by s None e = no_length (k.long NoLength (rw (t, e) refl))
    by s (Some n) e = no_speed (k.long Speed (rw (t, e, s) refl))

only_long : (long : Bool) (fault : ItemFault) → cond long (Some Long) None ≡ Some fault
    → fault ≡ Long
only_long true fault e = cc e
only_long false fault e = absurd (no_fault fault e)

-- an item with a length and a speed can only be too long
pub long_by : (x : ItemOf Listed) → keeps_speed (pos 1000000) (effects_of x) ≡ true
    → is_some (length_of x) ≡ true → (fault : ItemFault) → fault_of x ≡ Some fault → fault ≡ Long
long_by x s n fault e = cases (is_transition x) (λ t. absurd (no_fault fault (rw t at e)))
    (λ t. by t (length_of x) refl)
  where
    by : is_transition x ≡ false → (o : Option ℕ) → length_of x ≡ o → fault ≡ Long
    by t None f = absurd (cc (rw f at n))
    by t (Some m) f = only_long (is_long x m) fault (rw (t, f, s) at e)

-- ---- items with another range

-- all that stands below an item, without itself
abbrev pub IsCleanBelow : ItemOf Listed → Type 0
IsCleanBelow x = (i : ℕ) (place : List ℕ) (y : ItemOf Listed) → below (i ∷ place) x ≡ Some y
    → IsClean y

ranged_effects : (w : Span) (x : ItemOf Listed) → effects_of (with_range w x) ≡ effects_of x
ranged_effects w (Clip c) = refl
ranged_effects w (Gap c) = refl
ranged_effects w (Transition c) = refl
ranged_effects w (Stack c) = refl
ranged_effects w (Track c) = refl

ranged_length : (w : Span) (x : ItemOf Listed) → is_some (length_of (with_range w x)) ≡ true
ranged_length w (Clip c) = refl
ranged_length w (Gap c) = refl
ranged_length w (Transition c) = refl
ranged_length w (Stack c) = refl
ranged_length w (Track c) = refl

ranged_calm : (w : Span) (x : ItemOf Listed) → has_misplaced (with_range w x) ≡ has_misplaced x
ranged_calm w (Clip c) = refl
ranged_calm w (Gap c) = refl
ranged_calm w (Transition c) = refl
ranged_calm w (Stack c) = refl
ranged_calm w (Track c) = refl

ranged_below : (w : Span) (x : ItemOf Listed) (i : ℕ) (place : List ℕ)
    → below (i ∷ place) (with_range w x) ≡ below (i ∷ place) x
ranged_below w (Clip c) i place = refl
ranged_below w (Gap c) i place = refl
ranged_below w (Transition c) i place = refl
ranged_below w (Stack c) i place = refl
ranged_below w (Track c) i place = refl

record IsFit (x : ItemOf Listed) : Type 0 where
  speed : keeps_speed (pos 1000000) (effects_of x) ≡ true
  calm : has_misplaced x ≡ false
  below : IsCleanBelow x

fit_child : (x : ItemOf Listed) (s n : ℤ) → IsFit x → IsCleanChild (Ranged x s n)
fit_child x s n k r y e =
    let m = ranged_item r x s n y e in
    subst IsCleanAll m.is (all m.span)
  where
    all : (w : Span) → IsCleanAll (with_range w x)
    all w [] z f = subst IsClean (same_item (with_range w x) z f) (record {
      long = long_by (with_range w x) (rw (ranged_effects w x) k.speed) (ranged_length w x);
      calm = ranged_calm w x ∙ k.calm;
    })
    all w (i ∷ place) z f = k.below i place z (sym (ranged_below w x i place) ∙ f)

pub ranged_clean : (x : ItemOf Listed) (s n : ℤ) → IsCleanAll x → is_transition x ≡ false
    → IsCleanChild (Ranged x s n)
ranged_clean x s n k t =
    let own = k [] x refl in
    fit_child x s n
    (record { speed = clean_speed x own t; calm = own.calm; below = λ i place. k (i ∷ place) })

no_item : (y : ItemOf Listed) → Path (Option (ItemOf Listed)) None (Some y) → ⊥
no_item y e = cc e

pub old_clean : (x : ItemOf Listed) → IsCleanAll x → IsCleanChild (Old x)
old_clean x k r y e = subst IsCleanAll (same_item x y e) k

pub gap_clean : (n : ℤ) → IsCleanChild (new_gap n)
gap_clean n = fit_child plain_gap (pos 0) n
    (record { speed = refl; calm = refl; below = λ i place y e. absurd (no_item y e) })

-- ---- the item of an edit

pub put_clean : (x : ItemOf Listed) → IsEditItem x → IsCleanAll x
put_clean x i [] y e = subst IsClean (same_item x y e)
    (record { long = i.known; calm = calm x i.kind })
  where
    calm : (z : ItemOf Listed) → is_clip_or_gap z ≡ true → has_misplaced z ≡ false
    calm (Clip c) f = refl
    calm (Gap c) f = refl
    calm (Transition c) f = absurd (cc f)
    calm (Stack c) f = absurd (cc f)
    calm (Track c) f = absurd (cc f)
put_clean (Clip c) i (j ∷ place) y e = absurd (no_item y e)
put_clean (Gap c) i (j ∷ place) y e = absurd (no_item y e)
put_clean (Transition c) i (j ∷ place) y e = absurd (cc i.kind)
put_clean (Stack c) i (j ∷ place) y e = absurd (cc i.kind)
put_clean (Track c) i (j ∷ place) y e = absurd (cc i.kind)

and_true : (b : Bool) → b ≡ true → (b && true) ≡ true
and_true b e = rw e refl

-- one effect more whose speed may be
keeps_more : (speed : ℤ) (es : List Effect) (e : Effect) → keeps_speed speed es ≡ true
    → is_speed (combined speed (es ++ e ∷ [])) ≡ true → keeps_speed speed (es ++ e ∷ []) ≡ true
keeps_more speed [] e k s = and_true (is_speed (next_speed speed e)) s
keeps_more speed (d ∷ es) e k s =
    let b = both_true (is_speed (next_speed speed d)) (keeps_speed (next_speed speed d) es) k in
    let f = b.0 in
    rw f (keeps_more (next_speed speed d) es e b.1 s)

not_not : (b : Bool) → not b ≡ false → b ≡ true
not_not true e = refl
not_not false e = absurd (cc e)

middle : (a b c : Bool) → (a || (not b || c)) ≡ false → b ≡ true
middle false true c e = refl
middle false false c e = absurd (cc e)
middle true b c e = absurd (cc e)

pub fit_clean : (x : ItemOf Listed) (room s n : ℤ) → IsEditItem x → is_wrong_fit x room ≡ false
    → IsCleanChild (Ranged (fitted x room) s n)
fit_clean x room s n i w =
    by x i (middle (is_zero (speed_of (fitted x room))) (is_speed (speed_of (fitted x room))) _ w)
  where
    by : (y : ItemOf Listed) → IsEditItem y → is_speed (speed_of (fitted y room)) ≡ true
        → IsCleanChild (Ranged (fitted y room) s n)
    by (Clip c) j f = fit_child (fitted (Clip c) room) s n (record {
      speed = keeps_more (pos 1000000) c.effects _
          (clean_speed (Clip c) (put_clean (Clip c) j [] (Clip c) refl) refl) f;
      calm = refl;
      below = λ k place y e. absurd (no_item y e);
    })
    by (Gap c) j f = fit_child (fitted (Gap c) room) s n (record {
      speed = keeps_more (pos 1000000) c.effects _
          (clean_speed (Gap c) (put_clean (Gap c) j [] (Gap c) refl) refl) f;
      calm = refl;
      below = λ k place y e. absurd (no_item y e);
    })
    by (Transition c) j f = absurd (cc j.kind)
    by (Stack c) j f = absurd (cc j.kind)
    by (Track c) j f = absurd (cc j.kind)
