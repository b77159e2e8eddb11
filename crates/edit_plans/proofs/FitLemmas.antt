-- The speeds of items that may be put into a track.
use Rattle.std.proofs.Common.{◌≡◌, refl, sym, ap, ◌∙◌, ℕ, ℤ, pos, Bool, true, false, cond, ◌&&◌, ◌||◌, List, [], ◌∷◌, ◌++◌, Option, Some, None, ◌≤◌, ◌<◌, arith}
use Rattle.std.specs.Prelude.{not}
use Rattle.std.proofs.lemmas.Int.{ints}
use Rattle.edits_law.proofs.Clean.{no_length, no_speed}
use Rattle.limits.proofs.ListLemmas.{test-one_way as both_ways}
use Rattle.otio_model.specs.declared.effect_types.Effect.{Effect}
use Rattle.otio_model.specs.declared.compositions.ItemOf.{ItemOf}
use Rattle.otio_model.specs.declared.compositions.ItemOf.TheVariants.{Clip, Gap, Transition, Stack, Track}
use Rattle.otio_model.specs.declared.compositions.Listed.{Listed}
use Rattle.otio_model.specs.Lengths.{length_of}
use Rattle.otio_model.specs.Speeds.{combined, keeps_speed, kept_speed, next_speed}
use Rattle.tick_time.specs.Times.{is_speed}
use Rattle.coord.specs.Speeds.{effects_of, speed_of}
use Rattle.coord.specs.declared.faults.ItemFault.{ItemFault}
use Rattle.coord.specs.declared.faults.ItemFault.TheVariants.{NoLength, Speed, Long}
use Rattle.coord.specs.Soundness.{is_long}
use Rattle.coord.proofs.SpeedProducts.{kept_is}
use Rattle.edits_law.specs.Editable.{IsEditItem}
use Rattle.edits.specs.Children.{ticks}
use Rattle.edits.specs.Edges.{is_zero}
use Rattle.edits.specs.Edits.{fit_speed, fitted, warp, with_effect}
use Rattle.edits.specs.Refusals.{is_wrong_fit}
use Rattle.edit_plans.specs.Filled.{has_no_speed, stands_still}

-- ---- the item of an edit keeps its speed

kept_by : (k : Bool) (x : ItemOf Listed) (o : Option ℕ)
    → ((fault : ItemFault) → (elim o [
      | None ↦ Some NoLength
      | Some n ↦
          cond k (cond (is_long x n) (Some Long) None) (Some Speed)
    ]) ≡ Some fault → fault ≡ Long)
    → k ≡ true
kept_by k x None h = absurd (no_length (h NoLength refl))
kept_by true x (Some n) h = refl
kept_by false x (Some n) h = absurd (no_speed (h Speed refl))

keeps : (x : ItemOf Listed) → IsEditItem x → keeps_speed (pos 1000000) (effects_of x) ≡ true
keeps (Clip c) i =
    kept_by (keeps_speed (pos 1000000) c.effects) (Clip c) (length_of (Clip c)) i.known
keeps (Gap g) i =
    kept_by (keeps_speed (pos 1000000) g.effects) (Gap g) (length_of (Gap g)) i.known
keeps (Transition t) i = absurd (cc i.kind)
keeps (Stack s) i = absurd (cc i.kind)
keeps (Track t) i = absurd (cc i.kind)

none_kept : (b : Bool) (v : ℤ) → cond b (Some v) None ≡ None → b ≡ false
none_kept true v e = absurd (cc e)
none_kept false v e = refl

some_kept : (b : Bool) (v w : ℤ) → cond b (Some v) None ≡ Some w → b ≡ true
some_kept true v w e = refl
some_kept false v w e = absurd (cc e)

pub has_speed : (x : ItemOf Listed) (o : Option ℤ) → IsEditItem x
    → o ≡ kept_speed (pos 1000000) (effects_of x) → o ≡ None → ⊥
has_speed x o i e f = both_ways _ (keeps x i) (none_kept _ _ (sym e ∙ f))

pub is_speed_of : (x : ItemOf Listed) (o : Option ℤ) (v : ℤ)
    → o ≡ kept_speed (pos 1000000) (effects_of x) → o ≡ Some v → v ≡ speed_of x
is_speed_of x o v e f = kept_is o (pos 1000000) v (effects_of x) e f

pub ruleset edit_speeds = (has_speed, is_speed_of)

-- ---- with one effect more

and_true : (b : Bool) → (b && true) ≡ b
and_true true = refl
and_true false = refl

and_first : (a b : Bool) → (a && b) ≡ true → a ≡ true
and_first true b e = refl
and_first false b e = absurd (cc e)

and_last : (a b : Bool) → (a && b) ≡ true → b ≡ true
and_last true b e = e
and_last false b e = absurd (cc e)

keeps_more : (p : ℤ) (l : List Effect) (e : Effect) → keeps_speed p l ≡ true
    → keeps_speed p (l ++ e ∷ []) ≡ is_speed (combined p (l ++ e ∷ []))
keeps_more p [] e h = and_true (is_speed (next_speed p e))
keeps_more p (d ∷ l) e h =
    ap (λ b. b && keeps_speed (next_speed p d) (l ++ e ∷ [])) (and_first _ _ h)
    ∙ keeps_more (next_speed p d) l e (and_last _ _ h)

keeps_fitted : (x : ItemOf Listed) (room : ℤ) → IsEditItem x
    → keeps_speed (pos 1000000) (effects_of (fitted x room)) ≡ is_speed (speed_of (fitted x room))
keeps_fitted (Clip c) room i =
    keeps_more (pos 1000000) c.effects (warp (fit_speed (ticks (Clip c)) room)) (keeps (Clip c) i)
keeps_fitted (Gap g) room i =
    keeps_more (pos 1000000) g.effects (warp (fit_speed (ticks (Gap g)) room)) (keeps (Gap g) i)
keeps_fitted (Transition t) room i = absurd (cc i.kind)
keeps_fitted (Stack s) room i = absurd (cc i.kind)
keeps_fitted (Track t) room i = absurd (cc i.kind)

-- ---- whether the fit is wrong

or_last : (a b : Bool) → (a || (b || true)) ≡ true
or_last true b = refl
or_last false true = refl
or_last false false = refl

or_middle : (a b : Bool) → (a || (true || b)) ≡ true
or_middle true b = refl
or_middle false b = refl

-- the warp alone is too fast
pub too_fast : (x : ItemOf Listed) (room : ℤ) → is_speed (fit_speed (ticks x) room) ≡ false
    → is_wrong_fit x room ≡ true
too_fast x room e = rw e (or_last _ _)

-- the speed with it is
pub passes : (x y : ItemOf Listed) (room : ℤ) (o : Option ℤ) → IsEditItem x → y ≡ fitted x room
    → o ≡ kept_speed (pos 1000000) (effects_of y) → o ≡ None → is_wrong_fit x room ≡ true
passes x y room o i e f g =
    let none : kept_speed (pos 1000000) (effects_of (fitted x room)) ≡ None =
    ap (λ z. kept_speed (pos 1000000) (effects_of z)) (sym e) ∙ sym f ∙ g in
    let k : is_speed (speed_of (fitted x room)) ≡ false =
    sym (keeps_fitted x room i)
    ∙ none_kept (keeps_speed (pos 1000000) (effects_of (fitted x room)))
    (speed_of (fitted x room)) none in
    rw k (or_middle (is_zero (speed_of (fitted x room)))
    (not (is_speed (fit_speed (ticks x) room))))

-- it stands still
pub stands : (x y : ItemOf Listed) (room : ℤ) (o : Option ℤ) (v : ℤ) → y ≡ fitted x room
    → o ≡ kept_speed (pos 1000000) (effects_of y) → o ≡ Some v → v ≡ pos 0
    → is_wrong_fit x room ≡ true
stands x y room o v e f g h =
    let k : speed_of (fitted x room) ≡ pos 0 =
    ap speed_of (sym e) ∙ sym (is_speed_of y o v f g) ∙ h in
    rw k refl

zero_no : (v : ℤ) → (v ≡ pos 0 → ⊥) → is_zero v ≡ false
zero_no v h = by (is_zero v) refl
  where
    by : (b : Bool) → is_zero v ≡ b → b ≡ false
    by true e = absurd (h (grind (arith)))
    by false e = refl

-- it fits
pub fits : (x y : ItemOf Listed) (room : ℤ) (o : Option ℤ) (v : ℤ) → IsEditItem x
    → is_speed (fit_speed (ticks x) room) ≡ true → y ≡ fitted x room
    → o ≡ kept_speed (pos 1000000) (effects_of y) → o ≡ Some v → (v ≡ pos 0 → ⊥)
    → is_wrong_fit x room ≡ false
fits x y room o v i s e f g h =
    let speed : speed_of (fitted x room) ≡ v = ap speed_of (sym e) ∙ sym (is_speed_of y o v f g) in
    let some : kept_speed (pos 1000000) (effects_of (fitted x room)) ≡ Some v =
    ap (λ z. kept_speed (pos 1000000) (effects_of z)) (sym e) ∙ sym f ∙ g in
    let k : is_speed (speed_of (fitted x room)) ≡ true =
    sym (keeps_fitted x room i)
    ∙ some_kept (keeps_speed (pos 1000000) (effects_of (fitted x room)))
    (speed_of (fitted x room)) v some in
    let z : is_zero (speed_of (fitted x room)) ≡ false = ap is_zero speed ∙ zero_no v h in
    rw (z, k, s) refl

-- ---- an item that stands still

zero_yes : (v : ℤ) → is_zero v ≡ true → v ≡ pos 0
zero_yes v e = grind (arith, ints)

zero_is : (v : ℤ) → v ≡ pos 0 → is_zero v ≡ true
zero_is v e = rw e refl

pub still_none : (x : ItemOf Listed) (o : Option ℤ) → o ≡ kept_speed (pos 1000000) (effects_of x)
    → o ≡ None → stands_still x ≡ true
still_none x o e f = ap has_no_speed (sym e ∙ f)

pub still_zero : (x : ItemOf Listed) (o : Option ℤ) (v : ℤ)
    → o ≡ kept_speed (pos 1000000) (effects_of x) → o ≡ Some v → v ≡ pos 0
    → stands_still x ≡ true
still_zero x o v e f g = ap has_no_speed (sym e ∙ f) ∙ zero_is v g

pub still_not : (x : ItemOf Listed) (o : Option ℤ) (v : ℤ)
    → o ≡ kept_speed (pos 1000000) (effects_of x) → o ≡ Some v → (v ≡ pos 0 → ⊥)
    → stands_still x ≡ false
still_not x o v e f g = ap has_no_speed (sym e ∙ f) ∙ zero_no v g

pub ruleset still = (still_none, still_zero, still_not)

-- ---- the same, as the code counts

fast_is : (x : ItemOf Listed) (room n m : ℤ) (s : ℕ) → n ≡ ticks x → m ≡ room
    → pos s ≡ fit_speed n m → pos s ≡ fit_speed (ticks x) room
fast_is x room n m s e g f = f ∙ ap (λ z. fit_speed z m) e ∙ ap (fit_speed (ticks x)) g

pub made_fast : (x y : ItemOf Listed) (room n m : ℤ) (s : ℕ) → n ≡ ticks x → m ≡ room
    → pos s ≡ fit_speed n m → y ≡ with_effect (warp (pos s)) x → y ≡ fitted x room
made_fast x y room n m s e h f g = g ∙ ap (λ z. with_effect (warp z) x) (fast_is x room n m s e h f)

speed_no : (s : ℕ) → 1000000000 < s → is_speed (pos s) ≡ false
speed_no s h = grind (arith, ints)

speed_yes : (s : ℕ) → s ≤ 1000000000 → is_speed (pos s) ≡ true
speed_yes s h = grind (arith, ints)

pub fault_fast : (x : ItemOf Listed) (room n m : ℤ) (s : ℕ) → n ≡ ticks x → m ≡ room
    → pos s ≡ fit_speed n m → 1000000000 < s → is_wrong_fit x room ≡ true
fault_fast x room n m s e g f h =
    too_fast x room (ap is_speed (sym (fast_is x room n m s e g f)) ∙ speed_no s h)

pub fault_still : (x y : ItemOf Listed) (room n m : ℤ) (s : ℕ) → IsEditItem x → n ≡ ticks x
    → m ≡ room → pos s ≡ fit_speed n m → y ≡ with_effect (warp (pos s)) x
    → stands_still y ≡ true → is_wrong_fit x room ≡ true
fault_still x y room n m s i e g f h k =
    by (kept_speed (pos 1000000) (effects_of y)) refl
  where
    by : (o : Option ℤ) → o ≡ kept_speed (pos 1000000) (effects_of y) → is_wrong_fit x room ≡ true
    by None q = passes x y room None i (made_fast x y room n m s e g f h) q refl
    by (Some v) q =
        stands x y room (Some v) v (made_fast x y room n m s e g f h) q refl
        (zero_yes v (ap has_no_speed q ∙ k))

pub fits_fast : (x y : ItemOf Listed) (room n m : ℤ) (s : ℕ) → IsEditItem x → n ≡ ticks x
    → m ≡ room → pos s ≡ fit_speed n m → s ≤ 1000000000 → y ≡ with_effect (warp (pos s)) x
    → stands_still y ≡ false → is_wrong_fit x room ≡ false
fits_fast x y room n m s i e g f b h k =
    by (kept_speed (pos 1000000) (effects_of y)) refl
  where
    some_no : (v : ℤ) → is_zero v ≡ false → v ≡ pos 0 → ⊥
    some_no v p q = cc (sym p ∙ zero_is v q)

    by : (o : Option ℤ) → o ≡ kept_speed (pos 1000000) (effects_of y)
        → is_wrong_fit x room ≡ false
    by None q = absurd (cc (sym (ap has_no_speed q ∙ k)))
    by (Some v) q =
        fits x y room (Some v) v i (ap is_speed (sym (fast_is x room n m s e g f)) ∙ speed_yes s b)
        (made_fast x y room n m s e g f h) q refl (some_no v (ap has_no_speed q ∙ k))
