-- Transitions take no time, so a list can be cut where it can be without them.
use Rattle.std.proofs.Common.{◌≡◌, refl, sym, ap, ap₂, ◌∙◌, ℤ, pos, ◌-ℤ◌, Bool, true, false, cond, ◌&&◌, List, [], ◌∷◌, arith}
use Rattle.std.specs.Prelude.{int_lt, int_le}
use Rattle.std.proofs.lemmas.Int.{ints}
use Rattle.otio_model.specs.declared.compositions.ItemOf.{ItemOf}
use Rattle.otio_model.specs.declared.compositions.ItemOf.TheVariants.{Clip, Gap, Transition, Stack, Track}
use Rattle.otio_model.specs.declared.compositions.Listed.{Listed}
use Rattle.coord.specs.Sights.{overlap_of}
use Rattle.edits.specs.Splices.{is_stripped}
use Rattle.edits.specs.Children.{ticks}
use Rattle.edits.specs.Cuts.{cuts_whole, is_whole_at, strip}
use Rattle.edits.specs.Refusals.{cuts_ends}

start_whole : (l : List (ItemOf Listed)) (t : ℤ) → int_lt (pos 0) t ≡ false → cuts_whole l t ≡ true
start_whole [] t h = refl
start_whole (x ∷ l) t h = rw h refl

some_left : (t : ℤ) → int_lt (pos 0) t ≡ true → int_le (pos 0) t ≡ true
some_left t h = grind (arith, ints)

none_off : (t : ℤ) → t -ℤ pos 0 ≡ t
none_off t = omega (arith, ints)

-- what takes no time isn't cut
pub past_nothing : (x : ItemOf Listed) (l : List (ItemOf Listed)) (t : ℤ) → ticks x ≡ pos 0
    → cuts_whole (x ∷ l) t ≡ cuts_whole l t
past_nothing x l t e = by (int_lt (pos 0) t) refl
  where
    by : (b : Bool) → int_lt (pos 0) t ≡ b → cuts_whole (x ∷ l) t ≡ cuts_whole l t
    by true h =
        ap (λ b. cond b (cond (int_le (ticks x) t) (cuts_whole l (t -ℤ ticks x))
        (is_whole_at x t)) true) h
        ∙ ap (λ z. cond (int_le z t) (cuts_whole l (t -ℤ z)) (is_whole_at x t)) e
        ∙ ap (λ b. cond b (cuts_whole l (t -ℤ pos 0)) (is_whole_at x t)) (some_left t h)
        ∙ ap (cuts_whole l) (none_off t)
    by false h = rw h (sym (start_whole l t h))

-- a child that is stripped takes no time
pub stripped_point : (x : ItemOf Listed) (a b : ℤ) → is_stripped a b (overlap_of x) ≡ true
    → ticks x ≡ pos 0
stripped_point (Clip c) a b e = absurd (cc e)
stripped_point (Gap g) a b e = absurd (cc e)
stripped_point (Transition t) a b e = refl
stripped_point (Stack s) a b e = absurd (cc e)
stripped_point (Track t) a b e = absurd (cc e)

pub cuts_stripped : (l : List (ItemOf Listed)) (a b t : ℤ)
    → cuts_whole (strip l a b) t ≡ cuts_whole l t
cuts_stripped [] a b t = refl
cuts_stripped (x ∷ l) a b t =
    by (is_stripped a b (overlap_of x)) refl (cuts_stripped l a b t)
    (cuts_stripped l (a -ℤ ticks x) (b -ℤ ticks x) (t -ℤ ticks x))
  where
    by : (s : Bool) → is_stripped a b (overlap_of x) ≡ s
        → cuts_whole (strip l a b) t ≡ cuts_whole l t
        → cuts_whole (strip l (a -ℤ ticks x) (b -ℤ ticks x)) (t -ℤ ticks x)
        ≡ cuts_whole l (t -ℤ ticks x)
        → cuts_whole (strip (x ∷ l) a b) t ≡ cuts_whole (x ∷ l) t
    by true e f g = rw e (f ∙ sym (past_nothing x l t (stripped_point x a b e)))
    by false e f g = rw e (ap (λ q. cond (int_lt (pos 0) t)
        (cond (int_le (ticks x) t) q (is_whole_at x t)) true) g)

pub ends_are : (l : List (ItemOf Listed)) (a b : ℤ) (e : Bool)
    → e ≡ (cuts_whole l a && cuts_whole l b) → e ≡ cuts_ends l a b
ends_are l a b e f =
    f ∙ sym (ap₂ (λ p q. p && q) (cuts_stripped l a b a) (cuts_stripped l a b b))

pub ruleset ends_whole = (ends_are)
