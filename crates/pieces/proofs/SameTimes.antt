-- The times that code makes are those of the definitions.
use Rattle.std.proofs.Common.{◌≡◌, refl, ◌≤ℤ◌, ◌-ℤ◌, ◌%◌, ◌==◌, ℕ, ℤ, pos, Bool, true, false, Option, Some, unsigned_abs, sym, ◌∙◌, ap, ap₂, subst, arith}
use Rattle.std.specs.Prelude.{int_le, not, option_map}
use Rattle.std.proofs.lemmas.Int.{ints}
use Rattle.std.proofs.lemmas.Bool.{eqb-true}
pub use Rattle.std.proofs.lemmas.Bool.{or_left, or_right}
pub use Rattle.tick_time.proofs.SameValues.{same_span}
use Rattle.tick_time.specs.Rates.{unit}
use Rattle.tick_time.specs.Times.{IsInRange}
use Rattle.limits.specs.Limits.{most_ticks}
use Rattle.tick_time.specs.Sums.{IsNear}
use Rattle.tick_time.proofs.SameValues.{same_rate, same_time}
use Rattle.tick_time.specs.declared.rates.Rate.{Rate}
use Rattle.tick_time.specs.declared.times.Time.{Time}
use Rattle.tick_time.specs.declared.spans.Span.{Span}
use Rattle.otio_model.specs.declared.compositions.ItemOf.{ItemOf}
use Rattle.otio_model.specs.declared.compositions.Listed.{Listed}
use Rattle.edits.specs.Finest.{finest, in_range}
use Rattle.edits.specs.Nears.{is_whole, near_by, near, span_by, span_of}
use Rattle.edits.specs.Children.{Ranged, with_range, made, start_rate, length_rate}
use Rattle.edits.specs.Children.{is_far}

-- ---- times that are near

pub range_yes : (z : ℤ) → (pos 0 -ℤ pos most_ticks) ≤ℤ z → z ≤ℤ pos most_ticks → in_range z ≡ true
range_yes z l h = grind (arith, ints)

is_inside : (z : ℤ) → in_range z ≡ true → IsInRange z
is_inside z e = record { low = low z e; high = high z e }
  where
    low : (y : ℤ) → in_range y ≡ true → (pos 0 -ℤ pos most_ticks) ≤ℤ y
    low y f = grind (arith, ints)

    high : (y : ℤ) → in_range y ≡ true → y ≤ℤ pos most_ticks
    high y f = grind (arith, ints)

eq_no : (n : ℕ) → (n == 0) ≡ false → n ≡ 0 → ⊥
eq_no n e f = cc (sym e ∙ ap (λ k. k == 0) f)

near_from_by : (z : ℤ) (r : Rate) (t : Time) → IsNear z r t → (b : Bool) (e : in_range z ≡ b) (c : Bool) (f : is_whole z r ≡ c) → near_by z r b e c f ≡ Some t
near_from_by z r t n false e c f = absurd (cc (sym e ∙ range_yes z (subst (λ y. (pos 0 -ℤ pos most_ticks) ≤ℤ y) n.same t.low) (subst (λ y. y ≤ℤ pos most_ticks) n.same t.high)))
near_from_by z r t n true e true f = ap Some (sym (same_time t _ n.same (n.kept (eqb-true (unsigned_abs z % unit r.num r.den) 0 f))))
near_from_by z r t n true e false f =
    let p = n.finest (eq_no (unsigned_abs z % unit r.num r.den) f) in
    ap Some (sym (same_time t _ n.same (same_rate t.rate finest p.0 p.1)))

pub near_from : (z : ℤ) (r : Rate) (t : Time) → IsNear z r t → near z r ≡ Some t
near_from z r t n = near_from_by z r t n (in_range z) refl (is_whole z r) refl

span_from_by : (s : Span) (b : Bool) (e : int_le (pos 0) s.len.ticks ≡ b) → span_by s.start s.len b e ≡ Some s
span_from_by s true e = ap Some (same_span _ s refl refl)
span_from_by s false e = absurd (cc (sym e ∙ yes s.len.ticks s.forward))
  where
    yes : (z : ℤ) → pos 0 ≤ℤ z → int_le (pos 0) z ≡ true
    yes z h = grind (arith, ints)

span_from : (a b : Option Time) (s : Span) → a ≡ Some s.start → b ≡ Some s.len → span_of a b ≡ Some s
span_from a b s e f = ap₂ span_of e f ∙ span_from_by s (int_le (pos 0) s.len.ticks) refl

-- an item with a range of near times is made
pub made_from : (r : Rate) (x y : ItemOf Listed) (s : Span) (start len : ℤ) → IsNear start (start_rate r x) s.start → IsNear len (length_rate r x) s.len → y ≡ with_range s x → made r (Ranged x start len) ≡ Some y
made_from r x y s start len a b e = ap (option_map (λ w. with_range w x)) (span_from (near start (start_rate r x)) (near len (length_rate r x)) s (near_from start _ s.start a) (near_from len _ s.len b)) ∙ ap Some (sym e)

far_is : (z : ℤ) → (IsInRange z → ⊥) → not (in_range z) ≡ true
far_is z h = by (in_range z) refl
  where
    by : (b : Bool) → in_range z ≡ b → not (in_range z) ≡ true
    by true e = absurd (h (is_inside z e))
    by false e = ap not e

pub far_start : (x : ItemOf Listed) (start len : ℤ) → (IsInRange start → ⊥) → is_far (Ranged x start len) ≡ true
far_start x start len h = or_left _ _ (far_is start h)

pub far_length : (x : ItemOf Listed) (start len : ℤ) → (IsInRange len → ⊥) → is_far (Ranged x start len) ≡ true
far_length x start len h = or_right (not (in_range start)) _ (far_is len h)

pub made_by : (r q p : Rate) (x y copy : ItemOf Listed) (s : Span) (start len : ℤ) → q ≡ start_rate r x → IsNear start q s.start → p ≡ length_rate r x → IsNear len p s.len → copy ≡ x → y ≡ with_range s copy → made r (Ranged x start len) ≡ Some y
made_by r q p x y copy s start len e a f b g h = made_from r x y s start len (subst (λ z. IsNear start z s.start) e a) (subst (λ z. IsNear len z s.len) f b) (h ∙ ap (with_range s) g)
