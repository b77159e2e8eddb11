-- Parts of items: what is cut first can be cut again.
use Rattle.std.proofs.Common.{◌≡◌, ◌≢◌, refl, sym, subst, ap, ◌∙◌, ◌<◌, ◌^◌, ℤ, pos, ◌*ℤ◌, ◌%◌, ◌==◌, ◌≤ℤ◌, ◌<ℤ◌, ◌||◌, Bool, true, false, Some, None, arith}
use Rattle.std.specs.Prelude.{int_lt, int_le, unsigned_abs}
use Rattle.std.proofs.lemmas.Int.{ints, by_lt_z}
use Rattle.tick_time.specs.declared.rates.Rate.{Rate}
use Rattle.tick_time.specs.declared.spans.Span.{Span}
use Rattle.otio_model.specs.declared.compositions.ItemOf.{ItemOf}
use Rattle.otio_model.specs.declared.compositions.ItemOf.TheVariants.{Clip, Gap, Transition, Stack, Track}
use Rattle.otio_model.specs.declared.compositions.Listed.{Listed}
use Rattle.otio_model.specs.Counts.{count_of}
use Rattle.otio_model.specs.Lengths.{trimmed_start, length_of}
use Rattle.otio_model.specs.Trees.{is_transition}
use Rattle.coord.specs.Soundness.{fault_of}
use Rattle.coord.specs.Speeds.{speed_of}
use Rattle.edits.specs.Children.{ticks, made, Ranged, with_range}
use Rattle.edits.specs.Cuts.{left_piece, is_whole_at}
use Rattle.edits_law.proofs.Splice.{cases}
use Rattle.flat.specs.Pieces.{up_to, from_on, cuts_at}
use Rattle.flat_law.proofs.Exists.{left_made, sound_one}
use Rattle.coord.proofs.Members.{same_some}
use Rattle.flat_law.proofs.Stretches.{whole_in}
use Rattle.flat_law.proofs.WindowKept.{ticks_is}
use Rattle.pieces.specs.Short.{IsCuttable}
use Rattle.pieces.specs.declared.cutting.CutFault.{CutFault}
use Rattle.pieces.specs.declared.cutting.CutFault.TheVariants as F
use Rattle.limits.proofs.IntegerTests.{below-int_lt, above-int_lt, below-int_le, above-int_le}

-- ---- whether a cut is needed

pub cut_early : (x : ItemOf Listed) (t : ℤ) → t ≤ℤ pos 0 → true ≡ cuts_at x t
cut_early x t h = let e = below-int_le t (pos 0) h in rw e refl

pub cut_late : (x : ItemOf Listed) (t n : ℤ) → n ≡ ticks x → n ≤ℤ t → true ≡ cuts_at x t
cut_late x t n e h =
    let f : int_le (ticks x) t ≡ true = below-int_le (ticks x) t (subst (λ z. z ≤ℤ t) e h) in
    rw f (or_true (int_le t (pos 0)))
  where
    or_true : (b : Bool) → true ≡ ((b || true) || is_whole_at x t)
    or_true true = refl
    or_true false = refl

pub cut_inside : (x : ItemOf Listed) (t n : ℤ) (b : Bool) → n ≡ ticks x → pos 0 <ℤ t → t <ℤ n
    → b ≡ is_whole_at x t → b ≡ cuts_at x t
cut_inside x t n b e h k w =
    let f = above-int_le t (pos 0) h in
    let g : int_le (ticks x) t ≡ false = above-int_le (ticks x) t (subst (λ z. t <ℤ z) e k) in
    rw (f, g) w

-- ---- up to an instant

pub front_all : (r : Rate) (x y : ItemOf Listed) (t n : ℤ) → n ≡ ticks x → n ≤ℤ t → y ≡ x
    → up_to r t x ≡ Some y
front_all r x y t n e h f =
    let g : int_lt t (ticks x) ≡ false = above-int_lt t (ticks x) (subst (λ z. z ≤ℤ t) e h) in
    rw g (ap Some (sym f))

pub front_cut : (r : Rate) (x y : ItemOf Listed) (t n : ℤ) → n ≡ ticks x → t <ℤ n
    → made r (left_piece x t) ≡ Some y → up_to r t x ≡ Some y
front_cut r x y t n e h m =
    let g : int_lt t (ticks x) ≡ true = below-int_lt t (ticks x) (subst (λ z. t <ℤ z) e h) in rw g m

-- ---- from an instant on

pub back_all : (r : Rate) (x y : ItemOf Listed) (t : ℤ) → t ≤ℤ pos 0 → y ≡ x
    → from_on r t x ≡ Some y
back_all r x y t h f = let g = above-int_lt (pos 0) t h in rw g (ap Some (sym f))

pub back_cut : (r : Rate) (x y : ItemOf Listed) (t : ℤ) → pos 0 <ℤ t
    → from_on r t x ≡ made r (Rattle.edits.specs.Cuts.right_piece x t)
back_cut r x y t h = let g = below-int_lt (pos 0) t h in rw g refl

-- ---- the first piece, to be cut again

-- an item that can be cut where another can, and holds an instant
pub record IsFront (x y : ItemOf Listed) (from : ℤ) : Type 0 where
  pub cuttable : IsCuttable y
  pub high : pos 0 <ℤ from → from <ℤ ticks y
  pub whole : cuts_at y from ≡ true

count_kept : (w : Span) (x : ItemOf Listed) → count_of (with_range w x) ≡ count_of x
count_kept w (Clip c) = refl
count_kept w (Gap c) = refl
count_kept w (Transition c) = refl
count_kept w (Stack c) = refl
count_kept w (Track c) = refl

speed_kept : (w : Span) (x : ItemOf Listed) → speed_of (with_range w x) ≡ speed_of x
speed_kept w (Clip c) = refl
speed_kept w (Gap c) = refl
speed_kept w (Transition c) = refl
speed_kept w (Stack c) = refl
speed_kept w (Track c) = refl

range_length : (w : Span) (x : ItemOf Listed) → is_transition x ≡ false
    → length_of (with_range w x) ≡ Some (unsigned_abs w.len.ticks)
range_length w (Clip c) e = refl
range_length w (Gap c) e = refl
range_length w (Transition c) e = absurd (cc e)
range_length w (Stack c) e = refl
range_length w (Track c) e = refl

thing : (x : ItemOf Listed) (t : ℤ) → pos 0 <ℤ t → t <ℤ ticks x → is_transition x ≡ false
thing (Clip c) t h k = refl
thing (Gap c) t h k = refl
thing (Transition c) t h k = absurd (omega (arith, ints, h, k))
thing (Stack c) t h k = refl
thing (Track c) t h k = refl

whole_at : (x : ItemOf Listed) (t : ℤ) → is_whole_at x t ≡ true → cuts_at x t ≡ true
whole_at x t e = or_true (int_le t (pos 0) || int_le (ticks x) t) (is_whole_at x t) e
  where
    or_true : (a b : Bool) → b ≡ true → (a || b) ≡ true
    or_true true b f = refl
    or_true false b f = f

cut_front : (r : Rate) (x y : ItemOf Listed) (from to : ℤ) → IsCuttable x → pos 0 <ℤ to
    → to <ℤ ticks x → from <ℤ to → cuts_at x from ≡ true → made r (left_piece x to) ≡ Some y
    → IsFront x y from
cut_front r x y from to c low high wide whole m =
    let tr = thing x to low high in
    let one = sound_one x tr c.sound in
    let len = ticks_is x one.ticks one.length in
    let n : pos (unsigned_abs to) ≡ to = omega (arith, ints) in
    let l = left_made r x (unsigned_abs to) tr one (omega (arith, ints, len)) in
    let same : l.item ≡ y =
    same_some l.item y (sym (ap (λ z. made r (Ranged x (trimmed_start x) z)) (sym n) ∙ l.made) ∙ m) in
    subst (λ z. IsFront x z from) same (front l.item l.span tr l.is l.sound (l.len ∙ n))
  where
    again : (z : ItemOf Listed) (w : Span) → z ≡ with_range w x → cuts_at z from ≡ true
    again z w e = by_lt_z (pos 0) from
        (λ h. whole_at z from
        (ap (λ p. unsigned_abs (from *ℤ p) % 1000000 == 0) (ap (λ (q : ItemOf Listed). speed_of q) e ∙ speed_kept w x)
        ∙ whole_in x from whole h (omega (arith, ints, wide, high))))
        (λ h. sym (cut_early z from h))

    front : (z : ItemOf Listed) (w : Span) → is_transition x ≡ false → z ≡ with_range w x
        → fault_of z ≡ None → w.len.ticks ≡ to → IsFront x z from
    front z w tr e f g =
        let long : ticks z ≡ pos (unsigned_abs w.len.ticks) =
        ticks_is z (unsigned_abs w.len.ticks) (ap (λ (q : ItemOf Listed). length_of q) e ∙ range_length w x tr) in
        let size : unsigned_abs w.len.ticks ≡ unsigned_abs to = ap unsigned_abs g in
        record {
          cuttable = record {
            few = subst (λ (q : ItemOf Listed). count_of q < 2 ^ 32) (sym e) (rw (count_kept w x) c.few);
            sound = f;
          };
          high = λ h. omega (arith, ints, long, size, wide, low);
          whole = again z w e;
        }

pub front_of : (r : Rate) (x y : ItemOf Listed) (from to : ℤ) → IsCuttable x → pos 0 <ℤ to
    → from <ℤ to → (pos 0 <ℤ from → from <ℤ ticks x) → cuts_at x from ≡ true
    → up_to r to x ≡ Some y
    → IsFront x y from
front_of r x y from to c low wide high whole e = cases (int_lt to (ticks x))
    (λ g. cut_front r x y from to c low (lt_is to (ticks x) g) wide whole (rw g at e))
    (λ g. subst (λ z. IsFront x z from) (same_some x y (rw g at e))
    (record { cuttable = c; high = high; whole = whole }))
  where
    lt_is : (a b : ℤ) → int_lt a b ≡ true → a <ℤ b
    lt_is a b f = grind (arith, ints)

-- a cut that is needed and can be made isn't refused
pub not_phased : (x : ItemOf Listed) (t : ℤ) → cuts_at x t ≡ true → pos 0 <ℤ t → t <ℤ ticks x
    → is_whole_at x t ≡ false → ⊥
not_phased x t e h k f = cc (sym (whole_in x t e h k) ∙ f)

pub refused : (f : CutFault) (b : Bool) → f ≡ F.Phase
    → (f ≢ F.Memory → (f ≡ F.Phase) × (b ≡ false)) → b ≡ false
refused f b e h = (h (λ k. no_memory (sym e ∙ k))).1
  where
    no_memory : F.Phase ≡ F.Memory → ⊥
    no_memory k = cc k
