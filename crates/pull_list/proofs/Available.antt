-- The frames that have an instant of a range of media.
use Rattle.std.proofs.Common.{◌≡◌, sym, ap, subst, ◌∙◌, ℕ, suc, ◌+◌, ◌*◌, ◌/◌, ◌<◌, ◌≤◌, ℤ, pos, negsuc, ◌+ℤ◌, ◌-ℤ◌, ◌*ℤ◌, ◌≤ℤ◌, ◌<ℤ◌, ◌⊎◌, inl, inr, List, [], ◌∷◌, ◌++◌, Option, Some, None, arith}
use Rattle.std.specs.Int.{int_div_euclid}
use Rattle.std.proofs.Math.IntN.{negsuc-*ℤ-pos, pos-*ℤ-pos}
use Rattle.std.proofs.Math.Nat.{div-mul-le_self, lt-div-mul-add, lt_of_mul-lt-mul_right}
use Rattle.std.proofs.lemmas.Int.{ints, by_lt_z}
use Rattle.tick_time.proofs.Wholes.{count-product}
use Rattle.tick_time.specs.declared.spans.Span.{Span}
use Rattle.coord.specs.Images.{frame_number}
use Rattle.coord.specs.Looks.{FrameRate}
use Rattle.coord.specs.Programs.{frame_ticks}
use Rattle.pull_list.specs.Found.{AddsFrames, AreFrames}
use Rattle.pull_list.specs.Runs.{Has, IsRun, far, further}
use Rattle.pull_list.specs.Wanted.{HasAvailable}
use Rattle.pull_list.specs.declared.runs.Run.{Run}
use Rattle.pull_list.proofs.Merging.{each_append, has_append}

-- ---- numbers of frames

div_mono : (a b f : ℕ) → 0 < f → a ≤ b → a / f ≤ b / f
div_mono a b f some le =
    let p = div-mul-le_self a f in let q : b < b / f * f + f = lt-div-mul-add some in
    let r : (b / f + 1) * f ≡ b / f * f + f = omega arith in
    let s : a / f < b / f + 1 = lt_of_mul-lt-mul_right f (omega (arith, p, q, r, le)) in
    omega (arith, s)

pub quotient_mono : (m n : ℤ) (f : ℕ) → 0 < f → m ≤ℤ n
    → int_div_euclid m (pos f) ≤ℤ int_div_euclid n (pos f)
quotient_mono (pos a) (pos b) f some le =
    let d = div_mono a b f some (omega (arith, ints, le)) in omega (arith, ints, d)
quotient_mono (pos a) (negsuc b) f some le = absurd (omega (arith, ints, le))
quotient_mono (negsuc a) (pos b) f some le = omega (arith, ints)
quotient_mono (negsuc a) (negsuc b) f some le =
    let d = div_mono b a f some (omega (arith, ints, le)) in omega (arith, ints, d)

pub quotient_low : (m : ℤ) (f : ℕ) → 0 < f → (int_div_euclid m (pos f) *ℤ pos f) ≤ℤ m
quotient_low (pos a) f some =
    let p = div-mul-le_self a f in let e = pos-*ℤ-pos (a / f) f in omega (arith, ints, p, e)
quotient_low (negsuc a) f some =
    let p : a < a / f * f + f = lt-div-mul-add some in let e = negsuc-*ℤ-pos (a / f) f in
    let g : suc (a / f) * f ≡ a / f * f + f = omega arith in
    omega (arith, ints, p, e, g)

-- a frame starts no later than an instant of it or of one after it
pub starts_by : (v m : ℤ) (f : ℕ) → 0 < f → v ≤ℤ int_div_euclid m (pos f) → (v *ℤ pos f) ≤ℤ m
starts_by v m f some le = by_lt_z m (v *ℤ pos f)
    (λ lt. by (quotient_mono m (v *ℤ pos f) f some (omega (arith, ints, lt))) lt)
    (λ h. h)
  where
    by : int_div_euclid m (pos f) ≤ℤ int_div_euclid (v *ℤ pos f) (pos f) → m <ℤ (v *ℤ pos f)
        → (v *ℤ pos f) ≤ℤ m
    by h lt =
        let c = count-product v (pos f) (omega (arith, ints, some)) in
        let same : int_div_euclid m (pos f) ≡ v = omega (arith, ints, h, c, le) in
        let low = quotient_low m f some in
        subst (λ z. (z *ℤ pos f) ≤ℤ m) same low

-- ---- those of a range

frame_held : (start last v : ℤ) (f : ℕ) → 0 < f → start ≤ℤ last
    → int_div_euclid start (pos f) ≤ℤ v → v ≤ℤ int_div_euclid last (pos f)
    → (m : ℤ) × (start ≤ℤ m) × (m ≤ℤ last) × (int_div_euclid m (pos f) ≡ v)
frame_held start last v f some le low high = by_lt_z (v *ℤ pos f) start
    (λ lt.
    let d = quotient_mono (v *ℤ pos f) start f some (omega (arith, ints, lt)) in
    (start, omega (arith, ints), le, omega (arith, ints, d, c, low)))
    (λ ge. (v *ℤ pos f, ge, starts_by v last f some high, c))
  where
    c : int_div_euclid (v *ℤ pos f) (pos f) ≡ v
    c = count-product v (pos f) (omega (arith, ints, some))

pub frames_are : (range : Span) (rate : FrameRate) (first last : ℤ) → 0 < frame_ticks rate
    → range.start.ticks ≤ℤ (range.start.ticks +ℤ range.len.ticks -ℤ pos 1)
    → first ≡ frame_number range.start.ticks rate
    → last ≡ frame_number (range.start.ticks +ℤ range.len.ticks -ℤ pos 1) rate
    → (pos 0 -ℤ pos far) ≤ℤ first → last <ℤ pos far
    → AreFrames (Some range) rate (Some (first, last +ℤ pos 1))
frames_are range rate first last some len e g least most = (
  omega (arith, ints, mono, e, g),
  λ v low high.
      let held = frame_held start end v (frame_ticks rate) some len (omega (arith, ints, low, e))
      (omega (arith, ints, high, g)) in
      let to = held.2 in record {
        instant = held.0;
        held = record { from = held.1; to = omega (arith, ints, to) };
        number = held.3;
      },
  λ v near has.
      let from = has.held.from in let to = has.held.to in let n = has.number in
      let a = quotient_mono start has.instant (frame_ticks rate) some from in
      let b = quotient_mono has.instant end (frame_ticks rate) some (omega (arith, ints, to)) in
      (omega (arith, ints, a, e, n), omega (arith, ints, b, g, n)),
  omega (arith, ints, least),
  omega (arith, ints, most),
)
  where
    start : ℤ
    start = range.start.ticks

    end : ℤ
    end = range.start.ticks +ℤ range.len.ticks -ℤ pos 1

    mono : int_div_euclid start (pos (frame_ticks rate)) ≤ℤ int_div_euclid end (pos (frame_ticks rate))
    mono = quotient_mono start end (frame_ticks rate) some len

-- a range that is empty has no frame
pub frames_none : (range : Span) (rate : FrameRate) → range.start.ticks +ℤ range.len.ticks ≡ range.start.ticks
    → AreFrames (Some range) rate None
frames_none range rate e v has =
    let from = has.held.from in let to = has.held.to in omega (arith, ints, e, from, to)

-- where there is no range all frames are available
pub frames_all : (rate : FrameRate) (first past : ℤ) → first ≡ pos 0 -ℤ pos further → past ≡ pos further
    → AreFrames None rate (Some (first, past))
frames_all rate first past e g = (
  omega (arith, ints, e, g),
  λ v low high. tt,
  λ v near has. let a = near.0 in let b = near.1 in (omega (arith, ints, a, e), omega (arith, ints, b, g)),
  omega (arith, ints, e),
  omega (arith, ints, g),
)

-- ---- the run of them

pub frames_put : (old new : List Run) (group : ℕ) (range : Option Span) (rate : FrameRate) (run : Run)
    (first past : ℤ) → AreFrames range rate (Some (first, past)) → run.group ≡ group
    → run.first ≡ first → run.past ≡ past → new ≡ old ++ run ∷ []
    → AddsFrames old new group range rate
frames_put old new group range rate run first past known e a_is b_is f =
    subst (λ l. AddsFrames old l group range rate) (sym f) (record {
      only = λ k v h. there k v ((has_append old (run ∷ []) k v).0 h);
      old_stay = λ k v h. (has_append old (run ∷ []) k v).1 (inl h);
      all = λ v near has. let b = are.2 v near has in
          (has_append old (run ∷ []) group v).1 (inr (inl (e, b.0, b.1)));
      are_runs = λ h. each_append IsRun old (run ∷ []) h (are.0, tt);
    })
  where
    are : AreFrames range rate (Some (run.first, run.past))
    are = subst (λ z. AreFrames range rate (Some (z, run.past))) (sym a_is)
        (subst (λ z. AreFrames range rate (Some (first, z))) (sym b_is) known)

    there : (k : ℕ) (v : ℤ) → Has old k v ⊎ Has (run ∷ []) k v
        → Has old k v ⊎ ((k ≡ group) × HasAvailable range rate v)
    there k v (inl h) = inl h
    there k v (inr (inl h)) = inr (sym h.0 ∙ e, are.1 v h.1 h.2)
    there k v (inr (inr h)) = absurd h

pub frames_by : (range : Span) (rate : FrameRate) (m e first last a b : ℤ) → 0 < frame_ticks rate
    → range.start.ticks ≤ℤ (range.start.ticks +ℤ range.len.ticks -ℤ pos 1)
    → first ≡ frame_number m rate → m ≡ range.start.ticks → last ≡ frame_number e rate
    → e ≡ range.start.ticks +ℤ range.len.ticks -ℤ pos 1 → a ≡ first → b ≡ last +ℤ pos 1
    → (pos 0 -ℤ pos far) ≤ℤ first → last <ℤ pos far → AreFrames (Some range) rate (Some (a, b))
frames_by range rate m e first last a b some len f m_is l e_is a_is b_is least most =
    subst (λ z. AreFrames (Some range) rate (Some (z, b))) (sym a_is)
    (subst (λ z. AreFrames (Some range) rate (Some (first, z))) (sym b_is)
    (frames_are range rate first last some len (f ∙ ap (λ z. frame_number z rate) m_is)
    (l ∙ ap (λ z. frame_number z rate) e_is) least most))
