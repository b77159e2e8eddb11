-- What root children show.
use Rattle.std.proofs.Common.{◌≡◌, refl, sym, ap, ap₂, ◌∙◌, ℕ, ◌+◌, ℤ, pos, ◌-ℤ◌, ◌*ℤ◌, ◌≤ℤ◌, ◌<ℤ◌, false, Some, None, slice_get, FitsSigned, to_z, of_z, subst, arith}
use Rattle.std.specs.Int.{w128}
use Rattle.std.proofs.lemmas.Int.{ints, by_lt_z}
use Rattle.limits.specs.Limits.{most_ticks}
use Rattle.otio_model.specs.declared.compositions.ItemOf.{ItemOf}
use Rattle.otio_model.specs.declared.compositions.Listed.{Listed}
use Rattle.otio_model.specs.declared.timelines.Timeline.{Timeline}
use Rattle.otio_model.specs.Trees.{items_of}
use Rattle.otio_model.specs.Lengths.{length_of, or_zero}
use Rattle.otio_model.specs.Overlaps.{within}
use Rattle.coord.specs.Looks.{FrameRate, Blank}
use Rattle.coord.specs.Sights.{sight}
use Rattle.coord.specs.Programs.{kind_of, child_shows, shown_by, instant, program}
use Rattle.coord.specs.Soundness.{fault_of}
use Rattle.coord.specs.Sights.{exact}
use Rattle.show_prog.specs.declared.shows.Clock.{Clock}
use Rattle.show_prog.specs.Clocks.{IsClockOf}
use Rattle.show_prog.specs.Walk.{IsInstant}
use Rattle.coord.proofs.SightLemmas.{length_seen}
use Rattle.coord.proofs.ShortItems.{is_short}
use Rattle.coord.proofs.LookSteps.{is_within, missed_before, missed_behind}

abbrev same : FrameRate → FrameRate
same = λ rate. rate

length_as : (x : ItemOf Listed) → pos (or_zero (sight x).length) ≡ pos (or_zero (length_of x))
length_as x = ap (λ o. pos (or_zero o)) (length_seen x)

pub child_in : (x : ItemOf Listed) (u : ℤ) → pos 0 ≤ℤ u → u <ℤ pos (or_zero (length_of x)) → (sight x).shows (exact (kind_of x)) u ≡ child_shows same x u
child_in x u low high = let k = length_as x in rw (is_within (pos 0) (pos (or_zero (sight x).length)) u low (omega (arith, ints))) refl

pub child_before : (x : ItemOf Listed) (u : ℤ) → u <ℤ pos 0 → Blank ≡ child_shows same x u
child_before x u h = rw (missed_before (pos 0) (pos (or_zero (sight x).length)) u h) refl

pub child_behind : (x : ItemOf Listed) (u : ℤ) → pos (or_zero (length_of x)) ≤ℤ u → Blank ≡ child_shows same x u
child_behind x u h = let k = length_as x in rw (missed_behind (pos 0) (pos (or_zero (sight x).length)) u (omega (arith, ints))) refl

pub child_short : (x : ItemOf Listed) → fault_of x ≡ None → pos (or_zero (length_of x)) ≤ℤ pos most_ticks
child_short x e = let s = (is_short x e).ticks in omega (arith, ints)

far_end : (u : ℤ) → pos 0 ≤ℤ u → within (pos 0) (pos (most_ticks + 1)) u ≡ false → pos (most_ticks + 1) ≤ℤ u
far_end u low e = by_lt_z u (pos (most_ticks + 1))
    (λ h. absurd (cc (sym e ∙ is_within (pos 0) (pos (most_ticks + 1)) u low h)))
    (λ h. h)

-- what lies outside every sound timeline lies outside a sound child
pub child_far : (x : ItemOf Listed) (u : ℤ) → fault_of x ≡ None → within (pos 0) (pos (most_ticks + 1)) u ≡ false → Blank ≡ child_shows same x u
child_far x u s e = by_lt_z u (pos 0) (λ h. child_before x u h) (λ h. let f = far_end u h e in let k = child_short x s in child_behind x u (omega (arith, ints)))

-- what a root child shows is what is shown of it at the record frame
pub program_of : (t : Timeline) (k : ℕ) (n u : ℤ) (x : ItemOf Listed) → slice_get (items_of t.tracks.children) k ≡ Some x → u ≡ instant t n → child_shows same x u ≡ program t k n
program_of t k n u x e f = ap (child_shows same x) f ∙ ap (λ o. shown_by same o (instant t n)) (sym e)

-- the instant by a clock of the timeline
pub instant_of : (t : Timeline) (c : Clock) (n m start ticks : ℤ) → IsClockOf t c → m ≡ n
    → start ≡ c.start → ticks ≡ c.ticks → (m -ℤ start) *ℤ ticks ≡ instant t n
instant_of t c n m start ticks k e f g =
    ap (λ z. (z -ℤ start) *ℤ ticks) e ∙ ap₂ (λ s f. (n -ℤ s) *ℤ f) (f ∙ k.start) (g ∙ k.ticks)

same_signed : (z : ℤ) → FitsSigned w128 z → to_z w128 (of_z w128 z) ≡ z
same_signed z h = omega (arith, ints, h)

-- the same, as the code reckons it in 128 bits
pub instant_by_clock : (t : Timeline) (c : Clock) (n : ℤ) → IsClockOf t c → FitsSigned w128 n
    → FitsSigned w128 c.start → FitsSigned w128 c.ticks
    → (to_z w128 (of_z w128 n) -ℤ to_z w128 (of_z w128 c.start)) *ℤ to_z w128 (of_z w128 c.ticks)
    ≡ instant t n
instant_by_clock t c n k h start ticks =
    instant_of t c n _ _ _ k (same_signed n h) (same_signed c.start start)
    (same_signed c.ticks ticks)

-- what is shown at the instant that the code has reckoned
pub program_at : (t : Timeline) (c : Clock) (k : ℕ) (n u : ℤ) (x : ItemOf Listed)
    → slice_get (items_of t.tracks.children) k ≡ Some x → IsClockOf t c → FitsSigned w128 n
    → FitsSigned w128 c.start → FitsSigned w128 c.ticks → FitsSigned w128 u
    → IsInstant ((to_z w128 (of_z w128 n) -ℤ to_z w128 (of_z w128 c.start))
    *ℤ to_z w128 (of_z w128 c.ticks)) (Some u)
    → child_shows same x (to_z w128 (of_z w128 u)) ≡ program t k n
program_at t c k n u x e clock h start ticks small is =
    program_of t k n _ x e
    (same_signed u small ∙ is ∙ instant_by_clock t c n clock h start ticks)

-- what is shown where the code has found no instant
pub program_far : (t : Timeline) (c : Clock) (k : ℕ) (n : ℤ) (x : ItemOf Listed)
    → slice_get (items_of t.tracks.children) k ≡ Some x → fault_of x ≡ None → IsClockOf t c
    → FitsSigned w128 n → FitsSigned w128 c.start → FitsSigned w128 c.ticks
    → IsInstant ((to_z w128 (of_z w128 n) -ℤ to_z w128 (of_z w128 c.start))
    *ℤ to_z w128 (of_z w128 c.ticks)) None
    → Blank ≡ program t k n
program_far t c k n x e sound clock h start ticks is =
    let far = subst (λ (z : ℤ). within (pos 0) (pos (most_ticks + 1)) z ≡ false)
    (instant_by_clock t c n clock h start ticks) is in
    child_far x (instant t n) sound far ∙ program_of t k n _ x e refl
