use Rattle.std.proofs.Common.{◌≡◌, ◌∙◌, sym, subst, ap, ℤ, pos, ◌-ℤ◌, ◌*ℤ◌, ◌<ℤ◌, ◌≤ℤ◌}
use Rattle.std.proofs.Common.{unsigned_abs, to_z, of_z, arith}
use Rattle.std.specs.Int.{w128}
use Rattle.std.proofs.lemmas.Int.{ints}
use Rattle.edl_frames.specs.Jobs.{frames_in, ticks_of}
use Rattle.edl_conform.specs.Stated.{stated_job}
use Rattle.edl_conform.specs.Ranges.{IsNear}
use Rattle.edl_conform.specs.declared.list_settings.Job.{Job}
use Rattle.edl_conform.specs.declared.child_context.Lap.{Lap}
use Rattle.edl_conform.specs.Seated.{IsOpen, IsShort}
use Rattle.edl_conform.proofs.CastLemmas.{kept}
use Rattle.edl_conform.proofs.NearLemmas.{lap_few}
use Rattle.edl_conform.proofs.event_of_child.lap_frames.Goals as goal

-- the frames of an overlap
abbrev count_in : Job → Lap → ℤ
count_in job lap = frames_in (stated_job job) (lap.end -ℤ lap.begin)

few : (job : Job) (lap : Lap) → IsOpen lap → IsShort job.ticks lap
    → (pos 0 ≤ℤ count_in job lap) × (count_in job lap ≤ℤ pos 999)
few job lap stands short =
    let s = stands.some in
    let is = job.ticks_are in
    let long = job.long in
    let one : pos 1 ≤ℤ ticks_of (stated_job job) = omega (arith, ints, is, long) in
    let some : pos 0 <ℤ (lap.end -ℤ lap.begin) = omega (arith, ints, s) in
    lap_few (lap.end -ℤ lap.begin) (ticks_of (stated_job job)) some one
    (subst (λ z. (lap.end -ℤ lap.begin) ≤ℤ (pos 999 *ℤ z)) is short)

-- the same as the code has them
counted : (job : Job) (lap : Lap) (r : ℤ) → IsOpen lap → IsNear 1000000000000 r
    → r ≡ frames_in (stated_job job)
    (to_z w128 (of_z w128 (to_z w128 (of_z w128 lap.end) -ℤ to_z w128 (of_z w128 lap.begin))))
    → to_z w128 (of_z w128 r) ≡ count_in job lap
counted job lap r stands near is =
    let a = stands.begin in
    let b = stands.end in
    let u : to_z w128
    (of_z w128 (to_z w128 (of_z w128 lap.end) -ℤ to_z w128 (of_z w128 lap.begin)))
    ≡ lap.end -ℤ lap.begin = omega (arith, ints, a.low, a.high, b.low, b.high) in
    kept 1000000000000 r (omega arith) near ∙ is ∙ ap (frames_in (stated_job job)) u

pub small-requires-clause-low : goal.small-requires-clause-low
small-requires-clause-low c =
    let f = c.frames_in.ensures in
    let e = counted c.args.job.now c.args.lap.now _ c.requires.open f.range f.value in
    subst (λ z. pos 0 ≤ℤ z) (sym e)
    (few c.args.job.now c.args.lap.now c.requires.open c.requires.short).0

pub small-requires-clause-high : goal.small-requires-clause-high
small-requires-clause-high c =
    let f = c.frames_in.ensures in
    let e = counted c.args.job.now c.args.lap.now _ c.requires.open f.range f.value in
    subst (λ z. z ≤ℤ pos 999) (sym e)
    (few c.args.job.now c.args.lap.now c.requires.open c.requires.short).1

pub returns : goal.returns
returns c =
    let f = c.frames_in.ensures in
    c.small.ensures
    ∙ ap unsigned_abs (counted c.args.job.now c.args.lap.now _ c.requires.open f.range f.value)
