use Rattle.std.proofs.Common.{rules, ◌≡◌, ◌+ℤ◌, ◌<ℤ◌, FitsSigned}
use Rattle.std.proofs.lemmas.Int.{to_z-of_z}
use Rattle.std.specs.Int.{int_max, int_min}
use mir.Syntax.{w128}
use Rattle.tick_time.proofs.Meetings.{meets_at, at_meets, below_from-test, test_from-below}
use Rattle.tick_time.proofs.spans.Span.meets.Goals as goal

pub returns : goal.returns
returns c =
    let a : FitsSigned w128 c.args.self.now.start.ticks = search rules in
    let b : FitsSigned w128 c.args.other.now.start.ticks = search rules in
    let e : FitsSigned w128 c.end_ticks.result = search rules in
    let f : FitsSigned w128 c.end_ticks-2.result = search rules in
    let from : c.max-from.result ≡ int_max c.args.self.now.start.ticks c.args.other.now.start.ticks = simp to_z-of_z at c.max-from.ensures.value in
    let to : c.min-to.result ≡ int_min c.end_ticks.result c.end_ticks-2.result = simp to_z-of_z at c.min-to.ensures.value in
    let near : (c.max-from.result <ℤ c.min-to.result) → int_max c.args.self.now.start.ticks c.args.other.now.start.ticks <ℤ int_min (c.args.self.now.start.ticks +ℤ c.args.self.now.len.ticks) (c.args.other.now.start.ticks +ℤ c.args.other.now.len.ticks) = λ h. rw (← from, ← c.end_ticks.ensures, ← c.end_ticks-2.ensures, ← to) h in
    let far : int_max c.args.self.now.start.ticks c.args.other.now.start.ticks <ℤ int_min (c.args.self.now.start.ticks +ℤ c.args.self.now.len.ticks) (c.args.other.now.start.ticks +ℤ c.args.other.now.len.ticks) → c.max-from.result <ℤ c.min-to.result = λ h. rw (from, to, c.end_ticks.ensures, c.end_ticks-2.ensures) h in (
      λ h. meets_at _ _ _ _ (near (below_from-test _ _ (search rules) (search rules) h)),
      λ h. test_from-below _ _ (search rules) (search rules) (far (at_meets _ _ _ _ h.0 h.1 h.2)),
    )
