use Rattle.edit_ops.proofs.Answering.{answer-refused}
use Rattle.edit_ops.proofs.Zoning.{cuts_passed, cuts_refused}
use Rattle.edit_ops.proofs.zones.plan_cuts.Goals as goal

pub returns-then-not-can_cut_ends : goal.returns-then-not-can_cut_ends
returns-then-not-can_cut_ends c = λ e z. answer-refused _ _ _ (λ _. cuts_refused
    c.track_of.ensures.list c.can_cut_ends.ensures c.if-not-can_cut_ends.true e z.0 z.1)

pub plan_zone-requires-clause-edit : goal.plan_zone-requires-clause-edit
plan_zone-requires-clause-edit c =
    let z = c.requires.edit in (
      z.0,
      (
        z.1.0,
        cuts_passed c.track_of.ensures.list c.can_cut_ends.ensures c.if-not-can_cut_ends.false
            z.0 z.1.0 z.1.1,
      ),
    )

pub returns : goal.returns
returns c = λ e z. c.plan_zone.ensures e (
  z.0,
  cuts_passed c.track_of.ensures.list c.can_cut_ends.ensures c.if-not-can_cut_ends.false e z.0 z.1,
)
