use Rattle.edit_plans.proofs.Further.{seat-passed}
use Rattle.edit_plans.proofs.touched_children.started.Goals as goal

pub started_at-requires-clause-seat : goal.started_at-requires-clause-seat
started_at-requires-clause-seat c =
    seat-passed c.args.children.now _ c.in-Some.seat c.in-Some.ensures.found
