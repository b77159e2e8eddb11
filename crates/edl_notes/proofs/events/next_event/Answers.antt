use Rattle.std.proofs.Common.{◌-ℤ◌, sym, subst, arith}
use Rattle.edl_list.specs.Laws.{IsTimed}
use Rattle.edl_notes.proofs.WalkSteps.{all_timed, past_end}
use Rattle.edl_notes.proofs.events.next_event.Goals as goal

pub is_earlier-requires-clause-timed : goal.is_earlier-requires-clause-timed
is_earlier-requires-clause-timed c =
    let list = c.args.work.list.now in
    let e = c.event_in.result.now in
    subst (λ f. IsTimed list.rate (e.rec_in -ℤ f)) (sym c.requires.work.first) (all_timed list c.requires.work.formed c.events.at e c.event_in.ensures)

pub returns : goal.returns
returns c = past_end c.args.work.list.now c.args.channel c.args.start c.events.at (omega (arith, c.events-test.false, c.len.ensures)) c.events.invariant
