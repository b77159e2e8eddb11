use Rattle.std.proofs.Common.{sym, ◌∙◌, drop, ◌+◌}
use Rattle.std.specs.Option.{option_copied}
use Rattle.edl_conform.proofs.LoopSteps.{next_at, passes, found}
use Rattle.edl_conform.proofs.media_faults.first_fault.Goals as goal

pub returns-in-Some : goal.returns-in-Some
returns-in-Some c =
    let e = c.event-item.result in
    let all = c.args.events.now in
    let i = c.events.event-index in
    found c.args.media.now.rate (option_copied c.args.media.now.rows) all (drop i all) (drop (i + 1) all) e
    c.in-Some.fault (next_at all i e c.events-test.true c.event-item.is)
    (sym c.event_fault.ensures ∙ c.in-Some.is) c.events.invariant

pub events-preserved : goal.events-preserved
events-preserved c =
    let e = c.event-item.result in
    let all = c.args.events.now in
    let i = c.events.event-index in
    passes c.args.media.now.rate (option_copied c.args.media.now.rows) all (drop i all) (drop (i + 1) all) e
    (next_at all i e c.events-test.true c.event-item.is)
    (sym c.event_fault.ensures ∙ c.in-None.is) c.events.invariant
