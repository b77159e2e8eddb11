use Rattle.std.proofs.Common.{refl, ◌∙◌, arith}
use Rattle.std.specs.Option.{option_copied}
use Rattle.edl_conform.specs.Stated.{stated_job}
use Rattle.edl_conform.proofs.ListFacts.{children_said, many_said, none_is_said, is_list}
use Rattle.edl_conform.proofs.SeatSteps.{job_is}
use Rattle.edl_conform.proofs.events_of_timeline.events.Goals as goal

pub returns-in-Err-clause-refused : goal.returns-in-Err-clause-refused
returns-in-Err-clause-refused c =
    children_said c.args.timeline.now (option_copied c.args.media) c.args.drop c.args.wide
    (stated_job c.in-Some.job) c.in-Err.fault
    (job_is c.args.timeline.now (option_copied c.args.media) c.args.drop c.args.wide
    c.in-Some.job c.in-Some.ensures) c.in-Err.ensures.refused

pub returns-then-most_events-len-clause-refused : goal.returns-then-most_events-len-clause-refused
returns-then-most_events-len-clause-refused c =
    many_said c.args.timeline.now (option_copied c.args.media) c.args.drop c.args.wide
    (stated_job c.in-Some.job) c.in-Ok.gathered.items c.at_root-then-most_events-len.result
    (job_is c.args.timeline.now (option_copied c.args.media) c.args.drop c.args.wide
    c.in-Some.job c.in-Some.ensures) c.in-Ok.ensures.carried c.in-Ok.ensures.gathered
    (omega arith) c.at_root-then-most_events-len.ensures

pub returns-clause-list : goal.returns-clause-list
returns-clause-list c =
    is_list c.args.timeline.now (option_copied c.args.media) c.args.drop c.args.wide
    (stated_job c.in-Some.job) _ c.in-Ok.gathered.items
    (job_is c.args.timeline.now (option_copied c.args.media) c.args.drop c.args.wide
    c.in-Some.job c.in-Some.ensures) c.in-Ok.ensures.gathered c.in_ok-events.ensures
    (c.in_ok-title.ensures ∙ c.as_str.ensures) refl refl

pub returns-clause-carried : goal.returns-clause-carried
returns-clause-carried c =
    none_is_said c.args.timeline.now (option_copied c.args.media) c.args.drop c.args.wide
    (stated_job c.in-Some.job) c.in-Ok.gathered.items
    (job_is c.args.timeline.now (option_copied c.args.media) c.args.drop c.args.wide
    c.in-Some.job c.in-Some.ensures) c.in-Ok.ensures.carried c.in-Ok.ensures.gathered
    (omega arith)
