use Rattle.ale_text.proofs.HeadingLemmas.{no_rate_of_log, rate_of_log}
use Rattle.ale_text.proofs.heading.log_rate.Goals as goal

pub returns-in-Some : goal.returns-in-Some
returns-in-Some c =
    rate_of_log c.args.word.now c.in-Some.rate c.with_timecode.result c.in-Some.ensures
    c.with_timecode.ensures

pub returns-in-None : goal.returns-in-None
returns-in-None c = no_rate_of_log c.args.word.now c.in-None.ensures
