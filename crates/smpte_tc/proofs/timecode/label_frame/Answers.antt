use Rattle.std.proofs.Common.{rules}
use Rattle.smpte_tc.specs.Answers.{means_drop}
use Rattle.smpte_tc.proofs.RoundTrip.{read_small}
use Rattle.smpte_tc.proofs.FrameLemmas.{frame_read, frame_refused, same_back}
use Rattle.smpte_tc.proofs.timecode.label_frame.Goals as goal

pub overflow_cast-result : goal.overflow_cast-result
overflow_cast-result c =
    let meant = means_drop c.args.label.now c.args.drop in
    let small = read_small c.args.rate meant c.in-Ok.frame c.args.label.now c.in-Ok.ensures in
    let back = same_back c.in-Ok.frame small.0 small.1 in
    let less = small.1.small in
    rw back (search rules)

pub returns-in-Ok-clause-frame : goal.returns-in-Ok-clause-frame
returns-in-Ok-clause-frame c =
    let label = c.args.label.now in
    let meant = means_drop label c.args.drop in
    let small = read_small c.args.rate meant c.in-Ok.frame label c.in-Ok.ensures in
    let back = same_back c.in-Ok.frame small.0 small.1 in
    let is = small.1.is in
    rw back (frame_read c.args.rate c.args.drop label c.in-Ok.frame small.0 c.in-Ok.ensures is)

pub returns-in-Ok-clause-of_day : goal.returns-in-Ok-clause-of_day
returns-in-Ok-clause-of_day c =
    let meant = means_drop c.args.label.now c.args.drop in
    let small = read_small c.args.rate meant c.in-Ok.frame c.args.label.now c.in-Ok.ensures in
    let back = same_back c.in-Ok.frame small.0 small.1 in
    rw back small.1.small

pub returns-in-Err-clause-frame : goal.returns-in-Err-clause-frame
returns-in-Err-clause-frame c =
    frame_refused c.args.rate c.args.drop c.args.label.now _ c.in-Err.ensures
