use Rattle.std.proofs.Common.{◌++◌, take, arith}
use Rattle.dev_io.proofs.SendingLemmas.{adds_more, left_after}
use Rattle.dev_io.proofs.output.write_all.Goals as goal

pub loop-rest-preserved : goal.loop-rest-preserved
loop-rest-preserved g c =
    let done = c.loop-rest.invariant.sent in
    let rest = c.loop-rest.rest.now in
    record {
      later = omega (arith, c.in_ok-sent.ensures.cause.later);
      sent = (
        done.0 ++ take c.in_ok-sent.sent rest,
        left_after c.args.bytes.now done.0 rest c.in_ok-sent.sent done.1,
        adds_more _ _ _ done.0 _ done.2 c.in_ok-sent.ensures.told,
      );
    }
