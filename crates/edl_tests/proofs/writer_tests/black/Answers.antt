-- The event can stand in a list at 24 frames a second.
use Rattle.std.proofs.Common.{arith, refl}
use Rattle.std.proofs.lemmas.Int.{ints}
use Rattle.edl_tests.proofs.FilmFrames.{Is24, frame_24, below_24}
use Rattle.edl_tests.proofs.writer_tests.black.Goals as goal

pub returns-clause-event : goal.returns-clause-event
returns-clause-event c =
    let at : Is24 c.args.rate = record { num = c.requires.num; den = c.requires.den } in
    record {
      to = record {
        reel = tt;
        src_in = frame_24 c.args.rate 24 at (omega arith);
        src_out = frame_24 c.args.rate 120 at (omega arith);
        forward = omega (arith, ints);
        speed = omega arith;
      };
      rec_in = frame_24 c.args.rate 86400 at (omega arith);
      rec_out = frame_24 c.args.rate 86448 at (omega arith);
      some = omega (arith, ints);
      cross = tt;
    }

pub returns-clause-labels : goal.returns-clause-labels
returns-clause-labels c =
    let at : Is24 c.args.rate = record { num = c.requires.num; den = c.requires.den } in
    record {
      outgoing_in = tt;
      source_in = below_24 c.args.rate 24 at (omega arith);
      source_out = below_24 c.args.rate 120 at (omega arith);
      record_in = below_24 c.args.rate 86400 at (omega arith);
      record_out = below_24 c.args.rate 86448 at (omega arith);
    }
