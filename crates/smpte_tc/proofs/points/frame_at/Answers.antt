use Rattle.smpte_tc.proofs.points.frame_at.Goals as goal

pub returns-in-Frame-clause-frame : goal.returns-in-Frame-clause-frame
returns-in-Frame-clause-frame c = rw c.in-Frame.is (c.frame_number.ensures.frame c.args.rate)
