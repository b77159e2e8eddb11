use Rattle.std.proofs.Common.{sym}
use Rattle.edl_notes.proofs.ColorSteps.{no_slope, no_offset, no_power}
use Rattle.edl_notes.proofs.members.correction_in.Goals as goal

pub returns-in_default-triple_in : goal.returns-in_default-triple_in
returns-in_default-triple_in c = no_slope c.args.metadata.now c.in-Some.sop.now (sym c.in-Some.ensures) c.in_default-triple_in.ensures

pub returns-in_default-triple_in-2 : goal.returns-in_default-triple_in-2
returns-in_default-triple_in-2 c = no_offset c.args.metadata.now c.in-Some.sop.now (sym c.in-Some.ensures) c.in_default-triple_in-2.ensures

pub returns-in_default-triple_in-3 : goal.returns-in_default-triple_in-3
returns-in_default-triple_in-3 c = no_power c.args.metadata.now c.in-Some.sop.now (sym c.in-Some.ensures) c.in_default-triple_in-3.ensures
