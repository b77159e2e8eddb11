use Rattle.std.proofs.Common.{w64, arith}
use Rattle.std.proofs.lemmas.Int.{to_z_pos}
use Rattle.smpte_tc.proofs.points.frame_number.Goals as goal

pub returns-then-number-lt1000000000000000000-clause-bound : goal.returns-then-number-lt1000000000000000000-clause-bound
returns-then-number-lt1000000000000000000-clause-bound c = (c.args.number, to_z_pos w64 c.args.number (omega arith), omega arith)
