use Rattle.std.proofs.Common.{w64, arith}
use Rattle.std.proofs.lemmas.Int.{to_z_pos}
use Rattle.media_list.proofs.words.signed.Goals as goal

pub returns-clause-bound : goal.returns-clause-bound
returns-clause-bound c =
    (c.args.number, to_z_pos w64 c.args.number (omega (arith, c.requires)), c.requires)
