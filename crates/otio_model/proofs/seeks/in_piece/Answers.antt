use Rattle.std.proofs.Common.{arith, ap}
use Rattle.otio_model.specs.Seeks.{lens, total}
use Rattle.otio_model.proofs.SeekLemmas.{length-lens}
use Rattle.otio_model.proofs.KeptLemmas.{taken_all}
use Rattle.otio_model.proofs.seeks.in_piece.Goals as goal

pub returns-clause-none : goal.returns-clause-none
returns-clause-none g c =
    omega (
      arith,
      c.items.invariant.start,
      c.items.invariant.low,
      ap total (taken_all (lens c.args.piece.now.items.items) c.items.index
          (omega (
            arith,
            length-lens c.args.piece.now.items.items,
            c.args.piece.now.items.ok,
            c.items-test.false,
            c.len-index-end.ensures,
          ))),
    )
