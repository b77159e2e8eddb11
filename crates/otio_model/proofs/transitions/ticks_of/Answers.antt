-- One more item.
use Rattle.std.proofs.Common.{arith, ◌+◌}
use Rattle.otio_model.specs.Seeks.{lens}
use Rattle.otio_model.proofs.SeekLemmas.{length-lens, total-take_le, total-take_more}
use Rattle.otio_model.proofs.transitions.ticks_of.Goals as goal

pub overflow_add-sum : goal.overflow_add-sum
overflow_add-sum c =
    let ns = lens c.args.items.now in
    omega (
      arith,
      total-take_more ns c.items.index
          (omega (arith, length-lens c.args.items.now, c.requires.there, c.items-test.true)),
      total-take_le ns (c.items.index + 1),
      c.requires.fits,
      c.items.invariant.sum,
      c.ticks_at-sum.ensures,
    )

pub items-preserved : goal.items-preserved
items-preserved c =
    record {
      sum = omega (
        arith,
        total-take_more (lens c.args.items.now) c.items.index
            (omega (arith, length-lens c.args.items.now, c.requires.there, c.items-test.true)),
        c.items.invariant.sum,
        c.ticks_at-sum.ensures,
      );
    }
