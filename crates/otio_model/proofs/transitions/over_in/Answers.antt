-- One more item whose overlap doesn't hold the instant.
use Rattle.std.proofs.Common.{arith, sym, ◌+◌}
use Rattle.std.proofs.lemmas.Int.{ints}
use Rattle.otio_model.specs.Seeks.{lens}
use Rattle.otio_model.proofs.OverLemmas.{over_here, over_passed}
use Rattle.otio_model.proofs.SeekLemmas.{length-lens, start_fits, total-take_le, total-take_more}
use Rattle.otio_model.proofs.transitions.over_in.Goals as goal

pub overflow_add-first : goal.overflow_add-first
overflow_add-first c =
    omega (
      arith,
      start_fits (lens c.args.items.now) c.items.index c.args.first c.items.start
          c.items.invariant.start c.requires.fits,
    )

pub ticks_from-requires-clause-start : goal.ticks_from-requires-clause-start
ticks_from-requires-clause-start c =
    start_fits (lens c.args.items.now) c.items.index c.args.first c.items.start
    c.items.invariant.start c.requires.fits

pub returns-then-is_over-clause-found : goal.returns-then-is_over-clause-found
returns-then-is_over-clause-found c =
    over_here c.args.items.now c.items.index c.index-items-index.result _ _ c.items.start
    (omega arith)
    c.index-items-index.is c.items.invariant.start (omega (arith, ints, c.ticks_from.ensures))
    (sym c.if-is_over.ensures) c.items.invariant.none

pub overflow_add-start : goal.overflow_add-start
overflow_add-start c =
    let ns = lens c.args.items.now in
    omega (
      arith,
      total-take_more ns c.items.index (omega (arith, length-lens c.args.items.now)),
      total-take_le ns (c.items.index + 1),
      c.requires.fits,
      c.items.invariant.start,
      c.ticks_at-start.ensures,
    )

pub items-preserved : goal.items-preserved
items-preserved c =
    let ns = lens c.args.items.now in
    record {
      start = omega (
        arith,
        total-take_more ns c.items.index (omega (arith, length-lens c.args.items.now)),
        c.items.invariant.start,
        c.ticks_at-start.ensures,
      );
      none = over_passed c.args.items.now c.items.index c.index-items-index.result _ _ c.items.start
          (omega arith) c.index-items-index.is c.items.invariant.start
          (omega (arith, ints, c.ticks_from.ensures)) (sym c.if-is_over.ensures)
          c.items.invariant.none;
    }
