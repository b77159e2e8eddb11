-- What is found in a piece is found in all.
use Rattle.std.proofs.Common.{arith}
use Rattle.otio_model.proofs.LightLemmas.{lit_found, lit_more, lit_start}
use Rattle.otio_model.proofs.lights.lit_in_pieces.Goals as goal

pub pieces-init : goal.pieces-init
pieces-init c = record { none = lit_start c.args.at c.locate-last.ensures }

pub overflow_add-result : goal.overflow_add-result
overflow_add-result c =
    omega (
      arith,
      c.in-Some.ensures.found.before,
      c.most_before-most.ensures,
      c.ranges.end,
    )

pub returns-in-Some-clause-found : goal.returns-in-Some-clause-found
returns-in-Some-clause-found c =
    lit_found c.numbered_piece-piece.ensures (omega arith)
    c.most_before-most.ensures
    c.pieces.invariant.none c.in-Some.ensures.found

pub pieces-preserved : goal.pieces-preserved
pieces-preserved c = record {
  none = lit_more c.args.at c.numbered_piece-piece.ensures (omega arith)
      c.most_before-most.ensures
      c.pieces.invariant.none c.in_default.ensures.none;
}
