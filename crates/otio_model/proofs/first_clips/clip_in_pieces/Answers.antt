-- What is found in a piece is found in all.
use Rattle.std.proofs.Common.{arith}
use Rattle.otio_model.proofs.LightLemmas.{clip_found, clip_more, clip_nowhere, clip_within}
use Rattle.otio_model.proofs.first_clips.clip_in_pieces.Goals as goal

pub pieces-init : goal.pieces-init
pieces-init c = record { none = λ j b. absurd (omega (arith, b)) }

pub overflow_add-result : goal.overflow_add-result
overflow_add-result c =
    let f = c.numbered_piece-piece.ensures in
    omega (arith, clip_within c.in-Some.ensures.found, f.fits, f.before, c.requires.few)

pub returns-in-Some-clause-found : goal.returns-in-Some-clause-found
returns-in-Some-clause-found c =
    clip_found c.numbered_piece-piece.ensures c.pieces.invariant.none c.in-Some.ensures.found

pub pieces-preserved : goal.pieces-preserved
pieces-preserved c = record {
  none = clip_more c.numbered_piece-piece.ensures c.pieces.invariant.none c.in_default.ensures.none;
}

pub returns-clause-none : goal.returns-clause-none
returns-clause-none c =
    clip_nowhere c.args.pieces.now c.pieces.number (omega (arith, c.pieces-test.false))
    c.pieces.invariant.none
