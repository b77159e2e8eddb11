-- One more item that has no clip.
use Rattle.std.proofs.Common.{arith, sym}
use Rattle.otio_model.proofs.LightLemmas.{clip_here, clip_none, clip_passed}
use Rattle.otio_model.proofs.first_clips.clip_among.Goals as goal

pub returns-then-has_clip-clause-found : goal.returns-then-has_clip-clause-found
returns-then-has_clip-clause-found c = record {
  there = clip_here c.args.items.now c.items.index c.index-items-index.result (omega arith)
      c.index-items-index.is (sym c.if-has_clip.ensures);
  none_before = c.items.invariant.none;
}

pub items-preserved : goal.items-preserved
items-preserved c = record {
  none = clip_passed c.args.items.now c.items.index c.index-items-index.result (omega arith)
      c.index-items-index.is (sym c.if-has_clip.ensures) c.items.invariant.none;
}

pub returns-clause-none : goal.returns-clause-none
returns-clause-none c =
    clip_none c.args.items.now c.items.index (omega (arith, c.items-test.false))
    c.items.invariant.none
