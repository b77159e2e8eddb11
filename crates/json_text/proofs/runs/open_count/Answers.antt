use Rattle.std.proofs.Common.{refl, take, arith}
use Rattle.json_text.proofs.GatheredLemmas.{open_all_of, open_front_of, open_rest, open_then, all_within}
use Rattle.json_text.proofs.runs.open_count.Goals as goal

pub returns-then-first-lt-HEAD-clause-opens : goal.returns-then-first-lt-HEAD-clause-opens
returns-then-first-lt-HEAD-clause-opens c =
    open_front_of c.args.bytes.now c.before-2.result.now c.open_front-first.result 16
    c.before-2.ensures c.open_front-first.ensures.within c.open_front-first.ensures.opens

pub pieces-init : goal.pieces-init
pieces-init c =
    let all = all_within c.args.bytes.now c.before-2.result.now c.open_front-first.result 16
    c.before-2.ensures c.open_front-first.ensures.within c.if-first-lt-HEAD.false in (
      all,
      open_all_of c.args.bytes.now c.before-2.result.now c.open_front-first.result 16
          c.before-2.ensures c.open_front-first.ensures.within c.if-first-lt-HEAD.false
          c.open_front-first.ensures.opens,
    )

pub pieces-preserved : goal.pieces-preserved
pieces-preserved c = (
  omega (arith, c.pieces-test.true),
  open_then c.args.bytes.now c.after.result.now
      c.before-in-pieces.result.now c.pieces.at 64 c.after.ensures c.before-in-pieces.ensures
      c.pieces.invariant.1 (c.are_open.ensures c.if-are_open.true),
)

pub returns : goal.returns
returns c =
    let n = c.open_front.result in
    let rest = c.after-2.result.now in
    record {
      within = omega (
        arith,
        c.open_front.ensures.within,
        c.pieces.invariant.0,
        open_rest c.args.bytes.now rest c.pieces.at c.after-2.ensures,
      );
      opens = open_then c.args.bytes.now rest (take n rest) c.pieces.at n c.after-2.ensures refl
          c.pieces.invariant.1 c.open_front.ensures.opens;
    }
