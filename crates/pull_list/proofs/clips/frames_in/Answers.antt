use Rattle.std.proofs.Common.{arith}
use Rattle.std.proofs.lemmas.Int.{ints}
use Rattle.coord.specs.Keys.{frame_rate}
use Rattle.pull_list.proofs.Available.{frames_by}
use Rattle.pull_list.proofs.clips.frames_in.Goals as goal

pub number_at-requires-2-clause-low : goal.number_at-requires-2-clause-low
number_at-requires-2-clause-low c =
    let e = c.end_ticks-end.ensures in let a = c.args.range.start.low in let b = c.args.range.start.high in
    let d = c.args.range.len.high in let f = c.args.range.forward in omega (arith, ints, e, a, b, d, f)

pub number_at-requires-2-clause-high : goal.number_at-requires-2-clause-high
number_at-requires-2-clause-high c =
    let e = c.end_ticks-end.ensures in let a = c.args.range.start.low in let b = c.args.range.start.high in
    let d = c.args.range.len.high in let f = c.args.range.forward in omega (arith, ints, e, a, b, d, f)

pub returns : goal.returns
returns c =
    let e = c.end_ticks-end.ensures in let a = c.args.range.start.low in let b = c.args.range.start.high in
    let d = c.args.range.len.high in let f = c.args.range.forward in let n = c.if-start-end.false in
    let p = c.number_at.ensures.low in let q = c.number_at.ensures.high in
    let r = c.number_at-2.ensures.low in let s = c.number_at-2.ensures.high in
    frames_by c.args.range (frame_rate c.args.rate) _ _ c.number_at.result c.number_at-2.result _ _
    c.number_at.ensures.some (omega (arith, ints, e, a, b, d, f, n)) c.number_at.ensures.value
    (omega (arith, ints, a, b)) c.number_at-2.ensures.value (omega (arith, ints, e, a, b, d, f))
    (omega (arith, ints, p, q)) (omega (arith, ints, r, s)) p s
