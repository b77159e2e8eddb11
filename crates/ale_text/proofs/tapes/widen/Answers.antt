use Rattle.std.proofs.Common.{◌≡◌, ◌<◌, ◌+◌, ◌^◌, pos, max, min, arith}
use Rattle.std.proofs.lemmas.Int.{ints}
use Rattle.ale_text.proofs.WidenLemmas.{back, difference_back, difference_fits, sum_back, widened_is}
use Rattle.ale_text.proofs.tapes.widen.Goals as goal

pub overflow_sub-row : goal.overflow_sub-row
overflow_sub-row c =
    let r = c.requires.row in
    let f = c.requires.frames in
    let t = f.0 in
    let small = r.small in
    let last = f.4 in
    let above = f.3 in
    let low : c.lesser-row.result ≡ pos (min r.first t.start) =
    c.lesser-row.ensures r.first t.start (back _ r.first r.start (omega (arith, small)))
    (back _ t.start f.1 (omega (arith, last, above))) in
    let high : c.greater-last.result ≡ pos (max (r.first + r.many) t.end) =
    c.greater-last.ensures (r.first + r.many) t.end
    (sum_back _ _ r.first r.many (back _ r.first r.start (omega (arith, small)))
    (back _ r.many r.count (omega (arith, small))) small)
    (back _ t.end f.2 last) in
    difference_fits _ _ (max (r.first + r.many) t.end) (min r.first t.start)
    (back _ _ high (omega (arith, small, last)))
    (back _ _ (back _ _ low (omega (arith, small))) (omega (arith, small)))
    (omega arith) (omega (arith, small, last))

pub returns : goal.returns
returns c = λ t e g.
    let r = c.requires.row in
    let f = c.requires.frames in
    let small = r.small in
    let last = f.4 in
    let above = f.3 in
    let from = f.1 in
    let to = f.2 in
    let starts : t.start < 10 ^ 18 = omega (arith, ints, e, from, above, last) in
    let ends : t.end < 10 ^ 18 = omega (arith, ints, g, to, last) in
    let order : t.start < t.end = omega (arith, ints, e, from, g, to, above) in
    let low : c.lesser-row.result ≡ pos (min r.first t.start) =
    c.lesser-row.ensures r.first t.start (back _ r.first r.start (omega (arith, small)))
    (back _ t.start e starts) in
    let high : c.greater-last.result ≡ pos (max (r.first + r.many) t.end) =
    c.greater-last.ensures (r.first + r.many) t.end
    (sum_back _ _ r.first r.many (back _ r.first r.start (omega (arith, small)))
    (back _ r.many r.count (omega (arith, small))) small)
    (back _ t.end g ends) in
    widened_is c.args.row.now t r.first r.many _ _ r.start r.count
    (back _ _ low (omega (arith, small)))
    (difference_back _ _ (max (r.first + r.many) t.end) (min r.first t.start)
    (back _ _ high (omega (arith, small, ends)))
    (back _ _ (back _ _ low (omega (arith, small))) (omega (arith, small)))
    (omega arith) (omega (arith, small, ends)))
