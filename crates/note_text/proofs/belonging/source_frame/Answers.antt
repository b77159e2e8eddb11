use Rattle.std.proofs.Common.{◌∙◌, ap, pos, ◌+ℤ◌, ◌*ℤ◌, w64, arith}
use Rattle.std.proofs.lemmas.Int.{ints, to_z-of_z}
use Rattle.edl_list.specs.Speeds.{side_speed}
use Rattle.note_text.proofs.SourceFrames.{slow, short_day, is_ahead, kept}
use Rattle.note_text.proofs.belonging.source_frame.Goals as goal

pub overflow_mul-result : goal.overflow_mul-result
overflow_mul-result c =
    let rate = c.args.rate in
    let speed = side_speed rate c.args.side.now in
    let small = slow rate c.args.side.now c.requires.timecode c.requires.side in
    let k = to_z-of_z w64 c.args.k c.ranges.k in
    let s = kept c.side_speed.result speed c.side_speed.ensures (omega (arith, small)) in
    rw (k, s) (is_ahead c.args.k speed c.requires.low c.requires.high small).product

pub overflow_add-result : goal.overflow_add-result
overflow_add-result c =
    let rate = c.args.rate in
    let speed = side_speed rate c.args.side.now in
    let small = slow rate c.args.side.now c.requires.timecode c.requires.side in
    let k = to_z-of_z w64 c.args.k c.ranges.k in
    let s = kept c.side_speed.result speed c.side_speed.ensures (omega (arith, small)) in
    let a = is_ahead c.args.k speed c.requires.low c.requires.high small in
    let product = a.product in
    let p = to_z-of_z w64 (c.args.k *ℤ pos speed) product in
    let low = a.low in let high = a.high in
    let src = c.requires.side.src_in in
    let from = src.low in let to = src.high in
    let day = short_day rate c.requires.timecode in
    rw (k, s, p) (omega (arith, ints, low, high, from, to, day))

pub returns : goal.returns
returns c =
    let rate = c.args.rate in
    let speed = side_speed rate c.args.side.now in
    let small = slow rate c.args.side.now c.requires.timecode c.requires.side in
    let k = to_z-of_z w64 c.args.k c.ranges.k in
    let s = kept c.side_speed.result speed c.side_speed.ensures (omega (arith, small)) in
    let a = is_ahead c.args.k speed c.requires.low c.requires.high small in
    let product = a.product in
    let p = to_z-of_z w64 (c.args.k *ℤ pos speed) product in
    let low = a.low in let high = a.high in
    let src = c.requires.side.src_in in
    let from = src.low in let to = src.high in
    let day = short_day rate c.requires.timecode in
    rw (k, s, p) (omega (arith, ints, low, high, from, to, day) ∙ ap (λ q. c.args.side.now.src_in +ℤ q) a.same)
