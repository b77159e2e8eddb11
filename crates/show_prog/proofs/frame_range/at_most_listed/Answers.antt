use Rattle.std.proofs.Common.{◌≡◌, pos, FitsSigned, arith, rules}
use Rattle.std.specs.Int.{int_min, w128}
use Rattle.std.proofs.lemmas.Int.{ints, to_z-of_z}
use Rattle.show_prog.proofs.EndFrames.{few_least, some_least}
use Rattle.show_prog.proofs.frame_range.at_most_listed.Goals as goal

pub overflow_cast-result : goal.overflow_cast-result
overflow_cast-result c =
    let fits : FitsSigned w128 c.args.frames = c.ranges.frames in
    let least : c.min.result ≡ int_min c.args.frames (pos 100000) =
    simp to_z-of_z at c.min.ensures.value in
    let wide : FitsSigned w128 c.min.result = search rules in
    let few = few_least c.args.frames _ c.requires least in
    simp to_z-of_z (omega (arith, ints, few.low, few.high), omega (arith, ints, few.low, few.high))

pub returns : goal.returns
returns c =
    let fits : FitsSigned w128 c.args.frames = c.ranges.frames in
    let least : c.min.result ≡ int_min c.args.frames (pos 100000) =
    simp to_z-of_z at c.min.ensures.value in
    let wide : FitsSigned w128 c.min.result = search rules in
    simp to_z-of_z (some_least c.args.frames _ c.requires least)
