use Rattle.std.proofs.Common.{◌≡◌, ◌∙◌, ap₂, to_z, of_z, arith}
use Rattle.std.specs.Int.{w128, int_div_euclid}
use Rattle.std.proofs.lemmas.Int.{ints}
use Rattle.edl_conform.proofs.FrameLemmas.{frames_near}
use Rattle.edl_conform.proofs.frames.frames_in.Goals as goal

pub returns-clause-range : goal.returns-clause-range
returns-clause-range c =
    let near = c.requires in
    let low = near.low in
    let high = near.high in
    let long = c.args.job.now.long in
    let short = c.args.job.now.short in
    let a : to_z w128 (of_z w128 c.args.ticks) ≡ c.args.ticks = omega (arith, ints, low, high) in
    let b : to_z w128 (of_z w128 c.args.job.now.ticks) ≡ c.args.job.now.ticks =
    omega (arith, ints, long, short) in
    let q = frames_near c.args.ticks c.args.job.now.ticks long near in
    let least = q.low in
    let most = q.high in
    let same : c.div_euclid.result ≡ int_div_euclid c.args.ticks c.args.job.now.ticks =
    c.div_euclid.ensures ∙ ap₂ (λ x y. int_div_euclid x y) a b in
    record {
      low = omega (arith, ints, same, least, most);
      high =
          omega (arith, ints, same, least, most);
    }
