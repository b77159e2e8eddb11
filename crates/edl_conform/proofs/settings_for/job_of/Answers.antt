use Rattle.std.proofs.Common.{◌≡◌, ◌∙◌, sym, ap, pos, Some, to_z, of_z, arith}
use Rattle.std.specs.Int.{w128}
use Rattle.std.proofs.lemmas.Int.{ints}
use Rattle.smpte_tc.specs.Modes.{mode_of}
use Rattle.edl_conform.proofs.StartLemmas.{mode_run, start_near}
use Rattle.edl_conform.proofs.settings_for.job_of.Goals as goal

pub invariant_of-result : goal.invariant_of-result
invariant_of-result c =
    let rate = c.record_rate-rate.result in
    let mode = c.in-Some.mode in
    let is : mode_of rate c.args.drop ≡ Some mode = sym c.mode_of.ensures.mode ∙ c.in-Some.is in
    let q = mode_run rate c.args.drop mode is in
    let r = c.frame_ticks.ensures in
    let v = r.value in
    let p = r.positive in
    let s = r.small in
    let t : to_z w128 (of_z w128 c.frame_ticks.result) ≡ c.frame_ticks.result =
    omega (arith, ints, p, s) in
    let n = start_near c.args.timeline.now in
    let nl = n.low in
    let nh = n.high in
    let f = c.start_frame.ensures in
    let first : to_z w128 (of_z w128 c.start_frame.result) ≡ c.start_frame.result =
    omega (arith, ints, f, nl, nh) in
    let ql = q.long in
    let count = c.from.ensures in
    let some = q.counted in
    let few = q.few in
    let all = c.from-2.ensures in
    let days = c.day_count.ensures in
    let brief = q.short in
    let day : to_z w128 (of_z w128 c.from-2.result) ≡ c.from-2.result =
    omega (arith, ints, all, days, brief) in
    record {
      ticks_are = t ∙ v;
      long = omega (arith, ints, t, v, ql);
      short = omega (arith, ints, t, s);
      count_is = count ∙ q.count_is;
      counted = omega (arith, count, some);
      few = omega (arith, count, few);
      day_is = day ∙ all ∙ ap pos (days ∙ q.day_is);
      low = omega (arith, ints, first, f, nl);
      high = omega (arith, ints, first, f, nh);
    }
