use Rattle.std.proofs.Common.{refl, to_z, of_z, arith}
use Rattle.std.specs.Int.{w128}
use Rattle.std.proofs.lemmas.Int.{ints}
use Rattle.coord.specs.Keys.{frame_rate}
use Rattle.pull_list.proofs.Available.{frames_put}
use Rattle.pull_list.proofs.clips.add_frames.Goals as goal

pub returns-in_ok-push-in-Some : goal.returns-in_ok-push-in-Some
returns-in_ok-push-in-Some c =
    let a = c.in-Some.ensures.0 in let b = c.in-Some.ensures.3 in let d = c.in-Some.ensures.4 in
    frames_put c.args.available.now.items c.push.new.self.items c.args.group c.args.range
    (frame_rate c.args.rate)
    (record {
      group = c.args.group;
      first = to_z w128 (of_z w128 c.in-Some.first);
      past = to_z w128 (of_z w128 c.in-Some.past);
    }) c.in-Some.first c.in-Some.past c.in-Some.ensures refl (omega (arith, ints, a, b, d))
    (omega (arith, ints, a, b, d)) c.in_ok-push-in-Some.ensures.items
