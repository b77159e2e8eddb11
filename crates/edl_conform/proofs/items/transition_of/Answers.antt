use Rattle.std.proofs.Common.{refl, arith, to_z, of_z, ◌≡◌, subst, pos}
use Rattle.std.specs.Int.{w64}
use Rattle.std.proofs.lemmas.Int.{ints}
use Rattle.tick_time.specs.Frames.{IsFrames}
use Rattle.edl_conform.proofs.items.transition_of.Goals as goal

pub returns : goal.returns
returns c =
    let fits = c.ranges.count in let from = c.from.ensures in
    let cast : to_z w64 (of_z w64 c.from.result) ≡ pos c.args.count = omega (arith, ints, from, fits) in
    record {
      transition = _;
      is = refl;
      metadata = c.new.ensures;
      name = c.empty.ensures;
      kind = refl;
      before = (c.of_frames.result, refl, c.of_frames.ensures);
      after = (c.of_frames-2.result, refl, subst (λ n. IsFrames c.args.rate n c.of_frames-2.result) cast c.of_frames-2.ensures);
      rest = c.new-2.ensures;
    }
