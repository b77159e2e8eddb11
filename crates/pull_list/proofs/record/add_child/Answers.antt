use Rattle.std.proofs.Common.{◌≡◌, ◌∙◌, subst, ℤ, pos, ◌*ℤ◌, ◌<◌, ◌+◌, to_z, of_z, arith}
use Rattle.std.specs.Int.{div_ceil, w128}
use Rattle.std.proofs.Math.IntN.{pos-*ℤ-pos}
use Rattle.std.proofs.lemmas.Int.{ints}
use Rattle.otio_model.specs.Lengths.{length_of, or_zero}
use Rattle.show_prog.proofs.Roots.{child_short}
use Rattle.show_prog.proofs.SoundnessFacts.{no_fault}
use Rattle.pull_list.specs.Parts.{IsPart}
use Rattle.pull_list.proofs.PartLemmas.{part_later}
use Rattle.pull_list.proofs.Recording.{child_goes, starts_in}
use Rattle.pull_list.proofs.record.add_child.Goals as goal

pub part_at-part-requires-clause-high : goal.part_at-part-requires-clause-high
part_at-part-requires-clause-high c =
    let n = c.frames_of-count.ensures in let t = c.frames-test.true in let b = c.requires.bounded in
    let m = starts_in (or_zero (length_of c.args.item.now)) c.args.ticks c.frames.frame
    c.frame_start-start.result c.requires.least (omega (arith, n, t, b)) c.frame_start-start.ensures
    in
    let k = child_short c.args.item.now (no_fault c.args.item.now c.requires.sound) in
    omega (arith, ints, m, k)

pub add_frame-requires-clause-high : goal.add_frame-requires-clause-high
add_frame-requires-clause-high c =
    let n = c.frames_of-count.ensures in let t = c.frames-test.true in let b = c.requires.bounded in
    let m = starts_in (or_zero (length_of c.args.item.now)) c.args.ticks c.frames.frame
    c.frame_start-start.result c.requires.least (omega (arith, n, t, b)) c.frame_start-start.ensures
    in
    omega (arith, ints, m)

pub frames-preserved : goal.frames-preserved
frames-preserved c =
    let a : to_z w128 (of_z w128 c.frame_start-start.result) ≡ c.frame_start-start.result = omega (arith, ints) in
    record {
      groups = c.add_frame.ensures.groups ∙ c.frames.invariant.groups;
      adds = child_goes _ _ _ _ _ _ _ _ _ c.frames.invariant.adds c.frames.invariant.groups
          c.in_ok-add_frame.ensures.added (a ∙ c.frame_start-start.ensures);
      part = part_later c.args.item.now (pos c.frames.frame *ℤ pos c.args.ticks)
          (pos (c.frames.frame + 1) *ℤ pos c.args.ticks) c.part_at-part.result
          (subst (λ (u : ℤ). IsPart c.args.item.now u c.part_at-part.result)
          (a ∙ c.frame_start-start.ensures) c.part_at-part.ensures.part)
          (omega (
            arith,
            ints,
            pos-*ℤ-pos c.frames.frame c.args.ticks,
            pos-*ℤ-pos (c.frames.frame + 1) c.args.ticks,
          ));
    }
