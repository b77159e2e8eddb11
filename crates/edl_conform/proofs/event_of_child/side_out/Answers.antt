use Rattle.std.proofs.Common.{◌≡◌, ◌∙◌, ap, ℤ, pos, to_z, of_z, arith}
use Rattle.std.specs.Prelude.{option_map}
use Rattle.std.specs.Int.{w128}
use Rattle.std.proofs.lemmas.Int.{ints}
use Rattle.edl_frames.specs.Sides.{side_of}
use Rattle.edl_conform.specs.Stated.{stated_job, stated_item}
use Rattle.edl_conform.specs.Shots.{clip_of}
use Rattle.edl_conform.proofs.MadeLemmas.{ok_as, out_is}
use Rattle.edl_conform.proofs.event_of_child.side_out.Goals as goal

pub returns-in-Some : goal.returns-in-Some
returns-in-Some c =
    let j = stated_job c.args.job.now in
    let a = c.requires.at in
    let at : to_z w128 (of_z w128 c.args.at) ≡ c.args.at = omega (arith, ints, a.low, a.high) in
    ok_as c.side_of.result _ _
    (ap (λ (x : ℤ). side_of j (clip_of c.in-Some.shown.shot) c.in-Some.shown.start x (pos 0)) at
    ∙ out_is j (option_map stated_item c.args.past.now.item)
    (clip_of c.in-Some.shown.shot) c.in-Some.shown.start c.args.at c.in-Some.ensures.shown)
    c.side_of.ensures
