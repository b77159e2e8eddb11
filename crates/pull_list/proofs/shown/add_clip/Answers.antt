use Rattle.std.proofs.Common.{◌≡◌, ◌∙◌, ap, subst, ℤ, true, [], ◌∷◌, to_z, of_z, arith}
use Rattle.std.specs.Int.{w128}
use Rattle.std.proofs.lemmas.Int.{ints}
use Rattle.coord.specs.Images.{frame_number}
use Rattle.pull_list.specs.Found.{Collects, TakesFrame, group_in}
use Rattle.pull_list.proofs.Collecting.{collects_frame, framed_is}
use Rattle.pull_list.proofs.shown.add_clip.Goals as goal

pub returns-in_ok-add-in-Some-clause-added : goal.returns-in_ok-add-in-Some-clause-added
returns-in_ok-add-in-Some-clause-added c = λ kind.
    let g = group_in c.in-Some.group in let n = c.number_at.result in
    let low = c.number_at.ensures.low in let high = c.number_at.ensures.high in
    let a : to_z w128 (of_z w128 c.args.at) ≡ c.args.at = omega (arith, ints) in
    let b : to_z w128 (of_z w128 n) ≡ n = omega (arith, ints, low, high) in
    let old = c.args.used.now.runs.items in let new = c.add.new.self.runs.items in
    subst (Collects c.args.used.now.groups (c.args.clip.now ∷ []) old new true)
    (framed_is c.args.clip.now kind c.args.at g c.if-not-clip.false c.in-Some.ensures)
    (collects_frame c.args.used.now.groups g c.args.clip.now c.args.at n old new
    (subst (λ v. TakesFrame c.args.used.now.groups g v old new) b c.in_ok-add-in-Some.ensures.taken)
    (c.number_at.ensures.value ∙ ap (λ (z : ℤ). frame_number z g.rate) a)
    c.in-Some.ensures c.requires.runs)
