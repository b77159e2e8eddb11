use Rattle.std.proofs.Common.{rules, ap, ◌∙◌, ◌-ℤ◌, ℤ, to_z, of_z, w64}
use Rattle.std.specs.Int.{w128}
use mir.Val.{SFits}
use Rattle.edl_text.proofs.Lengths.{widened, even_is}
use Rattle.edl_text.proofs.end_of_list_faults.is_even.Goals as goal

pub returns : goal.returns
returns c =
    let e = c.args.event.now in
    let fa : SFits w64 e.to.src_out = search rules in
    let fb : SFits w64 e.to.src_in = search rules in
    let fc : SFits w64 e.rec_out = search rules in
    let fd : SFits w64 e.rec_in = search rules in
    let a = widened c.from.result e.to.src_out fa c.from.ensures in
    let b = widened c.from-2.result e.to.src_in fb c.from-2.ensures in
    let x = widened c.from-3.result e.rec_out fc c.from-3.ensures in
    let y = widened c.from-4.result e.rec_in fd c.from-4.ensures in
    even_is e.to.src_out e.to.src_in e.rec_out e.rec_in _ _ fa fb fc fd
    (ap (λ (z : ℤ). z -ℤ to_z w128 (of_z w128 c.from-2.result)) a ∙ ap (λ (z : ℤ). e.to.src_out -ℤ z) b)
    (ap (λ (z : ℤ). z -ℤ to_z w128 (of_z w128 c.from-4.result)) x ∙ ap (λ (z : ℤ). e.rec_out -ℤ z) y)
