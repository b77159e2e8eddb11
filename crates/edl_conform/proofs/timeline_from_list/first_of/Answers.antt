use Rattle.std.proofs.Common.{◌≡◌, sym, subst, ap, ◌∙◌, to_z, of_z, arith, rules, FitsSigned}
use Rattle.std.specs.Int.{w64}
use Rattle.std.specs.Prelude.{AllPairs}
use Rattle.std.proofs.lemmas.Int.{ints}
use Rattle.edl_list.specs.Formed.{AreInOrder}
use Rattle.edl_frames.specs.Conformed.{first_record}
use Rattle.edl_law.proofs.EventRanges.{first_is}
use Rattle.edl_conform.proofs.timeline_from_list.first_of.Goals as goal

pub returns : goal.returns
returns c =
    let e = c.in-Some.ensures.cases.0 in
    let a : FitsSigned w64 c.rec_in_of.result = search rules in
    let cast : to_z w64 (of_z w64 c.rec_in_of.result) ≡ c.rec_in_of.result = omega (arith, ints, a) in
    cast ∙ c.rec_in_of.ensures ∙ sym (ap first_record e ∙ first_is _ _ (subst (AllPairs AreInOrder) e c.requires))
