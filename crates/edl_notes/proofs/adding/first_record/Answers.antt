use Rattle.std.proofs.Common.{◌≡◌, ◌∙◌, sym, to_z, of_z, w64, FitsSigned, arith, rules}
use Rattle.std.proofs.lemmas.Int.{ints}
use Rattle.edl_notes.proofs.WalkSteps.{first_of}
use Rattle.edl_notes.proofs.adding.first_record.Goals as goal

pub returns-in-len1-up : goal.returns-in-len1-up
returns-in-len1-up c =
    let a : FitsSigned w64 c.first-item.result.rec_in = search rules in
    let cast : to_z w64 (of_z w64 c.first-item.result.rec_in) ≡ c.first-item.result.rec_in = omega (arith, ints, a) in
    cast ∙ sym (first_of c.args.events.now c.first-item.result c.in-len1-up.len_at_least c.requires c.first-item.is)
