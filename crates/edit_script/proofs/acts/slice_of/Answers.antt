use Rattle.std.proofs.Common.{sym, ◌∙◌}
use Rattle.std.proofs.lemmas.Int.{to_z-of_z}
use Rattle.edit_script.specs.Words.{words_of}
use Rattle.edit_script.proofs.ActLemmas.{slice_made, no_slice}
use Rattle.edit_script.proofs.acts.slice_of.Goals as goal

pub returns-then-has_ended : goal.returns-then-has_ended
returns-then-has_ended c =
    let fits = c.ranges.at in
    simp to_z-of_z (slice_made c.args.place c.args.at (words_of c.args.line.now)
    (sym c.has_ended.ensures ∙ c.if-has_ended.true))

pub returns-else-has_ended : goal.returns-else-has_ended
returns-else-has_ended c =
    no_slice c.args.place c.args.at (words_of c.args.line.now)
    (sym c.has_ended.ensures ∙ c.if-has_ended.false)
