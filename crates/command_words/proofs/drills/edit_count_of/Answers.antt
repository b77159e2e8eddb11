use Rattle.std.proofs.Common.{arith}
use Rattle.command_words.proofs.Drilling.{no_edit_count}
use Rattle.command_words.proofs.drills.edit_count_of.Goals as goal

pub returns-then-count-gt-MOST_EDITS : goal.returns-then-count-gt-MOST_EDITS
returns-then-count-gt-MOST_EDITS c =
    no_edit_count c.args.word.now c.in-Some.count c.in-Some.ensures (λ h. omega (arith, h))
