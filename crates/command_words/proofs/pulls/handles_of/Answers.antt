use Rattle.std.proofs.Common.{arith}
use Rattle.command_words.proofs.Asking.{no_handles}
use Rattle.command_words.proofs.pulls.handles_of.Goals as goal

pub returns-then-count-gt-MOST_HANDLES : goal.returns-then-count-gt-MOST_HANDLES
returns-then-count-gt-MOST_HANDLES c =
    no_handles c.args.word.now c.in-Some.count c.in-Some.ensures (λ h. omega (arith, h))
