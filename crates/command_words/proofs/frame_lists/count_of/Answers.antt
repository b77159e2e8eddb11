use Rattle.std.proofs.Common.{arith}
use Rattle.command_words.proofs.Asking.{no_count}
use Rattle.command_words.proofs.frame_lists.count_of.Goals as goal

pub returns-then-count-lt-LEAST_FRAMES : goal.returns-then-count-lt-LEAST_FRAMES
returns-then-count-lt-LEAST_FRAMES c =
    no_count c.args.word.now c.in-Some.count c.in-Some.ensures (λ h. omega (arith, h.0))

pub returns-then-count-gt-MOST_FRAMES : goal.returns-then-count-gt-MOST_FRAMES
returns-then-count-gt-MOST_FRAMES c =
    no_count c.args.word.now c.in-Some.count c.in-Some.ensures (λ h. omega (arith, h.1))
