use Rattle.command_words.specs.Tools.{IsWindow}
use Rattle.command_words.proofs.SameTools.{no_value}
use Rattle.command_words.proofs.tools.trim_asked.Goals as goal

pub returns-in-None-window_of : goal.returns-in-None-window_of
returns-in-None-window_of c =
    rw c.in-Some.is (no_value IsWindow c.in-Some.word.now c.in-None-window_of.ensures)
