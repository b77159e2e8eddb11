use Rattle.std.proofs.Common.{length}
use Rattle.edit_script.specs.Reading.{HasRead}
use Rattle.edit_script.proofs.script.commands_of.Given as goal

-- the lines before the rest say the commands
abbrev pub invariant-lines : goal.invariant-lines
invariant-lines l = HasRead l.fn.bytes l.rest l.number l.commands.items

abbrev pub decreases-lines : goal.decreases-lines
decreases-lines l = length l.rest
