use Rattle.std.proofs.Common.{◌≡◌, drop, map}
use Rattle.clap.specs.Words.{app_of}
use Rattle.command_words.specs.Options.{with_rules}
use Rattle.command_words.specs.Taken.{taken_rule}
use Rattle.command_words.proofs.options.with_all.Given as goal

-- a command with those that are left has all
abbrev pub invariant-loop-taken : goal.invariant-loop-taken
invariant-loop-taken l = with_rules (app_of l.command) (map taken_rule (drop l.taken-index l.all))
    ≡ with_rules (app_of l.fn.command) (map taken_rule l.all)
