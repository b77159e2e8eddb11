use Rattle.std.proofs.Common.{drop, map}
use Rattle.command_words.specs.Names.{HasList}
use Rattle.command_words.proofs.names.has_list.Given as goal

abbrev pub invariant-loop-name : goal.invariant-loop-name
invariant-loop-name l = HasList (map (λ n. n.now) l.names)
    → HasList (map (λ n. n.now) (drop l.name-index l.names))
