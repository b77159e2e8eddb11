use Rattle.std.proofs.Common.{◌≡◌, ◌∙◌, ◌++◌, List, ℕ, ap, append-nil}
use Rattle.dev_io.proofs.BufferLemmas.{puts_then, puts_as}
use Rattle.json_text.specs.Levels.{deep}
use Rattle.json_text.specs.Layout.{indent}
use Rattle.json_text.proofs.Indents.{deep-Few}
use Rattle.json_text.proofs.level.put_line.Goals as goal

pub returns-in-Few : goal.returns-in-Few
returns-in-Few g c =
    let spaces : c.indent.result.now ≡ indent (deep c.args.level.now) =
    rw (c.in-Few.is, deep-Few c.in-Few.shallow) c.indent.ensures in
    puts_as _ c.put_between.ensures
    (ap (λ (x : List ℕ). c.args.lead.now ++ x) (append-nil c.indent.result.now ∙ spaces))

pub returns-in-Inside : goal.returns-in-Inside
returns-in-Inside g c = puts_then c.put.ensures c.put_indent.ensures
