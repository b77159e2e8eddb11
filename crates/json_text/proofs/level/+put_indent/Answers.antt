use Rattle.dev_io.proofs.BufferLemmas.{puts_then, puts_as}
use Rattle.json_text.specs.Levels.{deep}
use Rattle.json_text.proofs.Indents.{deep-Inside, indent_more}
use Rattle.json_text.proofs.level.+put_indent.Goals as goal

pub returns-in-Inside : goal.returns-in-Inside
returns-in-Inside g t c = rw (c.in-Inside.is, deep-Inside c.in-Inside.outer) (puts_as _ (puts_then c.put_indent.ensures c.put-in-Inside.ensures) (indent_more (deep c.in-Inside.outer.now)))
