use Rattle.std.proofs.Common.{◌∙◌}
use Rattle.json_text.proofs.Indents.{indent_of_many}
use Rattle.json_text.proofs.shallow.Shallow.indent.Goals as goal

pub returns : goal.returns
returns c = c.split_at.ensures.front ∙ indent_of_many c.args.self.levels c.args.self.few
