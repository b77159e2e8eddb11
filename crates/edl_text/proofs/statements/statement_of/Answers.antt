use Rattle.text_lines.proofs.Trimming.{trimmed_begins}
use Rattle.edl_text.proofs.statements.statement_of.Goals as goal

pub tight_statement-requires : goal.tight_statement-requires
tight_statement-requires c = rw c.trim_blanks.ensures (trimmed_begins c.args.line.now)
