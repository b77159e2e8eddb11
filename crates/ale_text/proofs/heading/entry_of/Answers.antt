use Rattle.ale_text.proofs.FieldLemmas.{no_entry}
use Rattle.ale_text.proofs.heading.entry_of.Goals as goal

pub returns-in-None : goal.returns-in-None
returns-in-None c = λ name value. no_entry c.args.line.now name value c.in-None.ensures
