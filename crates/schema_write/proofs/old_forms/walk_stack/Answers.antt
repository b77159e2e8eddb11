use Rattle.std.proofs.Common.{sym, ◌∙◌}
use Rattle.schema_write.proofs.OldLemmas.{stack_ok}
use Rattle.schema_write.proofs.old_forms.walk_stack.Goals as goal

pub returns-in-None-clause-ok : goal.returns-in-None-clause-ok
returns-in-None-clause-ok c = stack_ok c.walk_children.result c.args.stack.now
    (sym c.markers_fault.ensures ∙ c.in-None.is) c.walk_children.ensures.ok
