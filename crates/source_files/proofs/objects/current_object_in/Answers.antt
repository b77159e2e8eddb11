use Rattle.source_files.proofs.objects.current_object_in.Goals as goal

pub returns-in-Err-clause-stands : goal.returns-in-Err-clause-stands
returns-in-Err-clause-stands c = c.schema_refusal.ensures c.args.value c.in-Err.ensures.fault
