use Rattle.source_files.proofs.ObjectLemmas.{value_refused}
use Rattle.source_files.proofs.objects.schema_refusal.Goals as goal

pub returns-in-Some : goal.returns-in-Some
returns-in-Some c = λ value first.
    value_refused value c.args.fault c.in-Some.reason c.in-Some.ensures.0 c.in-Some.ensures.1 first
