use Rattle.schema_write.proofs.RereadTexts.{speed_reads, rate_reads, time_reads}
use Rattle.schema_write.proofs.laws.texts_are_read.Goals as goal

pub returns-clause-speeds : goal.returns-clause-speeds
returns-clause-speeds c = speed_reads

pub returns-clause-rates : goal.returns-clause-rates
returns-clause-rates c = rate_reads

pub returns-clause-times : goal.returns-clause-times
returns-clause-times c = time_reads
