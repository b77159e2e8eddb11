use Rattle.schema_write.proofs.writing.written_old.Goals as goal

pub returns : goal.returns
returns c = rw (c.in_ok-rest.ensures, c.newer.ensures) at c.written-made.ensures
