use Rattle.object_law.proofs.Writables.{object_given}
use Rattle.object_law.proofs.Contents.{read_is_writable}
use Rattle.object_law.proofs.OldWritten.{object_old}
use Rattle.object_law.proofs.written_is_read.Goals as goal

pub returns-clause-writable : goal.returns-clause-writable
returns-clause-writable c = read_is_writable

pub returns-clause-read : goal.returns-clause-read
returns-clause-read c = object_given

pub returns-clause-again : goal.returns-clause-again
returns-clause-again c json object upgraded stands =
    object_given object (read_is_writable json object upgraded stands)

pub returns-clause-older : goal.returns-clause-older
returns-clause-older c = object_old
