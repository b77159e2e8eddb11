use Rattle.source_files.proofs.KnownFiles.{all_known}
use Rattle.source_files.proofs.known_files_are_read.Goals as goal

pub returns : goal.returns
returns c = all_known
