use Rattle.source_files.proofs.KnownFiles.{stop_known}
use Rattle.source_files.proofs.known_files_are_unread.Goals as goal

pub returns : goal.returns
returns c = stop_known
