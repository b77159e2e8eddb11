use Rattle.otio_tools.proofs.KnownRuns.{completes_known, ends_known, keeps_known, works_known}
use Rattle.otio_tools.proofs.known_files_are_served.Goals as goal

pub returns-clause-ends : goal.returns-clause-ends
returns-clause-ends c = ends_known

pub returns-clause-complete : goal.returns-clause-complete
returns-clause-complete c = completes_known

pub returns-clause-kept : goal.returns-clause-kept
returns-clause-kept c = keeps_known

pub returns-clause-worked : goal.returns-clause-worked
returns-clause-worked c = works_known
