use Rattle.otio_tools.proofs.planning.edited_file.Goals as goal

pub returns-clause-edit : goal.returns-clause-edit
returns-clause-edit c = record { edits = c.requires; kind = c.edited_kind-kind.ensures }
