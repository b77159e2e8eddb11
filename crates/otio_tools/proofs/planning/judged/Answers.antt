use Rattle.source_files.specs.Reading.{read_as}
use Rattle.otio_tools.specs.Asked.{kind_of, media_source}
use Rattle.otio_tools.proofs.planning.judged.Goals as goal

pub returns-in-Ok-clause-told : goal.returns-in-Ok-clause-told
returns-in-Ok-clause-told c = λ command named is.
    c.in-Ok.ensures.owed command (read_as c.args.name.now (kind_of command)) (media_source named) is

pub returns-in-Err-clause-told : goal.returns-in-Err-clause-told
returns-in-Err-clause-told c = λ command named is.
    c.in-Err.ensures.owed command (read_as c.args.name.now (kind_of command))
    (media_source named) is
