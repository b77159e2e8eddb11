use Rattle.command_words.proofs.options.pull_reader.Goals as goal

pub returns : goal.returns
returns c = c.list_reader.ensures
