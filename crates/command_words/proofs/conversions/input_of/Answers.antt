use Rattle.command_words.proofs.conversions.input_of.Goals as goal

pub returns-in-Some : goal.returns-in-Some
returns-in-Some c = rw c.in-Some.is (c.input_of_word.ensures c.args.name.now)
