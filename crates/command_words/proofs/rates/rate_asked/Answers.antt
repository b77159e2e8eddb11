use Rattle.command_words.proofs.rates.rate_asked.Goals as goal

pub returns-in-Some : goal.returns-in-Some
returns-in-Some c = rw c.in-Some.is (rw c.as_bytes.ensures.value at c.rate_of.ensures)
