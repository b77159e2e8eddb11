use Rattle.json_text.proofs.quote.put_string.Goals as goal

pub returns : goal.returns
returns g c = c.put_quoted.ensures
