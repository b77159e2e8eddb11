use Rattle.json_text.proofs.Escaping.{past-Some, past-None}
use Rattle.json_text.proofs.quote.first_escaped.Goals as goal

pub returns-in-Some : goal.returns-in-Some
returns-in-Some c =
    past-Some c.args.bytes.now c.split_at.result.1.now c.plain_count-plain.result c.in-Some.index
    c.split_at.ensures.back c.plain_count-plain.ensures.within c.plain_count-plain.ensures.plain
    c.in-Some.ensures

pub returns-in-None : goal.returns-in-None
returns-in-None c =
    past-None c.args.bytes.now c.split_at.result.1.now c.plain_count-plain.result
    c.split_at.ensures.back c.plain_count-plain.ensures.within c.plain_count-plain.ensures.plain
    c.in-None.ensures
