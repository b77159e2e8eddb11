use Rattle.json_text.proofs.GatheredLemmas.{long_escape}
use Rattle.json_text.proofs.escapes.coded.Goals as goal

pub returns-in-Some : goal.returns-in-Some
returns-in-Some c =
    long_escape c.args.bytes.now c.in-Some.character c.if-bytes-lt6.false c.requires
    c.if-bytes-ne117.false c.in-Some.ensures
