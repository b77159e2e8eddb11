use Rattle.json_text.proofs.GatheredLemmas.{pair_found}
use Rattle.json_text.proofs.escapes.pair.Goals as goal

pub returns-in-Some-second_half : goal.returns-in-Some-second_half
returns-in-Some-second_half c =
    pair_found c.args.bytes.now c.in-Some.high c.in-Some-second_half.low c.whole.result
    c.if-bytes-lt12.false c.requires.slash c.requires.letter c.if-bytes-ne92.false
    c.if-bytes-ne117.false c.in-Some.ensures c.in-Some-second_half.ensures
    c.whole.ensures.count c.whole.ensures.character c.whole.ensures.scalar
