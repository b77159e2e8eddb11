use Rattle.std.proofs.Common.{◌≡◌, slice_index, rules}
use Rattle.tick_time.proofs.Parts.{after_point}
use Rattle.tick_time.proofs.numerals.split_decimals.Goals as goal

pub returns-in-46 : goal.returns-in-46
returns-in-46 c = λ digits rest e all stops no.
    let point : slice_index c.args.text.now 0 ≡ 46 = search rules in
    c.split_digits.ensures.parts digits rest (after_point c.args.text.now digits rest e point no) all stops
