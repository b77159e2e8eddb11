use Rattle.std.proofs.Common.{length, ap, arith}
use Rattle.std.proofs.lemmas.Fmt.{length-decimal-le}
use Rattle.tick_time.proofs.texts.push_number.Goals as goal

pub returns-clause-room : goal.returns-clause-room
returns-clause-room c = omega (arith, c.push_str.ensures.len, ap length c.format.ensures.text, length-decimal-le 19 c.args.number (omega arith) (omega arith) (omega arith))
