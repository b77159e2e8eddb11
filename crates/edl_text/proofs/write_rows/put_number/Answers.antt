use Rattle.std.proofs.Common.{◌+◌, ◌-◌, ◌≡◌, arith}
use Rattle.dev_io.proofs.BufferLemmas.{puts_as}
use Rattle.edl_text.proofs.Widths.{number_parts}
use Rattle.edl_text.proofs.write_rows.put_number.Goals as goal

pub returns : goal.returns
returns g c =
    let few = c.requires.few in
    let width = c.args.layout.number_width in
    let all : 6 ≡ 6 - width + width = omega (arith, few) in
    puts_as _ c.put.ensures (number_parts width c.args.number (6 - width) _ _ c.six_digits-digits.ensures all c.after.ensures)
