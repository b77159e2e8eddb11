use Rattle.std.proofs.Common.{sym, ◌∙◌, refl, get_or, arith}
use Rattle.json_text.proofs.GatheredLemmas.{byte_more, escape_more, escape_within, none_meant}
use Rattle.json_text.proofs.escapes.gathered.Goals as goal

pub bytes-init : goal.bytes-init
bytes-init c = (omega arith, rw c.new-made.ensures (none_meant c.args.bytes.now))

pub bytes-preserved-then-byte-lt128 : goal.bytes-preserved-then-byte-lt128
bytes-preserved-then-byte-lt128 c =
    let bytes = c.args.bytes.now in
    let at = c.bytes.at in (
      omega (arith, c.bytes-test.true),
      rw c.push.ensures.items
          (byte_more bytes c.bytes.made.items at (get_or bytes at 0) c.bytes-test.true refl
          (sym c.is_open.ensures ∙ c.if-is_open.true) c.if-byte-lt128.true c.bytes.invariant.1),
    )

pub bytes-preserved : goal.bytes-preserved
bytes-preserved c =
    let bytes = c.args.bytes.now in
    let at = c.bytes.at in (
      escape_within bytes c.after.result.now at c.in-Some.count c.in-Some.character
          c.bytes.invariant.0 c.after.ensures c.in-Some.ensures,
      rw c.put_char.ensures
          (escape_more bytes c.after.result.now c.bytes.made.items at c.in-Some.count
          c.in-Some.character c.after.ensures c.in-Some.ensures c.bytes.invariant.1),
    )
