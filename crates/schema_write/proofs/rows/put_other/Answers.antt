use Rattle.std.proofs.Common.{sym}
use Rattle.dev_io.proofs.BufferLemmas.{puts_then, puts_none}
use Rattle.schema_write.proofs.rows.put_other.Goals as goal

pub returns-then-is_named : goal.returns-then-is_named
returns-then-is_named g c =
    rw (sym c.as_str-text.ensures, sym c.is_named.ensures, c.if-is_named.true) (puts_none _)

pub returns : goal.returns
returns g c =
    rw (sym c.as_str-text.ensures, sym c.is_named.ensures, c.if-is_named.false)
    (puts_then c.put_row_name.ensures c.put_value.ensures)
