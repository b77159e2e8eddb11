use Rattle.std.proofs.Common.{drop, map}
use Rattle.dev_io.specs.Buffer.{standing}
use Rattle.dev_io.proofs.Leaving.{Leaves}
use Rattle.json_text.specs.Levels.{deep}
use Rattle.schema_rows.specs.Rows.{row_of}
use Rattle.schema_rows.specs.Families.{others}
use Rattle.schema_write.specs.Lines.{member_rows}
use Rattle.schema_write.proofs.rows.put_others.Given as goal

-- what is left are the others of the members that are left
abbrev pub invariant-loop-member : goal.invariant-loop-member
invariant-loop-member g l =
    let stand = standing g.W.Out.known g.W.Out.faults in
    Leaves (stand l.fn.out l.fn.buffer) (stand l.out l.buffer)
    (member_rows (others (map row_of l.table) l.member-items) (deep l.level))
    (member_rows (others (map row_of l.table) (drop l.member-index l.member-items))
    (deep l.level))
