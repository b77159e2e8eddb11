use Rattle.std.proofs.Common.{drop}
use Rattle.dev_io.specs.Buffer.{standing}
use Rattle.dev_io.proofs.Leaving.{Leaves}
use Rattle.json_text.specs.Levels.{deep}
use Rattle.schema_rows.specs.Schemas.{rows_of}
use Rattle.schema_rows.specs.Families.{others}
use Rattle.schema_write.specs.Written.{newer_of}
use Rattle.schema_write.specs.Lines.{member_rows}
use Rattle.schema_write.proofs.rows.put_old_others.Given as goal

-- what is left are the others of the members that are left
abbrev pub invariant-loop-member : goal.invariant-loop-member
invariant-loop-member g l =
    let stand = standing g.W.Out.known g.W.Out.faults in
    Leaves (stand l.fn.out l.fn.buffer) (stand l.out l.buffer)
    (member_rows (others (rows_of l.schema) (others (rows_of (newer_of l.schema)) l.member-items))
    (deep l.level))
    (member_rows (others (rows_of l.schema)
    (others (rows_of (newer_of l.schema)) (drop l.member-index l.member-items)))
    (deep l.level))
