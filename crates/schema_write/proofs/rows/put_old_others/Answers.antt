use Rattle.dev_io.proofs.BufferLemmas.{puts_none}
use Rattle.json_text.specs.Levels.{deep}
use Rattle.dev_io.proofs.Leaving.{leaves_all, leaves_then}
use Rattle.dev_io.proofs.PartLemmas.{drop_past}
use Rattle.schema_rows.specs.Schemas.{rows_of}
use Rattle.schema_write.specs.Written.{newer_of}
use Rattle.schema_write.proofs.ObjectLines.{old_others-next}
use Rattle.schema_write.proofs.rows.put_old_others.Goals as goal

pub loop-member-init : goal.loop-member-init
loop-member-init g c = leaves_all _ _

pub loop-member-preserved : goal.loop-member-preserved
loop-member-preserved g c =
    let members = c.as_slice-member-items.result.now in
    let text = old_others-next (rows_of (newer_of c.args.schema)) (rows_of c.args.schema) members
    c.loop-member.member-index (deep c.args.level.now) c.member-item.result
    c.loop-member-test.true in
    leaves_then (rw (text, ← c.member-item.is) at c.loop-member.invariant) c.put_old_other.ensures

pub returns : goal.returns
returns g c =
    let left = drop_past c.as_slice-member-items.result.now c.loop-member.member-index
    c.loop-member-test.false in
    rw (← c.as_slice-member-items.ensures.pairs)
    (c.loop-member.invariant.ends _ (rw left (puts_none _)))
