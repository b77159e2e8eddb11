use Rattle.std.proofs.Common.{arith}
use Rattle.dev_io.proofs.Leaving.{leaves_all, leaves_as, leaves_end, leaves_then}
use Rattle.source_files.proofs.Indexes.{first_index, next_index, last_index}
use Rattle.source_files.proofs.places.put_place.Goals as goal

pub loop-at-init : goal.loop-at-init
loop-at-init g c =
    leaves_then (leaves_as (first_index c.args.place.now c.in-Some.first c.in-Some.ensures)
    (leaves_all _ _))
    (rw c.from.ensures at c.put_number.ensures)

pub loop-at-preserved : goal.loop-at-preserved
loop-at-preserved g c =
    leaves_then (leaves_then
    (leaves_as (next_index c.args.place.now c.loop-at.at c.index_at.result c.index_at.ensures)
    c.loop-at.invariant)
    c.put-in-loop-at.ensures)
    (rw c.from-in-loop-at.ensures at c.put_number-in-loop-at.ensures)

pub returns : goal.returns
returns g c =
    leaves_end (leaves_as (last_index c.args.place.now c.loop-at.at (omega arith))
    c.loop-at.invariant)
