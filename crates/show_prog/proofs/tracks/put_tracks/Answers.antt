use Rattle.std.proofs.Common.{arith}
use Rattle.dev_io.proofs.Leaving.{leaves_all, leaves_as, leaves_then, leaves_end}
use Rattle.otio_model.specs.Trees.{items_of}
use Rattle.show_prog.proofs.TrackLemmas.{tracks_next, tracks_end}
use Rattle.show_prog.proofs.tracks.put_tracks.Goals as goal

pub children-init : goal.children-init
children-init g c = leaves_all _ _

pub children-preserved : goal.children-preserved
children-preserved g c =
    leaves_then (leaves_as (tracks_next (items_of c.args.children.now) c.children.index c.child.result.now c.child.ensures)
    c.children.invariant) c.put_child.ensures

pub returns : goal.returns
returns g c =
    leaves_end (leaves_as (tracks_end (items_of c.args.children.now) c.children.index (omega (arith, c.len-index-end.ensures)))
    c.children.invariant)
