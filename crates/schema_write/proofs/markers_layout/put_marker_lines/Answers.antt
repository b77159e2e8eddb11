use Rattle.std.proofs.Common.{refl, arith}
use Rattle.dev_io.proofs.BufferLemmas.{puts_none}
use Rattle.dev_io.proofs.PartLemmas.{drop_past}
use Rattle.dev_io.proofs.Leaving.{leaves_all, leaves_then}
use Rattle.json_text.specs.Levels.{deep}
use Rattle.schema_write.specs.Objects.{marker_by}
use Rattle.schema_write.specs.Styles.{style_of}
use Rattle.schema_write.proofs.ListLines.{items-next}
use Rattle.schema_write.proofs.markers_layout.put_marker_lines.Goals as goal

pub loop-marker-init : goal.loop-marker-init
loop-marker-init g c = (91, refl, leaves_all _ _)

pub loop-marker-preserved : goal.loop-marker-preserved
loop-marker-preserved g c =
    let kept = c.loop-marker.invariant in
    let text = items-next (marker_by (style_of c.args.family).mark) c.loop-marker.lead.now kept.0 (deep c.args.level.now)
    c.args.list.now c.loop-marker.marker-index c.marker-item.result kept.1 (omega arith) in (
      44,
      refl,
      leaves_then (leaves_then (rw (text, ← c.marker-item.is) at kept.2)
          c.put_line.ensures) c.put_marker.ensures,
    )

pub returns : goal.returns
returns g c = c.loop-marker.invariant.2.ends _
    (rw (drop_past c.args.list.now c.loop-marker.marker-index (omega arith)) (puts_none _))
