use Rattle.std.proofs.Common.{◌<◌, length, map, arith}
use Rattle.std.proofs.lemmas.Bool.Decides.{nat_tests}
use Rattle.dev_io.proofs.BufferLemmas.{puts_then}
use Rattle.json_text.specs.Levels.{deep}
use Rattle.json_text.proofs.Lines.{list_text-lines}
use Rattle.schema_write.specs.Objects.{marker_by}
use Rattle.schema_write.specs.Styles.{style_of}
use Rattle.schema_write.proofs.ListLines.{some_mapped}
use Rattle.schema_write.proofs.markers_layout.put_markers.Goals as goal

pub returns : goal.returns
returns g c =
    let some : 0 < length c.args.markers.now = grind (arith, nat_tests) in
    rw (list_text-lines (deep c.args.level.now) (map (marker_by (style_of c.args.family).mark) c.args.markers.now)
    (some_mapped (marker_by (style_of c.args.family).mark) c.args.markers.now some))
    (puts_then (rw c.inside.ensures at c.put_marker_lines.ensures)
    (puts_then c.put_line.ensures c.put-2.ensures))
