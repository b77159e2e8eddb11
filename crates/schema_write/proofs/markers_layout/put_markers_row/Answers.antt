use Rattle.std.proofs.Common.{map, sym}
use Rattle.dev_io.proofs.BufferLemmas.{puts_then, puts_as}
use Rattle.json_text.specs.Levels.{deep}
use Rattle.json_text.proofs.Lines.{text_at-List}
use Rattle.schema_write.specs.Objects.{marker_by}
use Rattle.schema_write.specs.Styles.{style_of}
use Rattle.schema_write.proofs.markers_layout.put_markers_row.Goals as goal

pub returns : goal.returns
returns g c = puts_then c.put_row_name.ensures
    (puts_as _ (rw c.as_slice.ensures at c.put_markers.ensures)
    (sym (text_at-List (map (marker_by (style_of c.args.family).mark) c.args.markers.now) (deep c.args.level.now))))
