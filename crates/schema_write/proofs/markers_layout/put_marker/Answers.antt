use Rattle.std.proofs.Common.{sym, ap}
use Rattle.dev_io.proofs.BufferLemmas.{puts_as}
use Rattle.json_text.specs.Levels.{deep}
use Rattle.json_text.specs.Layout.{text_at}
use Rattle.schema_write.specs.Objects.{marker_by}
use Rattle.schema_write.specs.Styles.{style_of}
use Rattle.schema_write.proofs.markers_layout.put_marker.Goals as goal

pub returns-in-Known : goal.returns-in-Known
returns-in-Known g c = puts_as _ (rw c.get.ensures at c.put_mark_in.ensures)
    (ap (λ x. text_at (marker_by (style_of c.args.family).mark x) (deep c.args.level.now)) (sym c.in-Known.is))

pub returns-in-Kept : goal.returns-in-Kept
returns-in-Kept g c = puts_as _ c.put_value.ensures
    (ap (λ x. text_at (marker_by (style_of c.args.family).mark x) (deep c.args.level.now)) (sym c.in-Kept.is))
