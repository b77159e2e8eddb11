use Rattle.std.proofs.Common.{map, sym}
use Rattle.dev_io.proofs.BufferLemmas.{puts_then, puts_as}
use Rattle.json_text.specs.Levels.{deep}
use Rattle.json_text.proofs.Lines.{text_at-List}
use Rattle.schema_write.specs.Objects.{effect_json}
use Rattle.schema_write.proofs.effects_layout.put_effects_row.Goals as goal

pub returns : goal.returns
returns g c = puts_then c.put_row_name.ensures
    (puts_as _ (rw c.as_slice.ensures at c.put_effects.ensures)
    (sym (text_at-List (map effect_json c.args.effects.now) (deep c.args.level.now))))
