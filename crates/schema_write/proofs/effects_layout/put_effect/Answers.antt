use Rattle.std.proofs.Common.{sym, ap}
use Rattle.dev_io.proofs.BufferLemmas.{puts_as}
use Rattle.json_text.specs.Levels.{deep}
use Rattle.json_text.specs.Layout.{text_at}
use Rattle.schema_write.specs.Objects.{effect_json}
use Rattle.schema_write.proofs.effects_layout.put_effect.Goals as goal

pub returns-in-Warp : goal.returns-in-Warp
returns-in-Warp g c = puts_as _ (rw c.get.ensures at c.put_warp.ensures)
    (ap (λ x. text_at (effect_json x) (deep c.args.level.now)) (sym c.in-Warp.is))

pub returns-in-Freeze : goal.returns-in-Freeze
returns-in-Freeze g c = puts_as _ (rw c.get-in-Freeze.ensures at c.put_freeze.ensures)
    (ap (λ x. text_at (effect_json x) (deep c.args.level.now)) (sym c.in-Freeze.is))

pub returns-in-Plain : goal.returns-in-Plain
returns-in-Plain g c = puts_as _ (rw c.get-in-Plain.ensures at c.put_plain.ensures)
    (ap (λ x. text_at (effect_json x) (deep c.args.level.now)) (sym c.in-Plain.is))

pub returns-in-Kept : goal.returns-in-Kept
returns-in-Kept g c = puts_as _ c.put_value.ensures
    (ap (λ x. text_at (effect_json x) (deep c.args.level.now)) (sym c.in-Kept.is))
