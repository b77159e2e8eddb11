use Rattle.std.proofs.Common.{sym, ap}
use Rattle.dev_io.proofs.BufferLemmas.{puts_as}
use Rattle.json_text.specs.Levels.{deep}
use Rattle.json_text.specs.Layout.{text_at}
use Rattle.schema_write.specs.Objects.{medium_json}
use Rattle.schema_write.proofs.media_layout.put_medium.Goals as goal

pub returns-in-External : goal.returns-in-External
returns-in-External g c = puts_as _ c.put_external.ensures
    (ap (λ x. text_at (medium_json x) (deep c.args.level.now)) (sym c.in-External.is))

pub returns-in-Missing : goal.returns-in-Missing
returns-in-Missing g c = puts_as _ c.put_missing.ensures
    (ap (λ x. text_at (medium_json x) (deep c.args.level.now)) (sym c.in-Missing.is))

pub returns-in-Generator : goal.returns-in-Generator
returns-in-Generator g c = puts_as _ c.put_generator.ensures
    (ap (λ x. text_at (medium_json x) (deep c.args.level.now)) (sym c.in-Generator.is))

pub returns-in-Sequence : goal.returns-in-Sequence
returns-in-Sequence g c = puts_as _ c.put_images.ensures
    (ap (λ x. text_at (medium_json x) (deep c.args.level.now)) (sym c.in-Sequence.is))

pub returns-in-Kept : goal.returns-in-Kept
returns-in-Kept g c = puts_as _ c.put_value.ensures
    (ap (λ x. text_at (medium_json x) (deep c.args.level.now)) (sym c.in-Kept.is))
