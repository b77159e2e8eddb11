use Rattle.std.proofs.Common.{◌∙◌, sym, ap}
use Rattle.dev_io.proofs.BufferLemmas.{puts_then, puts_as}
use Rattle.json_text.specs.Levels.{deep}
use Rattle.json_text.specs.Layout.{text_at}
use Rattle.json_text.proofs.Lines.{text_at-Null}
use Rattle.schema_write.specs.Objects.{span_json}
use Rattle.schema_write.proofs.times_layout.put_span_row.Goals as goal

pub returns-in-Some : goal.returns-in-Some
returns-in-Some g c = puts_then c.put_row_name.ensures
    (puts_as _ c.put_range.ensures (ap (λ o. text_at (span_json o) (deep c.args.level.now))
    (sym c.in-Some.is)))

pub returns-in-None : goal.returns-in-None
returns-in-None g c = puts_then c.put_row_name.ensures
    (puts_as _ c.put.ensures (sym (text_at-Null (deep c.args.level.now))
    ∙ ap (λ o. text_at (span_json o) (deep c.args.level.now)) (sym c.in-None.is)))
