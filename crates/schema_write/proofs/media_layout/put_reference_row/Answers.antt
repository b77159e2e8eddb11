use Rattle.std.proofs.Common.{sym, ap, ◌∙◌}
use Rattle.dev_io.proofs.BufferLemmas.{puts_then, puts_as}
use Rattle.json_text.specs.Levels.{deep}
use Rattle.json_text.specs.Layout.{text_at}
use Rattle.json_text.proofs.Lines.{text_at-Null}
use Rattle.schema_write.proofs.OldLemmas.{reference_some, reference_none}
use Rattle.schema_write.proofs.media_layout.put_reference_row.Goals as goal

pub returns-in-Some : goal.returns-in-Some
returns-in-Some g c =
    let first = rw c.in-Some.is at c.first.ensures.value in
    let same = reference_some c.as_slice.result.now c.args.media.now c.in-Some.pair.now
    c.as_slice.ensures.pairs first in
    puts_then c.put_row_name.ensures
    (puts_as _ c.put_medium.ensures (ap (λ j. text_at j (deep c.args.level.now)) same))

pub returns-in-None : goal.returns-in-None
returns-in-None g c =
    let first = rw c.in-None.is at c.first.ensures.value in
    let same = reference_none c.as_slice.result.now c.args.media.now c.as_slice.ensures.pairs first in
    puts_then c.put_row_name.ensures
    (puts_as _ c.put.ensures
    (sym (text_at-Null (deep c.args.level.now)) ∙ ap (λ j. text_at j (deep c.args.level.now)) same))
