use Rattle.std.proofs.Common.{◌<◌, length, map, arith}
use Rattle.dev_io.proofs.BufferLemmas.{puts_then}
use Rattle.json_text.specs.Levels.{deep}
use Rattle.json_text.proofs.Lines.{object_text-lines}
use Rattle.std.proofs.lemmas.Bool.Decides.{nat_tests}
use Rattle.schema_write.specs.Objects.{medium_pair}
use Rattle.schema_write.proofs.ListLines.{some_mapped}
use Rattle.schema_write.proofs.media_layout.put_media.Goals as goal

pub returns : goal.returns
returns g c =
    let some : 0 < length c.args.media.now = grind (arith, nat_tests, c.as_slice.ensures.pairs) in
    rw (object_text-lines (deep c.args.level.now) (map medium_pair c.args.media.now)
    (some_mapped medium_pair c.args.media.now some))
    (puts_then (rw c.inside.ensures at c.put_media_lines.ensures)
    (puts_then c.put_line.ensures c.put-2.ensures))
