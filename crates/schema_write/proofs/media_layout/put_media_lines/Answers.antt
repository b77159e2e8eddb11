use Rattle.std.proofs.Common.{◌∙◌, refl}
use Rattle.dev_io.proofs.BufferLemmas.{puts_none}
use Rattle.json_text.specs.Levels.{deep}
use Rattle.dev_io.proofs.Leaving.{leaves_all, leaves_then}
use Rattle.dev_io.proofs.PartLemmas.{drop_past}
use Rattle.schema_write.specs.Objects.{medium_json}
use Rattle.schema_write.proofs.ListLines.{members-next}
use Rattle.schema_write.proofs.media_layout.put_media_lines.Goals as goal

pub loop-pair-init : goal.loop-pair-init
loop-pair-init g c = (123, refl, leaves_all _ _)

pub loop-pair-preserved : goal.loop-pair-preserved
loop-pair-preserved g c =
    let kept = c.loop-pair.invariant in
    let pairs = c.as_slice-pair-items.result.now in
    let text = members-next medium_json c.loop-pair.lead.now kept.0 (deep c.args.level.now) pairs
    c.loop-pair.pair-index c.pair-item.result kept.1 c.loop-pair-test.true in
    let name = c.as_bytes.ensures.value ∙ c.as_str.ensures in (
      44,
      refl,
      leaves_then (leaves_then
          (leaves_then (rw (text, ← c.pair-item.is) at kept.2) c.put_line.ensures)
          (rw name at c.put_name.ensures)) c.put_medium.ensures,
    )

pub returns : goal.returns
returns g c =
    let left = drop_past c.as_slice-pair-items.result.now c.loop-pair.pair-index
    c.loop-pair-test.false in
    rw (← c.as_slice-pair-items.ensures.pairs)
    (c.loop-pair.invariant.2.ends _ (rw left (puts_none _)))
