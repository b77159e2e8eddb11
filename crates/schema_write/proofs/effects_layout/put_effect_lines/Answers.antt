use Rattle.std.proofs.Common.{refl, arith}
use Rattle.dev_io.proofs.BufferLemmas.{puts_none}
use Rattle.dev_io.proofs.PartLemmas.{drop_past}
use Rattle.dev_io.proofs.Leaving.{leaves_all, leaves_then}
use Rattle.json_text.specs.Levels.{deep}
use Rattle.schema_write.specs.Objects.{effect_json}
use Rattle.schema_write.proofs.ListLines.{items-next}
use Rattle.schema_write.proofs.effects_layout.put_effect_lines.Goals as goal

pub loop-effect-init : goal.loop-effect-init
loop-effect-init g c = (91, refl, leaves_all _ _)

pub loop-effect-preserved : goal.loop-effect-preserved
loop-effect-preserved g c =
    let kept = c.loop-effect.invariant in
    let text = items-next effect_json c.loop-effect.lead.now kept.0 (deep c.args.level.now)
    c.args.list.now c.loop-effect.effect-index c.effect-item.result kept.1 (omega arith) in (
      44,
      refl,
      leaves_then (leaves_then (rw (text, ← c.effect-item.is) at kept.2)
          c.put_line.ensures) c.put_effect.ensures,
    )

pub returns : goal.returns
returns g c = c.loop-effect.invariant.2.ends _
    (rw (drop_past c.args.list.now c.loop-effect.effect-index (omega arith)) (puts_none _))
