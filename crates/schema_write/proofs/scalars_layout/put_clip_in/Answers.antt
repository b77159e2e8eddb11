use Rattle.std.proofs.Common.{sym, ap}
use Rattle.dev_io.proofs.BufferLemmas.{puts_as}
use Rattle.json_text.specs.Levels.{deep}
use Rattle.json_text.specs.Layout.{text_at}
use Rattle.schema_write.specs.Styles.{style_of}
use Rattle.schema_write.proofs.scalars_layout.put_clip_in.Goals as goal

pub returns-in-Old : goal.returns-in-Old
returns-in-Old g c = puts_as _ c.put_old_clip.ensures
    (ap (λ f. text_at ((style_of f).clip c.args.clip.now) (deep c.args.level.now)) (sym c.in-Old.is))

pub returns-in-New : goal.returns-in-New
returns-in-New g c = puts_as _ c.put_clip.ensures
    (ap (λ f. text_at ((style_of f).clip c.args.clip.now) (deep c.args.level.now)) (sym c.in-New.is))
