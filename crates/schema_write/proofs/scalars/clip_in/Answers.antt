use Rattle.std.proofs.Common.{◌≡◌, sym, subst, IfOk}
use Rattle.schema_write.specs.declared.families.Family.{Family}
use Rattle.schema_write.specs.Styles.{style_of}
use Rattle.schema_write.proofs.scalars.clip_in.Goals as goal

pub returns-in-New : goal.returns-in-New
returns-in-New c =
    subst (λ (f : Family). IfOk c.clip_json.result (λ json. json ≡ (style_of f).clip c.args.clip.now))
    (sym c.in-New.is) c.clip_json.ensures
