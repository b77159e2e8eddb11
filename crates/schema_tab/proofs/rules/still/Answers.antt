use Rattle.schema_tab.proofs.StillSpeeds.{unstilled}
use Rattle.schema_tab.proofs.rules.still.Goals as goal

pub returns-in_default : goal.returns-in_default
returns-in_default c = unstilled c.args.schema c.args.values.items c.in_default.not-Freeze
