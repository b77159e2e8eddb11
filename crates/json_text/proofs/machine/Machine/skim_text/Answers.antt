use Rattle.json_text.proofs.Skims.{open_skimmed}
use Rattle.json_text.proofs.machine.Machine.skim_text.Goals as goal

pub returns-else-count-lt-FEW : goal.returns-else-count-lt-FEW
returns-else-count-lt-FEW c =
    open_skimmed c.args.self.now c.skim_open.new.self c.args.role c.args.bytes.now
    c.skim_open.result c.requires c.skim_open.ensures.added c.skim_open.ensures.opens
    c.skim_open.ensures.utf8
