use Rattle.json_text.specs.State.Stands.{state_of}
use Rattle.json_text.proofs.Skims.{content_skims}
use Rattle.json_text.proofs.machine.Machine.short_content.Goals as goal

pub returns : goal.returns
returns c =
    c.skim_follow.ensures (state_of c.args.self.now)
    (content_skims c.args.self.now (state_of c.place.new.self) c.args.bytes.now c.in_ok-text.text c.args.count c.requires.hand c.requires.fresh c.requires.whole.within c.requires.whole.quote c.requires.whole.opens
    c.requires.utf8 c.in_ok-text.ensures c.in_ok-place.ensures)
