use Rattle.json_text.specs.State.Stands.{state_of}
use Rattle.json_text.proofs.Skims.{content_skims}
use Rattle.json_text.proofs.machine.Machine.whole_content.Goals as goal

pub returns : goal.returns
returns c =
    let made = rw (c.in-Some.is, c.before-2.ensures) at c.in_ok-text.ensures in
    content_skims c.args.self.now (state_of c.place.new.self) c.args.bytes.now c.in-Some.text c.args.count c.requires.hand c.requires.fresh c.requires.whole.within c.requires.whole.quote c.requires.whole.opens
    made.1 made.0 c.in_ok-place.ensures
