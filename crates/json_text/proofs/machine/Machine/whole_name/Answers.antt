use Rattle.std.proofs.Common.{Some, ◌∙◌, ap, sym}
use Rattle.json_text.specs.State.Stands.{state_of}
use Rattle.json_text.proofs.Skims.{map_name_skims}
use Rattle.json_text.proofs.machine.Machine.whole_name.Goals as goal

pub returns : goal.returns
returns c =
    let made = rw (c.in-Some-2.is, c.before-2.ensures) at c.in_ok-text.ensures in
    map_name_skims c.args.self.now (state_of c.names.new.self) c.args.bytes.now c.in-Some-2.text c.args.count c.names.result c.requires.hand c.requires.fresh
    (sym c.kind.ensures ∙ c.in-Some.is ∙ ap (λ x. Some x) c.in-Map.is) c.requires.whole.within c.requires.whole.quote c.requires.whole.opens made.1 made.0 c.names.ensures
