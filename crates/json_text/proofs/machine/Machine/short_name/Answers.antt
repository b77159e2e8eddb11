use Rattle.std.proofs.Common.{Some, ◌∙◌, ap, sym}
use Rattle.json_text.specs.State.Stands.{state_of}
use Rattle.json_text.proofs.Skims.{map_name_skims}
use Rattle.json_text.proofs.machine.Machine.short_name.Goals as goal

pub returns : goal.returns
returns c =
    c.skim_follow.ensures (state_of c.args.self.now)
    (map_name_skims c.args.self.now (state_of c.names.new.self) c.args.bytes.now c.in_ok-text.text c.args.count c.names.result c.requires.hand c.requires.fresh
    (sym c.kind.ensures ∙ c.in-Some.is ∙ ap (λ x. Some x) c.in-Map.is) c.requires.whole.within c.requires.whole.quote c.requires.whole.opens c.requires.utf8 c.in_ok-text.ensures c.names.ensures)
