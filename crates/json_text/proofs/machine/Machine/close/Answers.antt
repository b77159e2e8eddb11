use Rattle.std.proofs.Common.{◌∙◌, ap, sym, Ok, arith}
use Rattle.json_text.proofs.OpenLevels.{closed_at}
use Rattle.json_text.proofs.machine.Machine.close.Goals as goal

pub returns : goal.returns
returns c =
    let old = c.args.self.now in
    closed_at old.levels.items old.depth c.index_mut.result.now c.index_mut.result.now c.whole.new.self c.in_ok-value.value
    (omega (arith, c.if-self-eq0.false)) old.within c.index_mut.ensures.value c.in_ok-value.ensures
    ∙ ap (λ x. Ok x) (sym c.in_ok-place.ensures)
