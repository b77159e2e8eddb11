use Rattle.std.proofs.Common.{◌∷◌, ◌++◌, ap, sym, List, ℕ}
use Rattle.dev_io.proofs.BufferLemmas.{puts_as}
use Rattle.json_text.proofs.Escaping.{escaped-None}
use Rattle.json_text.proofs.quote.put_quoted.Goals as goal

pub returns-in-None : goal.returns-in-None
returns-in-None g c =
    puts_as _ c.put_between.ensures
    (ap (λ (x : List ℕ). 34 ∷ (x ++ c.args.end.now)) (sym (escaped-None c.args.bytes.now c.in-None.ensures)))
