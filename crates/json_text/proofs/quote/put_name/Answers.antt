use Rattle.std.proofs.Common.{◌∷◌, [], ap, sym, append_assoc}
use Rattle.dev_io.proofs.BufferLemmas.{puts_as}
use Rattle.json_text.specs.StringTexts.{escaped}
use Rattle.json_text.proofs.quote.put_name.Goals as goal

pub returns : goal.returns
returns g c =
    puts_as _ c.put_quoted.ensures
    (ap (λ s. 34 ∷ s) (sym (append_assoc (escaped c.args.bytes.now) (34 ∷ []) (58 ∷ 32 ∷ []))))
