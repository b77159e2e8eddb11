use Rattle.std.proofs.Common.{◌∷◌, ◌++◌, ap, ap₂, sym, ◌∙◌, append_assoc, List, ℕ}
use Rattle.dev_io.proofs.BufferLemmas.{puts_then, puts_as}
use Rattle.json_text.specs.StringTexts.{escaped}
use Rattle.json_text.proofs.Escaping.{escaped-Some}
use Rattle.json_text.proofs.quote.put_from.Goals as goal

pub returns : goal.returns
returns g c =
    let bytes = c.args.bytes.now in
    let end = c.args.end.now in
    let plain = c.split_at.result.0.now in
    let behind = c.split_at.result.1.now in
    let parts = (escaped-Some bytes c.args.index c.requires).1
    ∙ ap₂ (λ (x y : List ℕ). x ++ escaped y) (sym c.split_at.ensures.front) (sym c.split_at.ensures.back) in
    puts_as _ (puts_then c.put.ensures (puts_then c.put-2.ensures (puts_then c.put_escaped.ensures c.put-3.ensures)))
    (ap (λ (x : List ℕ). 34 ∷ x) (sym (append_assoc plain (escaped behind) end) ∙ ap (λ (x : List ℕ). x ++ end) (sym parts)))
