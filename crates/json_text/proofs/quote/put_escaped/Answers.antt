use Rattle.std.proofs.Common.{List, ℕ, sym, ◌∙◌, ap₂, ◌++◌}
use Rattle.dev_io.proofs.BufferLemmas.{puts_as}
use Rattle.dev_io.proofs.Leaving.{leaves_as, leaves_then}
use Rattle.json_text.specs.StringTexts.{escaped}
use Rattle.json_text.proofs.Escaping.{escaped-Some, escaped-None, escaped-parts}
use Rattle.json_text.proofs.quote.put_escaped.Goals as goal

pub runs-preserved : goal.runs-preserved
runs-preserved g c =
    let rest = c.runs.rest.now in
    let behind = c.split_at.result.1.now in
    let first = escaped-Some rest c.in-Some.index c.in-Some.ensures in
    let plain =
    first.1
    ∙ ap₂ (λ (x y : List ℕ). x ++ escaped y) (sym c.split_at.ensures.front) (sym c.split_at.ensures.back) in
    let made = c.as_slice.ensures.value ∙ c.gathered-count.ensures.made in
    let more =
    escaped-parts behind c.gathered-count.result.0
    ∙ ap₂ (λ (x y : List ℕ). x ++ escaped y) (sym made) (sym c.split_at-in-Some.ensures.back) in
    leaves_then (leaves_as more (leaves_then (leaves_as plain c.runs.invariant) c.put.ensures)) c.put-in-Some.ensures

pub returns : goal.returns
returns g c = c.runs.invariant.ends _ (puts_as _ c.put-2.ensures (sym (escaped-None c.runs.rest.now c.in_default.ensures)))
