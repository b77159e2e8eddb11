use Rattle.std.proofs.Common.{◌++◌, sym, ap, ◌∙◌, arith, get_or}
use Rattle.json_text.specs.StringTexts.{escape}
use Rattle.json_text.proofs.Escaping.{escaped-next}
use Rattle.json_text.proofs.quote.gathered.Goals as goal

pub bytes-init : goal.bytes-init
bytes-init c = (
  omega arith,
  omega (arith, c.requires),
  c.add_escape.ensures
      ∙ ap (λ x. x ++ escape (get_or c.args.bytes.now 0 0)) c.new-made.ensures
      ∙ sym (escaped-next c.args.bytes.now 0 c.requires),
)

pub bytes-preserved : goal.bytes-preserved
bytes-preserved c =
    let bytes = c.args.bytes.now in
    let at = c.bytes.at in (
      omega arith,
      omega (arith, c.bytes-test.true),
      c.add_escape-in-bytes.ensures
          ∙ ap (λ x. x ++ escape (get_or bytes at 0)) c.bytes.invariant.2
          ∙ sym (escaped-next bytes at c.bytes-test.true),
    )
