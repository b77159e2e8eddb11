use Rattle.std.proofs.Common.{FitsSigned, w64, rules, ◌∙◌}
use Rattle.std.proofs.lemmas.Int.{to_z-of_z}
use Rattle.tick_time.specs.Frames.{IsFrameSpan}
use Rattle.edit_script.proofs.Puts.{media_is}
use Rattle.edit_script.proofs.items.media_of.Goals as goal

pub returns : goal.returns
returns c =
    let row = c.args.row.now in
    let a : FitsSigned w64 row.start = search rules in
    let b : FitsSigned w64 row.count = search rules in
    let listed : IsFrameSpan row.rate row.start row.rate row.count c.span.result =
    simp to_z-of_z at c.span.ensures in (
      c.span.result,
      listed,
      media_is row.url _ _ c.span.result _ _ c.new.ensures c.empty.ensures
          (c.in_ok-of.ensures ∙ c.as_str.ensures) c.new-2.ensures,
    )
