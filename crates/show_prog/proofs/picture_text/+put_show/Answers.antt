use Rattle.std.proofs.Common.{sym, ap, ◌∙◌, FitsSigned, to_z-of_z, rules}
use Rattle.std.specs.Int.{w128}
use Rattle.dev_io.proofs.BufferLemmas.{puts_then, puts_as}
use Rattle.show_prog.specs.Pictures.{image_of}
use Rattle.show_prog.specs.Texts.{image_text}
use Rattle.show_prog.proofs.PrintTexts.{image_of-Mix}
use Rattle.show_prog.proofs.picture_text.+put_show.Goals as goal

pub returns-in-Mix : goal.returns-in-Mix
returns-in-Mix g t c =
    let m = c.in-Mix in
    let num : FitsSigned w128 m.num = search rules in
    let den : FitsSigned w128 m.den = search rules in
    let weight = simp to_z-of_z at c.put_weight.ensures in
    let from = rw c.deref.ensures at c.put_show.ensures in
    let to = rw c.deref-in-Mix.ensures at c.put_show-in-Mix.ensures in
    let sides = puts_then from (puts_then c.put-in-Mix-4.ensures (puts_then to c.put-in-Mix-5.ensures)) in
    puts_as _ (puts_then c.put-in-Mix.ensures (puts_then c.put_kind.ensures (puts_then c.put-in-Mix-2.ensures (puts_then weight (puts_then c.put-in-Mix-3.ensures sides)))))
    (ap image_text (sym (ap image_of m.is ∙ image_of-Mix m.kind m.from m.to m.num m.den)))
