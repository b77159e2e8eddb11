use Rattle.std.proofs.Common.{arith, ◌≡◌, sym, subst, Some, IfOk}
use Rattle.std.proofs.lemmas.Int.{ints, to_z-of_z}
use Rattle.edits.specs.Children.{all_made}
use Rattle.edit_trim.proofs.Made.{gap_is}
use Rattle.edit_trim.proofs.resized_items.gap_of.Goals as goal

pub returns-then-ticks-gt0-clause-made : goal.returns-then-ticks-gt0-clause-made
returns-then-ticks-gt0-clause-made c =
    let ticks = c.ranges.ticks in
    subst (λ z. IfOk c.one_gap.result (λ list. all_made c.args.making.rate z ≡ Some list.items))
    (sym (gap_is c.args.ticks (omega (arith, ints))))
    (simp to_z-of_z at c.one_gap.ensures.made)
