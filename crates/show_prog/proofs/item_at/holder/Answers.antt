-- The seat that was found holds the instant.
use Rattle.std.proofs.Common.{arith, ◌-ℤ◌, FitsSigned, to_z, of_z, to_z-of_z, refl}
use Rattle.std.specs.Int.{w128}
use Rattle.std.proofs.lemmas.Int.{ints}
use Rattle.show_prog.specs.declared.item_at.Held.{Held}
use Rattle.show_prog.proofs.SeatLemmas.{seated}
use Rattle.show_prog.proofs.item_at.holder.Goals as goal

pub returns-in-Some : goal.returns-in-Some
returns-in-Some c =
    let at : FitsSigned w128 c.args.at = c.ranges.at in
    let k = simp to_z-of_z at c.in-Some.ensures.found in
    let a = k.starts in let b = k.not_before in
    let held : Held = record {
      index = c.in-Some.seat.index;
      ticks =
          to_z w128 (of_z w128 (to_z w128 (of_z w128 c.args.at) -ℤ to_z w128
          (of_z w128 c.in-Some.seat.start)));
    } in
    seated c.args.children.now c.args.at c.in-Some.seat held c.requires.sound c.requires.few k refl
    (omega (arith, ints, a, b))
