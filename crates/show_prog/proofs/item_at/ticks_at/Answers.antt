use Rattle.coord.proofs.Members.{child_few}
use Rattle.show_prog.proofs.item_at.ticks_at.Goals as goal

pub length_or_zero-requires : goal.length_or_zero-requires
length_or_zero-requires c = record {
  few = child_few c.args.children.now c.in-Some.index c.child.result.now c.child.ensures
      c.requires.few;
}
