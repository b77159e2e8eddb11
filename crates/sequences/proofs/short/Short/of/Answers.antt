use Rattle.std.proofs.Common.{arith, ◌∙◌}
use Rattle.sequences.proofs.ShortLemmas.{front_is_utf8}
use Rattle.sequences.proofs.short.Short.of.Goals as goal

pub invariant_of-result : goal.invariant_of-result
invariant_of-result c = (
  omega (arith, c.if-text-gt-ROOM.false),
  front_is_utf8 c.args.text.now c.copy_from_slice.new.self _ (c.copy_from_slice.ensures.after ∙ c.as_bytes.ensures.value) c.utf8.text,
)
