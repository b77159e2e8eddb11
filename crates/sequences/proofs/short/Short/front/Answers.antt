use Rattle.std.proofs.Common.{arith, ◌∙◌, ap}
use Rattle.std.specs.Str.{is_utf8}
use Rattle.sequences.proofs.ShortLemmas.{window}
use Rattle.sequences.proofs.short.Short.front.Goals as goal

pub invariant_of-result : goal.invariant_of-result
invariant_of-result c = (
  omega (arith, c.if-count-gt-ROOM.false),
  ap is_utf8 (window c.args.count 14 c.args.bytes.now c.copy_from_slice.new.self (omega (arith, c.if-count-gt-ROOM.false)) c.copy_from_slice.ensures.after) ∙ c.requires,
)

pub returns : goal.returns
returns c = window c.args.count 14 c.args.bytes.now c.copy_from_slice.new.self (omega (arith, c.if-count-gt-ROOM.false)) c.copy_from_slice.ensures.after
