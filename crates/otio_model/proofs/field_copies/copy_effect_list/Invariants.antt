-- The copies so far are the members so far.
use Rattle.std.proofs.Common.{◌≡◌, take}
use Rattle.otio_model.proofs.field_copies.copy_effect_list.Given as goal

abbrev pub invariant-effects : goal.invariant-effects
invariant-effects l = l.copies.items ≡ take l.effect-index l.list
