use Rattle.std.proofs.Common.{arith}
use Rattle.std.proofs.lemmas.Int.{ints}
use Rattle.edit_ops.proofs.Fillings.{list_of_one, misfit_told, one_long, right_of, whole_of}
use Rattle.edit_ops.proofs.Items.{short_item}
use Rattle.edit_ops.proofs.new_items.filled.Goals as goal

pub fill-requires-clause-short : goal.fill-requires-clause-short
fill-requires-clause-short c = short_item c.args.filling.item c.requires.item

pub returns-in-Ok-one-clause-right : goal.returns-in-Ok-one-clause-right
returns-in-Ok-one-clause-right c =
    right_of c.args.filling.mode c.args.filling.item c.in-Ok.item _ c.args.room c.args.rate
    c.in-Ok.ensures.made (omega (arith, ints, c.ranges.room))

pub returns-in-Ok-one-clause-whole : goal.returns-in-Ok-one-clause-whole
returns-in-Ok-one-clause-whole c =
    whole_of c.args.filling.mode c.args.filling.item c.in-Ok.item _ c.args.room c.args.rate
    c.in-Ok.ensures.made (omega (arith, ints, c.ranges.room))

pub returns-in-Ok-one-clause-made : goal.returns-in-Ok-one-clause-made
returns-in-Ok-one-clause-made c =
    list_of_one c.args.filling.mode c.args.filling.item c.in-Ok.item _ c.args.room c.args.rate
    c.in-Ok-one.put.items c.in-Ok.ensures.made (omega (arith, ints, c.ranges.room))
    c.in-Ok-one.ensures

pub returns-in-Ok-one-clause-few : goal.returns-in-Ok-one-clause-few
returns-in-Ok-one-clause-few c = one_long c.in-Ok-one.put.items c.in-Ok.item c.in-Ok-one.ensures

pub returns-in-Err-clause-fault : goal.returns-in-Err-clause-fault
returns-in-Err-clause-fault c = λ free.
    misfit_told c.args.filling.mode c.args.filling.item _ c.args.room c.in-Err.fault c.told.result
    c.in-Err.ensures.fault (omega (arith, ints, c.ranges.room)) c.told.ensures free
