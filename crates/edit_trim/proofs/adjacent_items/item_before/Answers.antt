use Rattle.std.proofs.Common.{sym, ◌∙◌}
use Rattle.edit_trim.proofs.Seeking.{index_there}
use Rattle.edit_trim.proofs.adjacent_items.item_before.Goals as goal

pub child-requires : goal.child-requires
child-requires c = index_there _ c.in-Some.at _ c.in-Some.ensures.some.there

pub returns-in-Some-clause-item : goal.returns-in-Some-clause-item
returns-in-Some-clause-item c =
    let at = c.in-Some.ensures.some in sym c.child.ensures ∙ at.there ∙ sym at.last

pub returns-in-Some-clause-faultless : goal.returns-in-Some-clause-faultless
returns-in-Some-clause-faultless c = c.requires.faultless c.in-Some.at c.child.result.now
    c.child.ensures
