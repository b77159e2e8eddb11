use Rattle.std.proofs.Common.{ap, sym, ◌∙◌}
use Rattle.std.specs.Option.{option_copied}
use Rattle.edit_script.specs.RunActs.{is_beyond}
use Rattle.edit_script.proofs.CommandLemmas.{near_put}
use Rattle.edit_script.proofs.run_acts.list_edit_of.Goals as goal

pub item_of-requires-clause-near : goal.item_of-requires-clause-near
item_of-requires-clause-near c =
    let media = option_copied c.args.media in
    near_put c.args.rate media c.in-Overwrite.at c.in-Overwrite.put
    (ap (is_beyond c.args.rate media) (sym c.in-Overwrite.is) ∙ c.requires.near)

pub item_of-requires-in-Insert-clause-near : goal.item_of-requires-in-Insert-clause-near
item_of-requires-in-Insert-clause-near c =
    let media = option_copied c.args.media in
    near_put c.args.rate media c.in-Insert.at c.in-Insert.put
    (ap (is_beyond c.args.rate media) (sym c.in-Insert.is) ∙ c.requires.near)

pub item_of-requires-in-Fill-clause-near : goal.item_of-requires-in-Fill-clause-near
item_of-requires-in-Fill-clause-near c =
    let media = option_copied c.args.media in
    near_put c.args.rate media c.in-Fill.at c.in-Fill.put
    (ap (is_beyond c.args.rate media) (sym c.in-Fill.is) ∙ c.requires.near)
