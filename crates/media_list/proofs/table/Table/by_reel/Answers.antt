use Rattle.std.proofs.Common.{◌≡◌, Some, None, position, sym, subst, ◌∙◌}
use Rattle.media_list.proofs.LookUps.{is_name, reel_found, reel_missing, found_in_range}
use Rattle.media_list.proofs.table.Table.by_reel.Goals as goal

pub returns-in-Some-clause-row : goal.returns-in-Some-clause-row
returns-in-Some-clause-row c =
    let keys = c.args.self.now.reels.keys in
    let at = subst (λ b. Some c.in-Some.index ≡ position (is_name b) keys) c.as_str.ensures
    c.in-Some.ensures.index in
    c.row_at.ensures ∙ reel_found c.args.reel.now keys c.args.self.now.rows.items c.in-Some.index
    c.requires.reels at

pub returns-in-None-clause-row : goal.returns-in-None-clause-row
returns-in-None-clause-row c =
    let keys = c.args.self.now.reels.keys in
    let none = subst (λ b. None ≡ position (is_name b) keys) c.as_str.ensures
    c.in-None.ensures.index in
    sym (reel_missing c.args.reel.now keys c.args.self.now.rows.items c.requires.reels none)

pub returns-in-Some-clause-range : goal.returns-in-Some-clause-range
returns-in-Some-clause-range c =
    found_in_range c.row_at.result c.args.self.now.rows.items c.in-Some.index c.row_at.ensures
    c.requires.ranges
