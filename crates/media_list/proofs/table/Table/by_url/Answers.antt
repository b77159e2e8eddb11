use Rattle.std.proofs.Common.{◌≡◌, Some, None, position, sym, subst, ◌∙◌}
use Rattle.media_list.proofs.LookUps.{is_name, url_found, url_missing, found_in_range}
use Rattle.media_list.proofs.table.Table.by_url.Goals as goal

pub returns-in-Some-clause-row : goal.returns-in-Some-clause-row
returns-in-Some-clause-row c =
    let keys = c.args.self.now.urls.keys in
    let at = subst (λ b. Some c.in-Some.place ≡ position (is_name b) keys) c.as_str.ensures
    c.in-Some.ensures.index in
    c.row_at.ensures ∙ url_found c.args.url.now keys c.args.self.now.rows.items c.in-Some.place
    c.requires.urls at

pub returns-in-None-clause-row : goal.returns-in-None-clause-row
returns-in-None-clause-row c =
    let keys = c.args.self.now.urls.keys in
    let none = subst (λ b. None ≡ position (is_name b) keys) c.as_str.ensures
    c.in-None.ensures.index in
    sym (url_missing c.args.url.now keys c.args.self.now.rows.items c.requires.urls none)

pub returns-in-Some-clause-range : goal.returns-in-Some-clause-range
returns-in-Some-clause-range c =
    found_in_range c.row_at.result c.args.self.now.rows.items c.in-Some.place c.row_at.ensures
    c.requires.ranges
