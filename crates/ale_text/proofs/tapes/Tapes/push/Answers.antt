use Rattle.ale_text.proofs.TapeLemmas.{is_taking, kept_more}
use Rattle.ale_text.proofs.tapes.Tapes.push.Goals as goal

pub returns-clause-kept : goal.returns-clause-kept
returns-clause-kept c =
    let take = c.args.take in
    let small = c.requires.small in
    kept_more c.args.rate take small c.args.self.now _ c.in_ok-row.row c.in_ok-name.name
    c.requires.kept (c.in_ok-row.ensures _ (is_taking take small)) c.requires.fresh
    c.in_ok-name.ensures.ok c.in_ok-insert.ensures.keys c.in_ok-push.ensures.items
