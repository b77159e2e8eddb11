use Rattle.media_list.proofs.list.MediaList.by_url.Goals as goal

pub returns-clause-apart : goal.returns-clause-apart
returns-clause-apart c = rw (← c.self.view_is) c.self.invariant.apart
