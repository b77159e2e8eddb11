use Rattle.media_list.proofs.list.MediaList.by_reel.Goals as goal

pub by_reel-requires : goal.by_reel-requires
by_reel-requires c = c.self.invariant

pub returns-clause-row : goal.returns-clause-row
returns-clause-row c = rw (← c.self.view_is) c.by_reel.ensures.row

pub returns-clause-range : goal.returns-clause-range
returns-clause-range c = c.by_reel.ensures.range

pub returns-clause-apart : goal.returns-clause-apart
returns-clause-apart c = rw (← c.self.view_is) c.self.invariant.apart
