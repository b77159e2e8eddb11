use Rattle.edl_frames.specs.Channels.{own_key, reel_first}
use Rattle.note_law.proofs.NotedShows.{keeps_program, keeps_on}
use Rattle.note_law.proofs.notes_keep_frames.Goals as goal

pub returns-clause-program : goal.returns-clause-program
returns-clause-program c = keeps_program

pub returns-clause-on : goal.returns-clause-on
returns-clause-on c = keeps_on own_key

pub returns-clause-reels : goal.returns-clause-reels
returns-clause-reels c = keeps_on reel_first
