use Rattle.edits_law.proofs.ListLaws.{overwrite_shows, insert_shows, slice_shows, remove_shows}
use Rattle.edits_law.proofs.lists.list_edits_show.Goals as goal

pub returns : goal.returns
returns c = record { overwrite = overwrite_shows; insert = insert_shows; slice = slice_shows; remove = remove_shows }
