use Rattle.drill.proofs.ListLemmas.{only_memory, same_list}
use Rattle.drill.proofs.source_reels.media.Goals as goal

pub out_of_memory-requires : goal.out_of_memory-requires
out_of_memory-requires c = only_memory c.in-Err.fault c.in-Err.ensures.fault

pub returns-in-Ok : goal.returns-in-Ok
returns-in-Ok c = same_list c.in-Ok.list c.in-Ok.ensures.list
