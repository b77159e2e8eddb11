use Rattle.show_prog.proofs.SpotPlaces.{spots_stand}
use Rattle.show_prog.proofs.SpotOrder.{spots_ordered}
use Rattle.show_prog.proofs.laws.spots_are_clips.Goals as goal

pub returns : goal.returns
returns c = record { places = spots_stand; order = spots_ordered }
