-- Each sound timeline has something that is reported of its list.
use Rattle.std.proofs.Common.{◌≡◌, refl, ℕ, false, List, Option, Some, None, length}
use Rattle.otio_model.specs.declared.timelines.Timeline.{Timeline}
use Rattle.coord.specs.Soundness.{IsSound}
use Rattle.edl_frames.specs.declared.reasons.Why.{Why}
use Rattle.edl_frames.specs.Carried.{not_carried}
use Rattle.edl_law.proofs.MadeLists.{list-is_there}
use Rattle.edl_law.proofs.MadeTimelines.{timeline-is_there}
use Rattle.drill.specs.Lists.{IsListed}
use Rattle.drill.specs.declared.list_outcome.Listed.{Listed}
use Rattle.drill.specs.declared.list_outcome.Listed.TheVariants as L
use Rattle.drill.specs.Media.{rows}
use Rattle.drill.specs.Told.{carried_of, IsToldOf}
use Rattle.drill.specs.declared.tally.Carried.{Carried}
use Rattle.drill.proofs.KeptLists.{listed_fine}
use Rattle.drill.proofs.ListLemmas.{is_list, rows_ranged}

-- what becomes of the list of a timeline
listed-is_there : (t : Timeline) → IsSound t → (l : Listed) × IsListed t rows l
listed-is_there t sound = by (not_carried t (Some rows) false false) refl
  where
    by : (o : Option (List ℕ × Why)) → not_carried t (Some rows) false false ≡ o
        → (l : Listed) × IsListed t rows l
    by (Some said) e = (L.No said.1, (said.0, e))
    by None e =
        let list = list-is_there t (Some rows) false false sound.calm e in
        let fine = listed_fine t list.0 rows sound is_list.apart e list.1 in
        let again = timeline-is_there list.0 (Some rows) rows_ranged fine.formed in (
          L.List (length list.0.events) again.0,
          record {
            carried = e;
            list = list.0;
            is = list.1;
            count = refl;
            timeline = again.1;
          },
        )

pub told-is_there : (t : Timeline) → IsSound t → (carried : Carried) × IsToldOf t carried
told-is_there t sound =
    let l = listed-is_there t sound in
    (carried_of t l.0, record { list = l.0; is = l.1; told = refl })
