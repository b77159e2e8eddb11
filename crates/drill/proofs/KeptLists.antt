-- The list of a timeline is conformed, and keeps what the timeline shows.
use Rattle.std.proofs.Common.{◌≡◌, ◌∙◌, ℕ, ◌≤◌, false, List, Some, None, length, arith}
use Rattle.limits.specs.Limits.{most_items}
use Rattle.otio_model.specs.declared.timelines.Timeline.{Timeline}
use Rattle.coord.specs.Soundness.{IsSound}
use Rattle.media_rows.specs.declared.row.MediaRow.{MediaRow}
use Rattle.media_rows.specs.Rows.{AreRows}
use Rattle.edl_list.specs.declared.list.EventList.{EventList}
use Rattle.edl_frames.specs.Channels.{own_key}
use Rattle.edl_frames.specs.Conformed.{IsTimelineOf}
use Rattle.edl_frames.specs.Counted.{item_count}
use Rattle.edl_frames.specs.Carried.{not_carried, IsListOf}
use Rattle.edl_law.specs.Premises.{IsFine}
use Rattle.edl_law.proofs.FewItems.{few_items}
use Rattle.edl_law.proofs.ItemCounts.{timeline_count}
use Rattle.edl_law.proofs.ListDays.{list_is_fine}
use Rattle.edl_law.proofs.ListShows.{list_shows_timeline}
use Rattle.edl_law.proofs.SideLooks.{knows_listed}
use Rattle.edl_law.proofs.TimelineShows.{timeline_shows_list}
use Rattle.drill.specs.Lists.{Conforms, Shows}
use Rattle.drill.proofs.SoundTimelines.{conformed_sound}

-- the list of a timeline, as it is handed to a conform
pub listed_fine : (t : Timeline) (list : EventList) (rows : List MediaRow) → IsSound t
    → AreRows rows → not_carried t (Some rows) false false ≡ None
    → IsListOf t (Some rows) false false list → IsFine list (Some rows) false false
listed_fine t list rows sound distinct carried i =
    list_is_fine t list (Some rows) false false sound.calm distinct carried i

pub listed_few : (t : Timeline) (list : EventList) (rows : List MediaRow) → IsSound t
    → AreRows rows → not_carried t (Some rows) false false ≡ None
    → IsListOf t (Some rows) false false list → item_count list ≤ most_items
listed_few t list rows sound distinct carried i =
    few_items list (listed_fine t list rows sound distinct carried i).fits.few

-- what it conforms to shows what the timeline shows
pub listed_shows : (t again : Timeline) (list : EventList) (rows : List MediaRow) → IsSound t
    → AreRows rows → not_carried t (Some rows) false false ≡ None
    → IsListOf t (Some rows) false false list → IsTimelineOf list (Some rows) again
    → Shows t again
listed_shows t again list rows sound distinct carried i is =
    let fine = listed_fine t list rows sound distinct carried i in
    let few = listed_few t list rows sound distinct carried i in
    let count = timeline_count list (Some rows) again is in
    record {
      sound = conformed_sound t again list (Some rows) false false sound.calm distinct carried i is;
      few = omega (arith, few, count);
      same = λ c n. timeline_shows_list list (Some rows) again c n fine.formed fine.carried is
          ∙ list_shows_timeline own_key t list (Some rows) false false c n sound sound.calm
          (knows_listed rows distinct) carried i;
    }

-- what becomes of a list that is conformed
pub conforms : (t again : Timeline) (list : EventList) (rows : List MediaRow) (events : ℕ)
    → not_carried t (Some rows) false false ≡ None → IsListOf t (Some rows) false false list
    → length list.events ≡ events → IsTimelineOf list (Some rows) again
    → Conforms t rows events again
conforms t again list rows events carried i count is =
    record { carried = carried; list = list; is = i; count = count; timeline = is }
