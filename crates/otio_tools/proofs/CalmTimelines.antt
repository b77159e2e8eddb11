-- Timelines that are read, and those that lists conform to: they are writable, and their
-- transitions stand where they may.
use Rattle.std.proofs.Common.{ℕ, List}
use Rattle.otio_model.specs.declared.objects.Object.{Timeline as ObjectOfTimeline}
use Rattle.otio_model.specs.declared.timelines.Timeline.{Timeline}
use Rattle.coord.specs.Soundness.{IsCalm}
use Rattle.object_law.specs.Writable as W
use Rattle.edl_list.specs.declared.list.EventList.{EventList}
use Rattle.edl_list.specs.Formed.{IsWellFormed}
use Rattle.media_rows.specs.Rows.{MediaRows}
use Rattle.edl_frames.specs.Conformed.{IsTimelineOf}
use Rattle.schema_up.specs.Upgrades.{upgraded}
use Rattle.source_files.specs.Formats.{IsOfTables, IsTimeline}
use Rattle.edl_law.proofs.WritableTimelines.{timeline_writable}
use Rattle.json_law.proofs.UpgradedTwice.{read_stays}
use Rattle.writable_law.proofs.CalmTimelines.{root_writable, stands_calm, stands_writable, timeline_out}

-- the timeline of a well formed list is writable
pub conformed_writable : (list : EventList) (media : MediaRows) (t : Timeline)
    → IsWellFormed list → IsTimelineOf list media t → W.IsTimeline t
conformed_writable list media t formed is =
    root_writable t (ObjectOfTimeline t) (timeline_out t)
    (timeline_writable list media t formed is)

-- a timeline that some upgraded value stands for is writable
pub tables_are_writable : (t : Timeline) → IsOfTables t → W.IsTimeline t
tables_are_writable t is = stands_writable t is.value is.object is.stays is.stands is.root

-- its transitions stand where they may
pub tables_are_calm : (t : Timeline) → IsOfTables t → IsCalm t
tables_are_calm t is = stands_calm t is.value is.object is.stays is.stands is.root

pub read_is_calm : (bytes : List ℕ) (t : Timeline) → IsTimeline bytes t → IsCalm t
read_is_calm bytes t is = stands_calm t (upgraded is.is.value) is.object
    (read_stays bytes is.is.value is.is.text.text) is.is.stands is.root
