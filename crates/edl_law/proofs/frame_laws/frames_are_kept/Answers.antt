use Rattle.std.proofs.Common.{Some, None}
use Rattle.edl_frames.specs.Channels.{own_key, reel_first}
use Rattle.edl_law.proofs.SideLooks.{knows_listed, knows_reels}
use Rattle.edl_law.proofs.SameLists.{round_trip, carried_same}
use Rattle.edl_law.proofs.ListDays.{list_is_fine}
use Rattle.edl_law.proofs.frame_laws.frames_are_kept.Goals as goal

pub returns : goal.returns
returns c = record {
  listed = λ t again list read rows drop wide sound distinct carried i same formed.
      let fine = list_is_fine t list (Some rows) drop wide sound.calm distinct carried i in
      let accepted = carried_same list read (Some rows) same fine.carried in (
        accepted,
        λ conformed ch n. round_trip own_key t again list read (Some rows) drop wide ch n sound
            sound.calm (knows_listed rows distinct) carried i same formed accepted conformed,
      );
  reels = λ t again list read drop wide sound carried i same formed.
      let fine = list_is_fine t list None drop wide sound.calm tt carried i in
      let accepted = carried_same list read None same fine.carried in (
        accepted,
        λ conformed ch n. round_trip reel_first t again list read None drop wide ch n sound
            sound.calm
            knows_reels carried i same formed accepted conformed,
      );
}
