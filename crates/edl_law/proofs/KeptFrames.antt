-- The text of a timeline's list keeps the timeline's frames.
use Rattle.std.proofs.Common.{◌≡◌, ap, ◌≤◌, ℕ, Bool, true, false, List, [], ◌∷◌, length, Some, None, arith}
use Rattle.std.specs.Prelude.{All, IsUtf8}
use Rattle.limits.specs.Limits.{most_bytes, most_items}
use Rattle.tick_time.specs.declared.rates.Rate.{Rate}
use Rattle.otio_model.specs.declared.timelines.Timeline.{Timeline}
use Rattle.coord.specs.Soundness.{IsCalm, IsSound}
use Rattle.edl_list.specs.declared.list.Event.{Event}
use Rattle.edl_list.specs.declared.list.EventList.{EventList}
use Rattle.edl_list.specs.Formed.{IsWellFormed}
use Rattle.edl_list.specs.Alike.{AreSame, IsSame}
use Rattle.edl_list.specs.Layouts.{layout_of, most_events}
use Rattle.edl_text.specs.Spelling.{spelling}
use Rattle.edl_text.specs.Lists.{IsList}
use Rattle.edl_text.proofs.OneList.{one_list}
use Rattle.edl_law.specs.Law.{HasNames, HasText, SpellingIsRead}
use Rattle.edl_law.proofs.RoundTrip.{reading}
use Rattle.media_rows.specs.Rows.{MediaRows}
use Rattle.edl_frames.specs.Counted.{item_count}
use Rattle.edl_frames.specs.Channels.{own_key, reel_first}
use Rattle.edl_frames.specs.Refused.{IsAccepted}
use Rattle.edl_frames.specs.Carried.{not_carried, IsListOf}
use Rattle.edl_law.specs.Premises.{AreListed}
use Rattle.edl_law.proofs.ListDays.{list_is_fine}
use Rattle.edl_law.proofs.SideLooks.{knows_listed, knows_reels}
use Rattle.edl_law.proofs.SameLists.{carried_same, round_trip}
use Rattle.edl_law.proofs.FewItems.{few_items}
use Rattle.edl_law.proofs.MadeTimelines.{timeline-is_there}
use Rattle.edl_law.specs.Kept.{KeepsFrames, ConformsTo}
use Rattle.edl_law.proofs.FormedReadings.{read_is_formed}

-- the text of a list is read again as the same list
read_again : SpellingIsRead
read_again list drop wide h =
    let r = reading list drop wide h in
    record {
      read = r.read;
      reads = r.reads;
      same = r.same;
      only = λ other is. one_list list.rate (spelling list drop wide) other r.read is r.reads;
    }

-- a list of a timeline has a text
text_of_list : (t : Timeline) (media : MediaRows) (drop wide : Bool) (list : EventList)
    → IsCalm t → AreListed media → not_carried t media drop wide ≡ None
    → IsListOf t media drop wide list → IsUtf8 list.title → All HasNames list.events
    → length (spelling list drop wide) ≤ most_bytes → HasText list drop wide
text_of_list t media drop wide list calm rows carried i title names small =
    let fine = list_is_fine t list media drop wide calm rows carried i in
    record {
      formed = fine.formed;
      even = fine.even;
      fits = fine.fits;
      labels = fine.labels;
      title = title;
      names = names;
      small = small;
    }

-- a list that is the same as that of a timeline conforms to what the timeline shows
conforms : (t : Timeline) (media : MediaRows) (drop wide : Bool) (list read : EventList)
    → IsSound t → AreListed media → not_carried t media drop wide ≡ None
    → IsListOf t media drop wide list → IsSame list read → IsWellFormed read
    → IsAccepted read media → ConformsTo read media t
conforms t None drop wide list read sound rows carried i same formed accepted again is c n =
    round_trip reel_first t again list read None drop wide c n sound sound.calm knows_reels carried
    i same formed accepted is
conforms t (Some rows) drop wide list read sound distinct carried i same formed accepted again is
    c n =
    round_trip own_key t again list read (Some rows) drop wide c n sound sound.calm
    (knows_listed rows distinct) carried i same formed accepted is

same_count : (rate : Rate) (xs ys : List Event) → AreSame rate xs ys → length xs ≡ length ys
same_count rate [] [] s = omega arith
same_count rate [] (y ∷ ys) s = absurd s
same_count rate (x ∷ xs) [] s = absurd s
same_count rate (x ∷ xs) (y ∷ ys) s = let n = same_count rate xs ys s.1 in omega (arith, n)

-- a list that is the same as one that the narrow layout has numbers for makes few items
narrow_few : (rate : Rate) (list read : EventList) (wide : Bool)
    → length list.events ≤ most_events (layout_of wide) → AreSame rate list.events read.events
    → wide ≡ false → item_count read ≤ most_items
narrow_few rate list read true few same narrow = absurd (cc narrow)
narrow_few rate list read false few same narrow =
    let count = same_count rate list.events read.events same in
    few_items read (omega (arith, count, few))

-- a text that is read as the list of a timeline, and as no other, keeps the timeline's frames
pub frames_kept_by : (t : Timeline) (media : MediaRows) (drop wide : Bool) (list : EventList)
    → IsSound t → AreListed media → not_carried t media drop wide ≡ None
    → IsListOf t media drop wide list → (bytes : List ℕ) (read : EventList)
    → IsList list.rate bytes read → IsSame list read
    → ((other : EventList) → IsList list.rate bytes other → other ≡ read)
    → KeepsFrames t media wide bytes
frames_kept_by t media drop wide list sound rows carried i bytes read reads same only =
    let fine = list_is_fine t list media drop wide sound.calm rows carried i in
    let formed = read_is_formed list.rate bytes read reads in
    let accepted = carried_same list read media same fine.carried in
    record {
      rate = list.rate;
      at = i.rate;
      read = read;
      reads = reads;
      only = only;
      accepted = accepted;
      few = narrow_few list.rate list read wide fine.fits.few same.events;
      there = λ ranged. timeline-is_there read media ranged formed;
      shows = conforms t media drop wide list read sound rows carried i same formed accepted;
    }

pub frames_kept : (t : Timeline) (media : MediaRows) (drop wide : Bool) (list : EventList)
    → IsSound t → AreListed media → not_carried t media drop wide ≡ None
    → IsListOf t media drop wide list → IsUtf8 list.title → All HasNames list.events
    → length (spelling list drop wide) ≤ most_bytes
    → KeepsFrames t media wide (spelling list drop wide)
frames_kept t media drop wide list sound rows carried i title names small =
    let again = read_again list drop wide
    (text_of_list t media drop wide list sound.calm rows carried i title names small) in
    frames_kept_by t media drop wide list sound rows carried i (spelling list drop wide) again.read
    again.reads again.same again.only

pub items_few : (t : Timeline) (media : MediaRows) (drop : Bool) (list read : EventList)
    → IsCalm t → AreListed media → not_carried t media drop false ≡ None
    → IsListOf t media drop false list → IsUtf8 list.title → All HasNames list.events
    → IsList list.rate (spelling list drop false) read → item_count read ≤ most_items
items_few t media drop list read calm rows carried i title names reads =
    let fine = list_is_fine t list media drop false calm rows carried i in
    let again = read_again list drop false
    (text_of_list t media drop false list calm rows carried i title names reads.small) in
    let one = again.only read reads in
    let count = same_count list.rate list.events again.read.events again.same.events in
    let all = ap (λ (l : EventList). length l.events) one in
    let few = fine.fits.few in
    few_items read (omega (arith, count, all, few))
