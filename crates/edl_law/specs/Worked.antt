-- Small lists at 24 frames a second, worked out by hand.
use Rattle.std.specs.Prelude.{◌≡◌, ℕ, pos, true, false, List, [], ◌∷◌, Option, Some, None, codes}
use Rattle.tick_time.specs.declared.rates.Rate.{Rate}
use Rattle.edl_list.specs.declared.list.Channel.TheVariants.{V}
use Rattle.edl_list.specs.declared.list.Reel.TheVariants.{Named}
use Rattle.edl_list.specs.declared.list.Side.{Side}
use Rattle.edl_list.specs.declared.list.Cross.{Cross}
use Rattle.edl_list.specs.declared.list.Cross.TheVariants.{Cut, Dissolve}
use Rattle.edl_list.specs.declared.list.Event.{Event}
use Rattle.media_rows.specs.declared.row.MediaRow.{MediaRow}
use Rattle.coord.specs.Looks.{Key, Url, Reel as ReelKey}
use Rattle.coord.specs.Images.{Image, Single, Mixture, Dissolve as IsDissolve}
use Rattle.edl_frames.specs.declared.faults.ConformFault.TheVariants.{NoReel, Outside}
use Rattle.edl_frames.specs.Shown.{events_show}
use Rattle.edl_frames.specs.Conformed.{serves}
use Rattle.edl_frames.specs.Refused.{first_fault}
use Rattle.edl_frames.specs.Counted.{channel_count}

-- a reel's side with a name from one source frame to another, at a speed in tenths
abbrev pub side : List ℕ → Option (List ℕ) → ℕ → ℕ → Option ℕ → Side
side reel name from to speed = record {
  reel = Named reel;
  name = name;
  src_in = pos from;
  src_out = pos to;
  speed = speed;
}

-- an event on V at a line
abbrev pub event : ℕ → Side → Cross → ℕ → ℕ → Event
event line to cross from behind = record {
  line = line;
  channel = V;
  to = to;
  cross = cross;
  rec_in = pos from;
  rec_out = pos behind;
}

-- so many frames of a file from 0 on, as a reel
abbrev pub row : Rate → List ℕ → List ℕ → ℕ → MediaRow
row rate reel url count =
    record { reel = reel; url = url; rate = rate; start = pos 0; count = pos count }

-- two files, of which the second one has so many frames
abbrev pub rows : Rate → ℕ → List MediaRow
rows rate count = row rate (codes "A1") (codes "a.mov") 1000
    ∷ row rate (codes "B1") (codes "b.mov") count ∷ []

-- 38 frames of one reel, and a dissolve of 24 frames to another one
abbrev pub two_reels : List Event
two_reels = event 3 (side (codes "A1") (Some (codes "a")) 100 138 None) Cut 86400 86438
    ∷ event 6 (side (codes "B1") (Some (codes "b")) 190 248 None)
    (Dissolve 24 (side (codes "A1") (Some (codes "a")) 138 138 None)) 86438 86496 ∷ []

-- a side of reel A1 from a source frame on, at 24 frames a second
abbrev pub side_from : ℕ → Side
side_from frame = side (codes "A1") None frame frame (Some 240)

-- one second of a reel
abbrev pub one_second : Event
one_second = event 1 (side (codes "A1") None 24 48 None) Cut 0 24

-- that second, and a dissolve of 12 frames from a side to a still
abbrev pub to_still : Side → List Event
to_still from = one_second
    ∷ event 3 (side (codes "A1") None 120 120 (Some 0)) (Dissolve 12 from) 24 48 ∷ []

-- so many parts of so many of one frame over another one
abbrev pub mix_of_frames : Key → ℕ → Key → ℕ → ℕ → ℕ → Image
mix_of_frames a m b n num den = Mixture IsDissolve (Single a (pos m)) (Single b (pos n))
    (record { num = pos num; den = pos den })

-- what these lists show, what serves as an outgoing side, how many items their tracks have, and
-- whether media lists hold them
pub record AreWorkedLists (rate : Rate) : Type 0 where
  pub shown : events_show rate (Some (rows rate 1000)) two_reels (pos 86443)
      ≡ mix_of_frames (Url (codes "a.mov")) 143 (Url (codes "b.mov")) 195 5 24
  pub counted : channel_count rate None (pos 86400) two_reels ≡ 3
  pub still : events_show rate None (to_still (side_from 48)) (pos 30)
      ≡ mix_of_frames (ReelKey (codes "A1")) 54 (ReelKey (codes "A1")) 120 1 2
  pub still_served : serves rate (Some one_second) (pos 24) (side_from 48) ≡ true
  pub still_counted : channel_count rate None (pos 0) (to_still (side_from 48)) ≡ 3
  pub leap : events_show rate None (to_still (side_from 72)) (pos 30)
      ≡ mix_of_frames (ReelKey (codes "A1")) 78 (ReelKey (codes "A1")) 120 1 2
  pub leap_served : serves rate (Some one_second) (pos 24) (side_from 72) ≡ false
  pub leap_counted : channel_count rate None (pos 0) (to_still (side_from 72)) ≡ 4
  pub held : first_fault rate (Some (rows rate 248)) two_reels ≡ None
  pub unlisted : first_fault rate (Some (row rate (codes "A1") (codes "a.mov") 1000 ∷ []))
      two_reels ≡ Some (NoReel 6)
  pub outside : first_fault rate (Some (rows rate 247)) two_reels ≡ Some (Outside 6)

-- the rate is 24 frames a second
pub record IsRate24 (rate : Rate) : Type 0 where
  pub num : rate.num ≡ pos 24
  pub den : rate.den ≡ pos 1
