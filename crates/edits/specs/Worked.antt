-- Edits worked out by hand, at 24 frames a second.
use Rattle.std.specs.Prelude.{◌≡◌, ℕ, ℤ, pos, ◌-ℤ◌, true, false, is_none, List, [], ◌∷◌, codes}
use Rattle.otio_model.specs.declared.edit_types.Edit.{Edit}
use Rattle.otio_model.specs.declared.edit_types.Edit.TheVariants as A
use Rattle.otio_model.specs.declared.edit_types.FillMode.TheVariants as F
use Rattle.otio_model.specs.declared.edit_types.RemoveMode.TheVariants as R
use Rattle.otio_model.specs.declared.compositions.ItemOf.{ItemOf}
use Rattle.otio_model.specs.declared.compositions.Listed.{Listed}
use Rattle.coord.specs.Looks.{Show, Blank}
use Rattle.coord.specs.Sights.{exact}
use Rattle.coord.specs.Worked.{frame_of}
use Rattle.edits.specs.Children.{Child, Old, Ranged, new_gap}
use Rattle.edits.specs.WorkedItems.{frames, at_speed, shot, gap, dissolve, first, second, joined, put, sped, late}
use Rattle.edits.specs.Edges.{held_at}
use Rattle.edits.specs.Edits.{edited}
use Rattle.edits.specs.Laws.{law}
use Rattle.edits.specs.Steady.{are_steady}
use Rattle.edits.specs.Refusals.{has_no_neighbour, is_empty, is_filled_item, is_phased, is_wrong_speed}
use Rattle.edits.specs.Zones.{touches}

abbrev pub frame : ℤ
frame = frames 1

-- a place, which these definitions don't look at
abbrev pub here : List ℕ
here = 0 ∷ []

abbrev pub edit : Edit → List (ItemOf Listed) → List Child
edit = edited frame

-- so many frames back
abbrev pub back : ℕ → ℤ
back n = pos 0 -ℤ pos n

-- a gap of 20 frames between two clips
abbrev pub before_gap : ItemOf Listed
before_gap = shot (codes "d") 240 [] 0 10

abbrev pub behind_gap : ItemOf Listed
behind_gap = shot (codes "e") 240 [] 100 30

abbrev pub holed : List (ItemOf Listed)
holed = before_gap ∷ gap 20 ∷ behind_gap ∷ []

-- three clips of 10, 20 and 10 frames, with unused media on all sides but one
abbrev pub left : ItemOf Listed
left = shot (codes "d") 200 [] 50 10

abbrev pub middle : ItemOf Listed
middle = shot (codes "e") 200 [] 100 20

abbrev pub right : ItemOf Listed
right = shot (codes "h") 200 [] 0 10

abbrev pub three : List (ItemOf Listed)
three = left ∷ middle ∷ right ∷ []

-- a clip that shows no media for 10 frames
abbrev pub still : ItemOf Listed
still = shot (codes "s") 240 (at_speed (pos 0)) 20 10

-- the lists that edits make
pub record AreEdited : Type 0 where
  pub over_dissolve : edit (A.Overwrite here (pos 40) (put 10)) joined
      ≡ Ranged first (frames 24) (frames 40) ∷ Old (put 10)
      ∷ Ranged second (frames 102) (frames 46) ∷ []
  pub over_end : edit (A.Overwrite here (pos 100) (put 5)) joined
      ≡ Old first ∷ Old (dissolve 6 6) ∷ Old second ∷ new_gap (frames 4) ∷ Old (put 5) ∷ []
  pub inserted : edit (A.Insert here (pos 6) (put 4)) (put 30 ∷ [])
      ≡ Ranged (put 30) (frames 0) (frames 6) ∷ Old (put 4)
      ∷ Ranged (put 30) (frames 6) (frames 24) ∷ []
  pub inserted_at_cut : edit (A.Insert here (pos 48) (put 4)) joined
      ≡ Old first ∷ Old (put 4) ∷ Old second ∷ []
  pub sliced : edit (A.Slice here (pos 10)) joined
      ≡ Ranged first (frames 24) (frames 10) ∷ Ranged first (frames 34) (frames 38)
      ∷ Old (dissolve 6 6) ∷ Old second ∷ []
  pub removed : edit (A.Remove here (pos 60) R.Gap) joined
      ≡ Old first ∷ new_gap (frames 48) ∷ []
  pub closed : edit (A.Remove here (pos 15) R.Close) three ≡ Old left ∷ Old right ∷ []
  pub fill_source : edit (A.Fill here (pos 12) F.Source (put 30)) holed
      ≡ Old before_gap ∷ Old (put 30) ∷ Ranged behind_gap (frames 110) (frames 20) ∷ []
  pub fill_sequence : edit (A.Fill here (pos 12) F.Sequence (put 30)) holed
      ≡ Old before_gap ∷ Ranged (put 30) (frames 0) (frames 20) ∷ Old behind_gap ∷ []
  pub fill_fit : edit (A.Fill here (pos 12) F.Fit (put 30)) holed
      ≡ Old before_gap
      ∷ Ranged (shot (codes "w") 240 (at_speed (pos 1500000)) 0 30) (frames 0) (frames 20)
      ∷ Old behind_gap ∷ []
  pub fill_slow : edit (A.Fill here (pos 0) F.Fit (put 10)) (gap 24 ∷ [])
      ≡ Ranged (shot (codes "w") 240 (at_speed (pos 416667)) 0 10) (frames 0) (frames 24) ∷ []
  pub slip_on : edit (A.Slip here (pos 0) (pos 500)) joined
      ≡ Ranged first (frames 192) (frames 48) ∷ Old (dissolve 6 6) ∷ Old second ∷ []
  pub slip_back : edit (A.Slip here (pos 0) (back 500)) joined
      ≡ Ranged first (frames 0) (frames 48) ∷ Old (dissolve 6 6) ∷ Old second ∷ []
  pub slip_still : edit (A.Slip here (pos 0) (pos 500)) (still ∷ [])
      ≡ Ranged still (frames 240) (frames 10) ∷ []
  pub slip_gap : edit (A.Slip here (pos 0) (pos 5)) late ≡ Old (gap 72) ∷ Old sped ∷ []
  pub slide : edit (A.Slide here (pos 15) (pos 4)) three
      ≡ Ranged left (frames 50) (frames 14) ∷ Old middle ∷ Old right ∷ []
  pub slide_back : edit (A.Slide here (pos 15) (back 40)) three
      ≡ Ranged left (frames 50) (frames 1) ∷ Old middle ∷ Old right ∷ []
  pub ripple : edit (A.Ripple here (pos 15) (pos 3) (back 5)) three
      ≡ Old left ∷ Ranged middle (frames 103) (frames 12) ∷ Old right ∷ []
  pub ripple_to_frame : edit (A.Ripple here (pos 15) (pos 90) (pos 0)) three
      ≡ Old left ∷ Ranged middle (frames 119) (frames 1) ∷ Old right ∷ []
  pub trim_to_media : edit (A.Trim here (pos 72) (back 80) (pos 0)) late
      ≡ Ranged (gap 72) (frames 0) (frames 52) ∷ Ranged sped (frames 0) (frames 32) ∷ []
  pub trim_gap_away : edit (A.Trim here (pos 3) (back 8) (pos 0)) (gap 3 ∷ left ∷ [])
      ≡ Ranged left (frames 47) (frames 13) ∷ []
  pub trim_in : edit (A.Trim here (pos 15) (pos 2) (back 3)) three
      ≡ Old left ∷ new_gap (frames 2) ∷ Ranged middle (frames 102) (frames 15)
      ∷ new_gap (frames 3) ∷ Old right ∷ []
  pub trim_end : edit (A.Trim here (pos 0) (pos 0) (pos 4)) (left ∷ [])
      ≡ Ranged left (frames 50) (frames 14) ∷ []
  pub roll : edit (A.Roll here (pos 15) (back 2) (pos 4)) three
      ≡ Ranged left (frames 50) (frames 8) ∷ Ranged middle (frames 98) (frames 26)
      ∷ Ranged right (frames 4) (frames 6) ∷ []
  pub roll_no_room : edit (A.Roll here (pos 15) (pos 0) (back 4)) three
      ≡ Old left ∷ Old middle ∷ Old right ∷ []

-- tests of edits, by which they are refused or not
pub record AreRefused : Type 0 where
  pub roll_first : has_no_neighbour (A.Roll here (pos 0) (pos 1) (pos 0)) (held_at three (pos 0))
      ≡ true
  pub roll_tail : has_no_neighbour (A.Roll here (pos 0) (pos 0) (pos 1)) (held_at three (pos 0))
      ≡ false
  pub slide_first : has_no_neighbour (A.Slide here (pos 0) (pos 1)) (held_at three (pos 0)) ≡ true
  pub no_item : is_none (held_at three (frames 9999)) ≡ true
  pub at_end : is_none (held_at three (frames 40)) ≡ true
  pub last_frame : is_none (held_at three (frames 39)) ≡ false
  pub empty : is_empty (A.Insert here (pos 0) (put 0)) ≡ true
  pub filled : is_filled_item (A.Fill here (pos 0) F.Source (put 5)) (held_at holed (pos 0)) ≡ true
  pub in_gap : is_filled_item (A.Fill here (pos 12) F.Source (put 5)) (held_at holed (frames 12))
      ≡ false
  pub fast : is_wrong_speed (A.Fill here (pos 0) F.Fit (put 200)) (held_at (gap 1 ∷ []) (pos 0))
      ≡ false
  pub too_fast : is_wrong_speed
      (A.Fill here (pos 0) F.Fit (shot (codes "x") 240 (at_speed (pos 10000000)) 0 200))
      (held_at (gap 1 ∷ []) (pos 0)) ≡ true
  pub no_speed : is_wrong_speed (A.Fill here (pos 0) F.Fit still) (held_at (gap 1 ∷ []) (pos 0))
      ≡ true
  pub whole : is_phased frame (A.Slice here (pos 0)) three ≡ true
  pub half : is_phased (pos 1) (A.Slice here (pos 1))
      (shot (codes "f") 240 (at_speed (pos 1500000)) 40 12 ∷ []) ≡ false

-- what the list that an edit makes shows at a frame
abbrev pub shows : Edit → List (ItemOf Listed) → ℕ → Show
shows e l n = law (exact (codes "Video")) frame e l (frames n)

-- what edited lists show, and that their edits are steady
pub record AreShown : Type 0 where
  pub before : shows (A.Overwrite here (pos 40) (put 10)) joined 39 ≡ frame_of (codes "a") 63
  pub first : shows (A.Overwrite here (pos 40) (put 10)) joined 40 ≡ frame_of (codes "w") 0
  pub last : shows (A.Overwrite here (pos 40) (put 10)) joined 49 ≡ frame_of (codes "w") 9
  pub behind : shows (A.Overwrite here (pos 40) (put 10)) joined 50 ≡ frame_of (codes "b") 102
  pub moved_on : shows (A.Insert here (pos 48) (put 4)) joined 52 ≡ frame_of (codes "b") 100
  pub moved_up : shows (A.Remove here (pos 15) R.Close) three 10 ≡ frame_of (codes "h") 0
  pub blank : shows (A.Remove here (pos 15) R.Gap) three 10 ≡ Blank
  pub slipped : shows (A.Slip here (pos 0) (pos 500)) joined 0 ≡ frame_of (codes "a") 192
  pub slid : shows (A.Slide here (pos 15) (pos 4)) three 13 ≡ frame_of (codes "d") 63
  pub rippled : shows (A.Ripple here (pos 15) (pos 3) (back 5)) three 10 ≡ frame_of (codes "e") 103
  pub ripple_end : shows (A.Ripple here (pos 15) (pos 3) (back 5)) three 22
      ≡ frame_of (codes "h") 0
  pub trimmed : shows (A.Trim here (pos 15) (pos 2) (back 3)) three 11 ≡ Blank
  pub rolled : shows (A.Roll here (pos 15) (back 2) (pos 4)) three 8 ≡ frame_of (codes "e") 98
  pub roll_end : shows (A.Roll here (pos 15) (back 2) (pos 4)) three 33 ≡ frame_of (codes "e") 123
  pub steady : are_steady (edit (A.Slip here (pos 0) (pos 500)) joined) ≡ true

-- how many children are stripped by an edit's zone or meet it, from the first to the last
pub record AreTouched : Type 0 where
  pub over_dissolve : touches frame (A.Overwrite here (pos 40) (put 10)) joined ≡ 3
  pub inside : touches frame (A.Slice here (pos 10)) joined ≡ 1
  pub at_cut : touches frame (A.Slice here (pos 10)) three ≡ 2
  pub over_end : touches frame (A.Overwrite here (pos 100) (put 5)) three ≡ 0
  pub no_zone : touches frame (A.Slip here (pos 0) (pos 500)) joined ≡ 0
  pub item : touches frame (A.Ripple here (pos 15) (pos 3) (back 5)) three ≡ 3
