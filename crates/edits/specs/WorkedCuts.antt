-- Cuts of items and of lists, worked out by hand at 24 frames a second.
use Rattle.std.specs.Prelude.{◌≡◌, ℤ, pos, ◌+ℤ◌, ◌-ℤ◌, true, false, [], ◌∷◌, Option, Some, None, codes, option_map}
use Rattle.limits.specs.Limits.{most_ticks}
use Rattle.tick_time.specs.declared.times.Time.{Time}
use Rattle.otio_model.specs.declared.compositions.ItemOf.{ItemOf}
use Rattle.otio_model.specs.declared.compositions.Listed.{Listed}
use Rattle.edits.specs.Finest.{rate_24}
use Rattle.edits.specs.Nears.{near}
use Rattle.edits.specs.Children.{Old, Ranged, new_gap}
use Rattle.edits.specs.Cuts.{left_piece, right_piece, is_whole_at, cuts_whole, strip, front, back, put_between}
use Rattle.edits.specs.WorkedItems.{frames, at_speed, shot, dissolve, first, second, joined, put, sped}

-- the frames a second, as a whole number, of a time that there is
abbrev pub rate_near : ℤ → Option ℤ
rate_near z = option_map (λ (t : Time). t.rate.num) (near z rate_24)

-- new times keep a rate of which they are whole units, and else are counted at the finest one
pub record AreNear : Type 0 where
  pub kept : rate_near (frames 3) ≡ Some (pos 24)
  pub finer : rate_near (pos 1) ≡ Some (pos 705600000000)
  pub last : rate_near (pos most_ticks) ≡ Some (pos 24)
  pub beyond : rate_near (pos most_ticks +ℤ pos 1) ≡ None
  pub first : rate_near (pos 0 -ℤ pos most_ticks) ≡ Some (pos 24)
  pub before : rate_near (pos 0 -ℤ (pos most_ticks +ℤ pos 1)) ≡ None

-- a clip backward, and one at one and a half times its speed
abbrev pub backward : ItemOf Listed
backward = shot (codes "r") 240 (at_speed (pos 0 -ℤ pos 1000000)) 40 12

abbrev pub faster : ItemOf Listed
faster = shot (codes "f") 240 (at_speed (pos 1500000)) 40 12

-- what an item is cut into
pub record ArePieces : Type 0 where
  pub left : left_piece first (frames 40) ≡ Ranged first (frames 24) (frames 40)
  pub right : right_piece first (frames 40) ≡ Ranged first (frames 64) (frames 8)
  pub sped_right : right_piece sped (frames 5) ≡ Ranged sped (frames 50) (frames 7)
  pub back_left : left_piece backward (frames 5) ≡ Ranged backward (frames 40) (frames 5)
  pub back_right : right_piece backward (frames 5) ≡ Ranged backward (frames 35) (frames 7)
  pub whole : is_whole_at faster (pos 2) ≡ true
  pub half : is_whole_at faster (pos 1) ≡ false

-- which transitions a zone strips: those whose overlap, of frames 42 to 53 here, has an instant in
-- it, and those whose cut, here 48, lies in it, both ends included
pub record AreStripped : Type 0 where
  pub early : strip joined (frames 30) (frames 42) ≡ joined
  pub begins : strip joined (frames 30) (frames 43) ≡ first ∷ second ∷ []
  pub ends : strip joined (frames 53) (frames 60) ≡ first ∷ second ∷ []
  pub late : strip joined (frames 54) (frames 60) ≡ joined
  pub inside : strip joined (frames 50) (frames 50) ≡ first ∷ second ∷ []
  pub cut_first : strip (first ∷ dissolve 0 0 ∷ second ∷ []) (frames 48) (frames 60)
      ≡ first ∷ second ∷ []
  pub cut_last : strip (first ∷ dissolve 0 0 ∷ second ∷ []) (frames 30) (frames 48)
      ≡ first ∷ second ∷ []
  pub cut_before : strip (first ∷ dissolve 0 0 ∷ second ∷ []) (frames 49) (frames 60)
      ≡ first ∷ dissolve 0 0 ∷ second ∷ []

-- what stands before an instant of a list and what stands after it
pub record AreCut : Type 0 where
  pub front_at_cut : front joined (frames 48) ≡ Old first ∷ []
  pub back_at_cut : back joined (frames 48) ≡ Old (dissolve 6 6) ∷ Old second ∷ []
  pub front_inside : front joined (frames 50)
      ≡ Old first ∷ Old (dissolve 6 6) ∷ Ranged second (frames 100) (frames 2) ∷ []
  pub back_inside : back joined (frames 50) ≡ Ranged second (frames 102) (frames 46) ∷ []
  pub front_start : front joined (pos 0) ≡ []
  pub back_start : back joined (pos 0) ≡ Old first ∷ Old (dissolve 6 6) ∷ Old second ∷ []
  pub front_end : front joined (frames 100)
      ≡ Old first ∷ Old (dissolve 6 6) ∷ Old second ∷ new_gap (frames 4) ∷ []
  pub back_end : back joined (frames 100) ≡ []
  pub empty_front : front (first ∷ put 0 ∷ second ∷ []) (frames 48) ≡ Old first ∷ []
  pub empty_back : back (first ∷ put 0 ∷ second ∷ []) (frames 48)
      ≡ Old (put 0) ∷ Old second ∷ []
  pub between : put_between (first ∷ second ∷ []) (frames 40) (Old (put 10) ∷ []) (frames 50)
      ≡ Ranged first (frames 24) (frames 40) ∷ Old (put 10)
      ∷ Ranged second (frames 102) (frames 46) ∷ []
  pub whole_inside : cuts_whole (faster ∷ []) (pos 2) ≡ true
  pub half_inside : cuts_whole (faster ∷ []) (pos 1) ≡ false
  pub whole_ends : cuts_whole (faster ∷ []) (frames 12) ≡ true
