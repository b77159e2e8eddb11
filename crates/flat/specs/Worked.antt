-- Flat timelines worked out by hand, at 24 frames a second.
use Rattle.std.specs.Prelude.{◌≡◌, ℕ, pos, true, false, List, [], ◌∷◌, Some, codes}
use Rattle.tick_time.specs.Rates.{frame}
use Rattle.otio_model.specs.declared.compositions.ItemOf.{ItemOf}
use Rattle.otio_model.specs.declared.compositions.Listed.{Listed}
use Rattle.otio_model.specs.Plain.{track_with}
use Rattle.otio_model.specs.Trees.{listed}
use Rattle.edits.specs.Finest.{rate_24}
use Rattle.edits.specs.Children.{all_made}
use Rattle.edits.specs.WorkedItems.{frames, shot, gap, dissolve}
use Rattle.flat.specs.declared.faults.Cause.TheVariants as C
use Rattle.flat.specs.Pieces.{Giver, giver, longest, Piece, AreLongest, piece_items}
use Rattle.flat.specs.Windowed.{stripped, window_of}
use Rattle.flat.specs.Joined.{joined_children, JoinBlocks}
use Rattle.flat.specs.Straight.{without}

abbrev pub video : List ℕ
video = codes "Video"

abbrev pub track : List (ItemOf Listed) → ItemOf Listed
track l = track_with video (codes "v") (listed l)

abbrev pub a : ℕ → ℕ → ItemOf Listed
a s n = shot (codes "a") 240 [] s n

abbrev pub b : ℕ → ℕ → ItemOf Listed
b s n = shot (codes "b") 240 [] s n

abbrev pub c : ℕ → ℕ → ItemOf Listed
c s n = shot (codes "c") 240 [] s n

-- ---- a clip under a gap and another clip

abbrev pub low : List (ItemOf Listed)
low = a 0 100 ∷ []

abbrev pub high : List (ItemOf Listed)
high = gap 20 ∷ c 0 30 ∷ []

abbrev pub layers : List (ItemOf Listed)
layers = track low ∷ track high ∷ []

abbrev pub giver_a : Giver
giver_a = record { track = 0; child = 0; start = pos 0; item = a 0 100 }

abbrev pub giver_c : Giver
giver_c = record { track = 1; child = 1; start = frames 20; item = c 0 30 }

abbrev pub pieces : List Piece
pieces =
    record { from = frames 0; to = frames 20; of = Some giver_a }
    ∷ record { from = frames 20; to = frames 50; of = Some giver_c }
    ∷ record { from = frames 50; to = frames 100; of = Some giver_a } ∷ []

pub record AreFlatsWorked : Type 0 where
  pub stretches : AreLongest (giver 0 video layers) (longest video layers) (pos 0) pieces
  pub flat : piece_items rate_24 pieces ≡ Some (a 0 20 ∷ c 0 30 ∷ a 50 50 ∷ [])
  pub window : window_of rate_24 (frames 4) (frames 12)
      (stripped (a 0 10 ∷ b 0 10 ∷ []) (frames 4) (frames 12))
      ≡ Some (a 4 6 ∷ b 0 2 ∷ [])
  pub join : all_made rate_24
      (joined_children (frame (pos 24) (pos 1)) video 0 (track (a 0 10 ∷ []) ∷ [])
      ((track (b 0 5 ∷ []) ∷ []) ∷ []))
      ≡ Some (a 0 10 ∷ b 0 5 ∷ [])
  pub straight : without (a 0 10 ∷ dissolve 2 2 ∷ b 2 10 ∷ []) ≡ a 0 10 ∷ b 2 10 ∷ []
  pub refused : JoinBlocks true false (track (a 0 10 ∷ dissolve 2 8 ∷ b 0 3 ∷ []) ∷ [])
      (0 ∷ 1 ∷ []) C.Crossing
