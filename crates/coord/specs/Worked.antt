-- A dissolve, worked out frame by frame at 24 frames a second.
use Rattle.std.specs.Prelude.{◌≡◌, ℕ, ◌*◌, pos, List, [], ◌∷◌, None, Some, codes}
use Rattle.coord.specs.Looks.{Url, Show, Blank, Frame, Mix, FrameRate, Look, list_shows}
use Rattle.coord.specs.Speeds.{media_at}

-- so many frames, in ticks
abbrev pub frames : ℕ → ℕ
frames n = n * 29400000000000000

abbrev pub at_24 : FrameRate
at_24 = record { num = pos 24; den = pos 1 }

-- a frame of a file
abbrev pub frame_of : List ℕ → ℕ → Show
frame_of url m = Frame (Url url) (pos (frames m)) at_24

-- so many frames of a file, from one on
abbrev pub shot : List ℕ → ℕ → ℕ → Look
shot url start length = record {
  length = pos (frames length);
  shows = λ u. Frame (Url url) (media_at (pos (frames start)) (pos 1000000) u) at_24;
  overlap = None;
}

-- a dissolve that begins so many frames before its cut and ends so many behind it
abbrev pub dissolve : ℕ → ℕ → Look
dissolve before after = record {
  length = pos 0;
  shows = λ u. Blank;
  overlap = Some (record {
    kind = codes "SMPTE_Dissolve";
    before = pos (frames before);
    after =
        pos (frames after);
  });
}

-- 48 frames of a from 100 on, and of b from 200 on, with a dissolve from 10 frames before the cut
-- to 14 behind it
abbrev pub joined : List Look
joined = shot (codes "a") 100 48 ∷ dissolve 10 14 ∷ shot (codes "b") 200 48 ∷ []

-- the same with the cut where the dissolve begins
abbrev pub conformed : List Look
conformed = shot (codes "a") 100 38 ∷ dissolve 0 24 ∷ shot (codes "b") 190 58 ∷ []

-- so many parts of so many of one frame of b over one of a
abbrev pub mix_of : ℕ → ℕ → ℕ → ℕ → Show
mix_of a b num den = Mix (codes "SMPTE_Dissolve") (frame_of (codes "a") a) (frame_of (codes "b") b)
    (record { num = pos num; den = pos den })

-- what the two lists show at some frames
pub record IsDissolveWorked : Type 0 where
  pub before : list_shows joined (pos (frames 37)) ≡ frame_of (codes "a") 137
  pub begins : list_shows joined (pos (frames 38)) ≡ mix_of 138 190 0 1
  pub mixed : list_shows joined (pos (frames 43)) ≡ mix_of 143 195 5 24
  pub half : list_shows joined (pos (frames 50)) ≡ mix_of 150 202 1 2
  pub ends : list_shows joined (pos (frames 61)) ≡ mix_of 161 213 23 24
  pub behind : list_shows joined (pos (frames 62)) ≡ frame_of (codes "b") 214
  pub same : list_shows conformed (pos (frames 43)) ≡ mix_of 143 195 5 24
