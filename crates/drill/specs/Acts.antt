-- The clips and the edits that are drawn.
use Rattle.std.specs.Prelude.{ℕ, zero, suc, ◌+◌, ◌%◌, ◌==◌, ℤ, pos, ◌-ℤ◌, cond, List, [], ◌∷◌, ◌++◌, codes, decimal}
use Rattle.otio_model.specs.declared.edit_types.RemoveMode.TheVariants as R
use Rattle.edit_script.specs.declared.commands.Act.{Act}
use Rattle.edit_script.specs.declared.commands.Act.TheVariants as A
use Rattle.edit_script.specs.declared.commands.Put.{Put}
use Rattle.edit_script.specs.declared.commands.Put.TheVariants as P
use Rattle.drill.specs.Draws.{next, draw, after}

-- the reel of a number
abbrev pub reel : ℕ → List ℕ
reel k = codes "R" ++ decimal k

-- a clip of a name and a reel, so many frames long at least: its start is drawn, then how much
-- longer it is
abbrev pub clip : List ℕ → List ℕ → ℕ → ℕ → Put
clip name reel least x =
    P.Clip name reel (pos (1000 + draw 1000 x)) (pos (least + draw 48 (next x)))

-- the name of the clip of an index in the timeline that a drill begins with
abbrev pub name_at : ℕ → List ℕ
name_at i = codes "c" ++ decimal i

-- that clip
abbrev pub clip_at : ℕ → ℕ → Put
clip_at i x = clip (name_at i) (reel (i % 4)) 24 x

-- so many clips of that timeline from an index on
abbrev pub clips : ℕ → ℕ → ℕ → List Put
clips i zero x = []
clips i (suc n) x = clip_at i x ∷ clips (i + 1) n (after 2 x)

-- the clip that an edit puts in: its reel is drawn first
abbrev pub new_clip : ℕ → Put
new_clip x = clip (codes "n") (reel (draw 4 x)) 1 (next x)

-- by how many frames an edit moves something, ten at most either way
abbrev pub shift : ℕ → ℤ
shift x = pos (draw 21 x) -ℤ pos 10

-- the place of the one track
abbrev pub track : List ℕ
track = 0 ∷ []

-- an act that is drawn, and the generator's number after it
pub record Drawn : Type 0 where
  pub act : Act
  pub state : ℕ

-- a trim, a slip, a ripple or a roll at a frame of the track, by its kind
abbrev pub moving : ℕ → ℤ → ℕ → Drawn
moving kind at x =
    cond (kind == 5)
    (record { act = A.Trim track at (shift x) (shift (next x)); state = after 2 x })
    (cond (kind == 6) (record { act = A.Slip track at (shift x); state = after 1 x })
    (cond (kind == 7)
    (record { act = A.Ripple track at (shift x) (shift (next x)); state = after 2 x })
    (record { act = A.Roll track at (shift x) (shift (next x)); state = after 2 x })))

-- an act at a frame of the track, by its kind
abbrev pub act_of : ℕ → ℤ → ℕ → Drawn
act_of kind at x =
    cond (kind == 0) (record { act = A.Overwrite track at (new_clip x); state = after 3 x })
    (cond (kind == 1) (record { act = A.Insert track at (new_clip x); state = after 3 x })
    (cond (kind == 2) (record { act = A.Slice track at; state = x })
    (cond (kind == 3) (record { act = A.Remove track at R.Gap; state = x })
    (cond (kind == 4) (record { act = A.Remove track at R.Close; state = x }) (moving kind at x)))))

-- the act that is drawn where the track is so many frames long: its kind first, then where it is
-- made, then what the kind needs
abbrev pub act : ℕ → ℕ → Drawn
act frames x = act_of (draw 9 x) (pos (draw (frames + 10) (next x))) (after 2 x)
