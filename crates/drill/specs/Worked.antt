-- The first draws of seed 0, computed by hand.
use Rattle.std.specs.Prelude.{◌≡◌, ℕ, ◌+◌, ◌-◌, ◌*◌, ◌/◌, pos, ◌-ℤ◌, unsigned_abs, List, [], ◌∷◌}
use Rattle.edit_script.specs.declared.commands.Act.TheVariants as A
use Rattle.edit_script.specs.declared.commands.Put.{Put}
use Rattle.edit_script.specs.declared.commands.Put.TheVariants as P
use Rattle.drill.specs.Draws.{draw, after}
use Rattle.drill.specs.Acts.{act, clip_at, clips, name_at, reel, track}

-- how many frames an item is long
abbrev pub length_of : Put → ℕ
length_of (P.Gap length) = unsigned_abs length
length_of (P.Clip name reel start length) = unsigned_abs length

-- the numbers of the frames that it shows, added up
abbrev pub numbers_of : Put → ℕ
numbers_of (P.Gap length) = 0
numbers_of (P.Clip name reel start length) =
    unsigned_abs length * unsigned_abs start + unsigned_abs length * (unsigned_abs length - 1) / 2

abbrev pub added : (Put → ℕ) → List Put → ℕ
added f [] = 0
added f (put ∷ puts) = f put + added f puts

-- the first draw, the first clip, the forty clips, and the first edit after them
pub record IsDrawWorked : Type 0 where
  pub first : draw 1000 0 ≡ 807
  pub clip : clip_at 0 0 ≡ P.Clip (name_at 0) (reel 0) (pos 1807) (pos 48)
  pub frames : added length_of (clips 0 40 0) ≡ 1734
  pub numbers : added numbers_of (clips 0 40 0) ≡ 2527129
  pub edit : (act 1734 (after 80 0)).act ≡ A.Trim track (pos 1349) (pos 0 -ℤ pos 6) (pos 2)
