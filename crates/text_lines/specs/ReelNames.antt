-- The names of reels.
use Rattle.std.specs.Prelude.{◌≢◌, ◌≤◌, ◌&&◌, ℕ, Bool, nat_le, not, List, All, bytes_eq, codes, length}
use Rattle.std.specs.List.{list_all}
use Rattle.text_lines.specs.declared.reel.TheConstants.{MOST_REEL_BYTES}

-- how many bytes the name of a reel has at most
abbrev pub most_reel_bytes : ℕ
most_reel_bytes = MOST_REEL_BYTES

-- the name of a reel: one byte or more, at most as many as a reel has, each from `!` to `~`, and
-- not the two letters of black
pub record IsReelName (name : List ℕ) : Type 0 where
  pub some : 1 ≤ length name
  pub short : length name ≤ most_reel_bytes
  pub prints : All (λ b. (33 ≤ b) × (b ≤ 126)) name
  pub not_black : name ≢ codes "BL"

-- whether the bytes are such a name
abbrev pub is_reel_name : List ℕ → Bool
is_reel_name name = nat_le 1 (length name)
    && (nat_le (length name) most_reel_bytes
    && (list_all (λ b. nat_le 33 b && nat_le b 126) name && not (bytes_eq name (codes "BL"))))
