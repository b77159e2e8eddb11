-- Where lists (CMX 3600) look for a reel in an item's metadata.
use Rattle.std.specs.Prelude.{ℕ, List, Option, None, codes, option_and_then}
use Rattle.sequences.specs.Pairs.{value_of}
use Rattle.json_value.specs.declared.Json.{Json, out-Json}
use Rattle.json_value.specs.declared.Json.TheOpen.{Json-F}

-- the value of a member of an object
abbrev pub member_in : List ℕ → Json-F Json → Option Json
member_in name Json-F.Null = None
member_in name (Json-F.Bool b) = None
member_in name (Json-F.Num n) = None
member_in name (Json-F.Str s) = None
member_in name (Json-F.List l) = None
member_in name (Json-F.Map m) = value_of name m

-- what stands in place of the reel
abbrev pub listed_reel : List (List ℕ × Json) → Option Json
listed_reel metadata = option_and_then (λ j. member_in (codes "reel") (out-Json j))
    (value_of (codes "cmx_3600") metadata)
