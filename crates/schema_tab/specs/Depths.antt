-- How deep lists and objects stand in one another in a value.
use Rattle.std.specs.Prelude.{ℕ, suc, max, List, [], ◌∷◌, map}
use Rattle.json_value.specs.declared.Json.{Json, fold-Json}
use Rattle.json_value.specs.declared.Json.TheOpen.{Json-F}

-- the greatest of numbers, and 0 where there is none
abbrev pub deepest : List ℕ → ℕ
deepest [] = 0
deepest (n ∷ ns) = max n (deepest ns)

-- a value, where it is known of those right inside it how deep they are
abbrev pub depth_step : Json-F ℕ → ℕ
depth_step Json-F.Null = 0
depth_step (Json-F.Bool truth) = 0
depth_step (Json-F.Num numeral) = 0
depth_step (Json-F.Str text) = 0
depth_step (Json-F.List depths) = suc (deepest depths)
depth_step (Json-F.Map members) = suc (deepest (map (λ member. member.1) members))

-- how many lists and objects stand in one another at most
abbrev pub depth : Json → ℕ
depth = fold-Json ℕ depth_step

-- the same, of the members of a list and of an object
abbrev pub list_depth : List Json → ℕ
list_depth items = suc (deepest (map depth items))

abbrev pub members_depth : List (List ℕ × Json) → ℕ
members_depth members = suc (deepest (map (λ member. depth member.1) members))
