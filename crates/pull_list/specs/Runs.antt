-- Runs of numbers by groups, as sets; no public clause cites them.
use Rattle.std.specs.Prelude.{◌≡◌, ◌⊎◌, ◌↔◌, ◌<◌, ◌^◌, ℕ, ℤ, pos, ◌+ℤ◌, ◌-ℤ◌, ◌≤ℤ◌, ◌<ℤ◌, List, [], ◌∷◌, Option, Some, None}
use Rattle.pull_list.specs.declared.runs.Run.{Run}

-- the run has this number of the group
abbrev pub IsOfRun : Run → ℕ → ℤ → Type 0
IsOfRun r k v = (r.group ≡ k) × (r.first ≤ℤ v) × (v <ℤ r.past)

-- one of the runs has it
abbrev pub Has : List Run → ℕ → ℤ → Type 0
Has [] k v = ⊥
Has (r ∷ rs) k v = IsOfRun r k v ⊎ Has rs k v

-- each of the runs is so
abbrev pub Each : (Run → Type 0) → List Run → Type 0
Each P [] = Unit {0}
Each P (r ∷ rs) = P r × Each P rs

-- the run has a number
abbrev pub IsRun : Run → Type 0
IsRun r = r.first <ℤ r.past

-- its numbers lie no further than so far
abbrev pub IsWithin : ℕ → Run → Type 0
IsWithin n r = ((pos 0 -ℤ pos n) ≤ℤ r.first) × (r.past ≤ℤ pos n)

-- further than any frame that a sound timeline shows, and further than these and all handles
abbrev pub far : ℕ
far = 2 ^ 100

abbrev pub further : ℕ
further = 2 ^ 101

-- a run starts no later than another
abbrev pub StartsBy : Run → Run → Type 0
StartsBy a b = (a.group < b.group) ⊎ ((a.group ≡ b.group) × (a.first ≤ℤ b.first))

-- each run starts no later than those after it
abbrev pub AreSorted : List Run → Type 0
AreSorted [] = Unit {0}
AreSorted (r ∷ rs) = Each (StartsBy r) rs × AreSorted rs

-- a run ends before another begins, in one group with a number between them
abbrev pub Precedes : Run → Run → Type 0
Precedes a b = (a.group < b.group) ⊎ ((a.group ≡ b.group) × (a.past <ℤ b.first))

-- runs in order, none of which meet or touch
abbrev pub AreApart : List Run → Type 0
AreApart [] = Unit {0}
AreApart (r ∷ rs) = IsRun r × Each (Precedes r) rs × AreApart rs

-- the greater, and the lesser, of two numbers
abbrev pub IsGreater : ℤ → ℤ → ℤ → Type 0
IsGreater a b m = ((m ≡ a) × (b ≤ℤ a)) ⊎ ((m ≡ b) × (a ≤ℤ b))

abbrev pub IsLesser : ℤ → ℤ → ℤ → Type 0
IsLesser a b m = ((m ≡ a) × (a ≤ℤ b)) ⊎ ((m ≡ b) × (b ≤ℤ a))

-- a run ends before another, by groups and then by numbers
abbrev pub EndsBefore : Run → Run → Type 0
EndsBefore a b = (a.group < b.group) ⊎ ((a.group ≡ b.group) × (a.past <ℤ b.past))

-- the run, where there is one, has the number
abbrev pub HasOne : Option Run → ℕ → ℤ → Type 0
HasOne None k v = ⊥
HasOne (Some r) k v = IsOfRun r k v

-- the number is no further than so far from one that the runs have
pub record HasNear (rs : List Run) (most k : ℕ) (v : ℤ) : Type 0 where
  pub number : ℤ
  pub has : Has rs k number
  pub low : (number -ℤ v) ≤ℤ pos most
  pub high : (v -ℤ number) ≤ℤ pos most

-- the number of the group is one of the run's, or stands next to it
abbrev pub IsNext : Run → ℕ → ℤ → Type 0
IsNext r k v = (r.group ≡ k) × (r.first ≤ℤ (v +ℤ pos 1)) × (v ≤ℤ r.past)

-- the run with that number: it is one of its own, or it stands just before or after it
abbrev pub IsExtended : Run → ℤ → Run → Type 0
IsExtended r v new = (new.group ≡ r.group)
    × (((new.first ≡ v) × (new.past ≡ r.past) × (v <ℤ r.first))
    ⊎ (((new.first ≡ r.first) × (new.past ≡ (v +ℤ pos 1)) × (r.past ≤ℤ v) × (r.first ≤ℤ v))
    ⊎ ((new.first ≡ r.first) × (new.past ≡ r.past) × (r.first ≤ℤ v) × (v <ℤ r.past))))

-- the number of the group was taken in
pub record Adds (old new : List Run) (k : ℕ) (v : ℤ) : Type 0 where
  pub has : (j : ℕ) (w : ℤ) → Has new j w ↔ (Has old j w ⊎ ((j ≡ k) × (w ≡ v)))
  pub runs : Each IsRun old → Each IsRun new
  pub within : Each (IsWithin far) old → Each (IsWithin far) new

-- the run was added
pub record Puts (old new : List Run) (r : Run) : Type 0 where
  pub has : (k : ℕ) (v : ℤ) → Has new k v ↔ (Has old k v ⊎ IsOfRun r k v)
  pub runs : IsRun r → Each IsRun old → Each IsRun new
  pub within : (n : ℕ) → IsWithin n r → Each (IsWithin n) old → Each (IsWithin n) new
