-- Groups as they are looked up; no public clause cites these words.
use Rattle.std.specs.Prelude.{◌≡◌, ℕ, ℤ, List, [], MatchOption, Some, slice_get}
use Rattle.std.specs.BTreeMap.{BTreeMap, get_by}
use Rattle.std.specs.Cmp.Lexicographic.{slice_cmp}
use Rattle.std.specs.Ordering.{int_cmp, nat_cmp, ordering_then}
use Rattle.std.specs.declared.cmp.Ordering.{Ordering}
use Rattle.coord.specs.Looks.{Key, Url, Sequence, Generator, Reel, Name}
use Rattle.pull_list.specs.Used.{ClipGroup}
use denote.Ref.{Bor}

-- the sort of a key, and its texts
abbrev pub sort_of : Key → ℕ
sort_of (Url url) = 0
sort_of (Sequence base prefix suffix) = 1
sort_of (Generator kind) = 2
sort_of (Reel reel) = 3
sort_of (Name name) = 4

abbrev pub text_of : Key → List ℕ
text_of (Url url) = url
text_of (Sequence base prefix suffix) = base
text_of (Generator kind) = kind
text_of (Reel reel) = reel
text_of (Name name) = name

abbrev pub second_of : Key → List ℕ
second_of (Url url) = []
second_of (Sequence base prefix suffix) = prefix
second_of (Generator kind) = []
second_of (Reel reel) = []
second_of (Name name) = []

abbrev pub third_of : Key → List ℕ
third_of (Url url) = []
third_of (Sequence base prefix suffix) = suffix
third_of (Generator kind) = []
third_of (Reel reel) = []
third_of (Name name) = []

-- what groups are looked up by
abbrev pub Label : Type 0
Label = ℕ × Bor (List ℕ) × Bor (List ℕ) × Bor (List ℕ) × ℤ × ℤ

-- the label has the group's key and rate
pub record IsLabel (g : ClipGroup) (l : Label) : Type 0 where
  pub sort : l.0 ≡ sort_of g.key
  pub text : l.1.now ≡ text_of g.key
  pub second : l.2.now ≡ second_of g.key
  pub third : l.3.now ≡ third_of g.key
  pub num : l.4 ≡ g.rate.num
  pub den : l.5 ≡ g.rate.den

-- where a group stands to a label, in the order of labels
abbrev pub label_cmp : ClipGroup → Label → Ordering
label_cmp g l = ordering_then (ordering_then (ordering_then (ordering_then (ordering_then
    (nat_cmp (sort_of g.key) l.0) (slice_cmp nat_cmp (text_of g.key) l.1.now))
    (slice_cmp nat_cmp (second_of g.key) l.2.now)) (slice_cmp nat_cmp (third_of g.key) l.3.now))
    (int_cmp g.rate.num l.4)) (int_cmp g.rate.den l.5)

-- the group has a number
abbrev pub HasNumber : List ClipGroup → ClipGroup → Type 0
HasNumber groups g = (k : ℕ) × (slice_get groups k ≡ Some g)

-- this is its number, and no other is
pub record IsNumber (groups : List ClipGroup) (g : ClipGroup) (n : ℕ) : Type 0 where
  pub at : slice_get groups n ≡ Some g
  pub only : (k : ℕ) → slice_get groups k ≡ Some g → k ≡ n

-- the map has the number of each group, and no two groups are the same
pub record AreNumbered (numbers : BTreeMap Label ℕ) (groups : List ClipGroup) : Type 0 where
  pub found : (g : ClipGroup) → MatchOption (get_by (label_cmp g) numbers) (HasNumber groups g → ⊥)
      (λ number. slice_get groups number ≡ Some g)
  pub apart : (g : ClipGroup) (j k : ℕ) → slice_get groups j ≡ Some g → slice_get groups k ≡ Some g
      → j ≡ k
