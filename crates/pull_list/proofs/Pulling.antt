-- From the frames that are used and those that are available to the pull list.
use Rattle.std.proofs.Common.{◌≡◌, refl, sym, ap, subst, ◌∙◌, ℕ, zero, suc, ◌<◌, ◌≤◌, ℤ, pos, ◌-ℤ◌, ◌≤ℤ◌, ◌<ℤ◌, ◌⊎◌, inl, inr, ◌↔◌, List, [], ◌∷◌, length, get_or, Some, slice_get, AllPairs, arith}
use Rattle.std.specs.List.{All}
use Rattle.std.proofs.lemmas.Int.{ints}
use Rattle.std.proofs.lemmas.List.Kept.{AllPairs-cons}
use Rattle.std.proofs.lemmas.Option.{get_or_from_slice_get, same_Some, slice_get_within}
use Rattle.otio_model.specs.declared.timelines.Timeline.{Timeline}
use Rattle.pull_list.specs.Found.{AddsUsed, AreGroups, IsHad, IsStock, IsUsedBy}
use Rattle.pull_list.specs.Labels.{HasNumber}
use Rattle.pull_list.specs.Pulled.{HasFrameOf, IsIn, IsPullList, Precedes, StandsFirst, Stretch}
use Rattle.pull_list.specs.Runs.{AreApart, Each, Has, HasNear, IsWithin, far}
use Rattle.pull_list.specs.Runs.{Precedes as RunsBefore}
use Rattle.pull_list.specs.Stretches.{AreStretches, IsKnown, IsStretchOf}
use Rattle.pull_list.specs.Used.{ClipGroup, IsUsed}
use Rattle.pull_list.specs.Wanted.{IsAvailable, IsWanted, Handle, Used, clips_of}
use Rattle.pull_list.specs.declared.runs.Run.{Run}

-- ---- one number

has_within : (rs : List Run) (n k : ℕ) (v : ℤ) → Each (IsWithin n) rs → Has rs k v
    → ((pos 0 -ℤ pos n) ≤ℤ v) × (v <ℤ pos n)
has_within [] n k v w h = absurd h
has_within (r ∷ rs) n k v w (inl h) =
    let a = w.0.0 in let b = w.0.1 in let c = h.1 in let d = h.2 in
    (omega (arith, ints, a, c), omega (arith, ints, b, d))
has_within (r ∷ rs) n k v w (inr h) = has_within rs n k v w.1 h

-- what is known once all is found
pub record IsFound (t : Timeline) (h : ℕ) (groups : List ClipGroup) (used available all : List Run)
    : Type 0 where
  pub few : h ≤ 10000
  pub stock : IsStock (clips_of t) groups available
  pub adds : AddsUsed groups t [] used
  pub wanted : (k : ℕ) (v : ℤ)
      → Has all k v ↔ (Has used k v ⊎ (HasNear used h k v × Has available k v))
  pub apart : AreApart all

used_of : (t : Timeline) (h : ℕ) (groups : List ClipGroup) (used available all : List Run)
    → IsFound t h groups used available all → (k : ℕ) (v : ℤ) (g : ClipGroup) → slice_get groups k ≡ Some g
    → Has used k v → IsUsed t g v
used_of t h groups used available all f k v g at has = by ((f.adds.has k v).0 has)
  where
    by : ⊥ ⊎ IsUsedBy groups t k v → IsUsed t g v
    by (inl x) = absurd x
    by (inr x) = subst (λ y. IsUsed t y v) (same_Some x.group g (sym x.at ∙ at)) x.used

of_used : (t : Timeline) (h : ℕ) (groups : List ClipGroup) (used available all : List Run)
    → IsFound t h groups used available all → (k : ℕ) (v : ℤ) (g : ClipGroup) → slice_get groups k ≡ Some g
    → IsUsed t g v → Has used k v
of_used t h groups used available all f k v g at u =
    (f.adds.has k v).1 (inr (record { group = g; at = at; used = u }))

had_is : (t : Timeline) (groups : List ClipGroup) (k : ℕ) (v : ℤ) (g : ClipGroup) → slice_get groups k ≡ Some g
    → IsHad (clips_of t) groups k v → IsAvailable t g v
had_is t groups k v g at had = subst (λ y. IsAvailable t y v) (same_Some had.group g (sym had.at ∙ at))
    (record { clip = had.clip; among = had.among; one = had.is; has = had.has })

is_had : (t : Timeline) (groups : List ClipGroup) (k : ℕ) (v : ℤ) (g : ClipGroup) → slice_get groups k ≡ Some g
    → IsAvailable t g v → IsHad (clips_of t) groups k v
is_had t groups k v g at a =
    record { group = g; at = at; clip = a.clip; among = a.among; is = a.one; has = a.has }

pub has_wanted : (t : Timeline) (h : ℕ) (groups : List ClipGroup) (used available all : List Run)
    → IsFound t h groups used available all → (k : ℕ) (v : ℤ) (g : ClipGroup) → slice_get groups k ≡ Some g
    → Has all k v → IsWanted t h g v
has_wanted t h groups used available all f k v g at has = by ((f.wanted k v).0 has)
  where
    by : Has used k v ⊎ (HasNear used h k v × Has available k v) → IsWanted t h g v
    by (inl x) = Used (used_of t h groups used available all f k v g at x)
    by (inr x) = Handle x.0.number
        (used_of t h groups used available all f k x.0.number g at x.0.has) (x.0.low, x.0.high)
        (had_is t groups k v g at (f.stock.available.only k v x.1))

pub wanted_has : (t : Timeline) (h : ℕ) (groups : List ClipGroup) (used available all : List Run)
    → IsFound t h groups used available all → (k : ℕ) (v : ℤ) (g : ClipGroup) → slice_get groups k ≡ Some g
    → IsWanted t h g v → Has all k v
wanted_has t h groups used available all f k v g at (Used u) =
    (f.wanted k v).1 (inl (of_used t h groups used available all f k v g at u))
wanted_has t h groups used available all f k v g at (Handle w u near a) =
    let x = of_used t h groups used available all f k w g at u in
    let in_far = has_within used far k w (f.adds.within tt) x in
    let low = in_far.0 in let high = in_far.1 in let p = near.0 in let q = near.1 in let few = f.few in
    (f.wanted k v).1 (inr (
      record { number = w; has = x; low = p; high = q },
      f.stock.available.all k v (omega (arith, ints, low, p, few)) (omega (arith, ints, high, q, few))
          (is_had t groups k v g at a),
    ))

-- a group of which a frame is wanted has a number
has_number : (t : Timeline) (h : ℕ) (groups : List ClipGroup) (used available all : List Run)
    → IsFound t h groups used available all → (g : ClipGroup) (v : ℤ) → IsWanted t h g v
    → HasNumber groups g
has_number t h groups used available all f g v (Used u) =
    f.stock.are_groups.all g (f.adds.among g v u)
has_number t h groups used available all f g v (Handle w u near a) =
    f.stock.are_groups.all g (f.adds.among g w u)

-- each group of what is wanted has a number
known_group : (t : Timeline) (h : ℕ) (groups : List ClipGroup) (used available all : List Run)
    → IsFound t h groups used available all → (k : ℕ) (v : ℤ) → Has all k v → k < length groups
known_group t h groups used available all f k v has = by ((f.wanted k v).0 has)
  where
    first : ⊥ ⊎ IsUsedBy groups t k v → k < length groups
    first (inl x) = absurd x
    first (inr x) = slice_get_within groups k x.group x.at

    by : Has used k v ⊎ (HasNear used h k v × Has available k v) → k < length groups
    by (inl x) = first ((f.adds.has k v).0 x)
    by (inr x) = let had = f.stock.available.only k v x.1 in
        slice_get_within groups k had.group had.at

known_each : (groups : List ClipGroup) (rs : List Run) → AreApart rs
    → ((k : ℕ) (v : ℤ) → Has rs k v → k < length groups) → Each (IsKnown groups) rs
known_each groups [] apart f = tt
known_each groups (r ∷ rs) apart f = (
  f r.group r.first (inl (refl, omega (arith, ints), apart.0)),
  known_each groups rs apart.2 (λ k v h. f k v (inr h)),
)

pub all_known : (t : Timeline) (h : ℕ) (groups : List ClipGroup) (used available all : List Run)
    → IsFound t h groups used available all → Each (IsKnown groups) all
all_known t h groups used available all f =
    known_each groups all f.apart (known_group t h groups used available all f)

-- ---- stretches

stretch_has : (groups : List ClipGroup) (rs : List Run) (ss : List Stretch) → AreStretches groups rs ss
    → (i : ℕ) (s : Stretch) (v : ℤ) → i < length ss → get_or ss i s ≡ s → IsIn s v
    → (k : ℕ) × (slice_get groups k ≡ Some s.group) × Has rs k v
stretch_has groups [] [] are i s v lt e is = absurd (omega (arith, lt))
stretch_has groups [] (x ∷ ss) are i s v lt e is = absurd are
stretch_has groups (r ∷ rs) [] are i s v lt e is = absurd are
stretch_has groups (r ∷ rs) (x ∷ ss) are zero s v lt e is =
    let at = subst (IsStretchOf groups r) e are.0 in
    let a = at.first in let b = at.count in let c = is.0 in let d = is.1 in
    (r.group, at.at, inl (refl, omega (arith, ints, a, c), omega (arith, ints, a, b, d)))
stretch_has groups (r ∷ rs) (x ∷ ss) are (suc i) s v lt e is =
    let more = stretch_has groups rs ss are.1 i s v (omega (arith, lt)) e is in
    (more.0, more.1, inr more.2)

has_stretch : (groups : List ClipGroup) (rs : List Run) (ss : List Stretch) → AreStretches groups rs ss
    → (k : ℕ) (g : ClipGroup) (v : ℤ) → slice_get groups k ≡ Some g → Has rs k v → HasFrameOf ss g v
has_stretch groups [] ss are k g v at h = absurd h
has_stretch groups (r ∷ rs) [] are k g v at h = absurd are
has_stretch groups (r ∷ rs) (s ∷ ss) are k g v at (inl h) =
    let a = are.0.first in let b = are.0.count in let c = h.1 in let d = h.2 in record {
      stretch = s;
      among = (0, omega arith, refl);
      group = same_Some s.group g (sym are.0.at ∙ ap (slice_get groups) h.0 ∙ at);
      number = (omega (arith, ints, a, c), omega (arith, ints, a, b, d));
    }
has_stretch groups (r ∷ rs) (s ∷ ss) are k g v at (inr h) =
    let more = has_stretch groups rs ss are.1 k g v at h in record {
      stretch = more.stretch;
      among = (suc more.among.0, omega (arith, more.among.1), more.among.2);
      group = more.group;
      number = more.number;
    }

all_some : (groups : List ClipGroup) (rs : List Run) (ss : List Stretch) → AreStretches groups rs ss
    → AreApart rs → All (λ s. pos 0 <ℤ s.count) ss
all_some groups [] [] are apart = λ k d lt. absurd (omega (arith, lt))
all_some groups [] (s ∷ ss) are apart = absurd are
all_some groups (r ∷ rs) [] are apart = absurd are
all_some groups (r ∷ rs) (s ∷ ss) are apart = by (all_some groups rs ss are.1 apart.2)
  where
    by : All (λ s. pos 0 <ℤ s.count) ss → All (λ s. pos 0 <ℤ s.count) (s ∷ ss)
    by more zero d lt = let a = are.0.count in let b = apart.0 in omega (arith, ints, a, b)
    by more (suc k) d lt = more k d (omega (arith, lt))

-- ---- order

groups_stand : (t : Timeline) (groups : List ClipGroup) → AreGroups (clips_of t) groups → (i j : ℕ)
    (g h : ClipGroup) → i < j → slice_get groups i ≡ Some g → slice_get groups j ≡ Some h
    → StandsFirst (clips_of t) g h
groups_stand t groups are i j g h lt e f =
    subst (λ x. StandsFirst (clips_of t) x h) (get_or_from_slice_get groups i g g e)
    (subst (λ x. StandsFirst (clips_of t) (get_or groups i g) x) (get_or_from_slice_get groups j h g f)
    (are.ordered i j g lt (slice_get_within groups j h f)))

stretches_stand : (t : Timeline) (groups : List ClipGroup) → AreGroups (clips_of t) groups → (p q : Run)
    (a b : Stretch) → IsStretchOf groups p a → IsStretchOf groups q b → RunsBefore p q → Precedes t a b
stretches_stand t groups are p q a b x y (inl lt) =
    inr (groups_stand t groups are p.group q.group a.group b.group lt x.at y.at)
stretches_stand t groups are p q a b x y (inr same) =
    let c = x.first in let d = x.count in let e = y.first in let f = same.1 in
    inl (
      same_Some a.group b.group (sym x.at ∙ ap (slice_get groups) same.0 ∙ y.at),
      omega (arith, ints, c, d, e, f),
    )

all_after : (t : Timeline) (groups : List ClipGroup) → AreGroups (clips_of t) groups → (p : Run)
    (a : Stretch) → IsStretchOf groups p a → (rs : List Run) (ss : List Stretch)
    → AreStretches groups rs ss → Each (RunsBefore p) rs → All (Precedes t a) ss
all_after t groups are p a x [] [] y e = λ k d lt. absurd (omega (arith, lt))
all_after t groups are p a x [] (s ∷ ss) y e = absurd y
all_after t groups are p a x (r ∷ rs) [] y e = absurd y
all_after t groups are p a x (r ∷ rs) (s ∷ ss) y e =
    by (all_after t groups are p a x rs ss y.1 e.1)
  where
    by : All (Precedes t a) ss → All (Precedes t a) (s ∷ ss)
    by more zero d lt = stretches_stand t groups are p r a s x y.0 e.0
    by more (suc k) d lt = more k d (omega (arith, lt))

ordered : (t : Timeline) (groups : List ClipGroup) → AreGroups (clips_of t) groups → (rs : List Run)
    (ss : List Stretch) → AreStretches groups rs ss → AreApart rs → AllPairs (Precedes t) ss
ordered t groups are [] [] y apart = λ i j d lt m. absurd (omega (arith, m))
ordered t groups are [] (s ∷ ss) y apart = absurd y
ordered t groups are (r ∷ rs) [] y apart = absurd y
ordered t groups are (r ∷ rs) (s ∷ ss) y apart =
    AllPairs-cons (Precedes t) s ss (all_after t groups are r s y.0 rs ss y.1 apart.1)
    (ordered t groups are rs ss y.1 apart.2)

-- ---- the pull list

pub is_pull_list : (t : Timeline) (h : ℕ) (groups : List ClipGroup) (used available all : List Run)
    (ss : List Stretch) → IsFound t h groups used available all → AreStretches groups all ss
    → IsPullList t h ss
is_pull_list t h groups used available all ss f are = record {
  all = λ g v w.
      let n = has_number t h groups used available all f g v w in
      has_stretch groups all ss are n.0 g v n.1
      (wanted_has t h groups used available all f n.0 v g n.1 w);
  only = λ g v x.
      let y = stretch_has groups all ss are x.among.0 x.stretch v x.among.1 x.among.2 x.number in
      subst (λ z. IsWanted t h z v) x.group
      (has_wanted t h groups used available all f y.0 v x.stretch.group y.1 y.2);
  some = all_some groups all ss are f.apart;
  ordered = ordered t groups f.stock.are_groups all ss are f.apart;
}

-- what is known once all is found, as the code has found it
pub found_by : (t : Timeline) (h : ℕ) (stocked started ended groups : List ClipGroup)
    (start mid used available all : List Run) → h ≤ 10000 → IsStock (clips_of t) stocked available
    → started ≡ stocked → start ≡ [] → AddsUsed started t start mid → ended ≡ started
    → groups ≡ ended → used ≡ mid
    → ((k : ℕ) (v : ℤ) → Has all k v ↔ (Has used k v ⊎ (HasNear used h k v × Has available k v)))
    → AreApart all → IsFound t h groups used available all
found_by t h stocked started ended groups start mid used available all few stock e1 e2 adds e3 e4 e5
    wanted apart =
    let same : started ≡ groups = sym (e4 ∙ e3) in record {
      few = few;
      stock = subst (λ g. IsStock (clips_of t) g available) (sym e1 ∙ same) stock;
      adds = subst (λ r. AddsUsed groups t [] r) (sym e5)
          (subst (λ r. AddsUsed groups t r mid) e2 (subst (λ g. AddsUsed g t start mid) same adds));
      wanted = wanted;
      apart = apart;
    }
