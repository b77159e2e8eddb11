-- What is wanted of media doesn't depend on the memory that a timeline keeps to spare.
use Rattle.std.proofs.Common.{◌≡◌, sym, subst, ℕ, ℤ, List, AllPairs}
use Rattle.std.specs.List.{Contains}
use Rattle.otio_model.specs.declared.timelines.Timeline.{Timeline}
use Rattle.otio_model.specs.Timelines.{bare}
use Rattle.coord.specs.Programs.{program}
use Rattle.pull_list.specs.Used.{ClipGroup, IsSeen, IsUsed}
use Rattle.pull_list.specs.Wanted.{IsAvailable, IsWanted, Used, Handle, clips_of}
use Rattle.pull_list.specs.Pulled.{IsPullList, Precedes, Stretch}
use Rattle.pull_list.specs.Record.{HasTooMany}

used_bare : (t u : Timeline) (g : ClipGroup) (v : ℤ) → bare t ≡ bare u → IsUsed t g v → IsUsed u g v
used_bare t u g v e is = record {
  child = is.child;
  at = is.at;
  seen = subst (λ (x : Timeline). IsSeen g v (program x is.child is.at)) e is.seen;
}

available_bare : (t u : Timeline) (g : ClipGroup) (v : ℤ) → bare t ≡ bare u → IsAvailable t g v
    → IsAvailable u g v
available_bare t u g v e is = record {
  clip = is.clip;
  among = subst (λ (x : Timeline). Contains (clips_of x) is.clip) e is.among;
  one = is.one;
  has = is.has;
}

wanted_bare : (t u : Timeline) (handles : ℕ) (g : ClipGroup) (v : ℤ) → bare t ≡ bare u
    → IsWanted t handles g v → IsWanted u handles g v
wanted_bare t u handles g v e (Used is) = Used (used_bare t u g v e is)
wanted_bare t u handles g v e (Handle w is near has) =
    Handle w (used_bare t u g w e is) near (available_bare t u g v e has)

pub pull_list_bare : (t u : Timeline) (handles : ℕ) (list : List Stretch) → bare t ≡ bare u
    → IsPullList t handles list → IsPullList u handles list
pull_list_bare t u handles list e is = record {
  all = λ g v w. is.all g v (wanted_bare u t handles g v (sym e) w);
  only = λ g v h. wanted_bare t u handles g v e (is.only g v h);
  some = is.some;
  ordered = subst (λ (x : Timeline). AllPairs (Precedes x) list) e is.ordered;
}

pub too_many_bare : (t u : Timeline) → bare t ≡ bare u → HasTooMany t → HasTooMany u
too_many_bare t u e many = subst (λ (x : Timeline). HasTooMany x) e many
