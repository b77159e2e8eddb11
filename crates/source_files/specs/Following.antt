-- What the calls of a device of files gave, where its content is known: it is what was known.
use Rattle.std.specs.Prelude.{◌≡◌, ◌<◌, ◌++◌, ◌∷◌, [], ℕ, List, Some, None, length}
use Rattle.std.specs.declared.option.Option.{Option}
use Rattle.dev_io.specs.Known.{KnownFiles}
use Rattle.dev_io.specs.Calls.{Tells, Opens, failed_read}
use Rattle.dev_io.specs.Handed.{Handed, Found, Missing, Unopened, Gave, Broke}
use Rattle.dev_io.specs.declared.files.Opened.TheVariants as opened
use Rattle.source_files.specs.HandedFiles.{HandsOver}

-- a read gave the next bytes of what is left of the file in hand, at least one while any are left,
-- and none where no file is in hand
abbrev pub GivesLeft : Option (List ℕ × List ℕ) → List ℕ → KnownFiles → KnownFiles → Type 0
GivesLeft None piece old new = (piece ≡ []) × (new ≡ old)
GivesLeft (Some hand) piece old new = (rest : List ℕ) × (hand.1 ≡ piece ++ rest)
    × (0 < length hand.1 → 0 < length piece) × (new ≡ record old { hand = Some (hand.0, rest) })

-- one call gave what was known
abbrev pub IsKnown : Handed → KnownFiles → KnownFiles → Type 0
IsKnown (Found name) old new = Opens name opened.Found old new
IsKnown (Missing name) old new = Opens name opened.Absent old new
IsKnown (Unopened name) old new = Opens name opened.Failed old new
IsKnown (Gave piece) old new = GivesLeft old.hand piece old new
IsKnown Broke old new = new ≡ record old { last = failed_read old.hand }

-- so did several, one after another
abbrev pub AreKnown : List Handed → KnownFiles → KnownFiles → Type 0
AreKnown [] old new = new ≡ old
AreKnown (call ∷ calls) old new =
    (mid : KnownFiles) × IsKnown call old mid × AreKnown calls mid new

-- The calls in between gave what was known. Where nothing is known, nothing is owed.
abbrev pub Follows : Option KnownFiles → Option KnownFiles → List Handed → List Handed → Type 0
Follows known known' old new = HandsOver (λ calls. Tells (AreKnown calls) known known') old new

-- the calls gave what was known, and the last file may have been closed since
pub record AreKnownAtLast (calls : List Handed) (old new : KnownFiles) : Type 0 where
  pub end : KnownFiles
  pub known : AreKnown calls old end
  pub held : new.held ≡ end.held
  pub last : new.last ≡ end.last

-- the same of the calls in between
abbrev pub FollowsAtLast : Option KnownFiles → Option KnownFiles → List Handed → List Handed
    → Type 0
FollowsAtLast known known' old new =
    HandsOver (λ calls. Tells (AreKnownAtLast calls) known known') old new
