-- That calls gave what was known, call by call, and what that says of the files that were read.
use Rattle.std.proofs.Common.{◌≡◌, ◌<◌, ◌≤◌, ◌++◌, ◌∷◌, [], ℕ, zero, suc, List, Some, None, Ok, refl, sym, subst, ap, ◌∙◌, take, length, append_assoc, arith}
use Rattle.std.specs.declared.option.Option.{Option}
use Rattle.std.proofs.lemmas.List.{length-take-le}
use Rattle.dev_io.specs.Known.{KnownFiles}
use Rattle.dev_io.specs.Calls.{Tells, Opens, Reads, ReadsFrom, Closes, failed_read}
use Rattle.dev_io.specs.Handed.{Handed, Gave, Broke, opened_as}
use Rattle.dev_io.specs.declared.files.Opened.{Opened}
use Rattle.dev_io.specs.declared.files.Opened.TheVariants as opened
use Rattle.source_files.specs.HandedFiles.{HandsOver}
use Rattle.source_files.specs.Following.{GivesLeft, IsKnown, AreKnown, Follows, AreKnownAtLast, FollowsAtLast}
use Rattle.source_files.proofs.HandedLemmas.{hands_none}

-- ---- calls after others

none_known : (known : Option KnownFiles) → Tells (AreKnown []) known known
none_known None = tt
none_known (Some k) = refl

-- no call was made
pub follows_none : (known : Option KnownFiles) (handed : List Handed)
    → Follows known known handed handed
follows_none known handed =
    hands_none (λ calls. Tells (AreKnown calls) known known) handed (none_known known)

known_then : (a b : List Handed) (old mid new : KnownFiles) → AreKnown a old mid
    → AreKnown b mid new → AreKnown (a ++ b) old new
known_then [] b old mid new h k = subst (λ (s : KnownFiles). AreKnown b s new) h k
known_then (call ∷ a) b old mid new h k = (h.0, h.1, known_then a b h.0 mid new h.2 k)

tells_then : (a b : List Handed) (old mid new : Option KnownFiles) → Tells (AreKnown a) old mid
    → Tells (AreKnown b) mid new → Tells (AreKnown (a ++ b)) old new
tells_then a b None mid new h k = tt
tells_then a b (Some old) None new h k = absurd h
tells_then a b (Some old) (Some mid) None h k = absurd k
tells_then a b (Some old) (Some mid) (Some new) h k = known_then a b old mid new h k

-- further calls were made
pub follows_then : (k0 k1 k2 : Option KnownFiles) (h0 h1 h2 : List Handed) → Follows k0 k1 h0 h1
    → Follows k1 k2 h1 h2 → Follows k0 k2 h0 h2
follows_then k0 k1 k2 h0 h1 h2 p q = (
  p.0 ++ q.0,
  q.1 ∙ ap (λ (l : List Handed). l ++ q.0) p.1 ∙ append_assoc h0 p.0 q.0,
  tells_then p.0 q.0 k0 k1 k2 p.2 q.2,
)

-- ---- one call

one_tells : (call : Handed) (old new : Option KnownFiles) → Tells (IsKnown call) old new
    → Tells (AreKnown (call ∷ [])) old new
one_tells call None new h = tt
one_tells call (Some old) None h = absurd h
one_tells call (Some old) (Some new) h = (new, h, refl)

follows_one : (call : Handed) (k1 k2 : Option KnownFiles) (h1 h2 : List Handed)
    → Tells (IsKnown call) k1 k2 → h2 ≡ h1 ++ call ∷ [] → Follows k1 k2 h1 h2
follows_one call k1 k2 h1 h2 t e = (call ∷ [], e, one_tells call k1 k2 t)

open_known : (name : List ℕ) (result : Opened) (old new : Option KnownFiles)
    → Tells (Opens name result) old new → Tells (IsKnown (opened_as name result)) old new
open_known name result None new h = tt
open_known name result (Some old) None h = absurd h
open_known name opened.Found (Some old) (Some new) h = h
open_known name opened.Absent (Some old) (Some new) h = h
open_known name opened.Failed (Some old) (Some new) h = h

-- a file was opened
pub follows_open : (name : List ℕ) (result : Opened) (k1 k2 : Option KnownFiles)
    (h1 h2 : List Handed) → Tells (Opens name result) k1 k2
    → h2 ≡ h1 ++ opened_as name result ∷ [] → Follows k1 k2 h1 h2
follows_open name result k1 k2 h1 h2 t e =
    follows_one (opened_as name result) k1 k2 h1 h2 (open_known name result k1 k2 t) e

some_taken : (n : ℕ) (buf : List ℕ) → n ≤ length buf → 0 < n → 0 < length (take n buf)
some_taken n buf bound some = let same = length-take-le n buf bound in omega (arith, same, some)

left_known : (hand : Option (List ℕ × List ℕ)) (n : ℕ) (buf : List ℕ) (old new : KnownFiles)
    → n ≤ length buf → ReadsFrom hand n buf old new → GivesLeft hand (take n buf) old new
left_known None zero buf old new b h = (refl, h.1)
left_known None (suc n) buf old new b h = absurd (cc h.0)
left_known (Some hand) n buf old new b h =
    (h.0, h.1.bytes, λ some. some_taken n buf b (h.1.some some), h.2)

gave_known : (E : Type 0) (n : ℕ) (buf : List ℕ) (old new : Option KnownFiles)
    → n ≤ length buf → Tells (Reads {E = E} (Ok n) buf) old new
    → Tells (IsKnown (Gave (take n buf))) old new
gave_known E n buf None new b h = tt
gave_known E n buf (Some old) None b h = absurd h
gave_known E n buf (Some old) (Some new) b h = left_known old.hand n buf old new b h

-- one more read gave bytes, or none at the end
pub follows_gave : (E : Type 0) (n : ℕ) (buf : List ℕ) (k0 k1 k2 : Option KnownFiles)
    (h0 h1 h2 : List Handed) → Follows k0 k1 h0 h1 → n ≤ length buf
    → Tells (Reads {E = E} (Ok n) buf) k1 k2 → h2 ≡ h1 ++ Gave (take n buf) ∷ []
    → Follows k0 k2 h0 h2
follows_gave E n buf k0 k1 k2 h0 h1 h2 p b t e = follows_then k0 k1 k2 h0 h1 h2 p
    (follows_one (Gave (take n buf)) k1 k2 h1 h2 (gave_known E n buf k1 k2 b t) e)

broke_known : (old new : Option KnownFiles)
    → Tells (λ a b. b ≡ record a { last = failed_read a.hand }) old new
    → Tells (IsKnown Broke) old new
broke_known None new h = tt
broke_known (Some old) None h = absurd h
broke_known (Some old) (Some new) h = h

-- one more read failed
pub follows_broke : (k0 k1 k2 : Option KnownFiles) (h0 h1 h2 : List Handed)
    → Follows k0 k1 h0 h1 → Tells (λ a b. b ≡ record a { last = failed_read a.hand }) k1 k2
    → h2 ≡ h1 ++ Broke ∷ [] → Follows k0 k2 h0 h2
follows_broke k0 k1 k2 h0 h1 h2 p t e = follows_then k0 k1 k2 h0 h1 h2 p
    (follows_one Broke k1 k2 h1 h2 (broke_known k1 k2 t) e)

-- ---- the file in hand may be closed at last

at_last : (calls : List Handed) (old new : Option KnownFiles) → Tells (AreKnown calls) old new
    → Tells (AreKnownAtLast calls) old new
at_last calls None new h = tt
at_last calls (Some old) None h = absurd h
at_last calls (Some old) (Some new) h =
    record { end = new; known = h; held = refl; last = refl }

-- nothing was closed
pub follows_at_last : (k0 k1 : Option KnownFiles) (h0 h1 : List Handed) → Follows k0 k1 h0 h1
    → FollowsAtLast k0 k1 h0 h1
follows_at_last k0 k1 h0 h1 p = (p.0, p.1, at_last p.0 k0 k1 p.2)

-- no call was made
pub stays_at_last : (known : Option KnownFiles) (handed : List Handed)
    → FollowsAtLast known known handed handed
stays_at_last known handed =
    follows_at_last known known handed handed (follows_none known handed)

closed_last : (calls : List Handed) (old mid new : Option KnownFiles)
    → Tells (AreKnownAtLast calls) old mid → Tells Closes mid new
    → Tells (AreKnownAtLast calls) old new
closed_last calls None mid new h c = tt
closed_last calls (Some old) None new h c = absurd h
closed_last calls (Some old) (Some mid) None h c = absurd c
closed_last calls (Some old) (Some mid) (Some new) h c = record {
  end = h.end;
  known = h.known;
  held = ap (λ (k : KnownFiles). k.held) c ∙ h.held;
  last = ap (λ (k : KnownFiles). k.last) c ∙ h.last;
}

-- the file in hand was closed
pub follows_closed : (k0 k1 k2 : Option KnownFiles) (h0 h1 h2 : List Handed)
    → FollowsAtLast k0 k1 h0 h1 → Tells Closes k1 k2 → h2 ≡ h1 → FollowsAtLast k0 k2 h0 h2
follows_closed k0 k1 k2 h0 h1 h2 p c e = (p.0, e ∙ p.1, closed_last p.0 k0 k1 k2 p.2 c)
