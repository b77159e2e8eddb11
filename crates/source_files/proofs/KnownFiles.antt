-- What the calls of a device gave is what its files hold, where that is known.
use Rattle.std.proofs.Common.{◌≡◌, ◌<◌, ◌++◌, ◌∷◌, [], ℕ, List, Some, None, Ok, Err, refl, sym, subst, ap, ◌∙◌, map, length, append-nil, append_assoc, inl, inr, arith}
use Rattle.std.specs.declared.option.Option.{Option}
use Rattle.std.specs.List.{concat}
use Rattle.dev_io.specs.Known.{KnownFiles, LastFailure, ReadOf}
use Rattle.dev_io.specs.Calls.{failed_open, failed_read}
use Rattle.dev_io.specs.Handed.{Handed, Found, Gave, Broke}
use Rattle.source_files.specs.Following.{GivesLeft, AreKnown, AreKnownAtLast}
use Rattle.source_files.specs.Formats.{Holds, Refuses, IsCalm}
use Rattle.source_files.specs.HandedFiles.{Took, TookThen, GivesHand, GivesAs, GivesFile, Gone, Shut, Opened, GivesAll, GivesStop}
use Rattle.source_files.specs.Order.{EachIs, FirstIsNot}
use Rattle.source_files.specs.Reading.{Held, Source, IsRead, AreRead, IsFailureOf, IsRefusedIn, IsUnread, IsStopped}
use Rattle.source_files.specs.Contents.{Content}
use Rattle.source_files.specs.declared.read_faults.ReadFault.{ReadFault}
use Rattle.source_files.specs.declared.read_faults.ReadFault.TheVariants.{Absent, Failed, Refused}
use Rattle.source_files.proofs.HandedLemmas.{refused_by}

-- ---- calls in two parts

pub known_split : (a b : List Handed) (old new : KnownFiles) → AreKnown (a ++ b) old new
    → (mid : KnownFiles) × AreKnown a old mid × AreKnown b mid new
known_split [] b old new h = (old, refl, h)
known_split (call ∷ a) b old new h =
    let more = known_split a b h.0 new h.2 in (more.0, (h.0, h.1, more.1), more.2)

-- ---- the file in hand

-- the pieces are the front of what was left
left_after : (pieces : List (List ℕ)) (name left : List ℕ) (old new : KnownFiles)
    → old.hand ≡ Some (name, left) → AreKnown (map Gave pieces) old new
    → (rest : List ℕ) × (left ≡ concat pieces ++ rest)
    × (new ≡ record old { hand = Some (name, rest) })
left_after [] name left old new h k =
    (left, refl, k ∙ ap (λ (o : Option (List ℕ × List ℕ)). record old { hand = o }) h)
left_after (piece ∷ pieces) name left old new h k =
    let s = subst (λ (o : Option (List ℕ × List ℕ)). GivesLeft o piece old k.0) h k.1 in
    let hand = ap (λ (f : KnownFiles). f.hand) s.3 in
    let more = left_after pieces name s.0 k.0 new hand k.2 in (
      more.0,
      s.1 ∙ ap (λ (l : List ℕ). piece ++ l) more.1
          ∙ sym (append_assoc piece (concat pieces) more.0),
      more.2 ∙ ap (λ (f : KnownFiles). record f { hand = Some (name, more.0) }) s.3,
    )

taken_known : (Calm : List ℕ → Type 0) (bytes : List ℕ) (calls : List Handed)
    (name left : List ℕ) (old new : KnownFiles) → old.hand ≡ Some (name, left)
    → Took Calm bytes calls → AreKnown calls old new
    → (rest : List ℕ) × (left ≡ bytes ++ rest) × (new ≡ record old { hand = Some (name, rest) })
taken_known Calm bytes calls name left old new h t k =
    let a = left_after t.pieces name left old new h
    (subst (λ (l : List Handed). AreKnown l old new) t.are k) in
    (a.0, a.1 ∙ ap (λ (l : List ℕ). l ++ a.0) (sym t.whole), a.2)

rest_none : (rest : List ℕ) → (0 < length rest → 0 < 0) → rest ≡ []
rest_none [] h = refl
rest_none (b ∷ bs) h = let k : 0 < 0 = h (omega arith) in absurd (omega (arith, k))

-- nothing was left where a read gave nothing
ended_known : (Calm : List ℕ → Type 0) (bytes : List ℕ) (calls : List Handed)
    (name left : List ℕ) (old new : KnownFiles) → old.hand ≡ Some (name, left)
    → TookThen Calm (Gave []) bytes calls → AreKnown calls old new
    → (left ≡ bytes) × (new.held ≡ old.held)
ended_known Calm bytes calls name left old new h t k =
    let parts = known_split t.front (Gave [] ∷ []) old new
    (subst (λ (l : List Handed). AreKnown l old new) t.are k) in
    let a = taken_known Calm bytes t.front name left old parts.0 h t.took parts.1 in
    let hand = ap (λ (f : KnownFiles). f.hand) a.2 in
    let s = subst (λ (o : Option (List ℕ × List ℕ)). GivesLeft o [] parts.0 parts.2.0) hand
    parts.2.1 in
    let none = rest_none a.0 s.2 in (
      a.1 ∙ ap (λ (l : List ℕ). bytes ++ l) none ∙ append-nil bytes,
      ap (λ (f : KnownFiles). f.held) parts.2.2 ∙ ap (λ (f : KnownFiles). f.held) s.3
          ∙ ap (λ (f : KnownFiles). f.held) a.2,
    )

-- a read that failed left the rest
broken_known : (Calm : List ℕ → Type 0) (bytes : List ℕ) (calls : List Handed)
    (name left : List ℕ) (old new : KnownFiles) → old.hand ≡ Some (name, left)
    → TookThen Calm Broke bytes calls → AreKnown calls old new
    → (rest : List ℕ) × (left ≡ bytes ++ rest) × (new.last ≡ ReadOf name rest)
    × (new.held ≡ old.held)
broken_known Calm bytes calls name left old new h t k =
    let parts = known_split t.front (Broke ∷ []) old new
    (subst (λ (l : List Handed). AreKnown l old new) t.are k) in
    let a = taken_known Calm bytes t.front name left old parts.0 h t.took parts.1 in
    let e = parts.2.2 ∙ parts.2.1 in (
      a.0,
      a.1,
      ap (λ (f : KnownFiles). f.last) e
          ∙ ap (λ (f : KnownFiles). failed_read f.hand) a.2,
      ap (λ (f : KnownFiles). f.held) e ∙ ap (λ (f : KnownFiles). f.held) a.2,
    )

-- ---- one file

-- what was read of a file is what it holds
file_read : (source : Source) (content : Content) (calls : List Handed) (old new : KnownFiles)
    → GivesFile source (Ok content) calls → AreKnown calls old new
    → IsRead old.held source content × (new.held ≡ old.held)
file_read source content calls old new (Gone r e) k = absurd (cc r)
file_read source content calls old new (Shut r e) k = absurd (cc r)
file_read source content calls old new (Opened more e h) k =
    let f = subst (λ (l : List Handed). AreKnown l old new) e k in
    let hand = ap (λ (s : KnownFiles). s.hand) f.1.2 in
    let a = ended_known (IsCalm source.kind) h.0 more source.name f.1.0 f.0 new hand h.1 f.2 in (
      record {
        bytes = f.1.0;
        there = f.1.1;
        holds = subst (λ (b : List ℕ). Holds source.kind b content) (sym a.0) h.2;
      },
      a.1 ∙ ap (λ (s : KnownFiles). s.held) f.1.2,
    )

failure : (source : Source) (held : Option (List ℕ))
    → IsFailureOf source held (failed_open source.name held)
failure source None = refl
failure source (Some bytes) = refl

-- why the file in hand wasn't read is so of what it holds
hand_unread : (source : Source) (fault : ReadFault) (calls : List Handed) (left : List ℕ)
    (held : Held) (old new : KnownFiles) → held source.name ≡ Some left
    → old.hand ≡ Some (source.name, left) → GivesAs source.kind (Err fault) calls
    → AreKnown calls old new → IsUnread held new.last source fault × (new.held ≡ old.held)
hand_unread source Absent calls left held old new there hand h k = absurd h
hand_unread source Failed calls left held old new there hand h k =
    let a = broken_known (IsCalm source.kind) h.0 calls source.name left old new hand h.1 k in (
      subst (IsFailureOf source (held source.name)) (sym a.2)
          (refl, (h.0, there ∙ ap Some a.1, h.1.calm)),
      a.3,
    )
hand_unread source (Refused refusal) calls left held old new there hand (bytes, inl h) k =
    let a = ended_known (IsCalm source.kind) bytes calls source.name left old new hand h.0 k in (
      refused_by (Refuses source.kind bytes) (IsRefusedIn held source) refusal
          (λ why w. (bytes, there ∙ ap Some a.0, w)) h.1,
      a.1,
    )
hand_unread source (Refused refusal) calls left held old new there hand (bytes, inr h) k =
    let a = taken_known (IsCalm source.kind) bytes calls source.name left old new hand h.0 k in (
      refused_by (Refuses source.kind (bytes ++ a.0)) (IsRefusedIn held source) refusal
          (λ why w. (bytes ++ a.0, there ∙ ap Some a.1, w)) (h.1 a.0),
      ap (λ (s : KnownFiles). s.held) a.2,
    )

-- why a file wasn't read is so of what it holds
file_unread : (source : Source) (fault : ReadFault) (calls : List Handed) (old new : KnownFiles)
    → GivesFile source (Err fault) calls → AreKnown calls old new
    → IsUnread old.held new.last source fault × (new.held ≡ old.held)
file_unread source Absent calls old new (Gone r e) k =
    let f = subst (λ (l : List Handed). AreKnown l old new) e k in
    (f.1.0, ap (λ (s : KnownFiles). s.held) f.2 ∙ ap (λ (s : KnownFiles). s.held) f.1.1)
file_unread source Failed calls old new (Gone r e) k = absurd (cc r)
file_unread source (Refused refusal) calls old new (Gone r e) k = absurd (cc r)
file_unread source Absent calls old new (Shut r e) k = absurd (cc r)
file_unread source Failed calls old new (Shut r e) k =
    let f = subst (λ (l : List Handed). AreKnown l old new) e k in
    let last = ap (λ (s : KnownFiles). s.last) f.2 ∙ ap (λ (s : KnownFiles). s.last) f.1 in (
      subst (IsFailureOf source (old.held source.name)) (sym last)
          (failure source (old.held source.name)),
      ap (λ (s : KnownFiles). s.held) f.2 ∙ ap (λ (s : KnownFiles). s.held) f.1,
    )
file_unread source (Refused refusal) calls old new (Shut r e) k = absurd (cc r)
file_unread source fault calls old new (Opened more e h) k =
    let f = subst (λ (l : List Handed). AreKnown l old new) e k in
    let hand = ap (λ (s : KnownFiles). s.hand) f.1.2 in
    let a = hand_unread source fault more f.1.0 old.held f.0 new f.1.1 hand h f.2 in
    (a.0, a.1 ∙ ap (λ (s : KnownFiles). s.held) f.1.2)

-- ---- several files

all_read : (sources : List Source) (contents : List Content) (calls : List Handed)
    (old new : KnownFiles) → GivesAll sources contents calls → AreKnown calls old new
    → AreRead old.held sources contents × (new.held ≡ old.held)
all_read [] [] calls old new g k =
    let e = subst (λ (l : List Handed). AreKnown l old new) g k in
    (tt, ap (λ (s : KnownFiles). s.held) e)
all_read [] (content ∷ contents) calls old new g k = absurd g
all_read (source ∷ sources) [] calls old new g k = absurd g
all_read (source ∷ sources) (content ∷ contents) calls old new g k =
    let parts = known_split g.0 g.1 old new
    (subst (λ (l : List Handed). AreKnown l old new) g.2 k) in
    let first = file_read source content g.0 old parts.0 g.3 parts.1 in
    let more = all_read sources contents g.1 parts.0 new g.4 parts.2 in (
      (
        first.0,
        subst (λ (held : Held). AreRead held sources contents) first.1 more.0,
      ),
      more.1 ∙ first.1,
    )

-- what was read of all files is what they hold
pub all_known : (sources : List Source) (contents : List Content) (calls : List Handed)
    (old new : KnownFiles) → GivesAll sources contents calls → AreKnownAtLast calls old new
    → AreRead old.held sources contents
all_known sources contents calls old new g k = (all_read sources contents calls old k.end g k.known).0

stop_unread : (sources : List Source) (name : List ℕ) (fault : ReadFault) (calls : List Handed)
    (old new : KnownFiles) → GivesStop sources name fault calls → AreKnown calls old new
    → FirstIsNot (IsRead old.held) (IsStopped old.held new.last fault) sources name
stop_unread [] name fault calls old new g k = g
stop_unread (source ∷ sources) name fault calls old new (inl g) k =
    inl (g.0, (file_unread source fault calls old new g.1 k).0)
stop_unread (source ∷ sources) name fault calls old new (inr g) k =
    let parts = known_split g.1 g.2 old new
    (subst (λ (l : List Handed). AreKnown l old new) g.3 k) in
    let first = file_read source g.0 g.1 old parts.0 g.4 parts.1 in
    let more = stop_unread sources name fault g.2 parts.0 new g.5 parts.2 in
    inr (
      g.0,
      first.0,
      subst (λ (held : Held). FirstIsNot (IsRead held) (IsStopped held new.last fault) sources
          name) first.1 more,
    )

-- why the first file wasn't read that wasn't is so of what it holds
pub stop_known : (sources : List Source) (name : List ℕ) (fault : ReadFault)
    (calls : List Handed) (old new : KnownFiles) → GivesStop sources name fault calls
    → AreKnownAtLast calls old new
    → FirstIsNot (IsRead old.held) (IsStopped old.held new.last fault) sources name
stop_known sources name fault calls old new g k =
    subst (λ (last : LastFailure). FirstIsNot (IsRead old.held) (IsStopped old.held last fault)
    sources name) (sym k.last) (stop_unread sources name fault calls old k.end g k.known)

-- ---- bytes were read

-- some bytes are this
abbrev pub IsHeld : Source → Content → Type 0
IsHeld source content = (bytes : List ℕ) × Holds source.kind bytes content

file_held : (source : Source) (content : Content) (calls : List Handed)
    → GivesFile source (Ok content) calls → IsHeld source content
file_held source content calls (Gone r e) = absurd (cc r)
file_held source content calls (Shut r e) = absurd (cc r)
file_held source content calls (Opened more e h) = (h.0, h.2)

-- each file that was read has bytes that are what was read
pub all_held : (sources : List Source) (contents : List Content) (calls : List Handed)
    → GivesAll sources contents calls → EachIs IsHeld sources contents
all_held [] [] calls g = tt
all_held [] (content ∷ contents) calls g = absurd g
all_held (source ∷ sources) [] calls g = absurd g
all_held (source ∷ sources) (content ∷ contents) calls g =
    (file_held source content g.0 g.3, all_held sources contents g.1 g.4)
