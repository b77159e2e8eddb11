-- From one file to the next.
use Rattle.std.proofs.Common.{◌≡◌, ◌<◌, ◌+◌, ℕ, zero, suc, List, [], ◌∷◌, ◌++◌, Result, Ok, Err, refl, sym, ap, subst, ◌∙◌, map, take, drop, length, get_or, arith, inl, inr}
use Rattle.std.proofs.lemmas.List.{take_more}
use Rattle.dev_io.specs.Handed.{Handed}
use Rattle.source_files.specs.Order.{EachIs, IsAmong}
use Rattle.source_files.specs.HandedFiles.{HandsOver, GivesAll, GivesFile, GivesStop}
use Rattle.source_files.specs.Reading.{Source, names_of, read_as}
use Rattle.source_files.specs.Inputs.{input_kind, input_source}
use Rattle.source_files.specs.declared.inputs.InputFile.{InputFile}
use Rattle.source_files.specs.declared.inputs.InputKind.{InputKind}
use Rattle.source_files.specs.Contents.{Content}
use Rattle.source_files.specs.declared.read_faults.Refusal.TheVariants.{Memory}
use Rattle.source_files.specs.declared.read_faults.ReadFault.{ReadFault}
use Rattle.source_files.specs.declared.read_faults.ReadFault.TheVariants.{Refused}
use Rattle.source_files.specs.declared.read_faults.SourceFault.{SourceFault}
use Rattle.source_files.proofs.Order.{each_more}
use Rattle.source_files.proofs.HandedLemmas.{files_more, files_stop, hands_as, without_room}

-- the last of some that are mapped
pub mapped_last : {A B : Type 0} (f : A → B) (xs : List A) (x : A)
    → map f (xs ++ x ∷ []) ≡ map f xs ++ f x ∷ []
mapped_last f [] x = refl
mapped_last f (y ∷ xs) x = ap (λ l. f y ∷ l) (mapped_last f xs x)

-- one more source in front
pub sources_more : (xs : List InputFile) (i : ℕ) (d : InputFile) → i < length xs
    → map input_source (take (i + 1) xs) ≡ map input_source (take i xs) ++ input_source (get_or xs i d) ∷ []
sources_more xs i d h = ap (map input_source) (take_more xs i d h)
    ∙ mapped_last input_source (take i xs) (get_or xs i d)

-- the sources in front of one, that one and those after it
sources_split : (xs : List InputFile) (i : ℕ) (d : InputFile) → i < length xs
    → map input_source xs ≡ map input_source (take i xs)
    ++ input_source (get_or xs i d) ∷ map input_source (drop (suc i) xs)
sources_split [] i d h = absurd (omega (arith, h))
sources_split (y ∷ xs) zero d h = refl
sources_split (y ∷ xs) (suc i) d h =
    ap (λ l. input_source y ∷ l) (sources_split xs i d (omega (arith, h)))

pub sources_all : (xs : List InputFile) → map input_source (take (length xs) xs) ≡ map input_source xs
sources_all [] = refl
sources_all (x ∷ xs) = ap (λ l. input_source x ∷ l) (sources_all xs)

-- what each file holds suits what it is read as
pub suits_among : (Is : Source → Content → Type 0) (xs : List InputFile) (i : ℕ) (x : InputFile)
    (contents more : List Content) (content : Content) → i < length xs → x ≡ get_or xs i x
    → more ≡ contents ++ content ∷ [] → EachIs Is (map input_source (take i xs)) contents
    → Is (input_source x) content → EachIs Is (map input_source (take (i + 1) xs)) more
suits_among Is xs i x contents more content l e m h r =
    subst (λ s. EachIs Is s more) (sym (sources_more xs i x l))
    (subst (λ c. EachIs Is (map input_source (take i xs) ++ input_source (get_or xs i x) ∷ []) c) (sym m)
    (each_more Is (map input_source (take i xs)) contents (input_source (get_or xs i x)) content h
    (subst (λ y. Is (input_source y) content) e r)))

-- the name of a file is among those of all
pub named_among : (xs : List InputFile) (i : ℕ) (x d : InputFile) (name : List ℕ)
    → i < length xs → x ≡ get_or xs i d → name ≡ x.name.now
    → IsAmong (names_of (map input_source xs)) name
named_among [] i x d name l e n = absurd (omega (arith, l))
named_among (y ∷ xs) zero x d name l e n = inl (n ∙ ap (λ (s : InputFile). s.name.now) e)
named_among (y ∷ xs) (suc i) x d name l e n =
    inr (named_among xs i x d name (omega (arith, l)) e n)

-- ---- the same of what the calls gave

pub given_among : (xs : List InputFile) (i : ℕ) (x : InputFile) (contents more : List Content)
    (content : Content) (old mid new : List Handed) → i < length xs → x ≡ get_or xs i x
    → more ≡ contents ++ content ∷ []
    → HandsOver (GivesAll (map input_source (take i xs)) contents) old mid
    → HandsOver (GivesFile (input_source x) (Ok content)) mid new
    → HandsOver (GivesAll (map input_source (take (i + 1) xs)) more) old new
given_among xs i x contents more content old mid new l e m h r =
    subst (λ (s : List Source). HandsOver (GivesAll s more) old new) (sym (sources_more xs i x l))
    (subst (λ (c : List Content). HandsOver
    (GivesAll (map input_source (take i xs) ++ input_source (get_or xs i x) ∷ []) c) old new) (sym m)
    (files_more (map input_source (take i xs)) contents (input_source (get_or xs i x)) content old mid new
    h (subst (λ (y : InputFile). HandsOver (GivesFile (input_source y) (Ok content)) mid new) e r)))

pub given_stop : (xs : List InputFile) (i : ℕ) (x : InputFile) (contents : List Content)
    (stop : SourceFault) (fault : ReadFault) (old mid new : List Handed) → i < length xs
    → x ≡ get_or xs i x → HandsOver (GivesAll (map input_source (take i xs)) contents) old mid
    → HandsOver (GivesFile (input_source x) (Err fault)) mid new → stop.name.now ≡ x.name.now
    → stop.fault ≡ fault
    → HandsOver (GivesStop (map input_source xs) stop.name.now stop.fault) old new
given_stop xs i x contents stop fault old mid new l e h r n f =
    subst (λ (s : List Source). HandsOver (GivesStop s stop.name.now stop.fault) old new)
    (sym (sources_split xs i x l))
    (files_stop (map input_source (take i xs)) (map input_source (drop (suc i) xs)) contents
    (input_source (get_or xs i x)) stop fault old mid new h
    (subst (λ (y : InputFile). HandsOver (GivesFile (input_source y) (Err fault)) mid new) e r)
    (n ∙ ap (λ (y : InputFile). y.name.now) e) f)

pub given_full : (xs : List InputFile) (i : ℕ) (x : InputFile) (contents : List Content)
    (content : Content) (stop : SourceFault) (old mid new : List Handed) → i < length xs
    → x ≡ get_or xs i x → HandsOver (GivesAll (map input_source (take i xs)) contents) old mid
    → HandsOver (GivesFile (input_source x) (Ok content)) mid new → stop.name.now ≡ x.name.now
    → stop.fault ≡ Refused Memory
    → HandsOver (GivesStop (map input_source xs) stop.name.now stop.fault) old new
given_full xs i x contents content stop old mid new l e h r n f =
    given_stop xs i x contents stop (Refused Memory) old mid new l e h
    (hands_as (GivesFile (input_source x) (Ok content)) (GivesFile (input_source x) (Err (Refused Memory)))
    mid new (without_room (input_source x) content) r) n f

-- what was read by the kind of a file was read of that file
pub given_as_kind : (file : InputFile) (kind : InputKind) (result : Result Content ReadFault)
    (old new : List Handed) → file.kind ≡ kind
    → HandsOver (GivesFile (read_as file.name.now (input_kind kind)) result) old new
    → HandsOver (GivesFile (input_source file) result) old new
given_as_kind file kind result old new e h =
    subst (λ (k : InputKind).
    HandsOver (GivesFile (read_as file.name.now (input_kind k)) result) old new) (sym e) h
