-- What the calls of a device gave, call by call.
use Rattle.std.proofs.Common.{◌≡◌, ◌≢◌, ◌⊎◌, ◌<◌, ◌≤◌, ◌++◌, ◌∷◌, [], ℕ, zero, suc, List, Result, Ok, Err, refl, sym, ap, subst, ◌∙◌, map, drop, take, length, append-nil, append_assoc, inl, inr, arith}
use Rattle.std.specs.List.{concat}
use Rattle.std.proofs.lemmas.List.{map-append, length-take-le}
use Rattle.std.proofs.lemmas.List.Folds.{concat-append}
use Rattle.limits.specs.Limits.{piece_bytes}
use Rattle.dev_io.specs.Handed.{Handed, Found, Missing, Unopened, Gave, Broke, read_as as call_of}
use Rattle.source_files.specs.Hand.{Judges}
use Rattle.source_files.specs.HandedFiles.{HandsOver, IsPiece, AreJudged, Took, TookThen, GivesHand, GivesAs, GivesFile, GivesOpened, Gone, Shut, Opened, GivesAll, GivesStop}
use Rattle.source_files.specs.Formats.{Holds, Refuses, IsCalm}
use Rattle.source_files.specs.Kinds.{Kind}
use Rattle.source_files.specs.Reading.{Source, IsRefused, held_as, read_as}
use Rattle.source_files.specs.Contents.{Content}
use Rattle.source_files.specs.declared.read_faults.Refusal.{Refusal}
use Rattle.source_files.specs.declared.read_faults.Refusal.TheVariants.{Broken, Memory}
use Rattle.source_files.specs.declared.read_faults.ReadFault.{ReadFault}
use Rattle.source_files.specs.declared.read_faults.ReadFault.TheVariants.{Absent, Failed, Refused}
use Rattle.source_files.specs.declared.read_faults.SourceFault.{SourceFault}

-- what is refused for one reason is refused for another that follows
pub refused_by : (P Q : List ℕ → Type 0) (refusal : Refusal) → ((why : List ℕ) → P why → Q why)
    → IsRefused P refusal
    → IsRefused Q refusal
refused_by P Q (Broken reason) by h = by _ h
refused_by P Q Memory by h = tt

-- ---- calls after others

pub hands_none : (Are : List Handed → Type 0) (old : List Handed) → Are [] → HandsOver Are old old
hands_none Are old a = ([], sym (append-nil old), a)

pub hands_then : (Are Next Both : List Handed → Type 0) (old mid new : List Handed)
    → ((a b : List Handed) → Are a → Next b → Both (a ++ b)) → HandsOver Are old mid
    → HandsOver Next mid new → HandsOver Both old new
hands_then Are Next Both old mid new by h k = (
  h.0 ++ k.0,
  k.1 ∙ ap (λ (l : List Handed). l ++ k.0) h.1 ∙ append_assoc old h.0 k.0,
  by h.0 k.0 h.2 k.2,
)

pub hands_as : (Are Be : List Handed → Type 0) (old new : List Handed)
    → ((a : List Handed) → Are a → Be a) → HandsOver Are old new → HandsOver Be old new
hands_as Are Be old new by h = (h.0, h.1, by h.0 h.2)

hands_call : (Are Be : List Handed → Type 0) (call : Handed) (old mid new : List Handed)
    → ((a : List Handed) → Are a → Be (a ++ call ∷ [])) → HandsOver Are old mid
    → new ≡ mid ++ call ∷ [] → HandsOver Be old new
hands_call Are Be call old mid new by h e = (
  h.0 ++ call ∷ [],
  e ∙ ap (λ (l : List Handed). l ++ call ∷ []) h.1 ∙ append_assoc old h.0 (call ∷ []),
  by h.0 h.2,
)

same_rest : (a b c : List Handed) → a ++ b ≡ a ++ c → b ≡ c
same_rest [] b c e = e
same_rest (x ∷ a) b c e = same_rest a b c (ap (λ (l : List Handed). drop 1 l) e)

-- the same calls are both
pub hands_both : (Are Also : List Handed → Type 0) (old new : List Handed)
    → HandsOver Are old new → HandsOver Also old new
    → (calls : List Handed) × Are calls × Also calls
hands_both Are Also old new h k =
    (h.0, h.2, subst Also (same_rest old k.0 h.0 (sym k.1 ∙ h.1)) k.2)

-- ---- the pieces of the file in hand

judged_more : (Calm : List ℕ → Type 0) (taken : List ℕ) (pieces : List (List ℕ))
    (piece bytes : List ℕ) → bytes ≡ taken ++ concat pieces → Calm bytes → IsPiece piece
    → AreJudged Calm taken pieces → AreJudged Calm taken (pieces ++ piece ∷ [])
judged_more Calm taken [] piece bytes e c p j = (subst Calm (e ∙ append-nil taken) c, p, tt)
judged_more Calm taken (q ∷ pieces) piece bytes e c p j = (
  j.0,
  j.1,
  judged_more Calm (taken ++ q) pieces piece bytes
      (e ∙ sym (append_assoc taken q (concat pieces))) c p j.2,
)

pub took_none : (Calm : List ℕ → Type 0) (old : List Handed) → HandsOver (Took Calm []) old old
took_none Calm old = hands_none (Took Calm []) old
    (record { pieces = []; each = tt; whole = refl; are = refl })

took_piece : (Calm : List ℕ → Type 0) (bytes piece : List ℕ) (calls : List Handed) → Calm bytes
    → IsPiece piece → Took Calm bytes calls → Took Calm (bytes ++ piece) (calls ++ Gave piece ∷ [])
took_piece Calm bytes piece calls c p t = record {
  pieces = t.pieces ++ piece ∷ [];
  each = judged_more Calm [] t.pieces piece bytes t.whole c p t.each;
  whole = ap (λ (l : List ℕ). l ++ piece) t.whole
      ∙ ap (λ (l : List ℕ). concat t.pieces ++ l) (sym (append-nil piece))
      ∙ sym (concat-append t.pieces (piece ∷ []));
  are = ap (λ (l : List Handed). l ++ Gave piece ∷ []) t.are
      ∙ sym (map-append Gave t.pieces (piece ∷ []));
}

is_piece : (n : ℕ) (buf : List ℕ) → n ≢ 0 → n ≤ length buf → length buf ≤ piece_bytes
    → IsPiece (take n buf)
is_piece zero buf some bound few = absurd (some refl)
is_piece (suc n) buf some bound few =
    let same = length-take-le (suc n) buf bound in
    record { some = omega (arith, same); few = omega (arith, same, bound, few) }

-- one more read gave the next piece
pub took_more : (E : Type 0) (Calm : List ℕ → Type 0) (bytes : List ℕ) (old mid new : List Handed)
    (n : ℕ) (buf : List ℕ) → Calm bytes → n ≢ 0 → n ≤ length buf → length buf ≤ piece_bytes
    → HandsOver (Took Calm bytes) old mid → new ≡ mid ++ call_of {E = E} (Ok n) buf ∷ []
    → HandsOver (Took Calm (bytes ++ take n buf)) old new
took_more E Calm bytes old mid new n buf c some bound few h e =
    hands_call (Took Calm bytes) (Took Calm (bytes ++ take n buf)) (Gave (take n buf)) old mid new
    (λ calls. took_piece Calm bytes (take n buf) calls c (is_piece n buf some bound few)) h e

-- the same of bytes that were gathered
pub gathered_first : (Calm : List ℕ → Type 0) (bytes : List ℕ) (old : List Handed) → bytes ≡ []
    → HandsOver (Took Calm bytes) old old
gathered_first Calm bytes old e =
    subst (λ (l : List ℕ). HandsOver (Took Calm l) old old) (sym e) (took_none Calm old)

pub gathered_next : (E : Type 0) (Calm : List ℕ → Type 0) (front bytes : List ℕ)
    (old mid new : List Handed) (n : ℕ) (buf : List ℕ) → bytes ≡ front ++ take n buf → Calm front
    → n ≢ 0 → n ≤ length buf → length buf ≤ piece_bytes → HandsOver (Took Calm front) old mid
    → new ≡ mid ++ call_of {E = E} (Ok n) buf ∷ [] → HandsOver (Took Calm bytes) old new
gathered_next E Calm front bytes old mid new n buf same c some bound few h e =
    subst (λ (l : List ℕ). HandsOver (Took Calm l) old new) (sym same)
    (took_more E Calm front old mid new n buf c some bound few h e)

took_then : (Calm : List ℕ → Type 0) (last : Handed) (bytes : List ℕ) (old mid new : List Handed)
    → Calm bytes → HandsOver (Took Calm bytes) old mid → new ≡ mid ++ last ∷ []
    → HandsOver (TookThen Calm last bytes) old new
took_then Calm last bytes old mid new c h e =
    hands_call (Took Calm bytes) (TookThen Calm last bytes) last old mid new
    (λ calls t. record { front = calls; took = t; calm = c; are = refl }) h e

ended_as : {T : Type 0} (Is : List ℕ → T → Type 0) (Not : List ℕ → List ℕ → Type 0)
    (Calm : List ℕ → Type 0) (bytes : List ℕ) (result : Result T ReadFault) (calls : List Handed)
    → Judges Is Not bytes result → TookThen Calm (Gave []) bytes calls
    → GivesHand Is Not Calm result calls
ended_as Is Not Calm bytes (Ok value) calls j t = (bytes, t, j)
ended_as Is Not Calm bytes (Err Absent) calls j t = j
ended_as Is Not Calm bytes (Err Failed) calls j t = absurd j
ended_as Is Not Calm bytes (Err (Refused refusal)) calls j t = (bytes, inl (t, j))

-- the file in hand was read to its end, and all of its bytes were judged
pub ended : {T : Type 0} (Is : List ℕ → T → Type 0) (Not : List ℕ → List ℕ → Type 0)
    (Calm : List ℕ → Type 0) (bytes : List ℕ) (old mid new : List Handed)
    (result : Result T ReadFault) → Calm bytes → HandsOver (Took Calm bytes) old mid
    → new ≡ mid ++ Gave [] ∷ [] → Judges Is Not bytes result
    → HandsOver (GivesHand Is Not Calm result) old new
ended Is Not Calm bytes old mid new result c h e j =
    hands_as (TookThen Calm (Gave []) bytes) (GivesHand Is Not Calm result) old new
    (λ calls. ended_as Is Not Calm bytes result calls j)
    (took_then Calm (Gave []) bytes old mid new c h e)

-- a read failed after what was taken
pub broken : (T : Type 0) (Is : List ℕ → T → Type 0) (Not : List ℕ → List ℕ → Type 0)
    (Calm : List ℕ → Type 0) (bytes : List ℕ) (old mid new : List Handed) → Calm bytes
    → HandsOver (Took Calm bytes) old mid → new ≡ mid ++ Broke ∷ []
    → HandsOver (GivesHand {T = T} Is Not Calm (Err Failed)) old new
broken T Is Not Calm bytes old mid new c h e =
    hands_as (TookThen Calm Broke bytes) (GivesHand {T = T} Is Not Calm (Err Failed)) old new
    (λ calls t. (bytes, t)) (took_then Calm Broke bytes old mid new c h e)

-- what was taken of the file in hand is refused, however it goes on
pub early : (T : Type 0) (Is : List ℕ → T → Type 0) (Not : List ℕ → List ℕ → Type 0)
    (Calm : List ℕ → Type 0) (bytes : List ℕ) (old new : List Handed) (refusal : Refusal)
    → HandsOver (Took Calm bytes) old new
    → ((rest : List ℕ) → IsRefused (Not (bytes ++ rest)) refusal)
    → HandsOver (GivesHand {T = T} Is Not Calm (Err (Refused refusal))) old new
early T Is Not Calm bytes old new refusal h j =
    hands_as (Took Calm bytes) (GivesHand {T = T} Is Not Calm (Err (Refused refusal))) old new
    (λ calls t. (bytes, inr (t, j))) h

-- ---- what was read is judged further

further : {T U : Type 0} (Is : List ℕ → T → Type 0) (Not : List ℕ → List ℕ → Type 0)
    (Calm : List ℕ → Type 0) (IsThen : List ℕ → U → Type 0) (NotThen : List ℕ → List ℕ → Type 0)
    (value : T) (result : Result U ReadFault) (calls : List Handed)
    → ((bytes : List ℕ) → Is bytes value → Judges IsThen NotThen bytes result)
    → GivesHand Is Not Calm (Ok value) calls → GivesHand IsThen NotThen Calm result calls
further Is Not Calm IsThen NotThen value (Ok made) calls j h = (h.0, h.1, j h.0 h.2)
further Is Not Calm IsThen NotThen value (Err Absent) calls j h = j h.0 h.2
further Is Not Calm IsThen NotThen value (Err Failed) calls j h = absurd (j h.0 h.2)
further Is Not Calm IsThen NotThen value (Err (Refused refusal)) calls j h =
    (h.0, inl (h.1, j h.0 h.2))

pub given_further : {T U : Type 0} (Is : List ℕ → T → Type 0) (Not : List ℕ → List ℕ → Type 0)
    (Calm : List ℕ → Type 0) (IsThen : List ℕ → U → Type 0) (NotThen : List ℕ → List ℕ → Type 0)
    (old new : List Handed) (value : T) (result : Result U ReadFault)
    → ((bytes : List ℕ) → Is bytes value → Judges IsThen NotThen bytes result)
    → HandsOver (GivesHand Is Not Calm (Ok value)) old new
    → HandsOver (GivesHand IsThen NotThen Calm result) old new
given_further Is Not Calm IsThen NotThen old new value result j h =
    hands_as (GivesHand Is Not Calm (Ok value)) (GivesHand IsThen NotThen Calm result) old new
    (λ calls. further Is Not Calm IsThen NotThen value result calls j) h

narrower : (T U : Type 0) (Is : List ℕ → T → Type 0) (Not : List ℕ → List ℕ → Type 0)
    (Calm : List ℕ → Type 0) (IsThen : List ℕ → U → Type 0) (NotThen : List ℕ → List ℕ → Type 0)
    (fault : ReadFault) (calls : List Handed)
    → ((bytes why : List ℕ) → Not bytes why → NotThen bytes why)
    → GivesHand Is Not Calm (Err fault) calls → GivesHand IsThen NotThen Calm (Err fault) calls
narrower T U Is Not Calm IsThen NotThen Absent calls by h = h
narrower T U Is Not Calm IsThen NotThen Failed calls by h = h
narrower T U Is Not Calm IsThen NotThen (Refused refusal) calls by (bytes, inl h) =
    (bytes, inl (h.0, refused_by (Not bytes) (NotThen bytes) refusal (by bytes) h.1))
narrower T U Is Not Calm IsThen NotThen (Refused refusal) calls by (bytes, inr h) = (
  bytes,
  inr (
    h.0,
    λ rest. refused_by (Not (bytes ++ rest)) (NotThen (bytes ++ rest)) refusal
        (by (bytes ++ rest)) (h.1 rest),
  ),
)

pub given_narrower : (T U : Type 0) (Is : List ℕ → T → Type 0) (Not : List ℕ → List ℕ → Type 0)
    (Calm : List ℕ → Type 0) (IsThen : List ℕ → U → Type 0) (NotThen : List ℕ → List ℕ → Type 0)
    (old new : List Handed) (fault : ReadFault)
    → ((bytes why : List ℕ) → Not bytes why → NotThen bytes why)
    → HandsOver (GivesHand Is Not Calm (Err fault)) old new
    → HandsOver (GivesHand IsThen NotThen Calm (Err fault)) old new
given_narrower T U Is Not Calm IsThen NotThen old new fault by h =
    hands_as (GivesHand Is Not Calm (Err fault)) (GivesHand IsThen NotThen Calm (Err fault)) old new
    (λ calls. narrower T U Is Not Calm IsThen NotThen fault calls by) h

-- ---- one file

pub is_gone : (name : List ℕ) (old new : List Handed) → new ≡ old ++ Missing name ∷ []
    → HandsOver (GivesOpened {T = Unit {0}} name (Err Absent)) old new
is_gone name old new e = (Missing name ∷ [], e, λ kind. Gone refl refl)

pub is_shut : (name : List ℕ) (old new : List Handed) → new ≡ old ++ Unopened name ∷ []
    → HandsOver (GivesOpened {T = Unit {0}} name (Err Failed)) old new
is_shut name old new e = (Unopened name ∷ [], e, λ kind. Shut refl refl)

pub is_in_hand : (name : List ℕ) (old new : List Handed) → new ≡ old ++ Found name ∷ []
    → HandsOver (GivesOpened {T = Unit {0}} name (Ok tt)) old new
is_in_hand name old new e = (Found name ∷ [], e, refl)

hand_as : {T : Type 0} (kind : Kind) (content : T → Content) (result : Result T ReadFault)
    (calls : List Handed)
    → GivesHand (λ bytes value. Holds kind bytes (content value)) (Refuses kind) (IsCalm kind)
    result calls → GivesAs kind (held_as content result) calls
hand_as kind content (Ok value) calls h = h
hand_as kind content (Err Absent) calls h = h
hand_as kind content (Err Failed) calls h = h
hand_as kind content (Err (Refused refusal)) calls h = h

-- a file was opened and read
pub opened_as : {T : Type 0} (kind : Kind) (content : T → Content) (name : List ℕ)
    (old mid new : List Handed) (result : Result T ReadFault)
    → HandsOver (GivesOpened {T = Unit {0}} name (Ok tt)) old mid
    → HandsOver (GivesHand (λ bytes value. Holds kind bytes (content value)) (Refuses kind)
    (IsCalm kind) result) mid new
    → HandsOver (GivesFile (read_as name kind) (held_as content result)) old new
opened_as kind content name old mid new result o h =
    hands_then (GivesOpened {T = Unit {0}} name (Ok tt)) (GivesHand
    (λ bytes value. Holds kind bytes (content value)) (Refuses kind) (IsCalm kind) result)
    (GivesFile (read_as name kind) (held_as content result)) old mid new
    (λ a b e g. Opened b (ap (λ (l : List Handed). l ++ b) e) (hand_as kind content result b g)) o h

-- a file wasn't opened
pub unopened_as : (kind : Kind) (name : List ℕ) (fault : ReadFault) (old new : List Handed)
    → HandsOver (GivesOpened {T = Unit {0}} name (Err fault)) old new
    → HandsOver (GivesFile (read_as name kind) (Err fault)) old new
unopened_as kind name fault old new h =
    hands_as (GivesOpened {T = Unit {0}} name (Err fault))
    (GivesFile (read_as name kind) (Err fault)) old new (λ calls g. g kind) h

-- ---- several files

all_more : (front : List Source) (contents : List Content) (source : Source) (content : Content)
    (a b : List Handed) → GivesAll front contents a → GivesFile source (Ok content) b
    → GivesAll (front ++ source ∷ []) (contents ++ content ∷ []) (a ++ b)
all_more [] [] source content a b g f =
    (b, [], ap (λ (l : List Handed). l ++ b) g ∙ sym (append-nil b), f, refl)
all_more [] (c ∷ contents) source content a b g f = absurd g
all_more (s ∷ front) [] source content a b g f = absurd g
all_more (s ∷ front) (c ∷ contents) source content a b g f = (
  g.0,
  g.1 ++ b,
  ap (λ (l : List Handed). l ++ b) g.2 ∙ append_assoc g.0 g.1 b,
  g.3,
  all_more front contents source content g.1 b g.4 f,
)

stop_more : (front behind : List Source) (contents : List Content) (source : Source)
    (name : List ℕ) (fault : ReadFault) (a b : List Handed) → GivesAll front contents a
    → name ≡ source.name → GivesFile source (Err fault) b
    → GivesStop (front ++ source ∷ behind) name fault (a ++ b)
stop_more [] behind [] source name fault a b g n f =
    inl (n, subst (GivesFile source (Err fault)) (sym (ap (λ (l : List Handed). l ++ b) g)) f)
stop_more [] behind (c ∷ contents) source name fault a b g n f = absurd g
stop_more (s ∷ front) behind [] source name fault a b g n f = absurd g
stop_more (s ∷ front) behind (c ∷ contents) source name fault a b g n f = inr (
  c,
  g.0,
  g.1 ++ b,
  ap (λ (l : List Handed). l ++ b) g.2 ∙ append_assoc g.0 g.1 b,
  g.3,
  stop_more front behind contents source name fault g.1 b g.4 n f,
)

-- what was read of a file may be more than memory holds
pub without_room : (source : Source) (content : Content) (calls : List Handed)
    → GivesFile source (Ok content) calls → GivesFile source (Err (Refused Memory)) calls
without_room source content calls (Gone r e) = absurd (cc r)
without_room source content calls (Shut r e) = absurd (cc r)
without_room source content calls (Opened more e h) = Opened more e (h.0, inl (h.1, tt))

pub files_none : (old : List Handed) → HandsOver (GivesAll [] []) old old
files_none old = hands_none (GivesAll [] []) old refl

pub files_more : (front : List Source) (contents : List Content) (source : Source)
    (content : Content) (old mid new : List Handed) → HandsOver (GivesAll front contents) old mid
    → HandsOver (GivesFile source (Ok content)) mid new
    → HandsOver (GivesAll (front ++ source ∷ []) (contents ++ content ∷ [])) old new
files_more front contents source content old mid new h k =
    hands_then (GivesAll front contents) (GivesFile source (Ok content))
    (GivesAll (front ++ source ∷ []) (contents ++ content ∷ [])) old mid new
    (λ a b. all_more front contents source content a b) h k

pub files_stop : (front behind : List Source) (contents : List Content) (source : Source)
    (stop : SourceFault) (fault : ReadFault) (old mid new : List Handed)
    → HandsOver (GivesAll front contents) old mid → HandsOver (GivesFile source (Err fault)) mid new
    → stop.name.now ≡ source.name → stop.fault ≡ fault
    → HandsOver (GivesStop (front ++ source ∷ behind) stop.name.now stop.fault) old new
files_stop front behind contents source stop fault old mid new h k n f =
    hands_then (GivesAll front contents) (GivesFile source (Err fault))
    (GivesStop (front ++ source ∷ behind) stop.name.now stop.fault) old mid new
    (λ a b g i. stop_more front behind contents source stop.name.now stop.fault a b g n
    (subst (λ (w : ReadFault). GivesFile source (Err w) b) (sym f) i)) h k
