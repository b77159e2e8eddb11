-- A byte at which the machine stops is the fault that the bytes have.
use Rattle.std.proofs.Common.{◌≡◌, ℕ, ◌+◌, ◌<◌, ◌≤◌, List, [], ◌∷◌, ◌++◌, length, take, get_or, Ok, Err, sym, ap, ◌∙◌, append_assoc, arith, subst, ◌⊎◌, inl, inr}
use Rattle.std.proofs.lemmas.List.{take_more, take_all, take-take, get_or-take, length-take, length-append}
use Rattle.std.proofs.Math.Seq.{take-append-add}
use Rattle.std.specs.Prelude.{slice_index}
use Rattle.std.specs.Str.{IsUtf8}
use Rattle.limits.specs.Limits.{most_bytes}
use Rattle.json_text.specs.State.Opened.{Unclosed}
use Rattle.json_text.specs.Grammar.{IsLive, IsLiveWithin}
use Rattle.json_text.specs.Strings.{BeginsUtf8, IsInString}
use Rattle.json_text.specs.Faults.{IsDeadAt, BreaksUtf8, IsTooDeep, Names}
use Rattle.json_text.specs.State.Machine.{Hand, value, first_item, first_name, next_name, colon, behind, done, word, number, text, MachineState, state, start, step, run}
use Rattle.json_text.specs.Reader.{HasRead}
use Rattle.json_text.specs.declared.reader.JsonReader.{JsonReader}
use Rattle.json_text.specs.State.Stands.{state_of}
use Rattle.json_text.specs.State.Runs.{StopsAt, named}
use Rattle.json_text.specs.declared.state.Stop.{Stop}
use Rattle.json_text.specs.declared.state.Stop.TheVariants.{Syntax, Utf8, Depth}
use Rattle.json_text.proofs.RunLemmas.{run_then}
use Rattle.json_text.proofs.Utf8Steps.{Utf8Rest}
use Rattle.json_text.proofs.OutsideStrings.{IsOutside}
use Rattle.json_text.proofs.SeenTexts.{Sees, sees, facts, is_live, is_dead, is_dead_deeper, is_live_deeper, in_string, not_in_string}

-- the bytes have this front and then this byte
record Splits (n : ℕ) (bytes front : List ℕ) (b : ℕ) : Type 0 where
  before : take n bytes ≡ front
  through : take (n + 1) bytes ≡ front ++ (b ∷ [])
  within : n < length bytes

module _ (n : ℕ) (bytes front : List ℕ) (b : ℕ) (s : MachineState) (parts : Splits n bytes front b) (seen : Sees 127 front s) where
  dead_at : (k : Stop) → step 127 s.levels s.hand b ≡ Err k → IsDeadAt n bytes
  dead_at k e = record {
    within = parts.within;
    live = subst IsLive (sym parts.before) (is_live 127 front s seen);
    dead = λ live. is_dead 127 front s b k seen e (subst IsLive parts.through live);
  }

  too_deep : step 127 s.levels s.hand b ≡ Err Depth → IsTooDeep n bytes
  too_deep e = let d = (facts 127 s.levels s.hand b seen.few seen.is).depth e in subst (IsLiveWithin 128) (sym parts.through) (is_live_deeper 127 front s d.0 b seen d.1)

  not_deep : (k : Stop) → step 128 s.levels s.hand b ≡ Err k → IsTooDeep n bytes → ⊥
  not_deep k e live = is_dead_deeper 127 front s b k seen e (subst (IsLiveWithin 128) parts.through live)

  regroup : (more : List ℕ) → (front ++ (b ∷ [])) ++ more ≡ front ++ (b ∷ more)
  regroup more = append_assoc front (b ∷ []) more

  breaks : ((more : List ℕ) → Utf8Rest s.hand (b ∷ more) → ⊥) → BeginsUtf8 (take (n + 1) bytes) → ⊥
  breaks h u =
      let v = subst BeginsUtf8 parts.through u in
      h v.0 ((seen.utf8 (b ∷ v.0)).0 (subst IsUtf8 (regroup v.0) v.1))

  goes_on : (more : List ℕ) → Utf8Rest s.hand (b ∷ more) → BeginsUtf8 (take (n + 1) bytes)
  goes_on more h = subst BeginsUtf8 (sym parts.through) (more, subst IsUtf8 (sym (regroup more)) ((seen.utf8 (b ∷ more)).1 h))

  in_text_here : (levels : List Unclosed) (hand : Hand) → Sees 127 front (state levels hand) → (IsOutside hand → ⊥) → IsInString front
  in_text_here levels value k o = absurd (o tt)
  in_text_here levels first_item k o = absurd (o tt)
  in_text_here levels first_name k o = absurd (o tt)
  in_text_here levels next_name k o = absurd (o tt)
  in_text_here levels colon k o = absurd (o tt)
  in_text_here levels behind k o = absurd (o tt)
  in_text_here levels (done x) k o = absurd (o tt)
  in_text_here levels (word x left) k o = absurd (o tt)
  in_text_here levels (number t place) k o = absurd (o tt)
  in_text_here levels (text role t part) k o = in_string 127 front levels role t part k

  broken : step 127 s.levels s.hand b ≡ Err Utf8 → BreaksUtf8 n bytes
  broken e =
      let f = (facts 127 s.levels s.hand b seen.few seen.is).utf8 e in
      record { inside = subst IsInString (sym parts.before) (in_text_here s.levels s.hand seen f.1); breaks = breaks f.2 }

  not_broken : step 127 s.levels s.hand b ≡ Err Syntax → BreaksUtf8 n bytes → ⊥
  not_broken e h = by ((facts 127 s.levels s.hand b seen.few seen.is).syntax e).1
    where
      by : IsOutside s.hand ⊎ ((more : List ℕ) × Utf8Rest s.hand (b ∷ more)) → ⊥
      by (inl o) = let i = subst IsInString parts.before h.inside in not_in_string 127 front s seen o i.0 i.1 i.2
      by (inr u) = h.breaks (goes_on u.0 u.1)

  names : (k : Stop) → step 127 s.levels s.hand b ≡ Err k → n < most_bytes → Names (named k n) bytes
  names Syntax e l = (record { dead = dead_at Syntax e; utf8 = not_broken e; depth = not_deep Syntax ((facts 127 s.levels s.hand b seen.few seen.is).syntax e).0 }, l)
  names Utf8 e l = (dead_at Utf8 e, broken e, l)
  names Depth e l = (dead_at Depth e, too_deep e, l)

-- the front of a piece that follows other bytes
splits : (bytes piece : List ℕ) (room n : ℕ) → n < length (take room piece) → Splits (length bytes + n) (bytes ++ piece) (bytes ++ take n (take room piece)) (slice_index (take room piece) n)
splits bytes piece room n h =
    let m : n < room = omega (arith, length-take room piece) in
    let w : n < length piece = omega (arith, length-take room piece) in
    let t : take n (take room piece) ≡ take n piece = take-take n room piece (omega arith) in
    let g : get_or (take room piece) n 0 ≡ get_or piece n 0 = get_or-take room piece n 0 m in
    let a : length bytes + n + 1 ≡ length bytes + (n + 1) = omega arith in
    record {
      before = take-append-add bytes piece n ∙ ap (λ x. bytes ++ x) (sym t);
      through = ap (λ k. take k (bytes ++ piece)) a ∙ take-append-add bytes piece (n + 1) ∙ ap (λ x. bytes ++ x) (take_more piece n 0 w)
          ∙ sym (append_assoc bytes (take n piece) (get_or piece n 0 ∷ [])) ∙ (λ i. (bytes ++ sym t i) ++ (sym g i ∷ []));
      within = omega (arith, length-append bytes piece);
    }

-- a fault in a piece
pub fault_in : (bytes piece : List ℕ) (s : MachineState) (room n offset : ℕ) (k : Stop) → run 127 start bytes ≡ Ok s → StopsAt n k s (take room piece) → length bytes + room ≡ most_bytes → offset ≡ length bytes + n
    → Names (named k offset) (bytes ++ piece)
fault_in bytes piece s room n offset k e h full at =
    let front = bytes ++ take n (take room piece) in
    let seen = sees front h.before (run_then 127 start s bytes (take n (take room piece)) e ∙ h.ran) in
    let l = h.within in
    let m : n < room = omega (arith, length-take room piece) in
    subst (λ x. Names (named k x) (bytes ++ piece)) (sym at)
    (names (length bytes + n) (bytes ++ piece) front (slice_index (take room piece) n) h.before (splits bytes piece room n l) seen k h.stops (omega arith))

-- more bytes than a text may have
pub fault_behind : (bytes piece : List ℕ) (s t : MachineState) (room : ℕ) → run 127 start bytes ≡ Ok s → run 127 s (take room piece) ≡ Ok t → length bytes + room ≡ most_bytes → room < length piece
    → (most_bytes < length (bytes ++ piece)) × IsLive (take most_bytes (bytes ++ piece))
fault_behind bytes piece s t room e f full l = (
  omega (arith, length-append bytes piece),
  subst IsLive (sym (take-append-add bytes piece room) ∙ ap (λ k. take k (bytes ++ piece)) full) (is_live 127 (bytes ++ take room piece) t (sees (bytes ++ take room piece) t (run_then 127 start s bytes (take room piece) e ∙ f))),
)

-- the whole piece
pub read_all : (bytes piece : List ℕ) (s t : MachineState) (room : ℕ) → run 127 start bytes ≡ Ok s → run 127 s (take room piece) ≡ Ok t → length piece ≤ room → run 127 start (bytes ++ piece) ≡ Ok t
read_all bytes piece s t room e f l = ap (λ x. run 127 start (bytes ++ x)) (sym (take_all room piece l)) ∙ run_then 127 start s bytes (take room piece) e ∙ f

pub live_all : (bytes : List ℕ) (s : MachineState) → run 127 start bytes ≡ Ok s → IsLive bytes
live_all bytes s e = is_live 127 bytes s (sees bytes s e)

-- what a reader was fed goes on to a text and is short enough
pub live_read : (bytes : List ℕ) (reader : JsonReader) → HasRead bytes reader
    → IsLive bytes × (length bytes ≤ most_bytes)
live_read bytes reader read = (live_all bytes (state_of reader.machine) read.ran, read.few)
