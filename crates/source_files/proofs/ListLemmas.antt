-- The early fault of the front of a list is that of the list.
use Rattle.std.proofs.Common.{◌≡◌, ◌≢◌, ◌⊎◌, ◌≤◌, ℕ, zero, suc, List, [], ◌∷◌, ◌++◌, length, take, sym, ap, ◌∙◌, subst, inl, inr, refl, arith, length-append}
use Rattle.std.proofs.lemmas.List.{take-append-le}
use Rattle.limits.specs.Limits.{most_bytes}
use Rattle.tick_time.specs.declared.rates.Rate.{Rate}
use Rattle.text_lines.specs.Lines.{ended_lines, last_line}
use Rattle.text_lines.proofs.Pieces.{ended_more}
use Rattle.edl_text.specs.Statements.{Statement}
use Rattle.edl_text.specs.Lines.{HasFirstFault}
use Rattle.edl_text.specs.Lists.{IsEarlyFault, IsFault}
use Rattle.edl_text.specs.Reader.{HasRead}
use Rattle.edl_text.specs.declared.reader.EdlReader.{EdlReader}
use Rattle.edl_text.specs.declared.faults.EdlFault.{EdlFault}
use Rattle.edl_text.specs.declared.faults.EdlFault.TheVariants.{Memory}
use Rattle.source_files.specs.Faults.{list_fault_text}
use Rattle.source_files.specs.Formats.{IsCalmList, RefusesList}
use Rattle.source_files.specs.Reading.{IsRefused}
use Rattle.source_files.specs.declared.read_faults.Refusal.{Refusal}
use Rattle.source_files.specs.declared.read_faults.Refusal.TheVariants.{Broken, Memory as NoMemory}

-- the first fault of some lines is that of more lines
first_more : (rate : Rate) (past : List Statement) (lines more : List (List ℕ)) (fault : EdlFault)
    → HasFirstFault rate past lines fault → HasFirstFault rate past (lines ++ more) fault
first_more rate past [] more fault h = absurd h
first_more rate past (line ∷ lines) more fault (inl h) = inl h
first_more rate past (line ∷ lines) more fault (inr h) =
    inr (h.0, h.1, first_more rate (h.0 ∷ past) lines more fault h.2)

-- the most bytes of more bytes begin with those of the bytes
take_more : (n : ℕ) (a b : List ℕ) → (rest : List ℕ) × (take n (a ++ b) ≡ take n a ++ rest)
take_more zero a b = ([], refl)
take_more (suc n) [] b = (take (suc n) b, refl)
take_more (suc n) (x ∷ a) b = let r = take_more n a b in (r.0, ap (λ l. x ∷ l) r.1)

early_more : (rate : Rate) (front rest : List ℕ) (fault : EdlFault) → IsEarlyFault rate front fault
    → IsEarlyFault rate (front ++ rest) fault
early_more rate front rest fault (inl h) =
    let t = take_more most_bytes front rest in
    let e : ended_lines (take most_bytes (front ++ rest)) ≡ ended_lines (take most_bytes front)
    ++ ended_lines (last_line (take most_bytes front) ++ t.0) =
    ap ended_lines t.1 ∙ ended_more (take most_bytes front) t.0 in
    inl (subst (λ ls. HasFirstFault rate [] ls fault) (sym e) (first_more rate [] _ _ fault h))
early_more rate front rest fault (inr h) =
    let k : most_bytes ≤ length front = omega (arith, h.1.large) in
    inr (
      h.0,
      record {
        large = omega (arith, h.1.large, length-append front rest);
        past = h.1.past;
        sound = rw (take-append-le most_bytes front rest k) h.1.sound;
      },
    )

-- how a fault of all bytes is refused
pub fault_refused : (rate : Rate) (fault : EdlFault) (bytes : List ℕ) (refusal : Refusal)
    → (fault ≡ Memory) ⊎ IsFault rate bytes fault
    → IsRefused (λ why. (fault ≢ Memory) × (why ≡ list_fault_text fault)) refusal
    → IsRefused (RefusesList rate bytes) refusal
fault_refused rate fault bytes (Broken reason) (inl e) r = absurd (r.0 e)
fault_refused rate fault bytes (Broken reason) (inr h) r = (fault, h, r.1)
fault_refused rate fault bytes NoMemory h r = tt

front_fault : (rate : Rate) (fault : EdlFault) (front rest : List ℕ)
    → (fault ≡ Memory) ⊎ IsEarlyFault rate front fault
    → (fault ≡ Memory) ⊎ IsFault rate (front ++ rest) fault
front_fault rate fault front rest (inl e) = inl e
front_fault rate fault front rest (inr h) = inr (inl (early_more rate front rest fault h))

-- how a fault of what was taken is refused
pub front_refused : (rate : Rate) (fault : EdlFault) (front rest : List ℕ) (refusal : Refusal)
    → (fault ≡ Memory) ⊎ IsEarlyFault rate front fault
    → IsRefused (λ why. (fault ≢ Memory) × (why ≡ list_fault_text fault)) refusal
    → IsRefused (RefusesList rate (front ++ rest)) refusal
front_refused rate fault front rest refusal h r =
    fault_refused rate fault (front ++ rest) refusal (front_fault rate fault front rest h) r

-- what a reader was fed without a fault shows none
pub read_is_calm : (rate : Rate) (bytes : List ℕ) (reader : EdlReader) → HasRead rate bytes reader
    → length bytes ≤ most_bytes → IsCalmList rate bytes
read_is_calm rate bytes reader h few =
    record { few = few; said = h.past; sound = h.ended }
