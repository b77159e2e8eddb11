-- The fault of the front of a JSON text is that of the text.
use Rattle.std.proofs.Common.{◌≡◌, ◌≢◌, ◌<◌, ◌≤◌, ◌+◌, ℕ, List, ◌++◌, Result, Ok, Err, IfOk, length, inl, refl, arith, length-append}
use Rattle.std.proofs.lemmas.List.{take-append-le}
use Rattle.limits.specs.Limits.{most_bytes}
use Rattle.json_value.specs.declared.Json.{Json}
use Rattle.json_text.specs.Faults.{Names, IsFault, IsDeadAt, BreaksUtf8, BreaksGrammar}
use Rattle.json_text.specs.Grammar.{text_of}
use Rattle.json_text.specs.declared.faults.JsonFault.{JsonFault}
use Rattle.json_text.specs.declared.faults.JsonFault.TheVariants.{Syntax, Utf8, Depth, Large, Memory}
use Rattle.source_files.specs.Faults.{json_fault_text}
use Rattle.source_files.specs.Formats.{RefusesJson}
use Rattle.source_files.specs.Reading.{IsRefused}
use Rattle.source_files.specs.declared.read_faults.Refusal.{Refusal}
use Rattle.source_files.specs.declared.read_faults.Refusal.TheVariants.{Broken, Memory as NoMemory}
use Rattle.source_files.specs.declared.read_faults.ReadFault.{ReadFault}

dead_more : (n : ℕ) (front rest : List ℕ) → IsDeadAt n front → IsDeadAt n (front ++ rest)
dead_more n front rest d =
    let h : n ≤ length front = omega (arith, d.within) in
    let k : n + 1 ≤ length front = omega (arith, d.within) in
    record {
      within = omega (arith, d.within, length-append front rest);
      live = rw (take-append-le n front rest h) d.live;
      dead = rw (take-append-le (n + 1) front rest k) d.dead;
    }

breaks_less : (n : ℕ) (front rest : List ℕ) → n < length front → BreaksUtf8 n (front ++ rest)
    → BreaksUtf8 n front
breaks_less n front rest w b =
    let h : n ≤ length front = omega (arith, w) in
    let k : n + 1 ≤ length front = omega (arith, w) in
    record {
      inside = rw (take-append-le n front rest h) at b.inside;
      breaks =
          rw (take-append-le (n + 1) front rest k) at b.breaks;
    }

breaks_more : (n : ℕ) (front rest : List ℕ) → n < length front → BreaksUtf8 n front
    → BreaksUtf8 n (front ++ rest)
breaks_more n front rest w b =
    let h : n ≤ length front = omega (arith, w) in
    let k : n + 1 ≤ length front = omega (arith, w) in
    record {
      inside = rw (take-append-le n front rest h) b.inside;
      breaks =
          rw (take-append-le (n + 1) front rest k) b.breaks;
    }

grammar_more : (n : ℕ) (front rest : List ℕ) → BreaksGrammar n front
    → BreaksGrammar n (front ++ rest)
grammar_more n front rest g =
    let k : n + 1 ≤ length front = omega (arith, g.dead.within) in
    record {
      dead = dead_more n front rest g.dead;
      utf8 = λ b. g.utf8 (breaks_less n front rest g.dead.within b);
      depth = λ d. g.depth (rw (take-append-le (n + 1) front rest k) at d);
    }

fault_more : (fault : JsonFault) (front rest : List ℕ) → Names fault front → fault ≢ Memory
    → IsFault fault (front ++ rest)
fault_more (Syntax n) front rest h m = inl (grammar_more n front rest h.0, h.1)
fault_more (Utf8 n) front rest h m =
    (dead_more n front rest h.0, breaks_more n front rest h.0.within h.1, h.2)
fault_more (Depth n) front rest h m =
    let k : n + 1 ≤ length front = omega (arith, h.0.within) in
    (dead_more n front rest h.0, rw (take-append-le (n + 1) front rest k) h.1, h.2)
fault_more Large front rest h m =
    let k : most_bytes ≤ length front = omega (arith, h.0) in
    (omega (arith, h.0, length-append front rest), rw (take-append-le most_bytes front rest k) h.1)
fault_more Memory front rest h m = absurd (m refl)

-- how the fault of what was taken is refused
pub front_refused : (fault : JsonFault) (front rest : List ℕ) (refusal : Refusal)
    → Names fault front
    → IsRefused (λ why. (fault ≢ Memory) × (why ≡ json_fault_text fault)) refusal
    → IsRefused (RefusesJson (front ++ rest)) refusal
front_refused fault front rest (Broken reason) h r = (fault, fault_more fault front rest h r.0, r.1)
front_refused fault front rest NoMemory h r = tt

-- how the fault of all bytes is refused
pub fault_refused : (fault : JsonFault) (bytes : List ℕ) (refusal : Refusal)
    → (fault ≢ Memory → IsFault fault bytes)
    → IsRefused (λ why. (fault ≢ Memory) × (why ≡ json_fault_text fault)) refusal
    → IsRefused (RefusesJson bytes) refusal
fault_refused fault bytes (Broken reason) h r = (fault, h r.0, r.1)
fault_refused fault bytes NoMemory h r = tt

-- what was read of the bytes that were fed is what some bytes stand for
pub with_bytes : (bytes : List ℕ) (result : Result Json ReadFault)
    → IfOk result (λ value. text_of bytes value)
    → IfOk result (λ value. (text : List ℕ) × text_of text value)
with_bytes bytes (Ok value) h = (bytes, h)
with_bytes bytes (Err e) h = tt
