-- Lines of frames that are sent in parts.
use Rattle.std.proofs.Common.{◌≡◌, ℕ, zero, suc, ◌+◌, ◌-◌, ◌≤◌, ℤ, pos, ◌+ℤ◌, List, [], ◌++◌, Option, Some, None, true, false, Bool, refl, ap, sym, ◌∙◌, append_assoc, length, subst, arith}
use Rattle.std.specs.Prelude.{◌<◌, Contains, Err}
use Rattle.std.specs.List.{range_with_len}
use Rattle.std.proofs.lemmas.List.FromFn.{get_or-range_with_len, length-range_with_len}
use Rattle.std.proofs.lemmas.Int.{ints}
use Rattle.std.proofs.lemmas.List.Concat.{flat_map-cons}
use Rattle.otio_model.specs.declared.timelines.Timeline.{Timeline}
use Rattle.dev_io.specs.Known.{KnownOut}
use Rattle.dev_io.specs.Calls.{Tells, Adds, AddsPrefix}
use Rattle.dev_io.specs.Buffer.{Standing, Puts}
use Rattle.dev_io.specs.OutputCauses.{HasOutputCause, IsOutputCause}
use Rattle.dev_io.specs.declared.output_faults.OutputFault.{OutputFault}
use Rattle.dev_io.specs.declared.output_faults.OutputFault.TheVariants.{Sink, Memory}
use Rattle.dev_io.proofs.BufferLemmas.{at, from_empty}
use Rattle.dev_io.proofs.SendingLemmas.{adds_more, prefix_more}
use Rattle.show_prog.specs.Rows.{ListsMix, RowsMix, ShowsMix, rows, lines_at, children_listed, listing_text}
use Rattle.show_prog.specs.declared.frame_range.Listing.{Listing}
use Rattle.otio_model.specs.Trees.{items_of}
use Rattle.show_prog.specs.Handing.{PutsFront}
use Rattle.show_prog.proofs.Pieces.{pieces, pieces_split}

-- frames counted from a later one
counted_on : (g : ℤ → List ℕ) (from : ℤ) (m k n : ℕ) → pieces (λ (i : ℕ). g (from +ℤ pos i)) (m + k) n ≡ pieces (λ (i : ℕ). g ((from +ℤ pos m) +ℤ pos i)) k n
counted_on g from m k zero = refl
counted_on g from m k (suc n) =
    let here : from +ℤ pos (m + k) ≡ (from +ℤ pos m) +ℤ pos k = omega (arith, ints) in
    let next : (m + k) + 1 ≡ m + (k + 1) = omega arith in
    flat_map-cons (λ (i : ℕ). g (from +ℤ pos i)) (m + k) (range_with_len ((m + k) + 1) n)
    ∙ ap (λ (z : ℤ). g z ++ pieces (λ (i : ℕ). g (from +ℤ pos i)) ((m + k) + 1) n) here
    ∙ ap (λ (l : List ℕ). g ((from +ℤ pos m) +ℤ pos k) ++ l) (ap (λ (j : ℕ). pieces (λ (i : ℕ). g (from +ℤ pos i)) j n) next ∙ counted_on g from m (k + 1) n)
    ∙ sym (flat_map-cons (λ (i : ℕ). g ((from +ℤ pos m) +ℤ pos i)) k (range_with_len (k + 1) n))

-- the lines of some frames and of those behind them
pub rows_split : (t : Timeline) (ks : List ℕ) (from : ℤ) (m n : ℕ) → rows t ks from (m + n) ≡ rows t ks from m ++ rows t ks (from +ℤ pos m) n
rows_split t ks from m n =
    let e : zero + m ≡ m + zero = omega arith in
    pieces_split (λ (i : ℕ). lines_at t ks (from +ℤ pos i)) 0 m n
    ∙ ap (λ (l : List ℕ). rows t ks from m ++ l) (ap (λ (j : ℕ). pieces (λ (i : ℕ). lines_at t ks (from +ℤ pos i)) j n) e ∙ counted_on (lines_at t ks) from m 0 n)

-- the lines of more frames were sent
pub sent_more : (a b c : Option KnownOut) (t : Timeline) (ks : List ℕ) (from next : ℤ) (m n : ℕ) → next ≡ from +ℤ pos m
    → Tells (Adds (rows t ks from m)) a b → Tells (Adds (rows t ks next n)) b c → Tells (Adds (rows t ks from (m + n))) a c
sent_more a b c t ks from next m n e p q =
    let whole : rows t ks from (m + n) ≡ rows t ks from m ++ rows t ks next n = rows_split t ks from m n ∙ ap (λ (z : ℤ). rows t ks from m ++ rows t ks z n) (sym e) in
    subst (λ (l : List ℕ). Tells (Adds l) a c) (sym whole) (adds_more a b c (rows t ks from m) (rows t ks next n) p q)

-- a prefix of the lines of more frames was sent
pub sent_cut : (a b c : Option KnownOut) (t : Timeline) (ks : List ℕ) (from next : ℤ) (m n all : ℕ) → next ≡ from +ℤ pos m → m + n ≤ all
    → Tells (Adds (rows t ks from m)) a b → Tells (AddsPrefix (rows t ks next n)) b c → Tells (AddsPrefix (rows t ks from all)) a c
sent_cut a b c t ks from next m n all e few p q =
    let k : all ≡ m + (n + (all - (m + n))) = omega arith in
    let whole : rows t ks from all ≡ rows t ks from m ++ (rows t ks next n ++ rows t ks (next +ℤ pos n) (all - (m + n))) =
    ap (rows t ks from) k ∙ rows_split t ks from m (n + (all - (m + n))) ∙ ap (λ (l : List ℕ). rows t ks from m ++ l) (ap (λ (z : ℤ). rows t ks z (n + (all - (m + n)))) (sym e) ∙ rows_split t ks next n (all - (m + n))) in
    prefix_more a b c (rows t ks from m) (rows t ks next n) (rows t ks (next +ℤ pos n) (all - (m + n))) (rows t ks from all) whole p q

told_in : (k l : Option KnownOut) (d e : ℕ) (h : List ℕ) (s : Bool) (front rest text : List ℕ) → text ≡ front ++ rest → Puts (at k d [] false) (at l e h s) front → Tells (AddsPrefix text) k l
told_in None l d e h s front rest text w p = tt
told_in (Some a) None d e h true front rest text w p = absurd p.goes.1
told_in (Some a) None d e h false front rest text w p = absurd p.goes
told_in (Some a) (Some b) d e h true front rest text w p =
    let q = p.goes.1 in (q.0, q.1 ++ rest, w ∙ ap (λ (l : List ℕ). l ++ rest) q.2 ∙ append_assoc q.0 q.1 rest, q.3)
told_in (Some a) (Some b) d e h false front rest text w p =
    let q = p.goes in (q.0, h ++ rest, w ∙ ap (λ (l : List ℕ). l ++ rest) q.1 ∙ append_assoc q.0 h rest, q.2)

-- where the front of a text was handed over to an empty buffer, a prefix of the text was sent, whether or not a flush comes
pub front_told : {a b : Standing} {text : List ℕ} → a.held ≡ [] → a.failed ≡ false → PutsFront a b text → Tells (AddsPrefix text) a.known b.known
front_told {a} {b} {text} none sound p =
    told_in a.known b.known a.faults b.faults b.held b.failed p.front p.rest text p.whole (from_empty none sound p.put)

-- all lines of a listing were sent
pub sent_listed : (a b : Option KnownOut) (t : Timeline) (l : Listing) (ks : List ℕ) (m : ℕ) → ks ≡ children_listed l.child (length (items_of t.tracks.children)) → m ≡ l.count
    → Tells (Adds (rows t ks l.from m)) a b → Tells (Adds (listing_text t l)) a b
sent_listed a b t l ks m e k p = subst (λ (js : List ℕ). Tells (Adds (rows t js l.from l.count)) a b) e (subst (λ (n : ℕ). Tells (Adds (rows t ks l.from n)) a b) k p)

-- a prefix of them was sent
pub cut_listed : (a b : Option KnownOut) (t : Timeline) (l : Listing) (ks : List ℕ) → ks ≡ children_listed l.child (length (items_of t.tracks.children))
    → Tells (AddsPrefix (rows t ks l.from l.count)) a b → Tells (AddsPrefix (listing_text t l)) a b
cut_listed a b t l ks e p = subst (λ (js : List ℕ). Tells (AddsPrefix (rows t js l.from l.count)) a b) e p

-- a child of those that follow one another is one of them
pub child_listed : (first count child : ℕ) → first ≤ child → child < first + count
    → Contains (range_with_len first count) child
child_listed first count child low high =
    let len = length-range_with_len first count in
    let within : child - first < length (range_with_len first count) = omega (arith, len, low, high)
    in
    let sum : first + (child - first) ≡ child = omega (arith, low) in (
      child - first,
      within,
      get_or-range_with_len first count (child - first) child (omega (arith, low, high)) ∙ sum,
    )

-- the cause of a fault, from an earlier count of faults on
pub cause_later : {T : Type 0} {may : Type 0} (a b c : ℕ) (f : OutputFault) → a ≤ b
    → HasOutputCause {T = T} may b c (Err f) → HasOutputCause {T = T} (Unit {0}) a c (Err f)
cause_later a b c Sink early h =
    record { later = omega (arith, early, h.later); failed = omega (arith, early, h.failed) }
cause_later a b c Memory early h = record { later = omega (arith, early, h.later); failed = tt }

-- where memory ran out among some frames, a row of the listing shows a mix
pub mix_listed : {T : Type 0} {b c : ℕ} (t : Timeline) (l : Listing) (ks : List ℕ) (next : ℤ)
    (m n : ℕ) (f : OutputFault) → ks ≡ children_listed l.child (length (items_of t.tracks.children))
    → next ≡ l.from +ℤ pos m → m + n ≤ l.count → f ≡ Memory
    → HasOutputCause {T = T} (RowsMix t ks next n) b c (Err f) → ListsMix t l
mix_listed {b = b} {c = c} t l ks next m n f e from few memory h =
    let s : RowsMix t ks next n =
    subst (IsOutputCause (RowsMix t ks next n) b c) memory h.failed in
    let at : next +ℤ pos s.after ≡ l.from +ℤ pos (m + s.after) = omega (arith, ints, from) in
    let within : m + s.after < l.count = omega (arith, few, s.within) in
    subst (λ js. RowsMix t js l.from l.count) e (record {
      after = m + s.after;
      within = within;
      shows = subst (ShowsMix t ks) at s.shows;
    })
