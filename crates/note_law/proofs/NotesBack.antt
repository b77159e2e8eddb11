-- The notes that are heard in the text of a list with notes are its notes.
use Rattle.std.proofs.Common.{◌≡◌, ◌<◌, ◌≤◌, ◌+◌, ◌==◌, ◌⊎◌, inl, inr, ℕ, zero, suc, Bool, true, false, List, [], ◌∷◌, ◌++◌, Some, All, length, slice_get, refl, sym, ap, ap₂, subst, ◌∙◌, arith}
use Rattle.std.proofs.lemmas.Bool.Decides.{nat_tests}
use Rattle.std.proofs.lemmas.List.Elements.{All-head, All-tail, All-cons}
use Rattle.edl_law.proofs.OrderLemmas.{matched_length}
use Rattle.tick_time.specs.declared.rates.Rate.{Rate}
use Rattle.edl_list.specs.declared.list.Event.{Event}
use Rattle.edl_list.specs.declared.list.EventList.{EventList}
use Rattle.edl_frames.specs.Conformed.{is_black}
use Rattle.edl_law.proofs.EventMatches.{Matches}
use Rattle.edl_law.proofs.EventLists.{AreRising, AreMatched}
use Rattle.note_text.specs.Belonging.{does_count, notes_from, notes_said, own_notes}
use Rattle.note_text.specs.declared.notes.Said.{Said}
use Rattle.note_text.specs.declared.notes.Said.TheVariants.{Loc, Sop, Sat}
use Rattle.note_text.specs.declared.notes.Note.{Note}
use Rattle.note_text.specs.declared.notes.Heard.{Heard}
use Rattle.note_law.specs.Law.{AreInOrder, IsOwn}
use Rattle.note_law.proofs.NotedHeard.{heard_at, heard_by}

-- ---- one owner

equal_true : (n : ℕ) → (n == n) ≡ true
equal_true n = grind (arith, nat_tests)

less_false : (m n : ℕ) → m < n → (m == n) ≡ false
less_false m n h = grind (arith, nat_tests)

more_false : (m n : ℕ) → n < m → (m == n) ≡ false
more_false m n h = grind (arith, nat_tests)

skip : (rate : Rate) (index : ℕ) (e : Event) (events : List Event) (h : Heard) → (e.line == h.line) ≡ false → notes_from rate index (e ∷ events) h ≡ notes_from rate (suc index) events h
skip rate index e events h x = rw x refl

-- no event after that line has its notes
none_from : (rate : Rate) (events : List Event) (index low : ℕ) (h : Heard) → AreRising low events → h.line ≤ low → notes_from rate index events h ≡ []
none_from rate [] index low h rising at = refl
none_from rate (e ∷ events) index low h rising at =
    let behind = rising.0 in
    skip rate index e events h (more_false e.line h.line (omega (arith, at, behind))) ∙ none_from rate events (suc index) e.line h rising.1 (omega (arith, at, behind))

line_above : (events : List Event) (low k : ℕ) (r : Event) → AreRising low events → slice_get events k ≡ Some r → low < r.line
line_above [] low k r rising e = absurd (cc)
line_above (x ∷ events) low zero r rising e = let same : x ≡ r = cc in subst (λ z. low < z.line) same rising.0
line_above (x ∷ events) low (suc k) r rising e =
    let above = line_above events x.line k r rising.1 e in
    let first = rising.0 in
    omega (arith, above, first)

owned : (rate : Rate) (index : ℕ) (r : Event) (events : List Event) (said : Said) → is_black r.to.reel ≡ false → does_count rate r said ≡ true
    → notes_from rate index (r ∷ events) (record { line = r.line; said = said }) ≡ record { event = index; said = said } ∷ notes_from rate (suc index) events (record { line = r.line; said = said })
owned rate index r events said shown counts = rw (equal_true r.line, shown, counts) refl

-- the event at a place has the note of its line
found : (rate : Rate) (events : List Event) (index low k : ℕ) (r : Event) (said : Said) → AreRising low events → slice_get events k ≡ Some r → is_black r.to.reel ≡ false → does_count rate r said ≡ true
    → notes_from rate index events (record { line = r.line; said = said }) ≡ record { event = index + k; said = said } ∷ []
found rate [] index low k r said rising e shown counts = absurd (cc)
found rate (x ∷ events) index low zero r said rising e shown counts =
    let same : x ≡ r = cc in
    subst (λ z. notes_from rate index (z ∷ events) (record { line = r.line; said = said }) ≡ record { event = index + 0; said = said } ∷ []) (sym same)
    (owned rate index r events said shown counts ∙ ap₂ (λ i l. record { event = i; said = said } ∷ l) (omega arith)
    (none_from rate events (suc index) r.line (record { line = r.line; said = said }) (subst (λ z. AreRising z.line events) same rising.1) (omega arith)))
found rate (x ∷ events) index low (suc k) r said rising e shown counts =
    skip rate index x events (record { line = r.line; said = said }) (less_false x.line r.line (line_above events x.line k r rising.1 e))
    ∙ found rate events (suc index) x.line k r said rising.1 e shown counts ∙ ap (λ i. record { event = i; said = said } ∷ []) (omega arith)

-- ---- the notes of one event

none_more : (k : ℕ) → 0 + k ≡ k
none_more k = omega arith

same_note : (n : Note) (k : ℕ) → n.event ≡ k → record { event = k; said = n.said } ≡ n
same_note n k e = ap (λ i. record { event = i; said = n.said }) (sym e)

-- a note of the event at a place, which counts for the one that is read
record IsAt (rate : Rate) (k : ℕ) (r : Event) (n : Note) : Type 0 where
  pub at : n.event ≡ k
  pub counts : does_count rate r n.said ≡ true

notes_at : (rate : Rate) (all : List Event) (low k : ℕ) (r : Event) → AreRising low all → slice_get all k ≡ Some r → (notes : List Note) → is_black r.to.reel ≡ false
    → All (IsAt rate k r) notes → (others : List Heard) → notes_said rate all (heard_at r.line notes ++ others) ≡ notes ++ notes_said rate all others
notes_at rate all low k r rising e [] shown h others = refl
notes_at rate all low k r rising e (n ∷ notes) shown h others =
    let one = All-head (IsAt rate k r) n notes h in
    ap₂ (λ x y. x ++ y) (found rate all 0 low k r n.said rising e shown one.counts ∙ ap (λ i. record { event = i; said = n.said } ∷ []) (none_more k) ∙ ap (λ m. m ∷ []) (same_note n k one.at))
    (notes_at rate all low k r rising e notes shown (All-tail (IsAt rate k r) n notes h) others)

-- ---- the notes of all events

counts_same : (rate : Rate) (e r : Event) (said : Said) → Matches rate e r → does_count rate r said ≡ does_count rate e said
counts_same rate e r (Loc at color name) m = rw (m.rec_in, m.rec_out, m.src_in, m.speed) refl
counts_same rate e r (Sop slope offset power) m = refl
counts_same rate e r (Sat numeral) m = refl

black_same : (rate : Rate) (e r : Event) → Matches rate e r → is_black r.to.reel ≡ is_black e.to.reel
black_same rate e r m = ap is_black (sym m.reel)

-- all notes, event by event
abbrev all_own : ℕ → List Event → List Note → List Note
all_own index [] notes = []
all_own index (e ∷ events) notes = own_notes index notes ++ all_own (index + 1) events notes

apart : (m n : ℕ) → m ≤ n → (n == m) ≡ false → m < n
apart m n h e = grind (arith, nat_tests)

equal_of : (m n : ℕ) → (m == n) ≡ true → m ≡ n
equal_of m n h = grind (arith, nat_tests)

same_event : (list : EventList) (e : Event) (index : ℕ) (n : Note) → slice_get list.events index ≡ Some e → (o : IsOwn list n) → n.event ≡ index → o.event ≡ e
same_event list e index n there o at = let k : Some o.event ≡ Some e = sym o.there ∙ ap (slice_get list.events) at ∙ there in cc

at_by : (list : EventList) (e r : Event) (index : ℕ) (n : Note) (notes : List Note) (t : Bool) → (n.event == index) ≡ t → slice_get list.events index ≡ Some e → Matches list.rate e r → IsOwn list n
    → All (IsAt list.rate index r) (own_notes index notes) → All (IsAt list.rate index r) (own_notes index (n ∷ notes))
at_by list e r index n notes true x there m o more =
    let at = equal_of n.event index x in
    let same = same_event list e index n there o at in
    rw x (All-cons (IsAt list.rate index r) n (own_notes index notes)
    (record { at = at; counts = counts_same list.rate e r n.said m ∙ ap (λ z. does_count list.rate z n.said) (sym same) ∙ o.counts }) more)
at_by list e r index n notes false x there m o more = rw x more

shown_by : (list : EventList) (e : Event) (index : ℕ) (n : Note) (notes : List Note) (t : Bool) → (n.event == index) ≡ t → slice_get list.events index ≡ Some e → IsOwn list n
    → (own_notes index notes ≡ []) ⊎ (is_black e.to.reel ≡ false) → (own_notes index (n ∷ notes) ≡ []) ⊎ (is_black e.to.reel ≡ false)
shown_by list e index n notes true x there o more = inr (ap (λ z. is_black z.to.reel) (sym (same_event list e index n there o (equal_of n.event index x))) ∙ o.shown)
shown_by list e index n notes false x there o more = rw x more

-- where an event isn't black its notes are at it
own_at : (list : EventList) (e r : Event) (index : ℕ) (notes : List Note) → slice_get list.events index ≡ Some e → Matches list.rate e r → All (IsOwn list) notes → All (IsAt list.rate index r) (own_notes index notes)
own_at list e r index [] there m h = λ k d x. absurd (omega arith)
own_at list e r index (n ∷ notes) there m h =
    at_by list e r index n notes (n.event == index) refl there m (All-head (IsOwn list) n notes h) (own_at list e r index notes there m (All-tail (IsOwn list) n notes h))

-- an event with a note isn't black
own_shown : (list : EventList) (e : Event) (index : ℕ) (notes : List Note) → slice_get list.events index ≡ Some e → All (IsOwn list) notes → (own_notes index notes ≡ []) ⊎ (is_black e.to.reel ≡ false)
own_shown list e index [] there h = inl refl
own_shown list e index (n ∷ notes) there h =
    shown_by list e index n notes (n.event == index) refl there (All-head (IsOwn list) n notes h) (own_shown list e index notes there (All-tail (IsOwn list) n notes h))

one_by : (list : EventList) (all : List Event) (low index : ℕ) (e r : Event) (notes : List Note) → AreRising low all → slice_get all index ≡ Some r → slice_get list.events index ≡ Some e → Matches list.rate e r
    → All (IsOwn list) notes → (others : List Heard) → (own_notes index notes ≡ []) ⊎ (is_black e.to.reel ≡ false)
    → notes_said list.rate all (heard_at r.line (own_notes index notes) ++ others) ≡ own_notes index notes ++ notes_said list.rate all others
one_by list all low index e r notes rising read there m h others (inl none) = rw none refl
one_by list all low index e r notes rising read there m h others (inr shown) =
    notes_at list.rate all low index r rising read (own_notes index notes) (black_same list.rate e r m ∙ shown) (own_at list e r index notes there m h) others

-- the notes of one event, which may have none
one_event : (list : EventList) (all : List Event) (low index : ℕ) (e r : Event) (notes : List Note) → AreRising low all → slice_get all index ≡ Some r → slice_get list.events index ≡ Some e → Matches list.rate e r
    → All (IsOwn list) notes → (others : List Heard) → notes_said list.rate all (heard_at r.line (own_notes index notes) ++ others) ≡ own_notes index notes ++ notes_said list.rate all others
one_event list all low index e r notes rising read there m h others = one_by list all low index e r notes rising read there m h others (own_shown list e index notes there h)

-- what is heard of all events, from the one at a place on
heard_back : (list : EventList) (all : List Event) (low : ℕ) (notes : List Note) → AreRising low all → All (IsOwn list) notes → (index : ℕ) (events reads : List Event) → AreMatched list.rate events reads
    → ((k : ℕ) → slice_get list.events (index + k) ≡ slice_get events k) → ((k : ℕ) → slice_get all (index + k) ≡ slice_get reads k)
    → notes_said list.rate all (heard_by index reads notes) ≡ all_own index reads notes
heard_back list all low notes rising h index [] [] m from to = refl
heard_back list all low notes rising h index [] (r ∷ reads) m from to = absurd m
heard_back list all low notes rising h index (e ∷ events) [] m from to = absurd m
heard_back list all low notes rising h index (e ∷ events) (r ∷ reads) m from to =
    one_event list all low index e r notes rising (ap (slice_get all) (omega arith) ∙ to 0) (ap (slice_get list.events) (omega arith) ∙ from 0) m.0 h (heard_by (index + 1) reads notes)
    ∙ ap (λ l. own_notes index notes ++ l) (heard_back list all low notes rising h (index + 1) events reads m.1
    (λ k. ap (slice_get list.events) (omega arith) ∙ from (suc k)) (λ k. ap (slice_get all) (omega arith) ∙ to (suc k)))

-- ---- notes in order

own_skip : (index : ℕ) (n : Note) (notes : List Note) → (n.event == index) ≡ false → own_notes index (n ∷ notes) ≡ own_notes index notes
own_skip index n notes e = rw e refl

own_take : (index : ℕ) (n : Note) (notes : List Note) → (n.event == index) ≡ true → own_notes index (n ∷ notes) ≡ n ∷ own_notes index notes
own_take index n notes e = rw e refl

-- no note after a place is of it
own_none : (index low high : ℕ) (notes : List Note) → index < low → AreInOrder low high notes → own_notes index notes ≡ []
own_none index low high [] h o = refl
own_none index low high (n ∷ notes) h o =
    let first = o.0 in
    own_skip index n notes (more_false n.event index (omega (arith, h, first))) ∙ own_none index n.event high notes (omega (arith, h, first)) o.2

-- a note at the first place stands before all others
all_take : (reads : List Event) (index : ℕ) (n : Note) (notes : List Note) → n.event < index → all_own index reads (n ∷ notes) ≡ all_own index reads notes
all_take [] index n notes h = refl
all_take (r ∷ reads) index n notes h =
    ap₂ (λ x y. x ++ y) (own_skip index n notes (less_false n.event index h)) (all_take reads (index + 1) n notes (omega (arith, h)))

-- other bounds of notes in order
order_high : (low high other : ℕ) (notes : List Note) → high ≡ other → AreInOrder low high notes → AreInOrder low other notes
order_high low high other notes e o = subst (λ z. AreInOrder low z notes) e o

first_by : (r : Event) (reads : List Event) (index : ℕ) (n : Note) (notes : List Note) (t : Bool) → (n.event == index) ≡ t → ((ns : List Note) → AreInOrder (index + 1) (index + 1 + length reads) ns → all_own (index + 1) reads ns ≡ ns)
    → AreInOrder index (index + suc (length reads)) (n ∷ notes) → (n.event ≡ index → own_notes index notes ++ all_own (index + 1) reads notes ≡ notes)
    → own_notes index (n ∷ notes) ++ all_own (index + 1) reads (n ∷ notes) ≡ n ∷ notes
first_by r reads index n notes true e rest o more =
    let at = equal_of n.event index e in
    ap₂ (λ x y. x ++ y) (own_take index n notes e) (all_take reads (index + 1) n notes (omega (arith, at))) ∙ ap (λ l. n ∷ l) (more at)
first_by r reads index n notes false e rest o more =
    let low = o.0 in
    let above : index < n.event = apart index n.event low e in
    let here : AreInOrder (index + 1) (index + 1 + length reads) (n ∷ notes) =
    (omega (arith, above), (let high = o.1 in omega (arith, high)), order_high n.event (index + suc (length reads)) (index + 1 + length reads) notes (omega arith) o.2) in
    ap₂ (λ x y. x ++ y) (own_none index (index + 1) (index + 1 + length reads) (n ∷ notes) (omega arith) here) (rest (n ∷ notes) here)

-- the notes of the first event stand before all others
first_back : (r : Event) (reads : List Event) (index : ℕ) → ((ns : List Note) → AreInOrder (index + 1) (index + 1 + length reads) ns → all_own (index + 1) reads ns ≡ ns)
    → (notes : List Note) → AreInOrder index (index + suc (length reads)) notes → own_notes index notes ++ all_own (index + 1) reads notes ≡ notes
first_back r reads index rest [] o = rest [] tt
first_back r reads index rest (n ∷ notes) o =
    first_by r reads index n notes (n.event == index) refl rest o (λ at. first_back r reads index rest notes (subst (λ z. AreInOrder z (index + suc (length reads)) notes) at o.2))

-- notes in order are those of the events one after another
all_back : (reads : List Event) (index : ℕ) (notes : List Note) → AreInOrder index (index + length reads) notes → all_own index reads notes ≡ notes
all_back [] index [] o = refl
all_back [] index (n ∷ notes) o = let low = o.0 in let high = o.1 in absurd (omega (arith, low, high))
all_back (r ∷ reads) index notes o = first_back r reads index (all_back reads (index + 1)) notes o

-- the notes that are heard are the notes
pub notes_back : (list : EventList) (reads : List Event) (low : ℕ) (notes : List Note) → AreRising low reads → AreMatched list.rate list.events reads → AreInOrder 0 (length list.events) notes → All (IsOwn list) notes
    → notes_said list.rate reads (heard_by 0 reads notes) ≡ notes
notes_back list reads low notes rising m order h =
    heard_back list reads low notes rising h 0 list.events reads m (λ k. ap (slice_get list.events) (none_more k)) (λ k. ap (slice_get reads) (none_more k))
    ∙ all_back reads 0 notes (subst (λ z. AreInOrder 0 z notes) (matched_length list.rate list.events reads m ∙ sym (none_more (length reads))) order)
