-- Notes in the order of their events.
use Rattle.std.proofs.Common.{◌≡◌, ◌<◌, ◌+◌, ◌-◌, ◌==◌, cond, ℕ, zero, suc, Bool, true, false, Bor, Some, slice_get, All, List, [], ◌∷◌, ◌++◌, map, length, slice_index_or, filter, refl, sym, ap, subst, ◌∙◌, arith}
use Rattle.std.specs.Ordering.{nat_cmp}
use Rattle.std.specs.List.Sorted.{IsStableByKey}
use Rattle.std.proofs.lemmas.Bool.Decides.{nat_tests}
use Rattle.std.proofs.lemmas.List.Elements.{All-cons, All-filter, All-head, All-tail}
use Rattle.coord.proofs.Members.{same_some}
use Rattle.edl_list.specs.declared.list.Event.{Event}
use Rattle.edl_list.specs.declared.list.EventList.{EventList}
use Rattle.note_text.specs.Belonging.{does_count, own_notes, HaveSameOwn}
use Rattle.note_text.specs.Noted.{IsNoteFor, said_of}
use Rattle.note_text.specs.declared.notes.Said.{Said}
use Rattle.note_text.specs.declared.notes.Note.{Note}
use Rattle.note_text.proofs.KeyRuns.{run-kept_by_sort}
use Rattle.edl_notes.specs.Steps.{notes_at, said_by}

-- ---- the notes of an event

own_at : (index : ℕ) (bs : List (Bor Note)) → own_notes index (notes_at bs) ≡ notes_at (filter (λ (b : Bor Note). b.now.event == index) bs)
own_at index [] = refl
own_at index (b ∷ bs) = by (b.now.event == index) (own_at index bs)
  where
    by : (t : Bool) → own_notes index (notes_at bs) ≡ notes_at (filter (λ (b : Bor Note). b.now.event == index) bs)
        → cond t (b.now ∷ own_notes index (notes_at bs)) (own_notes index (notes_at bs))
        ≡ notes_at (cond t (b ∷ filter (λ (b : Bor Note). b.now.event == index) bs) (filter (λ (b : Bor Note). b.now.event == index) bs))
    by true h = ap (λ l. b.now ∷ l) h
    by false h = h

pub sorted_same : (notes : List Note) (order sorted : List (Bor Note)) → notes_at order ≡ notes → IsStableByKey (λ (b : Bor Note). b.now.event) nat_cmp order sorted → HaveSameOwn notes (notes_at sorted)
sorted_same notes order sorted is stable = λ index.
    own_at index sorted ∙ ap notes_at (run-kept_by_sort (λ (b : Bor Note). b.now.event) order sorted stable index) ∙ sym (own_at index order) ∙ ap (own_notes index) is

said_at : (bs : List (Bor Note)) → map (λ (n : Note). n.said) (notes_at bs) ≡ said_by bs
said_at [] = refl
said_at (b ∷ bs) = ap (λ l. b.now.said ∷ l) (said_at bs)

-- what the notes of an event say
pub own_said : (notes : List Note) (bs own : List (Bor Note)) (index : ℕ) → HaveSameOwn notes (notes_at bs) → own ≡ filter (λ (b : Bor Note). b.now.event == index) bs
    → said_by own ≡ said_of index notes
own_said notes bs own index same is =
    sym (said_at own) ∙ ap (λ l. map (λ (n : Note). n.said) l) (ap notes_at is ∙ sym (own_at index bs) ∙ same index)

pub notes_more : (xs : List (Bor Note)) (b : Bor Note) → notes_at (xs ++ b ∷ []) ≡ notes_at xs ++ b.now ∷ []
notes_more [] b = refl
notes_more (a ∷ xs) b = ap (λ l. a.now ∷ l) (notes_more xs b)

-- ---- the notes of an event count for it

is_event : (a b : ℕ) → (a == b) ≡ true → a ≡ b
is_event a b e = grind (arith, nat_tests, e)

counts_all : (list : EventList) (bs : List (Bor Note)) (index : ℕ) (e : Event) → slice_get list.events index ≡ Some e → All (IsNoteFor list) (notes_at bs)
    → All (λ said. does_count list.rate e said ≡ true) (said_by (filter (λ (b : Bor Note). b.now.event == index) bs))
counts_all list [] index e there h = λ i d l. absurd (omega (arith, l))
counts_all list (b ∷ bs) index e there h =
    by (b.now.event == index) refl (counts_all list bs index e there (All-tail (IsNoteFor list) b.now (notes_at bs) h))
  where
    P : Said → Type 0
    P said = does_count list.rate e said ≡ true

    one : b.now.event ≡ index → P b.now.said
    one k =
        let f = All-head (IsNoteFor list) b.now (notes_at bs) h in
        let same : f.event ≡ e = same_some f.event e (sym f.there ∙ ap (slice_get list.events) k ∙ there) in
        subst (λ x. does_count list.rate x b.now.said ≡ true) same f.counts

    by : (t : Bool) → (b.now.event == index) ≡ t → All P (said_by (filter (λ (b : Bor Note). b.now.event == index) bs))
        → All P (said_by (cond t (b ∷ filter (λ (b : Bor Note). b.now.event == index) bs) (filter (λ (b : Bor Note). b.now.event == index) bs)))
    by true f m = All-cons P b.now.said (said_by (filter (λ (b : Bor Note). b.now.event == index) bs)) (one (is_event b.now.event index f)) m
    by false f m = m

pub own_counts : (list : EventList) (bs own : List (Bor Note)) (index : ℕ) (e : Event) → slice_get list.events index ≡ Some e → All (IsNoteFor list) (notes_at bs) → own ≡ filter (λ (b : Bor Note). b.now.event == index) bs
    → All (λ said. does_count list.rate e said ≡ true) (said_by own)
own_counts list bs own index e there h is = subst (λ l. All (λ said. does_count list.rate e said ≡ true) (said_by l)) (sym is) (counts_all list bs index e there h)

-- so does one of them
pub one_counts : (P : Said → Type 0) (bs : List (Bor Note)) (i : ℕ) (b : Bor Note) → i < length bs → b ≡ slice_index_or bs i b → All P (said_by bs) → P b.now.said
one_counts P [] i b l is h = absurd (omega (arith, l))
one_counts P (x ∷ bs) zero b l is h = subst (λ (y : Bor Note). P y.now.said) (sym is) (All-head P x.now.said (said_by bs) h)
one_counts P (x ∷ bs) (suc i) b l is h = one_counts P bs i b (omega (arith, l)) is (All-tail P x.now.said (said_by bs) h)

-- what holds of the notes of each event holds of all
all_by_own : (P : Note → Type 0) (xs : List Note) → ((k : ℕ) → All P (own_notes k xs)) → All P xs
all_by_own P [] h = λ i d l. absurd (omega (arith, l))
all_by_own P (x ∷ xs) h = All-cons P x xs (head (x.event == x.event) refl (h x.event)) (all_by_own P xs (λ k. tail k (x.event == k) (h k)))
  where
    head : (t : Bool) → (x.event == x.event) ≡ t → All P (cond t (x ∷ own_notes x.event xs) (own_notes x.event xs)) → P x
    head true f m = All-head P x (own_notes x.event xs) m
    head false f m = absurd (grind (arith, nat_tests, f))

    tail : (k : ℕ) (t : Bool) → All P (cond t (x ∷ own_notes k xs) (own_notes k xs)) → All P (own_notes k xs)
    tail k true m = All-tail P x (own_notes k xs) m
    tail k false m = m

pub all_same : (P : Note → Type 0) (notes order : List Note) → HaveSameOwn notes order → All P notes → All P order
all_same P notes order same h = all_by_own P order (λ k. subst (All P) (sym (same k)) (All-filter (λ (n : Note). n.event == k) P notes h))
