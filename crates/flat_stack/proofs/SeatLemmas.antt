-- The tracks of all inputs, each once.
use Rattle.std.proofs.Common.{◌≡◌, refl, sym, ap, ap₂, ◌∙◌, ℕ, zero, suc, ◌+◌, ◌<◌, ◌&&◌, Bool, true, false, cond, Some, None, List, [], ◌∷◌, ◌++◌, length, take, drop, append_assoc, arith}
use Rattle.std.specs.Prelude.{filter, slice_get, is_none}
use Rattle.std.proofs.lemmas.List.{map-append, append-nil}
use Rattle.otio_model.specs.declared.compositions.ItemOf.{ItemOf}
use Rattle.otio_model.specs.declared.compositions.Listed.{Listed}
use Rattle.flat.specs.Joined.{Slot, is_new, slots, slots_in, track_of}
use Rattle.flat_stack.proofs.CopyLemmas.{taken_more}
use Rattle.flat_stack.specs.declared.inputs.Part.{Part}
use Rattle.flat_stack.specs.declared.inputs.Seat.{Seat}
use Rattle.flat_stack.specs.Inputs.{list_of, lists_of, slot_of, slots_of}

-- ---- whether a seat is new

new_append : (a : List (List (ItemOf Listed))) (l : List (ItemOf Listed)) (s : Slot)
    → is_new a s ≡ true → track_of s.kind s.index l ≡ None → is_new (a ++ l ∷ []) s ≡ true
new_append [] l s e f = rw f refl
new_append (m ∷ a) l s e f =
    both (is_none (track_of s.kind s.index m)) e (λ g. new_append a l s g f)
  where
    both : (b : Bool) → (b && is_new a s) ≡ true
        → (is_new a s ≡ true → is_new (a ++ l ∷ []) s ≡ true) → (b && is_new (a ++ l ∷ []) s) ≡ true
    both true g h = h g
    both false g h = g

pub lists_more : (ps : List Part) (i : ℕ) (p : Part) → slice_get ps i ≡ Some p
    → take (i + 1) (lists_of ps) ≡ take i (lists_of ps) ++ list_of p ∷ []
lists_more ps i p e = taken_more (lists_of ps) i (list_of p) (got ps i p e)
  where
    got : (ps : List Part) (i : ℕ) (p : Part) → slice_get ps i ≡ Some p
        → slice_get (lists_of ps) i ≡ Some (list_of p)
    got [] i p e = absurd (cc e)
    got (q ∷ ps) zero p e = let is : q ≡ p = cc e in ap (λ (z : Part). Some (list_of z)) is
    got (q ∷ ps) (suc i) p e = got ps i p e

pub new_more : (ps : List Part) (i : ℕ) (p : Part) (s : Slot) → slice_get ps i ≡ Some p
    → None ≡ track_of s.kind s.index (list_of p) → is_new (take i (lists_of ps)) s ≡ true
    → is_new (take (i + 1) (lists_of ps)) s ≡ true
new_more ps i p s e f h =
    ap (λ z. is_new z s) (lists_more ps i p e)
    ∙ new_append (take i (lists_of ps)) (list_of p) s h (sym f)

pub not_new : (ps : List Part) (i n : ℕ) (p : Part) (s : Slot) (x : ItemOf Listed) → i < n
    → slice_get ps i ≡ Some p → Some x ≡ track_of s.kind s.index (list_of p)
    → false ≡ is_new (take n (lists_of ps)) s
not_new [] i n p s x h e f = absurd (cc e)
not_new (q ∷ ps) i zero p s x h e f = absurd (omega (arith, h))
not_new (q ∷ ps) zero (suc n) p s x h e f =
    let is : q ≡ p = cc e in
    ap (λ o. is_none o && is_new (take n (lists_of ps)) s) (f ∙ ap (λ (z : Part). track_of s.kind s.index (list_of z)) (sym is))
not_new (q ∷ ps) (suc i) (suc n) p s x h e f =
    later (is_none (track_of s.kind s.index (list_of q))) (not_new ps i n p s x (omega (arith, h)) e f)
  where
    later : (b : Bool) → false ≡ is_new (take n (lists_of ps)) s
        → false ≡ (b && is_new (take n (lists_of ps)) s)
    later true k = k
    later false k = refl

-- ---- the seats of one input that are new

-- so many are looked at
abbrev pub AreAdded : (Slot → Bool) → List Seat → List Seat → List Seat → ℕ → Type 0
AreAdded test old now seats i = slots_of now ++ filter test (slots_of (drop i seats))
    ≡ slots_of old ++ filter test (slots_of seats)

pub seat_taken : (test : Slot → Bool) (old now more seats : List Seat) (i : ℕ) (s : Seat) (b : Bool)
    → AreAdded test old now seats i → drop i seats ≡ s ∷ drop (i + 1) seats
    → b ≡ test (slot_of s) → b ≡ true → more ≡ now ++ s ∷ [] → AreAdded test old more seats (i + 1)
seat_taken test old now more seats i s b a e f g n =
    let t : test (slot_of s) ≡ true = sym f ∙ g in
    ap (λ z. slots_of z ++ filter test (slots_of (drop (i + 1) seats))) n
    ∙ ap (λ z. z ++ filter test (slots_of (drop (i + 1) seats))) (map-append slot_of now (s ∷ []))
    ∙ append_assoc (slots_of now) (slot_of s ∷ []) (filter test (slots_of (drop (i + 1) seats)))
    ∙ ap (λ c. slots_of now ++ cond c (slot_of s ∷ filter test (slots_of (drop (i + 1) seats))) (filter test (slots_of (drop (i + 1) seats)))) (sym t)
    ∙ ap (λ z. slots_of now ++ filter test (slots_of z)) (sym e) ∙ a

pub seat_passed : (test : Slot → Bool) (old now more seats : List Seat) (i : ℕ) (s : Seat) (b : Bool)
    → AreAdded test old now seats i → drop i seats ≡ s ∷ drop (i + 1) seats
    → b ≡ test (slot_of s) → b ≡ false → more ≡ now → AreAdded test old more seats (i + 1)
seat_passed test old now more seats i s b a e f g n =
    let t : test (slot_of s) ≡ false = sym f ∙ g in
    ap (λ z. slots_of z ++ filter test (slots_of (drop (i + 1) seats))) n
    ∙ ap (λ c. slots_of now ++ cond c (slot_of s ∷ filter test (slots_of (drop (i + 1) seats))) (filter test (slots_of (drop (i + 1) seats)))) (sym t)
    ∙ ap (λ z. slots_of now ++ filter test (slots_of z)) (sym e) ∙ a

pub seats_end : (test : Slot → Bool) (old now seats : List Seat) (i : ℕ)
    → AreAdded test old now seats i → drop i seats ≡ []
    → slots_of now ≡ slots_of old ++ filter test (slots_of seats)
seats_end test old now seats i a e =
    sym (append-nil (slots_of now)) ∙ ap (λ z. slots_of now ++ filter test (slots_of z)) (sym e) ∙ a

-- ---- those of all inputs

abbrev pub AreAll : List Seat → List Part → ℕ → Type 0
AreAll now ps i = slots_of now ++ slots (take i (lists_of ps)) (lists_of (drop i ps))
    ≡ slots [] (lists_of ps)

pub all_more : (now more : List Seat) (ps : List Part) (i : ℕ) (p : Part) → AreAll now ps i
    → slice_get ps i ≡ Some p → drop i ps ≡ p ∷ drop (i + 1) ps
    → slots_of p.seats.items ≡ slots_in [] (list_of p)
    → slots_of more ≡ slots_of now ++ filter (is_new (take i (lists_of ps))) (slots_of p.seats.items)
    → AreAll more ps (i + 1)
all_more now more ps i p a e f g n =
    let earlier = take i (lists_of ps) in
    ap (λ z. z ++ slots (take (i + 1) (lists_of ps)) (lists_of (drop (i + 1) ps))) n
    ∙ append_assoc (slots_of now) (filter (is_new earlier) (slots_of p.seats.items)) (slots (take (i + 1) (lists_of ps)) (lists_of (drop (i + 1) ps)))
    ∙ ap₂ (λ a b. slots_of now ++ (filter (is_new earlier) a ++ slots b (lists_of (drop (i + 1) ps)))) g (lists_more ps i p e)
    ∙ ap (λ z. slots_of now ++ slots earlier (lists_of z)) (sym f) ∙ a

pub all_end : (now : List Seat) (ps : List Part) (i : ℕ) → AreAll now ps i → drop i ps ≡ []
    → slots_of now ≡ slots [] (lists_of ps)
all_end now ps i a e =
    sym (append-nil (slots_of now)) ∙ ap (λ z. slots_of now ++ slots (take i (lists_of ps)) (lists_of z)) (sym e) ∙ a

-- what stands at an index
pub standing : {A : Type 0} (xs : List A) (i : ℕ) → i < length xs → (x : A) × (slice_get xs i ≡ Some x)
standing [] i h = absurd (omega (arith, h))
standing (x ∷ xs) zero h = (x, refl)
standing (x ∷ xs) (suc i) h = standing xs i (omega (arith, h))
