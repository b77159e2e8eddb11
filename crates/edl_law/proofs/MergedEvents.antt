-- Events of several channels in one order, with their numbers as lines.
use Rattle.std.proofs.Common.{◌≡◌, refl, sym, ap, subst, ◌∙◌, inl, inr, ℕ, zero, suc, ◌+◌, ◌<ℤ◌, ◌&&◌, ◌||◌, Bool, true, false, cond, List, [], ◌∷◌, map, Some, arith}
use Rattle.std.specs.Prelude.{int_lt, nat_le, All, AllPairs, slice_get}
use Rattle.std.specs.Ordering.{int_eq}
use Rattle.std.proofs.lemmas.Bool.Decides.{nat_tests}
use Rattle.std.proofs.lemmas.Int.{ints}
use Rattle.std.proofs.lemmas.List.Elements.{All-cons, All-head, All-nil}
use Rattle.std.proofs.lemmas.List.Kept.{AllPairs-cons}
use Rattle.edl_list.specs.declared.list.Channel.{Channel}
use Rattle.edl_list.specs.declared.list.Event.{Event}
use Rattle.edl_list.specs.Formed.{rank, AreInOrder}
use Rattle.edl_frames.specs.Shown.{is_on, on_channel}
use Rattle.edl_frames.specs.ChildEvents.{unnumbered}

-- ---- the order

-- the first event may stand before the second one
abbrev pub stands_first : Event → Event → Bool
stands_first a b = int_lt a.rec_in b.rec_in
    || (int_eq a.rec_in b.rec_in && nat_le (rank a.channel) (rank b.channel))

first_in_order : (a b : Event) → stands_first a b ≡ true → AreInOrder a b
first_in_order a b e = by (int_lt a.rec_in b.rec_in) refl
  where
    same : (s t : Bool) → int_eq a.rec_in b.rec_in ≡ s → nat_le (rank a.channel) (rank b.channel) ≡ t
        → (s && t) ≡ true → AreInOrder a b
    same true true f g h = inr (grind (arith, ints, f), grind (arith, nat_tests, g))
    same true false f g h = absurd (cc h)
    same false t f g h = absurd (cc h)

    by : (s : Bool) → int_lt a.rec_in b.rec_in ≡ s → AreInOrder a b
    by true f = inl (grind (arith, ints, f))
    by false f = same (int_eq a.rec_in b.rec_in) (nat_le (rank a.channel) (rank b.channel)) refl refl
        (sym (ap (λ s. s || (int_eq a.rec_in b.rec_in && nat_le (rank a.channel) (rank b.channel))) f)
        ∙ e)

last_in_order : (a b : Event) → stands_first a b ≡ false → AreInOrder b a
last_in_order a b e = by (int_lt a.rec_in b.rec_in) refl
  where
    same : (s t : Bool) → int_lt a.rec_in b.rec_in ≡ false → int_eq a.rec_in b.rec_in ≡ s
        → nat_le (rank a.channel) (rank b.channel) ≡ t → (s && t) ≡ false → AreInOrder b a
    same true true u f g h = absurd (cc h)
    same true false u f g h = inr (grind (arith, ints, f), grind (arith, nat_tests, g))
    same false t u f g h = inl (grind (arith, ints, f, u))

    by : (s : Bool) → int_lt a.rec_in b.rec_in ≡ s → AreInOrder b a
    by true f = absurd
        (cc (sym (ap (λ s. s || (int_eq a.rec_in b.rec_in && nat_le (rank a.channel)
        (rank b.channel))) f) ∙ e))
    by false f = same (int_eq a.rec_in b.rec_in) (nat_le (rank a.channel) (rank b.channel)) f refl
        refl
        (sym (ap (λ s. s || (int_eq a.rec_in b.rec_in && nat_le (rank a.channel) (rank b.channel))) f)
        ∙ e)

in_order : (a b c : Event) → AreInOrder a b → AreInOrder b c → AreInOrder a c
in_order a b c (inl p) (inl q) = inl (omega (arith, ints, p, q))
in_order a b c (inl p) (inr q) = let e = q.0 in inl (omega (arith, ints, p, e))
in_order a b c (inr p) (inl q) = let e = p.0 in inl (omega (arith, ints, q, e))
in_order a b c (inr p) (inr q) = let x = p.1 in let y = q.1 in
    inr (p.0 ∙ q.0, omega (arith, x, y))

pub starts_first : (a b : Event) → a.rec_in <ℤ b.rec_in → stands_first a b ≡ true
starts_first a b h = ap
    (λ s. s || (int_eq a.rec_in b.rec_in && nat_le (rank a.channel) (rank b.channel)))
    (let e : int_lt a.rec_in b.rec_in ≡ true = grind (arith, ints, h) in e)

-- ---- one event at its place

-- the event before the first one that it may stand before
abbrev pub placed : Event → List Event → List Event
placed e [] = e ∷ []
placed e (x ∷ xs) = cond (stands_first e x) (e ∷ x ∷ xs) (x ∷ placed e xs)

-- the event stands in order with all of these
abbrev Leads : Event → List Event → Type 0
Leads e [] = Unit {0}
Leads e (x ∷ xs) = AreInOrder e x × Leads e xs

abbrev pub AreOrdered : List Event → Type 0
AreOrdered [] = Unit {0}
AreOrdered (e ∷ es) = Leads e es × AreOrdered es

leads_from : (a b : Event) (es : List Event) → AreInOrder a b → Leads b es → Leads a es
leads_from a b [] h l = tt
leads_from a b (e ∷ es) h l = (in_order a b e h l.0, leads_from a b es h l.1)

placed_leads : (a e : Event) (es : List Event) → AreInOrder a e → Leads a es → Leads a (placed e es)
placed_leads a e [] h l = (h, tt)
placed_leads a e (x ∷ xs) h l = by (stands_first e x) (placed_leads a e xs h l.1)
  where
    by : (t : Bool) → Leads a (placed e xs) → Leads a (cond t (e ∷ x ∷ xs) (x ∷ placed e xs))
    by true more = (h, l)
    by false more = (l.0, more)

placed_ordered : (e : Event) (es : List Event) → AreOrdered es → AreOrdered (placed e es)
placed_ordered e [] o = (tt, tt)
placed_ordered e (x ∷ xs) o = by (stands_first e x) refl (placed_ordered e xs o.1)
  where
    by : (t : Bool) → stands_first e x ≡ t → AreOrdered (placed e xs)
        → AreOrdered (cond t (e ∷ x ∷ xs) (x ∷ placed e xs))
    by true f more = let h = first_in_order e x f in ((h, leads_from e x xs h o.0), o)
    by false f more = (placed_leads x e xs (last_in_order e x f) o.0, more)

-- ---- all events in one order

abbrev pub merged : List Event → List Event
merged [] = []
merged (e ∷ es) = placed e (merged es)

pub merged_ordered : (es : List Event) → AreOrdered (merged es)
merged_ordered [] = tt
merged_ordered (e ∷ es) = placed_ordered e (merged es) (merged_ordered es)

leads_all : (e : Event) (es : List Event) → Leads e es → All (AreInOrder e) es
leads_all e [] l = All-nil (AreInOrder e)
leads_all e (x ∷ xs) l = All-cons (AreInOrder e) x xs l.0 (leads_all e xs l.1)

pub all_in_order : (es : List Event) → AreOrdered es → AllPairs AreInOrder es
all_in_order [] o = λ i j d l m. absurd (omega (arith, m))
all_in_order (e ∷ es) o =
    AllPairs-cons AreInOrder e es (leads_all e es o.0) (all_in_order es o.1)

-- ---- the events of a channel

-- the event may stand before each of these
abbrev IsFirst : Event → List Event → Type 0
IsFirst e es = All (λ x. stands_first e x ≡ true) es

-- each event may stand before each later one
abbrev pub AreInTurn : List Event → Type 0
AreInTurn [] = Unit {0}
AreInTurn (e ∷ es) = IsFirst e es × AreInTurn es

placed_elsewhere : (c : Channel) (e : Event) (es : List Event) → is_on c e ≡ false
    → on_channel c (placed e es) ≡ on_channel c es
placed_elsewhere c e [] f = ap (λ b. cond b (e ∷ []) []) f
placed_elsewhere c e (x ∷ xs) f = by (stands_first e x) (placed_elsewhere c e xs f)
  where
    by : (t : Bool) → on_channel c (placed e xs) ≡ on_channel c xs
        → on_channel c (cond t (e ∷ x ∷ xs) (x ∷ placed e xs)) ≡ on_channel c (x ∷ xs)
    by true more = ap (λ b. cond b (e ∷ on_channel c (x ∷ xs)) (on_channel c (x ∷ xs))) f
    by false more = ap (λ l. cond (is_on c x) (x ∷ l) l) more

placed_here : (c : Channel) (e : Event) (es : List Event) → is_on c e ≡ true
    → IsFirst e (on_channel c es) → on_channel c (placed e es) ≡ e ∷ on_channel c es
placed_here c e [] f h = ap (λ b. cond b (e ∷ []) []) f
placed_here c e (x ∷ xs) f h = by (placed_here c e xs f) (stands_first e x) refl
  where
    passed : (IsFirst e (on_channel c xs) → on_channel c (placed e xs) ≡ e ∷ on_channel c xs)
        → stands_first e x ≡ false → (b : Bool) → is_on c x ≡ b
        → IsFirst e (cond b (x ∷ on_channel c xs) (on_channel c xs))
        → cond (is_on c x) (x ∷ on_channel c (placed e xs)) (on_channel c (placed e xs))
        ≡ e ∷ cond (is_on c x) (x ∷ on_channel c xs) (on_channel c xs)
    passed more g true k l = absurd
        (cc (All-head (λ y. stands_first e y ≡ true) x (on_channel c xs) l, g))
    passed more g false k l =
        ap (λ b. cond b (x ∷ on_channel c (placed e xs)) (on_channel c (placed e xs))) k
        ∙ more l
        ∙ ap (λ b. e ∷ cond b (x ∷ on_channel c xs) (on_channel c xs)) (sym k)

    by : (IsFirst e (on_channel c xs) → on_channel c (placed e xs) ≡ e ∷ on_channel c xs)
        → (t : Bool) → stands_first e x ≡ t
        → on_channel c (cond t (e ∷ x ∷ xs) (x ∷ placed e xs)) ≡ e ∷ on_channel c (x ∷ xs)
    by more true g = ap (λ b. cond b (e ∷ on_channel c (x ∷ xs)) (on_channel c (x ∷ xs))) f
    by more false g = passed more g (is_on c x) refl h

-- a channel on which the events rise keeps its order
pub merged_channel : (c : Channel) (es : List Event) → AreInTurn (on_channel c es)
    → on_channel c (merged es) ≡ on_channel c es
merged_channel c [] r = refl
merged_channel c (e ∷ es) r = by (merged_channel c es) (is_on c e) refl r
  where
    by : (AreInTurn (on_channel c es) → on_channel c (merged es) ≡ on_channel c es)
        → (b : Bool) → is_on c e ≡ b
        → AreInTurn (cond b (e ∷ on_channel c es) (on_channel c es))
        → on_channel c (placed e (merged es)) ≡ cond (is_on c e) (e ∷ on_channel c es) (on_channel c es)
    by more true f s =
        let same = more s.1 in
        placed_here c e (merged es) f (subst (IsFirst e) (sym same) s.0)
        ∙ ap (λ l. e ∷ l) same
        ∙ ap (λ b. cond b (e ∷ on_channel c es) (on_channel c es)) (sym f)
    by more false f s = placed_elsewhere c e (merged es) f ∙ more s
        ∙ ap (λ b. cond b (e ∷ on_channel c es) (on_channel c es)) (sym f)

-- ---- lines

-- the events with the numbers from one on as their lines
abbrev pub counted : ℕ → List Event → List Event
counted n [] = []
counted n (e ∷ es) = record e { line = n } ∷ counted (n + 1) es

pub counted_lines : (n : ℕ) (es : List Event) (i : ℕ) (e : Event)
    → slice_get (counted n es) i ≡ Some e → e.line ≡ i + n
counted_lines n [] i e h = absurd (cc h)
counted_lines n (x ∷ xs) zero e h =
    let same : record x { line = n } ≡ e = cc h in
    let line : n ≡ e.line = ap (λ (z : Event). z.line) same in
    omega (arith, line)
counted_lines n (x ∷ xs) (suc i) e h =
    let l = counted_lines (n + 1) xs i e h in omega (arith, l)

counted_leads : (e : Event) (m n : ℕ) (es : List Event) → Leads e es
    → Leads (record e { line = m }) (counted n es)
counted_leads e m n [] l = tt
counted_leads e m n (x ∷ xs) l = (l.0, counted_leads e m (n + 1) xs l.1)

pub counted_ordered : (n : ℕ) (es : List Event) → AreOrdered es → AreOrdered (counted n es)
counted_ordered n [] o = tt
counted_ordered n (e ∷ es) o =
    (counted_leads e n (n + 1) es o.0, counted_ordered (n + 1) es o.1)

-- but for their lines they are the same events
pub counted_channel : (c : Channel) (n : ℕ) (es : List Event)
    → map unnumbered (on_channel c (counted n es)) ≡ map unnumbered (on_channel c es)
counted_channel c n [] = refl
counted_channel c n (e ∷ es) = by (is_on c e) (counted_channel c (n + 1) es)
  where
    by : (b : Bool)
        → map unnumbered (on_channel c (counted (n + 1) es)) ≡ map unnumbered (on_channel c es)
        → map unnumbered (cond b (record e { line = n } ∷ on_channel c (counted (n + 1) es))
        (on_channel c (counted (n + 1) es)))
        ≡ map unnumbered (cond b (e ∷ on_channel c es) (on_channel c es))
    by true more = ap (λ l. unnumbered e ∷ l) more
    by false more = more
