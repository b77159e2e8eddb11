-- The clips that are listed are those that their places lead to.
use Rattle.std.proofs.Common.{◌≡◌, ◌⊎◌, ◌↔◌, ℕ, zero, suc, ◌+◌, ◌<◌, List, [], ◌∷◌, Option, Some, None, refl, sym, ap, subst, ◌∙◌, length, drop, get_or, slice_get, option_and_then, Contains, ⊎_elim, inl, inr, arith}
use Rattle.std.proofs.lemmas.List.Elements.{Contains-append_left, Contains-append_right, Contains-append_cases}
use Rattle.otio_model.specs.declared.compositions.Clip.{Clip as ClipRow}
use Rattle.otio_model.specs.declared.compositions.ItemOf.{ItemOf}
use Rattle.otio_model.specs.declared.compositions.ItemOf.TheVariants.{Clip, Gap, Transition, Stack, Track}
use Rattle.otio_model.specs.declared.compositions.Listed.{Listed}
use Rattle.otio_model.specs.Trees.{items_of, below, item_at}
use Rattle.show_prog.specs.Spots.{Spot, from_place, below_index, spots_from, spots, spots_of}
use Rattle.show_prog.proofs.SpotLemmas.{spots_are}

-- a clip and its place
abbrev pub at : List ℕ → ClipRow → Spot
at place c = record { place = place; clip = c }

pub behind : (s t : Spot) (found : List Spot) → Contains found t → Contains (s ∷ found) t
behind s t found h = (suc h.0, omega (arith, h.1), h.2)

first_or : (s t : Spot) (found : List Spot) → Contains (s ∷ found) t → (s ≡ t) ⊎ Contains found t
first_or s t found h = by h.0 h.1 h.2
  where
    by : (k : ℕ) → k < suc (length found) → get_or (s ∷ found) k t ≡ t → (s ≡ t) ⊎ Contains found t
    by zero lt e = inl e
    by (suc k) lt e = inr (k, omega (arith, lt), e)

lifted : (i : ℕ) (found : List Spot) (t : Spot) → Contains found t → Contains (below_index i found) (from_place (i ∷ []) t)
lifted i [] t h = absurd (omega (arith, h.1))
lifted i (s ∷ found) t h = ⊎_elim
    (λ same. (0, omega arith, ap (from_place (i ∷ [])) same))
    (λ rest. behind (from_place (i ∷ []) s) (from_place (i ∷ []) t) (below_index i found) (lifted i found t rest))
    (first_or s t found h)

-- the spot that one was, seen from one level down
pub record IsLowered (i : ℕ) (found : List Spot) (s : Spot) : Type 0 where
  pub spot : Spot
  pub among : Contains found spot
  pub seen : from_place (i ∷ []) spot ≡ s

pub lowered : (i : ℕ) (found : List Spot) (s : Spot) → Contains (below_index i found) s → IsLowered i found s
lowered i [] s h = absurd (omega (arith, h.1))
lowered i (t ∷ found) s h = ⊎_elim
    (λ same. record { spot = t; among = (0, omega arith, refl); seen = same })
    (λ rest. let r = lowered i found s rest in record { spot = r.spot; among = behind t r.spot found r.among; seen = r.seen })
    (first_or (from_place (i ∷ []) t) s (below_index i found) h)

-- the child that a spot lies in, of those from an index on
pub record IsInChild (xs : List (ItemOf Listed)) (j : ℕ) (s : Spot) : Type 0 where
  pub index : ℕ
  pub child : ItemOf Listed
  pub spot : Spot
  pub there : slice_get xs index ≡ Some child
  pub among : Contains (spots_of child) spot
  pub seen : from_place ((j + index) ∷ []) spot ≡ s

pub from_index : (xs : List (ItemOf Listed)) (j : ℕ) (s : Spot) → Contains (spots_from spots j xs) s → IsInChild xs j s
from_index [] j s h = absurd (omega (arith, h.1))
from_index (x ∷ xs) j s h = ⊎_elim
    (λ here.
    let r = lowered j (spots_of x) s here in
    let e : j + 0 ≡ j = omega arith in
    record { index = 0; child = x; spot = r.spot; there = refl; among = r.among; seen = ap (λ (k : ℕ). from_place (k ∷ []) r.spot) e ∙ r.seen })
    (λ rest.
    let r = from_index xs (j + 1) s rest in
    let e : j + suc r.index ≡ (j + 1) + r.index = omega arith in
    record { index = suc r.index; child = r.child; spot = r.spot; there = r.there; among = r.among; seen = ap (λ (k : ℕ). from_place (k ∷ []) r.spot) e ∙ r.seen })
    (Contains-append_cases (below_index j (spots_of x)) (spots_from spots (j + 1) xs) s h)

into_index : (xs : List (ItemOf Listed)) (j i : ℕ) (x : ItemOf Listed) (t : Spot) → slice_get xs i ≡ Some x → Contains (spots_of x) t
    → Contains (spots_from spots j xs) (from_place ((j + i) ∷ []) t)
into_index [] j zero x t e h = absurd (cc e)
into_index [] j (suc i) x t e h = absurd (cc e)
into_index (y ∷ xs) j zero x t e h =
    let same : x ≡ y = cc e in
    let k : j ≡ j + 0 = omega arith in
    Contains-append_left (below_index j (spots_of y)) (spots_from spots (j + 1) xs) (from_place ((j + 0) ∷ []) t)
    (subst (λ (n : ℕ). Contains (below_index j (spots_of y)) (from_place (n ∷ []) t)) k (lifted j (spots_of y) t (subst (λ (z : ItemOf Listed). Contains (spots_of z) t) same h)))
into_index (y ∷ xs) j (suc i) x t e h =
    let k : (j + 1) + i ≡ j + suc i = omega arith in
    Contains-append_right (below_index j (spots_of y)) (spots_from spots (j + 1) xs) (from_place ((j + suc i) ∷ []) t)
    (subst (λ (n : ℕ). Contains (spots_from spots (j + 1) xs) (from_place (n ∷ []) t)) k (into_index xs (j + 1) i x t e h))

stack_below : (place : List ℕ) (x y : ItemOf Listed) (l : Listed) → ((i : ℕ) (rest : List ℕ) → below (i ∷ rest) x ≡ item_at (i ∷ rest) l) → item_at place l ≡ Some y → below place x ≡ Some y
stack_below [] x y l same e = absurd (cc e)
stack_below (i ∷ place) x y l same e = same i place ∙ e

-- what is listed of an item lies below it
found_in : (place : List ℕ) (x : ItemOf Listed) (c : ClipRow) → ((l : Listed) → Contains (spots l) (at place c) → item_at place l ≡ Some (Clip c))
    → Contains (spots_of x) (at place c) → below place x ≡ Some (Clip c)
found_in place (Clip d) c again h = ⊎_elim
    (λ e. sym (ap (λ (s : Spot). below s.place (Clip d)) e) ∙ ap (λ (s : Spot). Some (Clip s.clip)) e)
    (λ none. absurd (omega (arith, none.1)))
    (first_or (at [] d) (at place c) [] h)
found_in place (Gap g) c again h = absurd (omega (arith, h.1))
found_in place (Transition t) c again h = absurd (omega (arith, h.1))
found_in place (Stack s) c again h = stack_below place (Stack s) (Clip c) s.children (λ i rest. refl) (again s.children h)
found_in place (Track t) c again h = stack_below place (Track t) (Clip c) t.children (λ i rest. refl) (again t.children h)

pub found_at : (place : List ℕ) (l : Listed) (c : ClipRow) → Contains (spots l) (at place c) → item_at place l ≡ Some (Clip c)
found_at [] l c h =
    let r = from_index (items_of l) 0 (at [] c) (subst (λ (found : List Spot). Contains found (at [] c)) (sym (spots_are l)) h) in
    absurd (omega (arith, ap (λ (s : Spot). length s.place) r.seen))
found_at (i ∷ place) l c h =
    let r = from_index (items_of l) 0 (at (i ∷ place) c) (subst (λ (found : List Spot). Contains found (at (i ∷ place) c)) (sym (spots_are l)) h) in
    let start : 0 + r.index ≡ i = ap (λ (s : Spot). get_or s.place 0 0) r.seen in
    let index : i ≡ r.index = omega (arith, start) in
    let rest : r.spot ≡ at place c = ap (λ (s : Spot). at (drop 1 s.place) s.clip) r.seen in
    let inside = found_in place r.child c (λ k. found_at place k c) (subst (Contains (spots_of r.child)) rest r.among) in
    ap (option_and_then (below place)) (ap (slice_get (items_of l)) index ∙ r.there) ∙ inside

-- what lies below an item is listed of it
listed_in : (place : List ℕ) (x : ItemOf Listed) (c : ClipRow) → ((l : Listed) → item_at place l ≡ Some (Clip c) → Contains (spots l) (at place c))
    → below place x ≡ Some (Clip c) → Contains (spots_of x) (at place c)
listed_in [] (Clip d) c again e = let same : d ≡ c = cc e in (0, omega arith, ap (at []) same)
listed_in [] (Gap g) c again e = absurd (cc e)
listed_in [] (Transition t) c again e = absurd (cc e)
listed_in [] (Stack s) c again e = absurd (cc e)
listed_in [] (Track t) c again e = absurd (cc e)
listed_in (i ∷ place) (Clip d) c again e = absurd (cc e)
listed_in (i ∷ place) (Gap g) c again e = absurd (cc e)
listed_in (i ∷ place) (Transition t) c again e = absurd (cc e)
listed_in (i ∷ place) (Stack s) c again e = again s.children e
listed_in (i ∷ place) (Track t) c again e = again t.children e

listed_at : (place : List ℕ) (l : Listed) (c : ClipRow) → item_at place l ≡ Some (Clip c) → Contains (spots l) (at place c)
listed_at [] l c e = absurd (cc e)
listed_at (i ∷ place) l c e = by (λ k. listed_at place k c) (slice_get (items_of l) i) refl
  where
    by : ((k : Listed) → item_at place k ≡ Some (Clip c) → Contains (spots k) (at place c)) → (o : Option (ItemOf Listed)) → slice_get (items_of l) i ≡ o → Contains (spots l) (at (i ∷ place) c)
    by again None n = let none : None ≡ Some (Clip c) = sym (ap (option_and_then (below place)) n) ∙ e in absurd (cc none)
    by again (Some x) s =
        let inside = listed_in place x c again (sym (ap (option_and_then (below place)) s) ∙ e) in
        let k : 0 + i ≡ i = omega arith in
        subst (λ (found : List Spot). Contains found (at (i ∷ place) c)) (spots_are l)
        (subst (λ (n : ℕ). Contains (spots_from spots 0 (items_of l)) (at (n ∷ place) c)) k (into_index (items_of l) 0 i x (at place c) s inside))

pub spots_stand : (l : Listed) (s : Spot) → Contains (spots l) s ↔ (item_at s.place l ≡ Some (Clip s.clip))
spots_stand l s = (found_at s.place l s.clip, listed_at s.place l s.clip)
