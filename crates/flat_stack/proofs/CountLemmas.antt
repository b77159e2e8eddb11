-- How many items a joined timeline has.
use Rattle.std.proofs.Common.{◌≡◌, refl, sym, ap, ap₂, ◌∙◌, ℕ, suc, ◌+◌, ◌-◌, ◌<◌, ◌≤◌, ◌^◌, ℤ, pos, ◌≤ℤ◌, ◌<ℤ◌, Bool, true, false, cond, Option, Some, None, List, [], ◌∷◌, ◌++◌, length, drop, arith}
use Rattle.std.specs.Prelude.{slice_get, option_map, nat_lt, not}
use Rattle.std.proofs.lemmas.Bool.Decides.{nat_tests}
use Rattle.tick_time.specs.declared.rates.Rate.{Rate}
use Rattle.tick_time.specs.declared.spans.Span.{Span}
use Rattle.otio_model.specs.declared.compositions.ItemOf.{ItemOf}
use Rattle.otio_model.specs.declared.compositions.ItemOf.TheVariants.{Clip, Gap, Transition, Stack, Track}
use Rattle.otio_model.specs.declared.compositions.Listed.{Listed}
use Rattle.otio_model.specs.declared.compositions.Listed.TheViews.{roll-out-Listed}
use Rattle.otio_model.specs.Counts.{count, count_of, counts_by}
use Rattle.otio_model.specs.Falls.{count-listed}
use Rattle.otio_model.specs.Kept.{capped_count}
use Rattle.otio_model.specs.Trees.{items_of, listed}
use Rattle.coord.proofs.Members.{next, none_left, same_some}
use Rattle.edits.specs.Children.{Child, Old, Ranged, all_made, made, new_gap, with_first, with_range, start_rate, length_rate}
use Rattle.edits.specs.Nears.{near, span_of}
use Rattle.edits.specs.Cuts.{olds}
use Rattle.flat.specs.Joined.{Slot, pad, joined_with}
use Rattle.flat.specs.Roots.{is_empty, is_plain}
use Rattle.flat_law.proofs.Joined.{AreGoodSlots}
use Rattle.flat_stack.specs.declared.inputs.Part.{Part}
use Rattle.flat_stack.specs.Inputs.{given, pad_behind, piece, children_from, track_from, tracks_from, child_count, child_counts, track_count, track_counts}
use Rattle.flat_stack.proofs.JoinedTracks.{more_is}
use Rattle.limits.proofs.IntegerTests.{below-int_lt, above-int_lt}

-- ---- lists of children

pub olds_count : (l : List (ItemOf Listed)) → child_counts (olds l) ≡ counts_by count l
olds_count [] = refl
olds_count (x ∷ l) = ap (λ n. count_of x + n) (olds_count l)

pub both_count : (a b : List Child) → child_counts (a ++ b) ≡ child_counts a + child_counts b
both_count [] b = omega arith
both_count (c ∷ a) b = let h = both_count a b in omega (arith, h)

pub piece_count : (s : Slot) (p : Part) (more : Bool)
    → child_counts (piece s p more)
    ≡ counts_by count (given s p) + child_counts (cond more (pad_behind s p) [])
piece_count s p more =
    both_count (olds (given s p)) (cond more (pad_behind s p) [])
    ∙ ap (λ n. n + child_counts (cond more (pad_behind s p) [])) (olds_count (given s p))

pub one_pad : (n : ℤ) → pos 0 <ℤ n → 1 ≡ child_counts (pad n)
one_pad n h = ap (λ b. child_counts (cond b (new_gap n ∷ []) [])) (sym (below-int_lt (pos 0) n h))

pub no_pad : (n : ℤ) → n ≤ℤ pos 0 → 0 ≡ child_counts (pad n)
no_pad n h = ap (λ b. child_counts (cond b (new_gap n ∷ []) [])) (sym (above-int_lt (pos 0) n h))

test_yes : (n m : ℕ) → n < m → nat_lt n m ≡ true
test_yes n m h = grind (arith, nat_tests)

test_no : (n m : ℕ) → m ≤ n → nat_lt n m ≡ false
test_no n m h = grind (arith, nat_tests)

pub count_more : (s : Slot) (p q : Part) (n m own gap : ℕ) → Some p ≡ Some q → n < m
    → own ≡ counts_by count (given s p) → gap ≡ child_counts (pad_behind s p)
    → own + gap ≡ child_counts (piece s q (nat_lt n m))
count_more s p q n m own gap same h e f =
    ap₂ (λ a b. a + b) e f ∙ sym (piece_count s p true)
    ∙ ap (λ b. child_counts (piece s p b)) (sym (test_yes n m h))
    ∙ ap (λ (z : Part). child_counts (piece s z (nat_lt n m))) (same_some p q same)

pub count_last : (s : Slot) (p q : Part) (n m own : ℕ) → Some p ≡ Some q → m ≤ n
    → own ≡ counts_by count (given s p) → own ≡ child_counts (piece s q (nat_lt n m))
count_last s p q n m own same h e =
    e ∙ (let z : counts_by count (given s p) ≡ counts_by count (given s p) + 0 = omega arith in z)
    ∙ sym (piece_count s p false)
    ∙ ap (λ b. child_counts (piece s p b)) (sym (test_no n m h))
    ∙ ap (λ (z : Part). child_counts (piece s z (nat_lt n m))) (same_some p q same)

-- ---- what children keep

pub below_is : (c : Listed) (l : List (ItemOf Listed)) (n : ℕ) → count c < 2 ^ 32
    → items_of c ≡ l → n ≡ capped_count (count c) → n ≡ counts_by count l
below_is c l n h e f =
    capped (count c) n h f ∙ ap count (sym (roll-out-Listed c)) ∙ count-listed (items_of c)
    ∙ ap (counts_by count) e
  where
    capped : (m n : ℕ) → m < 2 ^ 32 → n ≡ capped_count m → n ≡ m
    capped m n h f = omega (arith, h, f)

pub below_high : (c : Listed) (n : ℕ) → count c < 2 ^ 32 → n ≡ capped_count (count c) → n < 2 ^ 32
below_high c n h f = omega (arith, h, f)

-- ---- the loop over inputs

-- with so many left, so many are taken
abbrev pub IsLeft : List Part → Slot → ℕ → ℕ → ℕ → Type 0
IsLeft ps s room left i = room + child_counts (children_from s (drop i ps)) ≡ left + track_count ps s

pub left_first : (ps : List Part) (s : Slot) (room : ℕ) → 0 < room → IsLeft ps s room (room - 1) 0
left_first ps s room h = omega (arith, h)

rest_count : (ps : List Part) (s : Slot) (i n : ℕ) (p : Part) → slice_get ps i ≡ Some p
    → n ≡ child_counts (piece s p (nat_lt (i + 1) (length ps)))
    → child_counts (children_from s (drop i ps)) ≡ n + child_counts (children_from s (drop (i + 1) ps))
rest_count ps s i n p e f =
    let rest = drop (i + 1) ps in
    ap (λ z. child_counts (children_from s z)) (next ps i p e)
    ∙ both_count (piece s p (not (is_empty rest))) (children_from s rest)
    ∙ ap (λ b. child_counts (piece s p b) + child_counts (children_from s rest)) (sym (more_is i ps))
    ∙ ap (λ k. k + child_counts (children_from s rest)) (sym f)

pub left_more : (ps : List Part) (s : Slot) (room left n i : ℕ) (p : Part) → IsLeft ps s room left i
    → slice_get ps i ≡ Some p → n ≡ child_counts (piece s p (nat_lt (i + 1) (length ps))) → n ≤ left
    → IsLeft ps s room (left - n) (i + 1)
left_more ps s room left n i p a e f h =
    let k = rest_count ps s i n p e f in omega (arith, a, k, h)

pub left_none : (ps : List Part) (s : Slot) (room left n i : ℕ) (p : Part) → IsLeft ps s room left i
    → slice_get ps i ≡ Some p → n ≡ child_counts (piece s p (nat_lt (i + 1) (length ps))) → left < n
    → room < track_count ps s
left_none ps s room left n i p a e f h =
    let k = rest_count ps s i n p e f in omega (arith, a, k, h)

-- inputs that give nothing are passed over
pub left_past : (ps : List Part) (s : Slot) (room left i j : ℕ) → IsLeft ps s room left i
    → children_from s (drop i ps) ≡ children_from s (drop j ps) → IsLeft ps s room left j
left_past ps s room left i j a e = omega (arith, a, ap child_counts e)

pub left_end : (ps : List Part) (s : Slot) (room left i : ℕ) → IsLeft ps s room left i
    → length ps ≤ i → left + track_count ps s ≡ room
left_end ps s room left i a h =
    let k : child_counts (children_from s (drop i ps)) ≡ 0 =
    ap (λ z. child_counts (children_from s z)) (none_left ps i h) in omega (arith, a, k)

-- ---- the loop over slots

abbrev pub HasRoom : List Part → List Slot → ℕ → ℕ → List Slot → Type 0
HasRoom ps ss most room rest = most + track_counts ps rest ≡ room + track_counts ps ss

pub room_more : (ps : List Part) (ss rest more : List Slot) (most room left : ℕ) (s : Slot)
    → HasRoom ps ss most room rest → rest ≡ s ∷ more → left + track_count ps s ≡ room
    → HasRoom ps ss most left more
room_more ps ss rest more most room left s a e f =
    let k : track_counts ps rest ≡ track_count ps s + track_counts ps more = ap (track_counts ps) e in
    omega (arith, a, k, f)

pub room_none : (ps : List Part) (ss rest more : List Slot) (most room : ℕ) (s : Slot)
    → HasRoom ps ss most room rest → rest ≡ s ∷ more → room < track_count ps s
    → most < track_counts ps ss
room_none ps ss rest more most room s a e f =
    let k : track_counts ps rest ≡ track_count ps s + track_counts ps more = ap (track_counts ps) e in
    omega (arith, a, k, f)

pub room_end : (ps : List Part) (ss rest : List Slot) (most room : ℕ) → HasRoom ps ss most room rest
    → rest ≡ [] → track_counts ps ss ≤ most
room_end ps ss rest most room a e =
    let k : track_counts ps rest ≡ 0 = ap (track_counts ps) e in omega (arith, a, k)

-- ---- the tracks that are made

-- a range changes no number of items
pub range_count : (w : Span) (x : ItemOf Listed) → count_of (with_range w x) ≡ count_of x
range_count w (Clip c) = refl
range_count w (Gap c) = refl
range_count w (Transition c) = refl
range_count w (Stack c) = refl
range_count w (Track c) = refl

one_made : (r : Rate) (c : Child) (x : ItemOf Listed) → made r c ≡ Some x → count_of x ≡ child_count c
one_made r (Old y) x e = sym (ap (λ (z : ItemOf Listed). count_of z) (same_some y x e))
one_made r (Ranged y s n) x e =
    of (span_of (near s (start_rate r y)) (near n (length_rate r y))) e
  where
    of : (o : Option Span) → option_map (λ w. with_range w y) o ≡ Some x → count_of x ≡ count_of y
    of None f = absurd (cc f)
    of (Some w) f =
        sym (ap (λ (z : ItemOf Listed). count_of z) (same_some (with_range w y) x f)) ∙ range_count w y

pub made_count : (r : Rate) (l : List Child) (m : List (ItemOf Listed)) → all_made r l ≡ Some m
    → counts_by count m ≡ child_counts l
made_count r [] m e = ap (counts_by count) (sym (none m e))
  where
    none : (m : List (ItemOf Listed)) → Some [] ≡ Some m → [] ≡ m
    none m f = cc f
made_count r (c ∷ l) m e =
    of (made r c) (all_made r l) (λ x f. one_made r c x f) (λ q f. made_count r l q f) e
  where
    of : (o : Option (ItemOf Listed)) (p : Option (List (ItemOf Listed)))
        → ((x : ItemOf Listed) → o ≡ Some x → count_of x ≡ child_count c)
        → ((q : List (ItemOf Listed)) → p ≡ Some q → counts_by count q ≡ child_counts l)
        → with_first o p ≡ Some m → counts_by count m ≡ child_count c + child_counts l
    of None p f g h = absurd (cc h)
    of (Some x) None f g h = absurd (cc h)
    of (Some x) (Some q) f g h =
        let is : x ∷ q ≡ m = cc h in
        ap (counts_by count) (sym is) ∙ ap₂ (λ a b. a + b) (f x refl) (g q refl)

track_made : (r : Rate) (ps : List Part) (s : Slot) (x : ItemOf Listed) → is_plain s.first ≡ true
    → track_from r ps s ≡ Some x → count_of x ≡ track_count ps s
track_made r ps s x p e =
    of s.first (all_made r (children_from s ps)) p (λ m f. made_count r (children_from s ps) m f) e
  where
    of : (y : ItemOf Listed) (o : Option (List (ItemOf Listed))) → is_plain y ≡ true
        → ((m : List (ItemOf Listed)) → o ≡ Some m → counts_by count m ≡ child_counts (children_from s ps))
        → option_map (joined_with y) o ≡ Some x
        → count_of x ≡ suc (child_counts (children_from s ps))
    of y None q f g = absurd (cc g)
    of (Clip c) (Some m) q f g = absurd (cc q)
    of (Gap c) (Some m) q f g = absurd (cc q)
    of (Transition c) (Some m) q f g = absurd (cc q)
    of (Stack c) (Some m) q f g = absurd (cc q)
    of (Track t) (Some m) q f g =
        let is : joined_with (Track t) m ≡ x = same_some _ x g in
        let n = count-listed m in let k = f m refl in
        let one : count_of (joined_with (Track t) m) ≡ count (listed m) + 1 = refl in
        let same : count_of x ≡ count_of (joined_with (Track t) m) = ap (λ (z : ItemOf Listed). count_of z) (sym is) in
        omega (arith, n, k, one, same)

pub tracks_made : (r : Rate) (ps : List Part) (ss : List Slot) (l : List (ItemOf Listed))
    → AreGoodSlots ss → tracks_from r ps ss ≡ Some l → counts_by count l ≡ track_counts ps ss
tracks_made r ps [] l g e = ap (counts_by count) (sym (none l e))
  where
    none : (m : List (ItemOf Listed)) → Some [] ≡ Some m → [] ≡ m
    none m f = cc f
tracks_made r ps (s ∷ ss) l g e =
    of (track_from r ps s) (tracks_from r ps ss) (λ x f. track_made r ps s x (g.0).plain f)
    (λ q f. tracks_made r ps ss q g.1 f) e
  where
    of : (o : Option (ItemOf Listed)) (p : Option (List (ItemOf Listed)))
        → ((x : ItemOf Listed) → o ≡ Some x → count_of x ≡ track_count ps s)
        → ((q : List (ItemOf Listed)) → p ≡ Some q → counts_by count q ≡ track_counts ps ss)
        → with_first o p ≡ Some l → counts_by count l ≡ track_count ps s + track_counts ps ss
    of None p f h k = absurd (cc k)
    of (Some x) None f h k = absurd (cc k)
    of (Some x) (Some q) f h k =
        let is : x ∷ q ≡ l = cc k in
        ap (counts_by count) (sym is) ∙ ap₂ (λ a b. a + b) (f x refl) (h q refl)
