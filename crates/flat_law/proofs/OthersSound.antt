-- Joined timelines are there, and piled ones and those without transitions are sound.
use Rattle.std.proofs.Common.{◌≡◌, refl, sym, subst, ap, ap₂, ◌∙◌, ℕ, ◌+◌, ℤ, pos, ◌+ℤ◌, ◌-ℤ◌, ◌*ℤ◌, ◌≤ℤ◌, ◌&&◌, ◌||◌, Bool, true, false, Option, Some, None, cond, List, [], ◌∷◌, ◌++◌, map, arith}
use Rattle.std.specs.Prelude.{int_lt, int_le, nat_lt, option_map, option_and_then, not, flat_map, min}
use Rattle.std.specs.Option.{option_or}
use Rattle.std.proofs.lemmas.Int.{ints}
use Rattle.tick_time.specs.declared.rates.Rate.{Rate}
use Rattle.tick_time.specs.Rates.{frame}
use Rattle.limits.specs.Limits.{most_ticks}
use Rattle.otio_model.specs.declared.compositions.ItemOf.{ItemOf}
use Rattle.otio_model.specs.declared.compositions.ItemOf.TheVariants.{Clip, Gap, Transition, Stack, Track}
use Rattle.otio_model.specs.declared.compositions.TrackOf.{TrackOf}
use Rattle.otio_model.specs.declared.compositions.StackOf.{StackOf}
use Rattle.otio_model.specs.declared.compositions.Listed.{Listed}
use Rattle.otio_model.specs.declared.compositions.Listed.TheFolds.{map-Listed, ind-Listed}
use Rattle.otio_model.specs.declared.timelines.Timeline.{Timeline}
use Rattle.otio_model.specs.Trees.{listed, items_of, below}
use Rattle.otio_model.specs.Lengths.{Range, range_of, from_zero, both, sum_of, longest_of, length_of, lengths, added as added_lengths}
use Rattle.otio_model.specs.Sums.{greatest}
use Rattle.coord.specs.Soundness.{IsFaultless, AreFaultless, fault_of, most_end}
use Rattle.otio_model.specs.Trees.{is_transition}
use Rattle.otio_model.specs.Speeds.{keeps_speed}
use Rattle.coord.specs.Speeds.{speed_of}
use Rattle.otio_model.specs.Lengths.{trimmed_start}
use Rattle.coord.specs.declared.faults.ItemFault.{ItemFault}
use Rattle.coord.specs.declared.faults.ItemFault.TheVariants.{NoLength, Speed, Long}
use Rattle.coord.specs.Soundness.{IsFaultlessItem}
use Rattle.otio_model.proofs.Adding.{lengths-listed}
use Rattle.coord.proofs.SpareLemmas.{faultless_bare}
use Rattle.edits.specs.Children.{Child, Old, new_gap, with_first}
use Rattle.edits.specs.Cuts.{olds}
use Rattle.edits.specs.Edges.{added}
use Rattle.edits.specs.After.{rate_of}
use Rattle.edits_law.proofs.Splice.{cases}
use Rattle.edits_law.proofs.Parted.{added_low}
use Rattle.flat.specs.Roots.{is_enabled, items_in, roots, with_roots}
use Rattle.flat.specs.Joined.{track_of, own_items, stretch, rounded_up, longest_root, pad, joined_children, Slot, joined_with, joined_tracks, joined_slots, IsJoined, AreFit}
use Rattle.flat.specs.Piled.{IsPiled}
use Rattle.flat.specs.Straight.{without, straight, IsStraight}
use Rattle.flat.specs.Answers as answers
use Rattle.coord.proofs.Members.{same_some}
use Rattle.flat_law.proofs.Flat.{items-listed}
use Rattle.flat_law.proofs.Fit.{kth_at}
use Rattle.flat_law.proofs.Straight.{whole_item, straight-listed, step_out, step_in, add_none}
use Rattle.flat_law.proofs.WindowKept.{AllFaultless, AllMade, made_more, own_sound, olds_made}
use Rattle.flat_law.proofs.WindowSound.{sound_by, sound_at, inside_sound, root_sound, listed_sound}
use Rattle.flat_law.proofs.FlatSound.{gap_made}

-- ---- piled

sound_both : (l m : List (ItemOf Listed)) → AllFaultless l → AllFaultless m → AllFaultless (l ++ m)
sound_both [] m a b = b
sound_both (x ∷ l) m a b = (a.0, sound_both l m a.1 b)

all_roots : (l : List Timeline) → answers.AreSound l → AllFaultless (flat_map roots l)
all_roots [] s = tt
all_roots (t ∷ l) s = sound_both (roots t) (flat_map roots l) (root_sound t s.0.faultless) (all_roots l s.1)

pub pile_sound : (t r : Timeline) (more : List Timeline) → IsFaultless t → answers.AreSound more → IsPiled t more r → IsFaultless r
pile_sound t r more s m e = faultless_bare (with_roots (roots t ++ flat_map roots more) t) r (sym e) (record {
  start = s.start;
  items = listed_sound (roots t ++ flat_map roots more) (sound_both (roots t) (flat_map roots more) (root_sound t s) (all_roots more m));
})

-- ---- joined

olds_then : (r : Rate) (l : List (ItemOf Listed)) (more : List Child) → AllFaultless l → AllMade r more → AllMade r (olds l ++ more)
olds_then r [] more s m = m
olds_then r (x ∷ l) more s m = made_more r (Old x) (olds l ++ more) x refl s.0 (olds_then r l more s.1 m)

pad_then : (r : Rate) (n : ℤ) (more : List Child) → n ≤ℤ pos most_ticks → AllMade r more → AllMade r (pad n ++ more)
pad_then r n more h m = cases (int_lt (pos 0) n)
    (λ e. let g = gap_made r n (low n e) h in rw e (made_more r (new_gap n) more g.0 g.1 g.2 m))
    (λ e. rw e m)
  where
    low : (n : ℤ) → int_lt (pos 0) n ≡ true → pos 0 ≤ℤ n
    low n e = grind (arith, ints)

own_made : (r : Rate) (kind : List ℕ) (k : ℕ) (l : List (ItemOf Listed)) → AllFaultless l → AllFaultless (own_items (track_of kind k l))
own_made r kind k l s = of (track_of kind k l) refl
  where
    open_item : (x : ItemOf Listed) (b : Bool) → IsFaultlessItem x → AllFaultless (cond b (items_in x) [])
    open_item x true h = inside_sound x h
    open_item x false h = tt

    of : (o : Option (ItemOf Listed)) → track_of kind k l ≡ o → AllFaultless (own_items (track_of kind k l))
    of None e = rw e tt
    of (Some x) e = let a = kth_at kind l k x e in rw e (open_item x (is_enabled x) (sound_at l a.0 x s a.1))

abbrev AllRoots : List (List (ItemOf Listed)) → Type 0
AllRoots [] = Unit {0}
AllRoots (l ∷ more) = AllFaultless l × AllRoots more

stretch_most : (f : ℕ) (l : List (ItemOf Listed)) → stretch f l ≤ℤ pos most_ticks
stretch_most f l = least (rounded_up f (longest_root l))
  where
    least : (n : ℕ) → pos (min n most_ticks) ≤ℤ pos most_ticks
    least n = omega (arith, ints)

children_made : (r : Rate) (f : ℕ) (kind : List ℕ) (k : ℕ) (l : List (ItemOf Listed)) (more : List (List (ItemOf Listed))) → AllFaultless l → AllRoots more → AllMade r (joined_children f kind k l more)
children_made r f kind k l [] s m = olds_made r (own_items (track_of kind k l)) (own_made r kind k l s)
children_made r f kind k l (q ∷ more) s m =
    let most = stretch_most f l in let low = added_low (own_items (track_of kind k l)) in
    olds_then r (own_items (track_of kind k l)) _ (own_made r kind k l s)
    (pad_then r (stretch f l -ℤ added (own_items (track_of kind k l))) (joined_children f kind k q more) (omega (arith, ints)) (children_made r f kind k q more m.0 m.1))

pub record SlotsMade (r : Rate) (l : List (ItemOf Listed)) (more : List (List (ItemOf Listed))) (ss : List Slot) : Type 0 where
  pub items : List (ItemOf Listed)
  pub made : joined_tracks r l more ss ≡ Some items

slots_made : (r : Rate) (l : List (ItemOf Listed)) (more : List (List (ItemOf Listed))) (ss : List Slot) → AllFaultless l → AllRoots more → SlotsMade r l more ss
slots_made r l more [] s m = record { items = []; made = refl }
slots_made r l more (q ∷ ss) s m =
    let one = children_made r (frame r.num r.den) q.kind q.index l more s m in
    let rest = slots_made r l more ss s m in
    record { items = joined_with q.first one.items ∷ rest.items; made = ap₂ with_first (ap (option_map (joined_with q.first)) one.made) rest.made }

fit_sound : (is_first : Bool) (t : Timeline) (more : List Timeline) → AreFit is_first t more → AllFaultless (roots t) × AllRoots (map roots more)
fit_sound is_first t [] a = (root_sound t a.sound.faultless, tt)
fit_sound is_first t (m ∷ more) a = let one = a.0 in let rest = fit_sound false m more a.1 in (root_sound t one.sound.faultless, (rest.0, rest.1))

pub join_there : (t : Timeline) (more : List Timeline) → AreFit true t more → (r : Timeline) × IsJoined t more r
join_there t more a =
    let s = fit_sound true t more a in
    let m = slots_made (rate_of t) (roots t) (map roots more) (joined_slots t more) s.0 s.1 in
    (with_roots m.items t, record { tracks = m.items; are = m.made; is = refl })

-- ---- without transitions: lengths

zero_length : (x : ItemOf Listed) → is_transition x ≡ true → length_of x ≡ Some 0
zero_length (Clip c) e = absurd (cc e)
zero_length (Gap c) e = absurd (cc e)
zero_length (Transition c) e = refl
zero_length (Stack c) e = absurd (cc e)
zero_length (Track c) e = absurd (cc e)

sum_without : (l : List (ItemOf Listed)) → sum_of (map length_of (without l)) ≡ sum_of (map length_of l)
sum_without [] = refl
sum_without (x ∷ l) = cases (is_transition x)
    (λ t. ap (λ m. sum_of (map length_of m)) (step_out x l t) ∙ sum_without l ∙ sym (ap (λ o. both (λ a b. a + b) o (sum_of (map length_of l))) (zero_length x t) ∙ add_none (sum_of (map length_of l))))
    (λ t. ap (λ m. sum_of (map length_of m)) (step_in x l t) ∙ ap (both (λ a b. a + b) (length_of x)) (sum_without l))

abbrev plus : Option ℕ → ℕ → ℕ
plus None n = n
plus (Some m) n = m + n

added_step : (o : Option ℕ) (l : List (Option ℕ)) → added_lengths (o ∷ l) ≡ plus o (added_lengths l)
added_step None l = refl
added_step (Some n) l = refl

added_without : (l : List (ItemOf Listed)) → added_lengths (map length_of (without l)) ≡ added_lengths (map length_of l)
added_without [] = refl
added_without (x ∷ l) = cases (is_transition x)
    (λ t. ap (λ m. added_lengths (map length_of m)) (step_out x l t) ∙ added_without l
    ∙ (let e : added_lengths (map length_of l) ≡ 0 + added_lengths (map length_of l) = omega arith in e) ∙ sym (ap (λ o. plus o (added_lengths (map length_of l))) (zero_length x t)) ∙ sym (added_step (length_of x) (map length_of l)))
    (λ t. ap (λ m. added_lengths (map length_of m)) (step_in x l t) ∙ added_step (length_of x) (map length_of (without l)) ∙ ap (plus (length_of x)) (added_without l) ∙ sym (added_step (length_of x) (map length_of l)))

-- ---- lengths at all levels

abbrev SameLengths : Listed → Type 0
SameLengths l = lengths (straight l) ≡ lengths l

abbrev Measured : Type 0
Measured = (l : Listed) × SameLengths l

abbrev unmeasured : List (ItemOf Measured) → List (ItemOf Listed)
unmeasured ys = (map-Listed Measured Listed (λ e. e.0) (record { list = ys })).list

abbrev by_range : Option Rattle.tick_time.specs.declared.spans.Span.Span → Option ℕ → Option ℕ
by_range s n = option_map (λ (r : Range). r.len) (option_or (option_map range_of s) (option_map from_zero n))

inner_lengths : (l : Listed) → SameLengths l → sum_of (lengths (listed (without (items_of (straight l))))) ≡ sum_of (lengths l)
inner_lengths l h =
    ap sum_of (lengths-listed (without (items_of (straight l)))) ∙ sum_without (items_of (straight l))
    ∙ ap sum_of (sym (lengths-listed (items_of (straight l))) ∙ ap lengths (Rattle.otio_model.specs.declared.compositions.Listed.TheViews.roll-out-Listed (straight l)) ∙ h)

inner_added : (l : Listed) → SameLengths l → added_lengths (lengths (listed (without (items_of (straight l))))) ≡ added_lengths (lengths l)
inner_added l h =
    ap added_lengths (lengths-listed (without (items_of (straight l)))) ∙ added_without (items_of (straight l))
    ∙ ap added_lengths (sym (lengths-listed (items_of (straight l))) ∙ ap lengths (Rattle.otio_model.specs.declared.compositions.Listed.TheViews.roll-out-Listed (straight l)) ∙ h)

all_lengths : (ys : List (ItemOf Measured)) → map length_of (map whole_item (unmeasured ys)) ≡ map length_of (unmeasured ys)
all_lengths [] = refl
all_lengths ((Clip c) ∷ ys) = ap (λ l. length_of (Clip c) ∷ l) (all_lengths ys)
all_lengths ((Gap c) ∷ ys) = ap (λ l. length_of (Gap c) ∷ l) (all_lengths ys)
all_lengths ((Transition c) ∷ ys) = ap (λ l. length_of (Transition c) ∷ l) (all_lengths ys)
all_lengths ((Stack s) ∷ ys) =
    ap (λ ns. by_range s.source_range (longest_of ns) ∷ map length_of (map whole_item (unmeasured ys))) s.children.1
    ∙ ap (λ l. by_range s.source_range (longest_of (lengths s.children.0)) ∷ l) (all_lengths ys)
all_lengths ((Track t) ∷ ys) =
    ap (λ n. by_range t.source_range n ∷ map length_of (map whole_item (unmeasured ys))) (inner_lengths t.children.0 t.children.1)
    ∙ ap (λ l. by_range t.source_range (sum_of (lengths t.children.0)) ∷ l) (all_lengths ys)

pub same_lengths : (l : Listed) → lengths (straight l) ≡ lengths l
same_lengths = ind-Listed SameLengths (λ x y is.
    let list : map length_of (map whole_item x.list) ≡ map length_of x.list = subst (λ z. map length_of (map whole_item z.list) ≡ map length_of z.list) is (all_lengths y.list) in
    ap lengths (straight-listed x.list) ∙ lengths-listed (map whole_item x.list) ∙ list ∙ sym (lengths-listed x.list))

-- ---- faults

-- by what is available, where the item starts, its speed and its length
abbrev judged : Bool → ℕ → ℤ → ℤ → Option ℕ → Option ItemFault
judged keeps room start speed None = Some NoLength
judged keeps room start speed (Some n) =
    cond keeps
    (cond (nat_lt most_ticks n || (nat_lt most_ticks room || not (int_le (pos 0 -ℤ most_end) ((start *ℤ pos 1000000) +ℤ (pos n *ℤ speed)) && int_le ((start *ℤ pos 1000000) +ℤ (pos n *ℤ speed)) most_end))) (Some Long) None)
    (Some Speed)

same_fault : (x : ItemOf Listed) → fault_of (whole_item x) ≡ fault_of x
same_fault (Clip c) = refl
same_fault (Gap c) = refl
same_fault (Transition c) = refl
same_fault (Stack s) =
    ap (λ ls. judged (keeps_speed (pos 1000000) s.effects) (greatest ls) (trimmed_start (Stack s)) (speed_of (Stack s)) (by_range s.source_range (longest_of ls))) (same_lengths s.children)
same_fault (Track t) =
    ap₂ (λ room n. judged (keeps_speed (pos 1000000) t.effects) room (trimmed_start (Track t)) (speed_of (Track t)) (by_range t.source_range n))
    (inner_added t.children (same_lengths t.children)) (inner_lengths t.children (same_lengths t.children))

-- ---- all levels

abbrev KeepsSound : Listed → Type 0
KeepsSound l = AreFaultless l → AreFaultless (straight l)

abbrev Kept : Type 0
Kept = (l : Listed) × KeepsSound l

abbrev forgotten : List (ItemOf Kept) → List (ItemOf Listed)
forgotten ys = (map-Listed Kept Listed (λ e. e.0) (record { list = ys })).list

item_by : (l : Listed) → AreFaultless l → AllFaultless (items_of l)
item_by l s = sound_by (items_of l) (λ i x e p y f. s (i ∷ p) y (ap (option_and_then (below p)) e ∙ f))

without_sound : (l : List (ItemOf Listed)) → AllFaultless l → AllFaultless (without l)
without_sound [] a = tt
without_sound (x ∷ l) a = cases (is_transition x) (λ t. subst AllFaultless (sym (step_out x l t)) (without_sound l a.1)) (λ t. subst AllFaultless (sym (step_in x l t)) (a.0, without_sound l a.1))

stack_kept : (s : StackOf Listed) → KeepsSound s.children → IsFaultlessItem (Stack s) → IsFaultlessItem (whole_item (Stack s))
stack_kept s k h [] y e = subst (λ z. fault_of z ≡ None) (same_some (whole_item (Stack s)) y e) (same_fault (Stack s) ∙ own_sound (Stack s) h)
stack_kept s k h (i ∷ p) y e = k inner (i ∷ p) y e
  where
    inner : AreFaultless s.children
    inner [] z f = absurd (cc f)
    inner (j ∷ q) z f = h (j ∷ q) z f

track_kept : (t : TrackOf Listed) → KeepsSound t.children → IsFaultlessItem (Track t) → IsFaultlessItem (whole_item (Track t))
track_kept t k h [] y e = subst (λ z. fault_of z ≡ None) (same_some (whole_item (Track t)) y e) (same_fault (Track t) ∙ own_sound (Track t) h)
track_kept t k h (i ∷ p) y e = listed_sound (without (items_of (straight t.children))) (without_sound (items_of (straight t.children)) (item_by (straight t.children) (k inner))) (i ∷ p) y e
  where
    inner : AreFaultless t.children
    inner [] z f = absurd (cc f)
    inner (j ∷ q) z f = h (j ∷ q) z f

all_kept : (ys : List (ItemOf Kept)) → AllFaultless (forgotten ys) → AllFaultless (map whole_item (forgotten ys))
all_kept [] a = tt
all_kept ((Clip c) ∷ ys) a = (a.0, all_kept ys a.1)
all_kept ((Gap c) ∷ ys) a = (a.0, all_kept ys a.1)
all_kept ((Transition c) ∷ ys) a = (a.0, all_kept ys a.1)
all_kept ((Stack s) ∷ ys) a =
    (stack_kept (record { metadata = s.metadata; name = s.name; source_range = s.source_range; effects = s.effects; markers = s.markers; enabled = s.enabled; children = s.children.0; rest = s.rest }) s.children.1 a.0, all_kept ys a.1)
all_kept ((Track t) ∷ ys) a =
    (track_kept (record { metadata = t.metadata; name = t.name; source_range = t.source_range; effects = t.effects; markers = t.markers; enabled = t.enabled; children = t.children.0; kind = t.kind; rest = t.rest }) t.children.1 a.0, all_kept ys a.1)

kept_sound : (l : Listed) → KeepsSound l
kept_sound = ind-Listed KeepsSound (λ x y is.
    let list : AllFaultless x.list → AllFaultless (map whole_item x.list) = subst (λ z. AllFaultless z.list → AllFaultless (map whole_item z.list)) is (all_kept y.list) in
    λ s. subst AreFaultless (sym (straight-listed x.list)) (listed_sound (map whole_item x.list) (list (subst AllFaultless (items-listed x.list) (item_by (listed x.list) s)))))

pub straight_sound : (t r : Timeline) → IsFaultless t → IsStraight t r → IsFaultless r
straight_sound t r s e = faultless_bare (record t { tracks = record t.tracks { children = straight t.tracks.children } }) r (sym e) (record { start = s.start; items = kept_sound t.tracks.children s.items })
