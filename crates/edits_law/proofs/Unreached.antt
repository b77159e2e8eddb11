-- A track that gets other children and keeps its length changes nothing where it isn't reached.
use Rattle.std.proofs.Common.{◌≡◌, ◌≢◌, refl, sym, ap, ap₂, subst, ◌∙◌, ℕ, zero, suc, ℤ, pos, ◌+ℤ◌, ◌-ℤ◌, ◌&&◌, ◌||◌, Bool, true, false, cond, List, [], ◌∷◌, map, Option, Some, None, slice_get, take, arith}
use Rattle.std.specs.Prelude.{option_map, option_and_then, unwrap_or}
use Rattle.std.specs.Option.{option_or}
use Rattle.std.specs.Str.{bytes_eq}
use Rattle.std.proofs.lemmas.Int.{ints}
use Rattle.std.proofs.lemmas.Bool.{and_from as both_true}
use Rattle.otio_model.specs.declared.compositions.StackOf.{StackOf}
use Rattle.otio_model.specs.declared.compositions.TrackOf.{TrackOf}
use Rattle.otio_model.specs.declared.compositions.ItemOf.{ItemOf}
use Rattle.otio_model.specs.declared.compositions.ItemOf.TheVariants.{Clip, Gap, Transition, Stack, Track}
use Rattle.otio_model.specs.declared.compositions.Listed.{Listed}
use Rattle.otio_model.specs.declared.timelines.Timeline.{Timeline}
use Rattle.otio_model.specs.Trees.{listed, items_of, below, item_at}
use Rattle.otio_model.specs.Edits.{deeper, changed, with_at}
use Rattle.otio_model.specs.Lengths.{Range, range_of, from_zero, sum_of, longest_of, length_of}
use Rattle.otio_model.proofs.Views.{items-listed}
use Rattle.coord.specs.Looks.{FrameRate, Show, Blank, Overlap, Look, total, item_shows, next_shows, from_end, mix_shows, mixed, blank, list_shows, track_shows, stack_shows, is_blank}
use Rattle.otio_model.specs.Overlaps.{within}
use Rattle.coord.specs.Sights.{View, seen, sights, sight, looks, lengths_seen, viewer, exact}
use Rattle.otio_model.specs.Lengths.{or_zero}
use Rattle.coord.specs.Programs.{kind_of, child_shows, shown_by, at_by}
use Rattle.coord.proofs.SightLemmas.{sights-listed, sights-items, seen_lengths}
use Rattle.coord.proofs.LookSteps.{look_kind, item, transition}
use Rattle.edits_law.proofs.Splice.{cases}
use Rattle.edits_law.specs.Down.{passed, is_here, is_next, is_side, is_holder, asks, is_above, where_so, reached, reached_above, inner, down_from, down_in, down}
use Rattle.coord.proofs.Members.{same_some}

-- ---- one item of a list that shows the same where it is asked

-- two looks that are alike; the one that is looked for may differ, but for the instant u, and there only where q holds
record IsSame (q : Bool) (u : ℤ) (k : Option ℕ) (x y : Look) : Type 0 where
  length : x.length ≡ y.length
  overlap : x.overlap ≡ y.overlap
  flat : (o : Overlap) → x.overlap ≡ Some o → x.length ≡ pos 0
  shows : (z : ℤ) → (is_here k ≡ true → (q ≡ true) × (z ≡ u)) → x.shows z ≡ y.shows z

abbrev AreSame : Bool → ℤ → Option ℕ → List Look → List Look → Type 0
AreSame q u k [] [] = Unit {0}
AreSame q u k [] (y ∷ m) = ⊥
AreSame q u k (x ∷ l) [] = ⊥
AreSame q u k (x ∷ l) (y ∷ m) = IsSame q u k x y × AreSame q u (passed k) l m

-- the item that is looked for is asked at u where its list is asked at w
abbrev IsAt : ℤ → Option ℕ → List Look → ℤ → Type 0
IsAt u None l w = Unit {0}
IsAt u (Some k) l w = (w -ℤ total (take k l)) ≡ u

here_at : (u : ℤ) (k : Option ℕ) (l : List Look) (w : ℤ) → is_here k ≡ true → IsAt u k l w → w ≡ u
here_at u None l w h a = absurd (cc h)
here_at u (Some zero) l w h a = omega (arith, ints, a)
here_at u (Some (suc k)) l w h a = absurd (cc h)

next_at : (u : ℤ) (k : Option ℕ) (x : Look) (l : List Look) (w : ℤ) → IsAt u k (x ∷ l) w → IsAt u (passed k) l (w -ℤ x.length)
next_at u None x l w a = tt
next_at u (Some zero) x l w a = tt
next_at u (Some (suc k)) x l w a = omega (arith, ints, a)

flat_at : (u : ℤ) (k : Option ℕ) (x : Look) (l : List Look) (w : ℤ) → x.length ≡ pos 0 → IsAt u k (x ∷ l) w → IsAt u (passed k) l w
flat_at u None x l w z a = tt
flat_at u (Some zero) x l w z a = tt
flat_at u (Some (suc k)) x l w z a = omega (arith, ints, a, z)

left_of : (a b : Bool) → a ≡ true → (a || b) ≡ true
left_of true b e = refl
left_of false b e = absurd (cc e)

right_of : (a b : Bool) → b ≡ true → (a || b) ≡ true
right_of true b e = refl
right_of false b e = e

item_same : (q : Bool) (u : ℤ) (k : Option ℕ) (l m : List Look) (w : ℤ) → AreSame q u k l m → IsAt u k l w → (is_holder k l w ≡ true → q ≡ true) → item_shows l w ≡ item_shows m w
item_same q u k [] [] w s a h = refl
item_same q u k [] (y ∷ m) w s a h = absurd s
item_same q u k (x ∷ l) [] w s a h = absurd s
item_same q u k (x ∷ l) (y ∷ m) w s a h = cases (within (pos 0) x.length w)
    (λ t. let d : within (pos 0) y.length w ≡ true = ap (λ n. within (pos 0) n w) (sym s.0.length) ∙ t in
    let g : is_here k ≡ true → q ≡ true = rw t at h in
    rw (t, d) (s.0.shows w (λ b. (g b, here_at u k (x ∷ l) w b a))))
    (λ t. let d : within (pos 0) y.length w ≡ false = ap (λ n. within (pos 0) n w) (sym s.0.length) ∙ t in
    let g : is_holder (passed k) l (w -ℤ x.length) ≡ true → q ≡ true = rw t at h in
    rw (t, d) (item_same q u (passed k) l m (w -ℤ x.length) s.1 (next_at u k x l w a) g ∙ ap (λ n. item_shows m (w -ℤ n)) s.0.length))

next_same : (q : Bool) (u : ℤ) (k : Option ℕ) (l m : List Look) (w : ℤ) → AreSame q u k l m → IsAt u k l w → (is_next k l ≡ true → q ≡ true) → next_shows l w ≡ next_shows m w
next_same q u k [] [] w s a h = refl
next_same q u k [] (y ∷ m) w s a h = absurd s
next_same q u k (x ∷ l) [] w s a h = absurd s
next_same q u k (x ∷ l) (y ∷ m) w s a h = elim (look_kind x) [
  | item e ↦ let f : y.overlap ≡ None = sym s.0.overlap ∙ e in
      let g : is_here k ≡ true → q ≡ true = rw e at h in
      rw (e, f) (s.0.shows w (λ b. (g b, here_at u k (x ∷ l) w b a)))
  | transition o e ↦ let f : y.overlap ≡ Some o = sym s.0.overlap ∙ e in
      let g : is_next (passed k) l ≡ true → q ≡ true = rw e at h in
      rw (e, f) (next_same q u (passed k) l m w s.1 (flat_at u k x l w (s.0.flat o e) a) g)
]

some_true : (b : Bool) → b ≡ true → Path (Option Bool) (Some b) (Some true)
some_true b e = ap Some e

mix_same : (q : Bool) (u : ℤ) (last : Bool) (p r : ℤ → Show) (k : Option ℕ) (l m : List Look) (w : ℤ)
    → ((last ≡ true → q ≡ true) → p w ≡ r w) → AreSame q u k l m → IsAt u k l w → (is_side k last l w ≡ Some true → q ≡ true)
    → mix_shows p l w ≡ mix_shows r m w
mix_same q u last p r k [] [] w g s a h = refl
mix_same q u last p r k [] (y ∷ m) w g s a h = absurd s
mix_same q u last p r k (x ∷ l) [] w g s a h = absurd s
mix_same q u last p r k (x ∷ l) (y ∷ m) w g s a h = elim (look_kind x) [
  | item e ↦ let f : y.overlap ≡ None = sym s.0.overlap ∙ e in
      let n : is_side (passed k) (is_here k) l (w -ℤ x.length) ≡ Some true → q ≡ true = rw e at h in
      rw (e, f) (mix_same q u (is_here k) (from_end x) (from_end y) (passed k) l m (w -ℤ x.length)
      (λ b. s.0.shows ((w -ℤ x.length) +ℤ x.length) (λ c. (b c, let d = here_at u k (x ∷ l) w c a in omega (arith, ints, d)))
      ∙ ap (λ j. y.shows ((w -ℤ x.length) +ℤ j)) s.0.length)
      s.1 (next_at u k x l w a) n
      ∙ ap (λ j. mix_shows (from_end y) m (w -ℤ j)) s.0.length)
  | transition o e ↦ let f : y.overlap ≡ Some o = sym s.0.overlap ∙ e in
      rw (e, f) (cases (within (pos 0 -ℤ o.before) o.after w)
      (λ t. let n : Some (last || is_next (passed k) l) ≡ Some true → q ≡ true = rw (e, t) at h in
      rw t (ap₂ (λ c d. Some (mixed o.kind c d (w +ℤ o.before) (o.before +ℤ o.after)))
      (g (λ b. n (ap Some (left_of last (is_next (passed k) l) b))))
      (next_same q u (passed k) l m w s.1 (flat_at u k x l w (s.0.flat o e) a) (λ b. n (ap Some (right_of last (is_next (passed k) l) b))))))
      (λ t. let n : is_side (passed k) last l w ≡ Some true → q ≡ true = rw (e, t) at h in
      rw t (mix_same q u last p r (passed k) l m w g s.1 (flat_at u k x l w (s.0.flat o e) a) n)))
]

-- where an overlap holds w there is a mix, and else none
abbrev Matches : Option Bool → Option Show → Type 0
Matches None None = Unit {0}
Matches None (Some s) = ⊥
Matches (Some b) None = ⊥
Matches (Some b) (Some s) = Unit {0}

mix_there : (last : Bool) (p : ℤ → Show) (k : Option ℕ) (l : List Look) (w : ℤ) → Matches (is_side k last l w) (mix_shows p l w)
mix_there last p k [] w = tt
mix_there last p k (x ∷ l) w = elim (look_kind x) [
  | item e ↦ rw e (mix_there (is_here k) (from_end x) (passed k) l (w -ℤ x.length))
  | transition o e ↦ rw e (cases (within (pos 0 -ℤ o.before) o.after w) (λ t. rw t tt) (λ t. rw t (mix_there last p (passed k) l w)))
]

list_same : (q : Bool) (u : ℤ) (k : ℕ) (l m : List Look) (w : ℤ) → AreSame q u (Some k) l m → (w -ℤ total (take k l)) ≡ u
    → (unwrap_or (is_side (Some k) false l w) (is_holder (Some k) l w) ≡ true → q ≡ true) → list_shows l w ≡ list_shows m w
list_same q u k l m w s a h = by (is_side (Some k) false l w) refl (mix_there false blank (Some k) l w)
  where
    held : (g c : Option Show) → Matches (Some true) g → g ≡ c → unwrap_or g (item_shows l w) ≡ unwrap_or c (item_shows m w)
    held None c t e = absurd t
    held (Some z) c t e = rw (sym e) refl

    by : (o : Option Bool) → is_side (Some k) false l w ≡ o → Matches (is_side (Some k) false l w) (mix_shows blank l w) → list_shows l w ≡ list_shows m w
    by None e t =
        let never : is_side (Some k) false l w ≡ Some true → q ≡ true = λ d. absurd (cc (sym e ∙ d)) in
        let same = mix_same q u false blank blank (Some k) l m w (λ b. refl) s a never in
        let g : is_holder (Some k) l w ≡ true → q ≡ true = rw e at h in
        ap (λ o. unwrap_or o (item_shows l w)) same ∙ ap (unwrap_or (mix_shows blank m w)) (item_same q u (Some k) l m w s a g)
    by (Some b) e t =
        let g : is_side (Some k) false l w ≡ Some true → q ≡ true = λ d. h (ap (λ o. unwrap_or o (is_holder (Some k) l w)) d) in
        let same = mix_same q u false blank blank (Some k) l m w (λ c. refl) s a g in
        held (mix_shows blank l w) (mix_shows blank m w) (rw e at t) same

total_same : (q : Bool) (u : ℤ) (k : Option ℕ) (l m : List Look) → AreSame q u k l m → total l ≡ total m
total_same q u k [] [] s = refl
total_same q u k [] (y ∷ m) s = absurd s
total_same q u k (x ∷ l) [] s = absurd s
total_same q u k (x ∷ l) (y ∷ m) s = ap₂ (λ a b. a +ℤ b) s.0.length (total_same q u (passed k) l m s.1)

track_same : (q : Bool) (u : ℤ) (k : ℕ) (l m : List Look) (w : ℤ) → AreSame q u (Some k) l m → (w -ℤ total (take k l)) ≡ u
    → (asks k l w ≡ true → q ≡ true) → track_shows l w ≡ track_shows m w
track_same q u k l m w s a h =
    cases (within (pos 0) (total l) w)
    (λ t. let g : unwrap_or (is_side (Some k) false l w) (is_holder (Some k) l w) ≡ true → q ≡ true = λ b. h (both_true (within (pos 0) (total l) w) _ t b) in
    ap (λ z. cond (within (pos 0) (total l) w) z Blank) (list_same q u k l m w s a g))
    (λ t. rw t refl)
    ∙ ap (λ n. cond (within (pos 0) n w) (list_shows m w) Blank) (total_same q u (Some k) l m s)

stack_same : (q : Bool) (k : Option ℕ) (l m : List Look) (w : ℤ) → AreSame q w k l m → (is_above k l w ≡ true → q ≡ true) → stack_shows l w ≡ stack_shows m w
stack_same q k [] [] w s h = refl
stack_same q k [] (y ∷ m) w s h = absurd s
stack_same q k (x ∷ l) [] w s h = absurd s
stack_same q k (x ∷ l) (y ∷ m) w s h =
    let rest = stack_same q (passed k) l m w s.1 (λ b. h (right_of (is_here k && within (pos 0) x.length w) (is_above (passed k) l w) b)) in
    let here : cond (within (pos 0) x.length w) (x.shows w) Blank ≡ cond (within (pos 0) x.length w) (y.shows w) Blank =
    cases (within (pos 0) x.length w)
    (λ t. ap (λ z. cond (within (pos 0) x.length w) z Blank) (s.0.shows w (λ b. (h (left_of (is_here k && within (pos 0) x.length w) (is_above (passed k) l w) (both_true (is_here k) (within (pos 0) x.length w) b t)), refl))))
    (λ t. rw t refl) in
    ap₂ (λ (g : Show) (c : Show). cond (is_blank g) c g) rest here
    ∙ ap (λ n. cond (is_blank (stack_shows m w)) (cond (within (pos 0) n w) (y.shows w) Blank) (stack_shows m w)) s.0.length

-- ---- lists of items with one changed

flat_sight : (v : View) (x : ItemOf Listed) (o : Overlap) → (seen v (sight x)).overlap ≡ Some o → (seen v (sight x)).length ≡ pos 0
flat_sight v (Clip c) o e = absurd (cc e)
flat_sight v (Gap c) o e = absurd (cc e)
flat_sight v (Transition c) o e = refl
flat_sight v (Stack c) o e = absurd (cc e)
flat_sight v (Track c) o e = absurd (cc e)

self_same : (q : Bool) (u : ℤ) (k : Option ℕ) (v : View) (x : ItemOf Listed) → IsSame q u k (seen v (sight x)) (seen v (sight x))
self_same q u k v x = record { length = refl; overlap = refl; flat = flat_sight v x; shows = λ z h. refl }

all_self : (q : Bool) (u : ℤ) (v : View) (l : List (ItemOf Listed)) → AreSame q u None (map (seen v) (map sight l)) (map (seen v) (map sight l))
all_self q u v [] = tt
all_self q u v (x ∷ l) = (self_same q u None v x, all_self q u v l)

changed_same : (q : Bool) (u : ℤ) (v : View) (i : ℕ) (f : ItemOf Listed → ItemOf Listed) (l : List (ItemOf Listed))
    → ((x : ItemOf Listed) → slice_get l i ≡ Some x → IsSame q u (Some zero) (seen v (sight x)) (seen v (sight (f x))))
    → AreSame q u (Some i) (map (seen v) (map sight l)) (map (seen v) (map sight (changed f i l)))
changed_same q u v zero f [] h = tt
changed_same q u v (suc i) f [] h = tt
changed_same q u v zero f (x ∷ l) h = (h x refl, all_self q u v l)
changed_same q u v (suc i) f (x ∷ l) h =
    let s = self_same q u None v x in
    (record { length = refl; overlap = refl; flat = flat_sight v x; shows = λ z c. refl }, changed_same q u v i f l h)

pub looks_map : (v : View) (l : List (ItemOf Listed)) → looks v l ≡ map (seen v) (map sight l)
looks_map v [] = refl
looks_map v (x ∷ l) = ap (λ m. seen v (sight x) ∷ m) (looks_map v l)

lengths_changed : (i : ℕ) (f : ItemOf Listed → ItemOf Listed) (l : List (ItemOf Listed)) → ((x : ItemOf Listed) → slice_get l i ≡ Some x → (sight x).length ≡ (sight (f x)).length)
    → lengths_seen (map sight l) ≡ lengths_seen (map sight (changed f i l))
lengths_changed zero f [] h = refl
lengths_changed (suc i) f [] h = refl
lengths_changed zero f (x ∷ l) h = ap (λ n. n ∷ lengths_seen (map sight l)) (h x refl)
lengths_changed (suc i) f (x ∷ l) h = ap (λ ns. (sight x).length ∷ ns) (lengths_changed i f l h)

-- ---- down the place

-- the item stays as it was where the place isn't reached
record Stays (v : View) (place : List ℕ) (m : Listed) (x : ItemOf Listed) : Type 0 where
  length : (sight x).length ≡ (sight (deeper (with_at place m) x)).length
  overlap : (sight x).overlap ≡ (sight (deeper (with_at place m) x)).overlap
  shows : (u : ℤ) → down_from v place x u ≡ None → (sight x).shows v u ≡ (sight (deeper (with_at place m) x)).shows v u

where_no : (b : Bool) (w : ℤ) → where_so b w ≡ None → b ≡ false
where_no true w e = absurd (cc e)
where_no false w e = refl

hidden : (b : Bool) (s z : Show) → b ≡ false → cond b s Blank ≡ cond b z Blank
hidden true s z e = absurd (cc e)
hidden false s z e = refl

shown : (b : Bool) (s z : Show) → (b ≡ true → s ≡ z) → cond b s Blank ≡ cond b z Blank
shown true s z h = h refl
shown false s z h = refl

unasked : (b : Bool) (o : Option ℤ) → cond b o None ≡ None → b ≡ true → o ≡ None
unasked true o e f = e
unasked false o e f = absurd (cc f)

-- what isn't reached in a child that is asked
child_none : (f : ℤ → Option ℤ) (b : Bool) (w : ℤ) → option_and_then f (where_so b w) ≡ None → b ≡ true → f w ≡ None
child_none f true w e h = e
child_none f false w e h = absurd (cc h)

look_same : (v : View) (place : List ℕ) (m : Listed) (x : ItemOf Listed) (q : Bool) (u : ℤ) → Stays v place m x → (q ≡ true → down_from v place x u ≡ None)
    → IsSame q u (Some zero) (seen v (sight x)) (seen v (sight (deeper (with_at place m) x)))
look_same v place m x q u s h = record {
  length = ap (λ n. pos (or_zero n)) s.length;
  overlap = s.overlap;
  flat = flat_sight v x;
  shows = λ z c. let d = c refl in s.shows z (subst (λ n. down_from v place x n ≡ None) (sym d.1) (h d.0));
}

abbrev pub by_length : Option ℕ → TrackOf Listed → Option ℕ
by_length n t = option_map (λ (r : Range). r.len) (option_or (option_map range_of t.source_range) (option_map from_zero n))

abbrev pub above_length : Option ℕ → StackOf Listed → Option ℕ
above_length n s = option_map (λ (r : Range). r.len) (option_or (option_map range_of s.source_range) (option_map from_zero n))

-- the sights of children with one changed
sights_changed : (l : Listed) (f : ItemOf Listed → ItemOf Listed) (i : ℕ) → sights (listed (changed f i (items_of l))) ≡ map sight (changed f i (items_of l))
sights_changed l f i = sights-listed (changed f i (items_of l))

track_stays : (v : View) (i : ℕ) (place : List ℕ) (m : Listed) (t : TrackOf Listed) (y : ItemOf Listed) → slice_get (items_of t.children) i ≡ Some y → Stays v place m y → Stays v (i ∷ place) m (Track t)
track_stays v i place m t y e s =
    let old : List (ItemOf Listed) = items_of t.children in
    let new : List (ItemOf Listed) = changed (deeper (with_at place m)) i old in
    let is : (x : ItemOf Listed) → slice_get old i ≡ Some x → Stays v place m x = λ x d. subst (Stays v place m) (same_some y x (sym e ∙ d)) s in
    record {
      length = ap (λ ns. by_length (sum_of ns) t)
          (ap lengths_seen (sights-items t.children) ∙ lengths_changed i (deeper (with_at place m)) old (λ x d. (is x d).length) ∙ ap lengths_seen (sym (sights_changed t.children (deeper (with_at place m)) i)));
      overlap = refl;
      shows = λ u n. shown (t.enabled && bytes_eq t.kind v.kind) _ _ (λ b. at (inner (Track t) u)
          (λ c. let g = unasked (t.enabled && bytes_eq t.kind v.kind) _ n b in
          let k = subst (λ o. option_and_then (λ x. option_and_then (down_from v place x) (reached i (looks v old) (inner (Track t) u))) o ≡ None) e g in
          child_none (down_from v place y) (asks i (looks v old) (inner (Track t) u)) _ k c));
    }
  where
    at : (w : ℤ) → (asks i (looks v (items_of t.children)) w ≡ true → down_from v place y (w -ℤ total (take i (looks v (items_of t.children)))) ≡ None)
        → track_shows (map (seen v) (sights t.children)) w ≡ track_shows (map (seen v) (sights (listed (changed (deeper (with_at place m)) i (items_of t.children))))) w
    at w h =
        let f : ItemOf Listed → ItemOf Listed = deeper (with_at place m) in
        let l : List Look = looks v (items_of t.children) in
        let u : ℤ = w -ℤ total (take i l) in
        let same = changed_same (asks i (looks v (items_of t.children)) w) (w -ℤ total (take i (looks v (items_of t.children)))) v i (deeper (with_at place m)) (items_of t.children)
        (λ x d. subst (λ z. IsSame (asks i (looks v (items_of t.children)) w) (w -ℤ total (take i (looks v (items_of t.children)))) (Some zero) (seen v (sight z)) (seen v (sight (deeper (with_at place m) z))))
        (same_some y x (sym e ∙ d)) (look_same v place m y _ _ s h)) in
        let kept = subst (λ k. AreSame (asks i (looks v (items_of t.children)) w) (w -ℤ total (take i (looks v (items_of t.children)))) (Some i) k (map (seen v) (map sight (changed (deeper (with_at place m)) i (items_of t.children)))))
        (sym (looks_map v (items_of t.children))) same in
        ap (λ k. track_shows k w) (ap (map (seen v)) (sights-items t.children) ∙ sym (looks_map v (items_of t.children)))
        ∙ track_same (asks i (looks v (items_of t.children)) w) (w -ℤ total (take i (looks v (items_of t.children)))) i (looks v (items_of t.children)) (map (seen v) (map sight (changed (deeper (with_at place m)) i (items_of t.children)))) w kept refl (λ c. c)
        ∙ ap (λ k. track_shows (map (seen v) k) w) (sym (sights_changed t.children (deeper (with_at place m)) i))

stack_stays : (v : View) (i : ℕ) (place : List ℕ) (m : Listed) (t : StackOf Listed) (y : ItemOf Listed) → slice_get (items_of t.children) i ≡ Some y → Stays v place m y → Stays v (i ∷ place) m (Stack t)
stack_stays v i place m t y e s =
    let old : List (ItemOf Listed) = items_of t.children in
    let is : (x : ItemOf Listed) → slice_get old i ≡ Some x → Stays v place m x = λ x d. subst (Stays v place m) (same_some y x (sym e ∙ d)) s in
    record {
      length = ap (λ ns. above_length (longest_of ns) t)
          (ap lengths_seen (sights-items t.children) ∙ lengths_changed i (deeper (with_at place m)) old (λ x d. (is x d).length) ∙ ap lengths_seen (sym (sights_changed t.children (deeper (with_at place m)) i)));
      overlap = refl;
      shows = λ u n. shown t.enabled _ _ (λ b. at (inner (Stack t) u)
          (λ c. let g = unasked t.enabled _ n b in
          let k = subst (λ o. option_and_then (λ x. option_and_then (down_from v place x) (reached_above i (looks v old) (inner (Stack t) u))) o ≡ None) e g in
          child_none (down_from v place y) (is_above (Some i) (looks v old) (inner (Stack t) u)) _ k c));
    }
  where
    at : (w : ℤ) → (is_above (Some i) (looks v (items_of t.children)) w ≡ true → down_from v place y w ≡ None)
        → stack_shows (map (seen v) (sights t.children)) w ≡ stack_shows (map (seen v) (sights (listed (changed (deeper (with_at place m)) i (items_of t.children))))) w
    at w h =
        let same = changed_same (is_above (Some i) (looks v (items_of t.children)) w) w v i (deeper (with_at place m)) (items_of t.children)
        (λ x d. subst (λ z. IsSame (is_above (Some i) (looks v (items_of t.children)) w) w (Some zero) (seen v (sight z)) (seen v (sight (deeper (with_at place m) z))))
        (same_some y x (sym e ∙ d)) (look_same v place m y _ _ s h)) in
        let kept = subst (λ k. AreSame (is_above (Some i) (looks v (items_of t.children)) w) w (Some i) k (map (seen v) (map sight (changed (deeper (with_at place m)) i (items_of t.children)))))
        (sym (looks_map v (items_of t.children))) same in
        ap (λ k. stack_shows k w) (ap (map (seen v)) (sights-items t.children) ∙ sym (looks_map v (items_of t.children)))
        ∙ stack_same (is_above (Some i) (looks v (items_of t.children)) w) (Some i) (looks v (items_of t.children)) (map (seen v) (map sight (changed (deeper (with_at place m)) i (items_of t.children)))) w kept (λ c. c)
        ∙ ap (λ k. stack_shows (map (seen v) k) w) (sym (sights_changed t.children (deeper (with_at place m)) i))

-- the length that is seen is the length
pub seen_length : (x : ItemOf Listed) → (sight x).length ≡ length_of x
seen_length (Clip c) = refl
seen_length (Gap c) = refl
seen_length (Transition c) = refl
seen_length (Stack s) = ap (λ ns. above_length (longest_of ns) s) (seen_lengths s.children)
seen_length (Track t) = ap (λ ns. by_length (sum_of ns) t) (seen_lengths t.children)

here_stays : (v : View) (m : Listed) (t : TrackOf Listed) → length_of (Track (record t { children = m })) ≡ length_of (Track t) → Stays v [] m (Track t)
here_stays v m t e = record {
  length = seen_length (Track t) ∙ sym e ∙ sym (seen_length (Track (record t { children = m })));
  overlap = refl;
  shows = λ u n. hidden (t.enabled && bytes_eq t.kind v.kind) _ _ (where_no (t.enabled && bytes_eq t.kind v.kind) (inner (Track t) u) n);
}

pub record Way (i : ℕ) (place : List ℕ) (l : List (ItemOf Listed)) (z : ItemOf Listed) : Type 0 where
  pub child : ItemOf Listed
  pub there : slice_get l i ≡ Some child
  pub leads : below place child ≡ Some z

pub way : (i : ℕ) (place : List ℕ) (l : List (ItemOf Listed)) (z : ItemOf Listed) → option_and_then (below place) (slice_get l i) ≡ Some z → Way i place l z
way i place l z e = of (slice_get l i) refl e
  where
    of : (o : Option (ItemOf Listed)) → slice_get l i ≡ o → option_and_then (below place) o ≡ Some z → Way i place l z
    of None f h = absurd (cc h)
    of (Some y) f h = record { child = y; there = f; leads = h }

stays : (v : View) (place : List ℕ) (m : Listed) (x : ItemOf Listed) (t : TrackOf Listed) → below place x ≡ Some (Track t) → length_of (Track (record t { children = m })) ≡ length_of (Track t) → Stays v place m x
stays v [] m x t b e = subst (Stays v [] m) (let z : Track t ≡ x = cc (sym b) in z) (here_stays v m t e)
stays v (i ∷ place) m (Clip c) t b e = absurd (cc b)
stays v (i ∷ place) m (Gap c) t b e = absurd (cc b)
stays v (i ∷ place) m (Transition c) t b e = absurd (cc b)
stays v (i ∷ place) m (Stack s) t b e = let d = way i place (items_of s.children) (Track t) b in stack_stays v i place m s d.child d.there (stays v place m d.child t d.leads e)
stays v (i ∷ place) m (Track s) t b e = let d = way i place (items_of s.children) (Track t) b in track_stays v i place m s d.child d.there (stays v place m d.child t d.leads e)

-- ---- what is reached is the same for all viewers of a kind

-- lists that are alike but for what they show
abbrev AreShaped : List Look → List Look → Type 0
AreShaped [] [] = Unit {0}
AreShaped [] (y ∷ m) = ⊥
AreShaped (x ∷ l) [] = ⊥
AreShaped (x ∷ l) (y ∷ m) = (x.length ≡ y.length) × (x.overlap ≡ y.overlap) × AreShaped l m

shaped : (v w : View) (l : List (ItemOf Listed)) → AreShaped (looks v l) (looks w l)
shaped v w [] = tt
shaped v w (x ∷ l) = (refl, refl, shaped v w l)

total_alike : (l m : List Look) → AreShaped l m → total l ≡ total m
total_alike [] [] s = refl
total_alike [] (y ∷ m) s = absurd s
total_alike (x ∷ l) [] s = absurd s
total_alike (x ∷ l) (y ∷ m) s = ap₂ (λ a b. a +ℤ b) s.0 (total_alike l m s.2)

taken_alike : (k : ℕ) (l m : List Look) → AreShaped l m → total (take k l) ≡ total (take k m)
taken_alike zero l m s = refl
taken_alike (suc k) [] [] s = refl
taken_alike (suc k) [] (y ∷ m) s = absurd s
taken_alike (suc k) (x ∷ l) [] s = absurd s
taken_alike (suc k) (x ∷ l) (y ∷ m) s = ap₂ (λ a b. a +ℤ b) s.0 (taken_alike k l m s.2)

next_alike : (k : Option ℕ) (l m : List Look) → AreShaped l m → is_next k l ≡ is_next k m
next_alike k [] [] s = refl
next_alike k [] (y ∷ m) s = absurd s
next_alike k (x ∷ l) [] s = absurd s
next_alike k (x ∷ l) (y ∷ m) s = elim (look_kind x) [
  | item e ↦ let f : y.overlap ≡ None = sym s.1 ∙ e in rw (e, f) refl
  | transition o e ↦ let f : y.overlap ≡ Some o = sym s.1 ∙ e in rw (e, f) (next_alike (passed k) l m s.2)
]

side_alike : (k : Option ℕ) (last : Bool) (l m : List Look) (w : ℤ) → AreShaped l m → is_side k last l w ≡ is_side k last m w
side_alike k last [] [] w s = refl
side_alike k last [] (y ∷ m) w s = absurd s
side_alike k last (x ∷ l) [] w s = absurd s
side_alike k last (x ∷ l) (y ∷ m) w s = elim (look_kind x) [
  | item e ↦ let f : y.overlap ≡ None = sym s.1 ∙ e in
      rw (e, f) (side_alike (passed k) (is_here k) l m (w -ℤ x.length) s.2 ∙ ap (λ n. is_side (passed k) (is_here k) m (w -ℤ n)) s.0)
  | transition o e ↦ let f : y.overlap ≡ Some o = sym s.1 ∙ e in
      rw (e, f) (ap₂ (λ a b. cond (within (pos 0 -ℤ o.before) o.after w) (Some (last || a)) b) (next_alike (passed k) l m s.2) (side_alike (passed k) last l m w s.2))
]

holder_alike : (k : Option ℕ) (l m : List Look) (w : ℤ) → AreShaped l m → is_holder k l w ≡ is_holder k m w
holder_alike k [] [] w s = refl
holder_alike k [] (y ∷ m) w s = absurd s
holder_alike k (x ∷ l) [] w s = absurd s
holder_alike k (x ∷ l) (y ∷ m) w s =
    ap₂ (λ a b. cond (within (pos 0) a w) (is_here k) b) s.0 (holder_alike (passed k) l m (w -ℤ x.length) s.2 ∙ ap (λ n. is_holder (passed k) m (w -ℤ n)) s.0)

above_alike : (k : Option ℕ) (l m : List Look) (w : ℤ) → AreShaped l m → is_above k l w ≡ is_above k m w
above_alike k [] [] w s = refl
above_alike k [] (y ∷ m) w s = absurd s
above_alike k (x ∷ l) [] w s = absurd s
above_alike k (x ∷ l) (y ∷ m) w s = ap₂ (λ a b. (is_here k && within (pos 0) a w) || b) s.0 (above_alike (passed k) l m w s.2)

asks_alike : (k : ℕ) (l m : List Look) (w : ℤ) → AreShaped l m → asks k l w ≡ asks k m w
asks_alike k l m w s =
    ap (λ n. within (pos 0) n w && unwrap_or (is_side (Some k) false l w) (is_holder (Some k) l w)) (total_alike l m s)
    ∙ ap₂ (λ a b. within (pos 0) (total m) w && unwrap_or a b) (side_alike (Some k) false l m w s) (holder_alike (Some k) l m w s)

reached_alike : (k : ℕ) (l m : List Look) (w : ℤ) → AreShaped l m → reached k l w ≡ reached k m w
reached_alike k l m w s = ap₂ (λ a n. where_so a (w -ℤ n)) (asks_alike k l m w s) (taken_alike k l m s)

reached_above_alike : (k : ℕ) (l m : List Look) (w : ℤ) → AreShaped l m → reached_above k l w ≡ reached_above k m w
reached_above_alike k l m w s = ap (λ a. where_so a w) (above_alike (Some k) l m w s)

-- what a child reaches, where it is the same for both
child_alike : (o : Option (ItemOf Listed)) (a b : Option ℤ) (f g : ItemOf Listed → ℤ → Option ℤ) → a ≡ b → ((x : ItemOf Listed) (z : ℤ) → f x z ≡ g x z)
    → option_and_then (λ x. option_and_then (f x) a) o ≡ option_and_then (λ x. option_and_then (g x) b) o
child_alike None a b f g e h = refl
child_alike (Some x) a b f g e h = ap (option_and_then (f x)) e ∙ of b
  where
    of : (c : Option ℤ) → option_and_then (f x) c ≡ option_and_then (g x) c
    of None = refl
    of (Some z) = h x z

down_alike : (v w : View) (place : List ℕ) (x : ItemOf Listed) (u : ℤ) → v.kind ≡ w.kind → down_from v place x u ≡ down_from w place x u
down_alike v w place (Clip c) u e = refl
down_alike v w place (Gap c) u e = refl
down_alike v w place (Transition c) u e = refl
down_alike v w [] (Stack s) u e = refl
down_alike v w [] (Track t) u e = ap (λ k. where_so (t.enabled && bytes_eq t.kind k) (inner (Track t) u)) e
down_alike v w (i ∷ place) (Stack s) u e = ap (λ o. cond s.enabled o None)
    (child_alike (slice_get (items_of s.children) i) _ _ (down_from v place) (down_from w place)
    (reached_above_alike i (looks v (items_of s.children)) (looks w (items_of s.children)) (inner (Stack s) u) (shaped v w (items_of s.children)))
    (λ x z. down_alike v w place x z e))
down_alike v w (i ∷ place) (Track t) u e = ap₂ (λ k o. cond (t.enabled && bytes_eq t.kind k) o None) e
    (child_alike (slice_get (items_of t.children) i) _ _ (down_from v place) (down_from w place)
    (reached_alike i (looks v (items_of t.children)) (looks w (items_of t.children)) (inner (Track t) u) (shaped v w (items_of t.children)))
    (λ x z. down_alike v w place x z e))

-- ---- root children

pub got_changed : {A : Type 0} (f : A → A) (i : ℕ) (xs : List A) → slice_get (changed f i xs) i ≡ option_map f (slice_get xs i)
got_changed f zero [] = refl
got_changed f (suc i) [] = refl
got_changed f zero (x ∷ xs) = refl
got_changed f (suc i) (x ∷ xs) = got_changed f i xs

pub got_other : {A : Type 0} (f : A → A) (i k : ℕ) (xs : List A) → i ≢ k → slice_get (changed f i xs) k ≡ slice_get xs k
got_other f zero zero xs n = absurd (n refl)
got_other f zero (suc k) [] n = refl
got_other f zero (suc k) (x ∷ xs) n = refl
got_other f (suc i) k [] n = refl
got_other f (suc i) zero (x ∷ xs) n = refl
got_other f (suc i) (suc k) (x ∷ xs) n = got_other f i k xs (λ e. n (ap suc e))

pub kind_deeper : (f : Listed → Listed) (x : ItemOf Listed) → kind_of (deeper f x) ≡ kind_of x
kind_deeper f (Clip c) = refl
kind_deeper f (Gap c) = refl
kind_deeper f (Transition c) = refl
kind_deeper f (Stack c) = refl
kind_deeper f (Track c) = refl

child_stays : (rate_kept : FrameRate → FrameRate) (place : List ℕ) (m : Listed) (x : ItemOf Listed) (t : TrackOf Listed) (u : ℤ)
    → below place x ≡ Some (Track t) → length_of (Track (record t { children = m })) ≡ length_of (Track t) → down_in place u x ≡ None
    → child_shows rate_kept (deeper (with_at place m) x) u ≡ child_shows rate_kept x u
child_stays rate_kept place m x t u b e d =
    let s = stays (viewer rate_kept (kind_of x)) place m x t b e in
    ap (λ k. cond (within (pos 0) (pos (or_zero (sight (deeper (with_at place m) x)).length)) u) ((sight (deeper (with_at place m) x)).shows (viewer rate_kept k) u) Blank) (kind_deeper (with_at place m) x)
    ∙ ap (λ n. cond (within (pos 0) (pos (or_zero n)) u) ((sight (deeper (with_at place m) x)).shows (viewer rate_kept (kind_of x)) u) Blank) (sym s.length)
    ∙ sym (shown (within (pos 0) (pos (or_zero (sight x).length)) u) _ _
    (λ c. s.shows u (down_alike (viewer rate_kept (kind_of x)) (exact (kind_of x)) place x u refl ∙ unasked (within (pos 0) (pos (or_zero (sight x).length)) u) _ d c)))

pub items_with : (i : ℕ) (place : List ℕ) (m l : Listed) → items_of (with_at (i ∷ place) m l) ≡ changed (deeper (with_at place m)) i (items_of l)
items_with i place m l = items-listed (changed (deeper (with_at place m)) i (items_of l))

pub unreached : (rate_kept : FrameRate → FrameRate) (t new : Timeline) (k : ℕ) (place : List ℕ) (c : TrackOf Listed) (m : Listed) (u : ℤ)
    → new.tracks.children ≡ with_at (k ∷ place) m t.tracks.children → item_at (k ∷ place) t.tracks.children ≡ Some (Track c)
    → length_of (Track (record c { children = m })) ≡ length_of (Track c) → down t (k ∷ place) u ≡ None → at_by rate_kept new k u ≡ at_by rate_kept t k u
unreached rate_kept t new k place c m u e b n d =
    ap (λ l. shown_by rate_kept (slice_get (items_of l) k) u) e
    ∙ ap (λ l. shown_by rate_kept (slice_get l k) u) (items_with k place m t.tracks.children)
    ∙ ap (λ o. shown_by rate_kept o u) (got_changed (deeper (with_at place m)) k (items_of t.tracks.children))
    ∙ of (slice_get (items_of t.tracks.children) k) b d
  where
    of : (o : Option (ItemOf Listed)) → option_and_then (below place) o ≡ Some (Track c) → option_and_then (down_in place u) o ≡ None
        → shown_by rate_kept (option_map (deeper (with_at place m)) o) u ≡ shown_by rate_kept o u
    of None f g = refl
    of (Some x) f g = child_stays rate_kept place m x c u f n g

pub others : (rate_kept : FrameRate → FrameRate) (t new : Timeline) (i k : ℕ) (place : List ℕ) (m : Listed) (u : ℤ)
    → new.tracks.children ≡ with_at (i ∷ place) m t.tracks.children → i ≢ k → at_by rate_kept new k u ≡ at_by rate_kept t k u
others rate_kept t new i k place m u e n =
    ap (λ l. shown_by rate_kept (slice_get (items_of l) k) u) e
    ∙ ap (λ l. shown_by rate_kept (slice_get l k) u) (items_with i place m t.tracks.children)
    ∙ ap (λ o. shown_by rate_kept o u) (got_other (deeper (with_at place m)) i k (items_of t.tracks.children) n)
