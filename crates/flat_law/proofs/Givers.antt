-- What the topmost enabled track of a kind that isn't Blank shows is what its clip shows that gives the instant.
use Rattle.std.proofs.Common.{◌≡◌, refl, sym, subst, ap, ◌∙◌, ℕ, suc, ◌+◌, ℤ, pos, ◌+ℤ◌, ◌-ℤ◌, ◌*ℤ◌, ◌≤ℤ◌, ◌<ℤ◌, ◌&&◌, Bool, true, false, Option, Some, None, cond, List, [], ◌∷◌, map, arith}
use Rattle.std.specs.Prelude.{int_lt, int_le, option_map, is_none}
use Rattle.std.specs.Option.{option_or}
use Rattle.std.specs.Str.{bytes_eq}
use Rattle.std.proofs.lemmas.Slice.Eq.{bytes_eq-Decides}
use Rattle.std.proofs.lemmas.Int.{ints, by_lt_z}
use Rattle.tick_time.specs.declared.spans.Span.{Span}
use Rattle.otio_model.specs.declared.effect_types.Effect.{Effect}
use Rattle.otio_model.specs.declared.compositions.Clip.{Clip as ClipRow}
use Rattle.otio_model.specs.declared.compositions.ItemOf.{ItemOf}
use Rattle.otio_model.specs.declared.compositions.ItemOf.TheVariants.{Clip, Gap, Transition, Stack, Track}
use Rattle.otio_model.specs.declared.compositions.TrackOf.{TrackOf}
use Rattle.otio_model.specs.declared.compositions.Listed.{Listed}
use Rattle.otio_model.specs.Trees.{items_of}
use Rattle.otio_model.specs.Lengths.{Range, range_of, from_zero, both, sum_of, length_of, lengths, clip_range}
use Rattle.coord.specs.Looks.{Show, Blank, Look, Key, FrameRate, is_blank, item_shows, mix_shows, from_end, blank, list_shows, track_shows, total}
use Rattle.otio_model.specs.Overlaps.{within}
use Rattle.coord.specs.Keys.{reel_of, key_of, media_rate, frame_rate}
use Rattle.coord.specs.Speeds.{media_at, speed_of}
use Rattle.coord.specs.Sights.{viewer, View, Sight, sight, sights, seen, looks, lengths_seen, framed}
use Rattle.otio_model.specs.Lengths.{or_zero, trimmed_start}
use Rattle.otio_model.specs.Trees.{is_transition}
use Rattle.coord.specs.Programs.{child_shows}
use Rattle.coord.proofs.SightLemmas.{sights-items, seen_lengths}
use Rattle.edits.specs.Splices.{AreGood, IsItem, AreItems}
use Rattle.edits.specs.Children.{ticks}
use Rattle.edits_law.proofs.Pieces.{floor_is, floor_rest}
use Rattle.coord.proofs.LookSteps.{item_past, mix_item, missed_behind, missed_before}
use Rattle.edits_law.proofs.Splice.{cases, not_held}
use Rattle.edits_law.proofs.Seams.{total_low, items_good}
use Rattle.flat.specs.Roots.{is_empty, is_plain, is_nested, is_layer, items_in}
use Rattle.flat.specs.Pieces.{Giver, gives, holder, giver}
use Rattle.flat.specs.Flattened.{top_shows}
use Rattle.std.proofs.lemmas.Bool.{and_parts}
use Rattle.coord.proofs.Within.{within_is}

-- what a clip, or none, shows at w
abbrev pub given_shows : View → Option Giver → ℤ → Show
given_shows v None w = Blank
given_shows v (Some g) w = (sight g.item).shows v (w -ℤ g.start)

-- neither a stack, nor a track, nor a transition
pub record IsSimple (x : ItemOf Listed) : Type 0 where
  pub alone : is_nested x ≡ false
  pub thing : is_transition x ≡ false

abbrev pub AreSimple : List (ItemOf Listed) → Type 0
AreSimple [] = Unit {0}
AreSimple (x ∷ l) = IsSimple x × AreSimple l

-- ---- the clip that gives an instant

pub record IsGiven (g : Giver) (u : ℤ) : Type 0 where
  pub from : g.start ≤ℤ u
  pub to : u <ℤ (g.start +ℤ ticks g.item)
  pub clip : gives g.item ≡ true

pub holder_given : (k i : ℕ) (s : ℤ) (l : List (ItemOf Listed)) (w u : ℤ) (g : Giver) → u ≡ (s +ℤ w) → holder k i s l w ≡ Some g → IsGiven g u
holder_given k i s [] w u g e h = absurd (cc h)
holder_given k i s (x ∷ l) w u g e h = by (λ f. holder_given k (suc i) (s +ℤ ticks x) l (w -ℤ ticks x) u g (omega (arith, ints, e)) f) (within (pos 0) (ticks x) w) refl h
  where
    here : within (pos 0) (ticks x) w ≡ true → (c : Bool) → gives x ≡ c → cond c (Some (record { track = k; child = i; start = s; item = x })) None ≡ Some g → IsGiven g u
    here t false f m = absurd (cc m)
    here t true f m =
        let is : Path Giver (record { track = k; child = i; start = s; item = x }) g = cc m in
        let b = within_is (pos 0) (ticks x) w t in
        subst (λ q. IsGiven q u) is (record { from = omega (arith, ints, e, b.0); to = omega (arith, ints, e, b.1); clip = f })

    by : (holder k (suc i) (s +ℤ ticks x) l (w -ℤ ticks x) ≡ Some g → IsGiven g u) → (c : Bool) → within (pos 0) (ticks x) w ≡ c
        → cond c (cond (gives x) (Some (record { track = k; child = i; start = s; item = x })) None) (holder k (suc i) (s +ℤ ticks x) l (w -ℤ ticks x)) ≡ Some g → IsGiven g u
    by rest true t m = here t (gives x) refl m
    by rest false t m = rest m

pub giver_given : (k : ℕ) (kind : List ℕ) (l : List (ItemOf Listed)) (u : ℤ) (g : Giver) → giver k kind l u ≡ Some g → IsGiven g u
giver_given k kind [] u g h = absurd (cc h)
giver_given k kind (x ∷ l) u g h = by (λ f. giver_given (suc k) kind l u g f) (giver (suc k) kind l u) refl h
  where
    here : (c : Bool) → cond c (holder k 0 (pos 0) (items_in x) u) None ≡ Some g → IsGiven g u
    here true m = holder_given k 0 (pos 0) (items_in x) u u g (omega (arith, ints)) m
    here false m = absurd (cc m)

    by : (giver (suc k) kind l u ≡ Some g → IsGiven g u) → (o : Option Giver) → giver (suc k) kind l u ≡ o → option_or o (cond (is_layer kind x) (holder k 0 (pos 0) (items_in x) u) None) ≡ Some g → IsGiven g u
    by rest None e m = here (is_layer kind x) m
    by rest (Some f) e m = rest (e ∙ m)

-- ---- it isn't Blank

rated : (v : View) (key : Key) (m : ℤ) (o p : Option Span) (w : ℤ)
    → within (pos 0) (pos (or_zero (option_map (λ (r : Range). r.len) (option_or (option_map range_of p) (option_map range_of o))))) w ≡ true
    → is_blank (framed v key m (option_map (λ (s : Span). frame_rate s.start.rate) (option_or o p))) ≡ false
rated v key m (Some a) p w h = refl
rated v key m None (Some q) w h = refl
rated v key m None None w h = let b = within_is (pos 0) (pos 0) w h in absurd (omega (arith, ints, b.0, b.1))

clip_seen : (v : View) (c : ClipRow) (w u : ℤ) → c.enabled ≡ true → within (pos 0) (ticks (Clip c)) w ≡ true → is_blank ((sight (Clip c)).shows v u) ≡ false
clip_seen v c w u e h = rw e (rated v (v.key (reel_of c) (key_of c)) (media_at (trimmed_start {C = Listed} (Clip c)) (speed_of {C = Listed} (Clip c)) u) (clip_range c) c.source_range w h)

item_seen : (v : View) (x : ItemOf Listed) (w u : ℤ) → gives x ≡ true → within (pos 0) (ticks x) w ≡ true → is_blank ((sight x).shows v u) ≡ false
item_seen v (Clip c) w u e h = clip_seen v c w u e h
item_seen v (Gap g) w u e h = absurd (cc e)
item_seen v (Transition t) w u e h = absurd (cc e)
item_seen v (Stack s) w u e h = absurd (cc e)
item_seen v (Track t) w u e h = absurd (cc e)

yes_within : (a b w : ℤ) → a ≤ℤ w → w <ℤ b → within a b w ≡ true
yes_within a b w h k = let e : int_le a w ≡ true = grind (arith, ints) in let f : int_lt w b ≡ true = grind (arith, ints) in rw (e, f)

pub given_seen : (v : View) (g : Giver) (u : ℤ) → IsGiven g u → is_blank (given_shows v (Some g) u) ≡ false
given_seen v g u is = let a = is.from in let b = is.to in
    item_seen v g.item (u -ℤ g.start) (u -ℤ g.start) is.clip (yes_within (pos 0) (ticks g.item) (u -ℤ g.start) (omega (arith, ints)) (omega (arith, ints)))

-- ---- a list of clips and gaps

pick : (v : View) (b : Bool) (g : Giver) (u : ℤ) → given_shows v (cond b (Some g) None) u ≡ cond b ((sight g.item).shows v (u -ℤ g.start)) Blank
pick v true g u = refl
pick v false g u = refl

pub twice : (b : Bool) (z : Show) → cond b (cond b z Blank) Blank ≡ cond b z Blank
twice true z = refl
twice false z = refl

one : (v : View) (k i : ℕ) (s : ℤ) (x : ItemOf Listed) (w u : ℤ) → IsSimple x → u ≡ (s +ℤ w) → given_shows v (cond (gives x) (Some (record { track = k; child = i; start = s; item = x })) None) u ≡ (sight x).shows v w
one v k i s (Clip c) w u a e =
    let same : u -ℤ s ≡ w = omega (arith, ints, e) in
    pick v c.enabled (record { track = k; child = i; start = s; item = Clip c }) u
    ∙ ap (λ z. cond c.enabled ((sight (Clip c)).shows v z) Blank) same
    ∙ twice c.enabled (framed v (v.key (reel_of c) (key_of c)) (media_at (trimmed_start {C = Listed} (Clip c)) (speed_of {C = Listed} (Clip c)) w) (media_rate c))
one v k i s (Gap g) w u a e = refl
one v k i s (Transition t) w u a e = absurd (cc a.thing)
one v k i s (Stack n) w u a e = absurd (cc a.alone)
one v k i s (Track n) w u a e = absurd (cc a.alone)

pub holder_shows : (v : View) (k i : ℕ) (s : ℤ) (l : List (ItemOf Listed)) (w u : ℤ) → AreSimple l → u ≡ (s +ℤ w) → given_shows v (holder k i s l w) u ≡ item_shows (looks v l) w
holder_shows v k i s [] w u a e = refl
holder_shows v k i s (x ∷ l) w u a e = cases (within (pos 0) (ticks x) w)
    (λ t. rw t (one v k i s x w u a.0 e))
    (λ t. rw t (holder_shows v k (suc i) (s +ℤ ticks x) l (w -ℤ ticks x) u a.1 (omega (arith, ints, e))))

item_of_simple : (v : View) (x : ItemOf Listed) → IsSimple x → IsItem (seen v (sight x))
item_of_simple v (Clip c) a = record { whole = omega (arith, ints); item = refl }
item_of_simple v (Gap c) a = record { whole = omega (arith, ints); item = refl }
item_of_simple v (Transition c) a = absurd (cc a.thing)
item_of_simple v (Stack c) a = absurd (cc a.alone)
item_of_simple v (Track c) a = absurd (cc a.alone)

pub items_of_simple : (v : View) (l : List (ItemOf Listed)) → AreSimple l → AreItems (looks v l)
items_of_simple v [] a = tt
items_of_simple v (x ∷ l) a = (item_of_simple v x a.0, items_of_simple v l a.1)

pub no_mix : (p : ℤ → Show) (n : List Look) (w : ℤ) → AreItems n → mix_shows p n w ≡ None
no_mix p [] w i = refl
no_mix p (x ∷ n) w i = mix_item p x n w i.0.item ∙ no_mix (from_end x) n (w -ℤ x.length) i.1

pub items_alone : (n : List Look) (w : ℤ) → AreItems n → list_shows n w ≡ item_shows n w
items_alone n w i = rw (no_mix blank n w i)

pub item_out : (l : List Look) (w : ℤ) → AreGood l → total l ≤ℤ w → item_shows l w ≡ Blank
item_out [] w g h = refl
item_out (x ∷ l) w g h = let a = g.0 in let n = a.whole in let t = total_low l g.1 in item_past x l w (omega (arith, ints)) ∙ item_out l (w -ℤ x.length) g.1 (omega (arith, ints))

-- Blank outside its length, as it is anyway
bounded : (n : List Look) (w : ℤ) → AreItems n → cond (within (pos 0) (total n) w) (track_shows n w) Blank ≡ item_shows n w
bounded n w i = by_lt_z w (pos 0)
    (λ h. rw (missed_before (pos 0) (total n) w h) (sym (not_held n w (items_good n i) h)))
    (λ h. by_lt_z w (total n)
    (λ k. rw (yes_within (pos 0) (total n) w h k) (items_alone n w i))
    (λ k. rw (missed_behind (pos 0) (total n) w k) (sym (item_out n w (items_good n i) k))))

-- ---- lengths

pub sum_parts : (o p : Option ℕ) (n : ℕ) → both (λ a b. a + b) o p ≡ Some n → (a b : ℕ) × (o ≡ Some a) × (p ≡ Some b) × (n ≡ a + b)
sum_parts None p n e = absurd (cc e)
sum_parts (Some a) None n e = absurd (cc e)
sum_parts (Some a) (Some b) n e = let f : a + b ≡ n = cc e in (a, b, refl, refl, sym f)

pub sum_total : (v : View) (l : List Sight) (n : ℕ) → sum_of (lengths_seen l) ≡ Some n → total (map (seen v) l) ≡ pos n
sum_total v [] n e = let f : 0 ≡ n = cc e in ap pos f
sum_total v (x ∷ l) n e =
    let p = sum_parts x.length (sum_of (lengths_seen l)) n e in
    let f : total (map (seen v) l) ≡ pos p.1 = sum_total v l p.1 p.3 in
    let g : or_zero x.length ≡ p.0 = ap or_zero p.2 in
    omega (arith, ints, f, g, p.4)

pub map_looks : (v : View) (l : List (ItemOf Listed)) → map (seen v) (map sight l) ≡ looks v l
map_looks v [] = refl
map_looks v (x ∷ l) = ap (λ m. seen v (sight x) ∷ m) (map_looks v l)

pub sights_look : (v : View) (l : Listed) → map (seen v) (sights l) ≡ looks v (items_of l)
sights_look v l = ap (map (seen v)) (sights-items l) ∙ map_looks v (items_of l)

-- ---- a plain track

at_once : (u : ℤ) → media_at (pos 0) (pos 1000000) u ≡ u
at_once u = let a = floor_is (u *ℤ pos 1000000) in let b = floor_rest (u *ℤ pos 1000000) in omega (arith, ints)

pub record IsBare (t : TrackOf Listed) : Type 0 where
  pub range : t.source_range ≡ None
  pub effects : t.effects ≡ []

pub bare_of : (t : TrackOf Listed) → is_plain (Track t) ≡ true → IsBare t
bare_of t e = record { range = no_range t.source_range (is_empty t.effects) e; effects = no_effects t.effects (is_none t.source_range) e }
  where
    no_range : (o : Option Span) (b : Bool) → (is_none o && b) ≡ true → o ≡ None
    no_range None b f = refl
    no_range (Some s) b f = absurd (cc f)

    no_effects : (l : List Effect) (b : Bool) → (b && is_empty l) ≡ true → l ≡ []
    no_effects [] b f = refl
    no_effects (x ∷ l) true f = absurd (cc f)
    no_effects (x ∷ l) false f = absurd (cc f)

pub plain_inside : (v : View) (t : TrackOf Listed) (u : ℤ) → IsBare t → t.enabled ≡ true → bytes_eq t.kind v.kind ≡ true → (sight (Track t)).shows v u ≡ track_shows (looks v (items_of t.children)) u
plain_inside v t u b e k = rw (e, k, b.range, b.effects) (ap (track_shows (map (seen v) (sights t.children))) (at_once u) ∙ ap (λ l. track_shows l u) (sights_look v t.children))

pub plain_length : (v : View) (t : TrackOf Listed) (n : ℕ) → IsBare t → length_of (Track t) ≡ Some n → ticks (Track t) ≡ total (looks v (items_of t.children))
plain_length v t n b e =
    let f : option_map (λ (r : Range). r.len) (option_map from_zero (sum_of (lengths t.children))) ≡ Some n = rw b.range at e in
    let g : sum_of (lengths t.children) ≡ Some n = inner (sum_of (lengths t.children)) f in
    let h : sum_of (lengths_seen (sights t.children)) ≡ Some n = ap sum_of (seen_lengths t.children) ∙ g in
    let a : total (looks v (items_of t.children)) ≡ pos n = ap total (sym (sights_look v t.children)) ∙ sum_total v (sights t.children) n h in
    let c : ticks (Track t) ≡ pos n = rw (b.range, h) refl in
    c ∙ sym a
  where
    inner : (o : Option ℕ) → option_map (λ (r : Range). r.len) (option_map from_zero o) ≡ Some n → o ≡ Some n
    inner None m = absurd (cc m)
    inner (Some a) m = m

-- what a plain enabled track of clips and gaps shows
pub plain_shows : (rate_kept : FrameRate → FrameRate) (t : TrackOf Listed) (n : ℕ) (u : ℤ) → IsBare t → t.enabled ≡ true → length_of (Track t) ≡ Some n → AreSimple (items_of t.children)
    → child_shows rate_kept (Track t) u ≡ item_shows (looks (viewer rate_kept (t.kind)) (items_of t.children)) u
plain_shows rate_kept t n u b e len a =
    let v : View = viewer rate_kept (t.kind) in
    ap (λ z. cond (within (pos 0) (ticks (Track t)) u) z Blank) (plain_inside v t u b e ((bytes_eq-Decides t.kind t.kind).1 refl))
    ∙ ap (λ z. cond (within (pos 0) z u) (track_shows (looks v (items_of t.children)) u) Blank) (plain_length v t n b len)
    ∙ bounded (looks v (items_of t.children)) u (items_of_simple v (items_of t.children) a)

-- ---- the topmost

-- a plain track of clips and gaps, of a known length
pub record IsLayer (x : ItemOf Listed) : Type 0 where
  pub plain : is_plain x ≡ true
  pub simple : AreSimple (items_in x)
  pub ticks : ℕ
  pub length : length_of x ≡ Some ticks

abbrev pub AreLayers : List ℕ → List (ItemOf Listed) → Type 0
AreLayers kind [] = Unit {0}
AreLayers kind (x ∷ l) = (is_layer kind x ≡ true → IsLayer x) × AreLayers kind l

pub layer_shows : (rate_kept : FrameRate → FrameRate) (kind : List ℕ) (k : ℕ) (x : ItemOf Listed) (u : ℤ) → is_layer kind x ≡ true → IsLayer x
    → given_shows (viewer rate_kept (kind)) (holder k 0 (pos 0) (items_in x) u) u ≡ child_shows rate_kept x u
layer_shows rate_kept kind k (Clip c) u e o = absurd (cc o.plain)
layer_shows rate_kept kind k (Gap c) u e o = absurd (cc o.plain)
layer_shows rate_kept kind k (Transition c) u e o = absurd (cc o.plain)
layer_shows rate_kept kind k (Stack c) u e o = absurd (cc o.plain)
layer_shows rate_kept kind k (Track t) u e o =
    let b = and_parts t.enabled (bytes_eq t.kind kind) e in
    let same : t.kind ≡ kind = (bytes_eq-Decides t.kind kind).0 b.1 in
    holder_shows (viewer rate_kept (kind)) k 0 (pos 0) (items_of t.children) u u o.simple (omega (arith, ints))
    ∙ ap (λ z. item_shows (looks (viewer rate_kept (z)) (items_of t.children)) u) (sym same)
    ∙ sym (plain_shows rate_kept t o.ticks u (bare_of t o.plain) b.0 o.length o.simple)

pub top_given : (rate_kept : FrameRate → FrameRate) (kind : List ℕ) (k : ℕ) (l : List (ItemOf Listed)) (u : ℤ) → AreLayers kind l
    → given_shows (viewer rate_kept (kind)) (giver k kind l u) u ≡ top_shows rate_kept kind l u
top_given rate_kept kind k [] u a = refl
top_given rate_kept kind k (x ∷ l) u a = by (top_given rate_kept kind (suc k) l u a.1) (giver (suc k) kind l u) refl
  where
    below_it : (b : Bool) → is_layer kind x ≡ b → given_shows (viewer rate_kept (kind)) (cond b (holder k 0 (pos 0) (items_in x) u) None) u ≡ cond b (child_shows rate_kept x u) Blank
    below_it true e = layer_shows rate_kept kind k x u e (a.0 e)
    below_it false e = refl

    by : given_shows (viewer rate_kept (kind)) (giver (suc k) kind l u) u ≡ top_shows rate_kept kind l u → (o : Option Giver) → giver (suc k) kind l u ≡ o
        → given_shows (viewer rate_kept (kind)) (option_or (giver (suc k) kind l u) (cond (is_layer kind x) (holder k 0 (pos 0) (items_in x) u) None)) u
        ≡ cond (is_blank (top_shows rate_kept kind l u)) (cond (is_layer kind x) (child_shows rate_kept x u) Blank) (top_shows rate_kept kind l u)
    by rest None e =
        let dark : Blank ≡ top_shows rate_kept kind l u = ap (λ o. given_shows (viewer rate_kept (kind)) o u) (sym e) ∙ rest in
        rw (e, sym dark) (below_it (is_layer kind x) refl)
    by rest (Some g) e =
        let same : given_shows (viewer rate_kept (kind)) (Some g) u ≡ top_shows rate_kept kind l u = ap (λ o. given_shows (viewer rate_kept (kind)) o u) (sym e) ∙ rest in
        let lit : is_blank (top_shows rate_kept kind l u) ≡ false = ap is_blank (sym same) ∙ given_seen (viewer rate_kept (kind)) g u (giver_given (suc k) kind l u g e) in
        rw (e, lit) same
