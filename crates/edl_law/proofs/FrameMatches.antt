-- The events of a track that is carried show its stretches.
use Rattle.std.proofs.Common.{◌≡◌, refl, sym, ap, ap₂, subst, ◌∙◌, ℕ, ◌+◌, ℤ, pos, ◌+ℤ◌, ◌-ℤ◌, ◌*ℤ◌, ◌≤ℤ◌, ◌<ℤ◌, ◌&&◌, ◌||◌, Bool, true, false, not, cond, List, [], ◌∷◌, ◌++◌, Option, Some, None, arith}
use Rattle.std.specs.Prelude.{int_lt, unsigned_abs, option_and_then, filter_map}
use Rattle.std.specs.Int.{int_div_euclid}
use Rattle.std.specs.List.{list_any, cons_option}
use Rattle.std.proofs.lemmas.Int.{ints, by_lt_z}
use Rattle.tick_time.specs.declared.rates.Rate.{Rate}
use Rattle.tick_time.proofs.Wholes.{count-product}
use Rattle.otio_model.specs.declared.compositions.Clip.{Clip as ClipRow}
use Rattle.otio_model.specs.declared.compositions.ItemOf.{ItemOf}
use Rattle.otio_model.specs.declared.compositions.ItemOf.TheVariants.{Clip, Gap, Transition, Stack, Track}
use Rattle.otio_model.specs.declared.compositions.Listed.{Listed}
use Rattle.edl_list.specs.declared.list.Channel.{Channel}
use Rattle.edl_list.specs.declared.list.Side.{Side}
use Rattle.edl_list.specs.declared.list.Event.{Event}
use Rattle.coord.specs.Looks.{Overlap, Blank}
use Rattle.coord.specs.Speeds.{media_at, speed_of}
use Rattle.coord.specs.Keys.{key_of, reel_of, media_rate}
use Rattle.coord.specs.Sights.{framed}
use Rattle.coord.specs.Images.{Image, Empty, Kind, Dissolve as IsDissolve, Wipe as IsWipe, Other, image, kind_of}
use Rattle.edl_frames.specs.Shown.{mix_of, side_shows, crossing_shows, cross_shows, event_shows, events_show}
use Rattle.media_rows.specs.Rows.{MediaRows}
use Rattle.edl_frames.specs.ChildReasons.{event_side, event_part, lap_part, parts_of, is_other_kind, is_between}
use Rattle.edl_frames.specs.Jobs.{Job, frames_in, record_at}
use Rattle.edl_frames.specs.Seats.{Lap, ItemAt, Past, Seat, lap_at, length_in, begin_or, past_by, seats, next_lap, lap_behind, begin_of, end_of, clip_in, is_item, clip_before, is_there}
use Rattle.edl_frames.specs.Sides.{side_of, black_side, side_out, crossing, cross_in, speed_in}
use Rattle.edl_frames.specs.ChildEvents.{event_by, black_event, clip_event, item_event, tail_event, event_of}
use Rattle.edl_law.proofs.ListedRates.{any_last, any_first}
use Rattle.coord.proofs.LookSteps.{is_within, missed_before, missed_behind}
use Rattle.edl_law.proofs.LookSteps.{times_le, times-minus}
use Rattle.edl_law.proofs.FrameQuotients.{sum-times}
use Rattle.edl_law.specs.Premises.{KnowsKeys}
use Rattle.edl_law.proofs.CalmItems.{AreCalm}
use Rattle.edl_law.proofs.ItemLooks.{Watch, exactly, ticks, ticks_some}
use Rattle.edl_law.proofs.Stretches.{Bit, piece, cross, stretches_show, front_of, crossed, nothing, stretches, Fits, front_late, crossed_in, crossed_past}
use Rattle.edl_law.proofs.SideLooks.{job, side_gives}
use Rattle.edl_law.proofs.ReasonFacts.{gives, AreBitsOf, AreFree, ItemFree, item_free, ClipFree, cross_free}
use Rattle.edl_law.proofs.FittedItems.{not_lt, frames_le, lap_begins}
use Rattle.otio_model.specs.Overlaps.{within}
use Rattle.otio_model.specs.Lengths.{trimmed_start}
use Rattle.std.specs.Ordering.{int_eq}

-- ---- stretches before the front

pub stretches_before : (low at m : ℤ) (last : ℤ → Image) (l : List Bit) → Fits low at l → low ≤ℤ at
    → m <ℤ front_of at l → stretches_show (stretches at last l) m ≡ Empty
stretches_before low at m last [] g h e = refl
stretches_before low at m last ((piece n gives) ∷ l) g h e =
    let n_low = g.0 in let late = front_late at (at +ℤ n) l g.1 (omega (arith, ints, n_low)) in
    ap (λ b. cond b (gives (m -ℤ at))
    (stretches_show (stretches (at +ℤ n) (λ k. gives (k +ℤ n)) l) m))
    (missed_before at (front_of (at +ℤ n) l) m e)
    ∙ stretches_before at (at +ℤ n) m (λ k. gives (k +ℤ n)) l g.1 (omega (arith, ints, n_low))
    (omega (arith, ints, e, late))
stretches_before low at m last ((cross type b a) ∷ []) g h e =
    ap (λ t. cond t (crossed type b a at last nothing m) Empty)
    (missed_before (at -ℤ pos b) (at +ℤ pos a) m e)
stretches_before low at m last ((cross type b a) ∷ (piece n gives) ∷ l) g h e =
    let n_low = g.1 in let late = front_late (at +ℤ pos a) (at +ℤ n) l g.2
    (omega (arith, ints, n_low)) in
    ap (λ t. cond t (crossed type b a at last gives m)
    (stretches_show (stretches (at +ℤ n) (λ k. gives (k +ℤ n)) l) m))
    (missed_before (at -ℤ pos b) (front_of (at +ℤ n) l) m e)
    ∙ stretches_before (at +ℤ pos a) (at +ℤ n) m (λ k. gives (k +ℤ n)) l g.2
    (omega (arith, ints, n_low)) (omega (arith, ints, e, late))
stretches_before low at m last ((cross type b a) ∷ (cross type' b' a') ∷ l) g h e = absurd g

-- ---- one event against a stretch

module _ (rate : Rate) (first : ℤ) (media : MediaRows) (drop wide : Bool) where
  -- the record frame at so many frames of the track
  pub recorded : (u b : ℤ) → u ≡ b *ℤ pos (ticks rate)
      → record_at (job rate first media drop wide) u ≡
      first +ℤ b
  recorded u b e = ap (λ z. first +ℤ int_div_euclid z (pos (ticks rate))) e
      ∙ ap (λ z. first +ℤ z) (let p = ticks_some rate in count-product b (pos (ticks rate))
      (omega (arith, ints, p)))

  -- an event over a stretch that shows what the stretch does
  covers : (e : Event) (b d m : ℤ) (shows : Image) (es : List Event) (rest : Image)
      → e.rec_in ≡ first +ℤ b → e.rec_out ≡ first +ℤ d
      → (b ≤ℤ m → m <ℤ d → event_shows rate media e (m -ℤ b) ≡ shows)
      → events_show rate media es (first +ℤ m) ≡ rest → events_show rate media (e ∷ es) (first +ℤ m)
      ≡ cond (within b d m) shows rest
  covers e b d m shows es rest i o in_event behind = by_lt_z m b
      (λ h. ap (λ t. cond t (event_shows rate media e ((first +ℤ m) -ℤ e.rec_in))
      (events_show rate media es (first +ℤ m)))
      (missed_before e.rec_in e.rec_out (first +ℤ m) (omega (arith, ints, i, h)))
      ∙ behind ∙ sym (ap (λ t. cond t shows rest) (missed_before b d m h)))
      (λ h. by_lt_z m d
      (λ k. ap (λ t. cond t (event_shows rate media e ((first +ℤ m) -ℤ e.rec_in))
      (events_show rate media es (first +ℤ m)))
      (is_within e.rec_in e.rec_out (first +ℤ m) (omega (arith, ints, i, h))
      (omega (arith, ints, o, k)))
      ∙ (let z : (first +ℤ m) -ℤ e.rec_in ≡ m -ℤ b = omega (arith, ints, i) in
      ap (event_shows rate media e) z) ∙ in_event h k
      ∙ sym (ap (λ t. cond t shows rest) (is_within b d m h k)))
      (λ k. ap (λ t. cond t (event_shows rate media e ((first +ℤ m) -ℤ e.rec_in))
      (events_show rate media es (first +ℤ m)))
      (missed_behind e.rec_in e.rec_out (first +ℤ m) (omega (arith, ints, o, k)))
      ∙ behind ∙ sym (ap (λ t. cond t shows rest) (missed_behind b d m k))))

  -- a stretch without an event, which shows nothing up to the next front
  no_event : (b d m : ℤ) (shows rest : Image) → (b ≤ℤ m → m <ℤ d → shows ≡ rest)
      → rest ≡ cond (within b d m) shows rest
  no_event b d m shows rest same = by_lt_z m b
      (λ h. sym (ap (λ t. cond t shows rest) (missed_before b d m h)))
      (λ h. by_lt_z m d
      (λ k. sym (same h k) ∙ sym (ap (λ t. cond t shows rest) (is_within b d m h k)))
      (λ k. sym (ap (λ t. cond t shows rest) (missed_behind b d m k))))

-- where the next event begins, in ticks
pub front_is : (rate : Rate) (kind : Watch) (at u : ℤ) (l : List (ItemOf Listed)) (bits : List Bit)
    → u ≡ at *ℤ pos (ticks rate) → AreBitsOf rate kind l bits → begin_or (next_lap u l) u ≡ front_of
    at bits *ℤ pos (ticks rate)
front_is rate kind at u [] [] e a = e
front_is rate kind at u [] (y ∷ bits) e a = absurd a
front_is rate kind at u (x ∷ l) [] e a = absurd a
front_is rate kind at u (x ∷ l) ((piece n g) ∷ bits) e a =
    ap (λ o. begin_or (option_and_then (lap_at u) o) u) a.0.0 ∙ e
front_is rate kind at u (x ∷ l) ((cross type b c) ∷ bits) e a =
    ap (λ o. begin_or (option_and_then (lap_at u) o) u) a.0.1
    ∙ by (int_lt (pos 0) (a.0.0.before +ℤ a.0.0.after)) refl
  where
    by : (t : Bool) → int_lt (pos 0) (a.0.0.before +ℤ a.0.0.after) ≡ t
        → begin_or
        (cond t
        (Some (record { type = a.0.0.kind; begin = u -ℤ a.0.0.before; end = u +ℤ a.0.0.after }))
        None) u ≡ (at -ℤ pos b) *ℤ pos (ticks rate)
    by true g = let s = times-minus at (pos b) (ticks rate) in let before = a.0.4 in
        omega (arith, ints, s, e, before)
    by false g =
        let s = times-minus at (pos b) (ticks rate) in let before = a.0.4 in let after = a.0.5 in
        let l = not_lt (pos 0) (a.0.0.before +ℤ a.0.0.after) g in
        let x = times_le (pos 0) (pos b) (ticks rate) (omega (arith, ints)) in
        let y = times_le (pos 0) (pos c) (ticks rate) (omega (arith, ints)) in
        omega (arith, ints, s, e, before, after, l, x, y)

-- ---- what stands before

-- what is known of the item before, counted from here: black is empty, and its side goes out as
-- the item goes on
pub record Stands (rate : Rate) (first : ℤ) (media : MediaRows) (drop wide : Bool)
    (before : Option ItemAt) (at u : ℤ) (l : List (ItemOf Listed)) (last : ℤ → Image) : Type 0
  where
    pub black : is_there (clip_before before) ≡ false → (k : ℤ) → last k ≡ Empty
    pub shown : (lap : Lap) (b : ℤ) → next_lap u l ≡ Some lap → lap.begin ≡ (at -ℤ b) *ℤ pos
        (ticks rate) → (k : ℤ) → side_shows rate media
        (side_out (job rate first media drop wide) before lap.begin) k ≡ last (k -ℤ b)

pub head_stands : (rate : Rate) (first : ℤ) (media : MediaRows) (drop wide : Bool) (at u : ℤ)
    (l : List (ItemOf Listed)) → Stands rate first media drop wide None at u l nothing
head_stands rate first media drop wide at u l =
    record { black = λ e k. refl; shown = λ lap b e f k. refl }

black_gives : (rate : Rate) (kind : Watch) (x : ItemOf Listed) (k : ℤ) → is_item x ≡ true
    → is_there (clip_in x) ≡ false → gives rate kind x k ≡ Empty
black_gives rate kind (Clip c) k i e = by c.enabled refl e
  where
    by : (b : Bool) → c.enabled ≡ b → is_there (cond b (Some c) None) ≡ false
        → gives rate kind (Clip c) k ≡ Empty
    by true f g = absurd (cc g)
    by false f g =
        ap
        (λ b.
        image
        (cond b (framed (exactly kind) (kind.key (reel_of c) (key_of c))
        (media_at (trimmed_start {C = Listed} (Clip c)) (speed_of {C = Listed} (Clip c))
        (k *ℤ pos (ticks rate))) (media_rate c)) Blank)) f
black_gives rate kind (Gap g) k i e = refl
black_gives rate kind (Transition t) k i e = absurd (cc i)
black_gives rate kind (Stack s) k i e = absurd (cc i)
black_gives rate kind (Track t) k i e = absurd (cc i)

clip_is : (x : ItemOf Listed) (c : ClipRow) → clip_in x ≡ Some c → (x ≡ Clip c) × (c.enabled ≡ true)
clip_is (Clip r) c e = by r.enabled refl e
  where
    by : (b : Bool) → r.enabled ≡ b → cond b (Some r) None ≡ Some c
        → (◌≡◌ {A = ItemOf Listed} (Clip r) (Clip c)) × (c.enabled ≡ true)
    by true f g = let same : r ≡ c = cc g in
        (ap (λ z. Clip z) same, ap (λ (z : ClipRow). z.enabled) (sym same) ∙ f)
    by false f g = absurd (cc g)
clip_is (Gap g) c e = absurd (cc e)
clip_is (Transition t) c e = absurd (cc e)
clip_is (Stack s) c e = absurd (cc e)
clip_is (Track t) c e = absurd (cc e)

-- a clip that is carried shows what a side of it does, from b frames behind its start on
side_of_clip : (rate : Rate) (first : ℤ) (media : MediaRows) (drop wide : Bool) (kind : Watch)
    (c : Channel) (s : Seat) (r : ClipRow) (u count b k : ℤ) → KnowsKeys kind.key media
    → ItemFree (job rate first media drop wide) c s → clip_in s.item ≡ Some r
    → (int_lt (begin_of s) (end_of s) || is_there (lap_behind s)) ≡ true
    → u ≡ s.start +ℤ (b *ℤ pos (ticks rate))
    → (not (int_eq (speed_in r) (pos 1000000)) && is_between (job rate first media drop wide) r
    s.start
    (record { at = u; frames = pos 0; counted = pos 0 })) ≡ false
    → gives rate kind s.item (b +ℤ k) ≡ side_shows rate media
    (side_of (job rate first media drop wide) r s.start u count) k
side_of_clip rate first media drop wide kind c s r u count b k keys free is seen at whole =
    let q = clip_is s.item r is in
    let f = free.clip r is seen in
    ap (λ x. gives rate kind x (b +ℤ k)) q.0
    ∙ side_gives rate first media drop wide r kind s.start u count b k keys q.1 f.rated f.tenths
    f.named
    at whole

-- the side of an event begins at a whole frame
phase_at : (j : Job) (s : Seat) (r : ClipRow) → ClipFree j s r → int_lt (begin_of s) (end_of s) ≡
    true → (not (int_eq (speed_in r) (pos 1000000)) && is_between j r s.start
    (record { at = begin_of s; frames = pos 0; counted = pos 0 })) ≡ false
phase_at j s r f t = by (not (int_eq (speed_in r) (pos 1000000))) f.phase
  where
    first_part : (b : Bool) → b ≡ true → list_any (is_between j r s.start)
        (cond b
        (event_side j s ∷ []) [] ++ lap_part j (lap_behind s)) ≡ false
        → is_between j r s.start (record { at = begin_of s; frames = pos 0; counted = pos 0 }) ≡
        false
    first_part true e g =
        (any_first (is_between j r s.start)
        (event_side j s) (lap_part j (lap_behind s)) g).0
    first_part false e g = absurd (cc e)

    by : (b : Bool) → (b && list_any (is_between j r s.start) (parts_of j s)) ≡ false
        → (b && is_between j r s.start
        (record { at = begin_of s; frames = pos 0; counted = pos 0 })) ≡ false
    by true g = first_part (int_lt (begin_of s) (end_of s)) t g
    by false g = refl

-- so does the side that goes out
phase_out : (j : Job) (s : Seat) (r : ClipRow) (lap : Lap) → ClipFree j s r
    → lap_behind s ≡ Some lap → (not (int_eq (speed_in r) (pos 1000000)) && is_between j r s.start
    (record { at = lap.begin; frames = pos 0; counted = pos 0 })) ≡ false
phase_out j s r lap f e = by (not (int_eq (speed_in r) (pos 1000000))) f.phase
  where
    by : (b : Bool) → (b && list_any (is_between j r s.start) (parts_of j s)) ≡ false
        → (b && is_between j r s.start (record { at = lap.begin; frames = pos 0; counted = pos 0 }))
        ≡ false
    by true g = (any_last (is_between j r s.start) (event_part j s)
        (record { at = lap.begin; frames = frames_in j (lap.end -ℤ lap.begin); counted = pos 0 })
        (ap (λ o. list_any (is_between j r s.start) (event_part j s ++ lap_part j o)) (sym e)
        ∙ g)).1
    by false g = refl

-- ---- how an event begins

-- the frames of an overlap
pub lap_frames : (rate : Rate) (first : ℤ) (media : MediaRows) (drop wide : Bool) (u : ℤ)
    (o : Overlap)
    (b a : ℕ) → o.before ≡ pos b *ℤ pos (ticks rate) → o.after ≡ pos a *ℤ pos (ticks rate)
    → unsigned_abs (frames_in (job rate first media drop wide) ((u +ℤ o.after) -ℤ (u -ℤ o.before)))
    ≡ b +
    a
lap_frames rate first media drop wide u o b a before after =
    let s = sum-times (pos b) (pos a) (ticks rate) in
    let e : (u +ℤ o.after) -ℤ (u -ℤ o.before) ≡ (pos b +ℤ pos a) *ℤ pos (ticks rate) =
    omega (arith, ints, before, after, s) in
    ap (λ z. unsigned_abs (int_div_euclid z (pos (ticks rate)))) e
    ∙ ap unsigned_abs (let p = ticks_some rate in count-product (pos b +ℤ pos a)
    (pos (ticks rate)) (omega (arith, ints, p)))

kind_shows : (rate : Rate) (media : MediaRows) (kind : Kind) (n : ℕ) (from to : Side) (k : ℤ)
    → is_other_kind kind ≡ false → cross_shows rate media (crossing kind n from) to k ≡
    crossing_shows rate media kind n from to k
kind_shows rate media IsDissolve n from to k e = refl
kind_shows rate media (IsWipe code) n from to k e = refl
kind_shows rate media (Other type) n from to k e = absurd (cc e)

-- a pair shows what its cross does
pub pair_shows : (rate : Rate) (media : MediaRows) (type : List ℕ) (b a n : ℕ) (at m : ℤ)
    (from to : Side) (last gives : ℤ → Image) → n ≡ b + a → is_other_kind (kind_of type) ≡ false
    → ((k : ℤ) → side_shows rate media from k ≡ last (k -ℤ pos b))
    → ((k : ℤ) → side_shows rate media to k ≡ gives (k -ℤ pos b))
    → cross_shows rate media (crossing (kind_of type) n from) to (m -ℤ (at -ℤ pos b)) ≡ crossed type
    b a at last gives m
pair_shows rate media type b a n at m from to last gives e other goes comes =
    let d : (m -ℤ (at -ℤ pos b)) -ℤ pos b ≡ m -ℤ at = omega (arith, ints) in
    let f = goes (m -ℤ (at -ℤ pos b)) ∙ ap last d in
    let t = comes (m -ℤ (at -ℤ pos b)) ∙ ap gives d in
    kind_shows rate media (kind_of type) n from to (m -ℤ (at -ℤ pos b)) other
    ∙ by_lt_z m (at +ℤ pos a)
    (λ h. let c : int_lt (m -ℤ (at -ℤ pos b)) (pos n) ≡ true = grind (arith, ints, h, e) in
    ap
    (λ s. cond s (mix_of (kind_of type) (side_shows rate media from (m -ℤ (at -ℤ pos b)))
    (side_shows rate media to (m -ℤ (at -ℤ pos b))) (m -ℤ (at -ℤ pos b)) (pos n))
    (side_shows rate media to (m -ℤ (at -ℤ pos b)))) c
    ∙ (λ i. mix_of (kind_of type) (f i) (t i) (m -ℤ (at -ℤ pos b)) (pos (e i)))
    ∙ (let w : pos (b + a) ≡ pos b +ℤ pos a = omega (arith, ints) in
    ap (mix_of (kind_of type) (last (m -ℤ at)) (gives (m -ℤ at)) (m -ℤ (at -ℤ pos b))) w)
    ∙ sym (crossed_in type b a at last gives m h))
    (λ h. let c : int_lt (m -ℤ (at -ℤ pos b)) (pos n) ≡ false = grind (arith, ints, h, e) in
    ap
    (λ s. cond s (mix_of (kind_of type) (side_shows rate media from (m -ℤ (at -ℤ pos b)))
    (side_shows rate media to (m -ℤ (at -ℤ pos b))) (m -ℤ (at -ℤ pos b)) (pos n))
    (side_shows rate media to (m -ℤ (at -ℤ pos b)))) c
    ∙ t ∙ sym (crossed_past type b a at last gives m h))

-- ---- an item that begins at its start

pub piece_step : (rate : Rate) (first : ℤ) (media : MediaRows) (drop wide : Bool) (kind : Watch)
    (c : Channel) (s : Seat) (at front m : ℤ) (es : List Event) (rest : Image)
    → KnowsKeys kind.key media → ItemFree (job rate first media drop wide) c s
    → s.past.lap ≡ None → s.start ≡ at *ℤ pos (ticks rate) → end_of s ≡ front *ℤ pos (ticks rate)
    → events_show rate media es (first +ℤ m) ≡ rest → (m <ℤ front → rest ≡ Empty)
    → events_show rate media
    (cons_option (item_event (job rate first media drop wide) c s (clip_in s.item)) es) (first +ℤ m)
    ≡ cond (within at front m) (gives rate kind s.item (m -ℤ at)) rest
piece_step rate first media drop wide kind c s at front m es rest keys free none start ends behind
    before = by (clip_in s.item) refl
  where
    shown : (r : ClipRow) → clip_in s.item ≡ Some r → (t : Bool) → int_lt (begin_of s) (end_of s) ≡
        t
        → events_show rate media
        (cons_option
        (cond t
        (Some (event_by (job rate first media drop wide) c s.past s.past.lap
        (side_of (job rate first media drop wide) r s.start (begin_of s)
        (frames_in (job rate first media drop wide) (end_of s -ℤ begin_of s))) (begin_of s)
        (end_of s))) None) es) (first +ℤ m)
        ≡ cond (within at front m) (gives rate kind s.item (m -ℤ at)) rest
    shown r is true t =
        let b : begin_of s ≡ at *ℤ pos (ticks rate) = ap (λ o. begin_or o s.start) none ∙ start in
        let f = free.clip r is (ap (λ z. z || is_there (lap_behind s)) t) in
        covers rate first media drop wide
        (event_by (job rate first media drop wide) c s.past s.past.lap
        (side_of (job rate first media drop wide) r s.start (begin_of s)
        (frames_in (job rate first media drop wide) (end_of s -ℤ begin_of s))) (begin_of s)
        (end_of s))
        at front m (gives rate kind s.item (m -ℤ at)) es rest
        (recorded rate first media drop wide (begin_of s) at b)
        (recorded rate first media drop wide (end_of s) front ends)
        (λ low high.
        ap (λ o. cross_shows rate media (cross_in (job rate first media drop wide) s.past o)
        (side_of (job rate first media drop wide) r s.start (begin_of s)
        (frames_in (job rate first media drop wide) (end_of s -ℤ begin_of s))) (m -ℤ at)) none
        ∙ sym (side_of_clip rate first media drop wide kind c s r (begin_of s)
        (frames_in (job rate first media drop wide) (end_of s -ℤ begin_of s)) (pos 0) (m -ℤ at) keys
        free is (ap (λ z. z || is_there (lap_behind s)) t) (omega (arith, ints, b, start))
        (phase_at (job rate first media drop wide) s r f t))
        ∙ ap (gives rate kind s.item) (omega (arith, ints)))
        behind
    shown r is false t =
        let b : begin_of s ≡ at *ℤ pos (ticks rate) = ap (λ o. begin_or o s.start) none ∙ start in
        let l = not_lt (begin_of s) (end_of s) t in
        let h = frames_le rate front at (omega (arith, ints, l, b, ends)) in
        behind ∙ no_event rate first media drop wide at front m (gives rate kind s.item (m -ℤ at))
        rest
        (λ low high. absurd (omega (arith, ints, low, high, h)))

    by : (o : Option ClipRow) → clip_in s.item ≡ o → events_show rate media
        (cons_option (item_event (job rate first media drop wide) c s o) es) (first +ℤ m) ≡ cond
        (within at front m) (gives rate kind s.item (m -ℤ at)) rest
    by None e =
        ap (λ o. events_show rate media
        (cons_option (black_event (job rate first media drop wide) c s.past o) es) (first +ℤ m))
        none
        ∙ behind ∙ no_event rate first media drop wide at front m (gives rate kind s.item (m -ℤ at))
        rest
        (λ low high. black_gives rate kind s.item (m -ℤ at) free.item (ap is_there e)
        ∙ sym (before high))
    by (Some r) e = shown r e (int_lt (begin_of s) (end_of s)) refl

-- ---- what an item leaves behind it

pub item_stands : (rate : Rate) (first : ℤ) (media : MediaRows) (drop wide : Bool) (kind : Watch)
    (c : Channel) (s : Seat) (at n u : ℤ) → KnowsKeys kind.key media
    → ItemFree (job rate first media drop wide) c s
    → s.start ≡ at *ℤ pos (ticks rate) → length_in s.item ≡ n *ℤ pos (ticks rate)
    → u ≡ s.start +ℤ length_in s.item
    → Stands rate first media drop wide (Some (record { item = s.item; start = s.start })) (at +ℤ n)
    u
    s.next (λ k. gives rate kind s.item (k +ℤ n))
item_stands rate first media drop wide kind c s at n u keys free start long here = record {
  black = λ e k. black_gives rate kind s.item (k +ℤ n) free.item e;
  shown = λ lap b e f k. goes lap b e f k (clip_in s.item) refl;
}
  where
    black_out : (o : Option ClipRow) → o ≡ None → (z : ℤ)
        → elim o [
          | None ↦ black_side (pos 0)
          | Some r ↦ side_of (job rate first media drop wide) r
              s.start z (pos 0)
        ] ≡ black_side (pos 0)
    black_out o e z =
        ap
        (λ o. elim o [
          | None ↦ black_side (pos 0)
          | Some r ↦ side_of (job rate first media drop wide) r
              s.start z (pos 0)
        ]) e

    goes : (lap : Lap) (b : ℤ) → next_lap u s.next ≡ Some lap → lap.begin ≡ ((at +ℤ n) -ℤ b) *ℤ pos
        (ticks rate) → (k : ℤ) → (o : Option ClipRow) → clip_in s.item ≡ o
        → side_shows rate media
        (elim (clip_in s.item) [
          | None ↦ black_side (pos 0)
          | Some r ↦ side_of
              (job rate first media drop wide) r s.start lap.begin (pos 0)
        ]) k ≡ gives rate kind s.item
        ((k -ℤ b) +ℤ n)
    goes lap b e f k None is = ap (λ z. side_shows rate media z k)
        (black_out (clip_in s.item) is lap.begin)
        ∙ sym (black_gives rate kind s.item ((k -ℤ b) +ℤ n) free.item (ap is_there is))
    goes lap b e f k (Some r) is =
        let behind : lap_behind s ≡ Some lap = ap (λ z. next_lap z s.next) (sym here) ∙ e in
        let seen : (int_lt (begin_of s) (end_of s) || is_there (lap_behind s)) ≡ true =
        ap (λ o. int_lt (begin_of s) (end_of s) || is_there o) behind
        ∙ or_true (int_lt (begin_of s) (end_of s)) in
        let t = sum-times at (n -ℤ b) (ticks rate) in
        let d : at +ℤ (n -ℤ b) ≡ (at +ℤ n) -ℤ b = omega (arith, ints) in
        let g = ap (λ z. z *ℤ pos (ticks rate)) d in
        ap
        (λ o. side_shows rate media
        (elim o [
          | None ↦ black_side (pos 0)
          | Some r ↦ side_of (job rate first media drop wide) r
              s.start lap.begin (pos 0)
        ]) k) is
        ∙ sym (side_of_clip rate first media drop wide kind c s r lap.begin (pos 0) (n -ℤ b) k keys
        free
        is seen (omega (arith, ints, f, t, g, start))
        (phase_out (job rate first media drop wide) s r lap (free.clip r is seen) behind))
        ∙ ap (gives rate kind s.item) (omega (arith, ints))
      where
        or_true : (q : Bool) → (q || true) ≡ true
        or_true true = refl
        or_true false = refl

-- ---- an overlap with black behind it

-- what stands before is empty and what comes is too, or the event to black shows it
pub black_step : (rate : Rate) (first : ℤ) (media : MediaRows) (drop wide : Bool) (c : Channel)
    (past : Past) (o : Overlap) (u at front m : ℤ) (b a : ℕ) (l : List (ItemOf Listed))
    (last gives : ℤ → Image) (es : List Event) (rest : Image)
    → u ≡ at *ℤ pos (ticks rate) → o.before ≡ pos b *ℤ pos (ticks rate) → o.after ≡ pos a *ℤ pos
    (ticks rate) → (is_there (lap_at u o) && is_other_kind (kind_of o.kind)) ≡ false
    → Stands rate first media drop wide past.item at u l last → next_lap u l ≡ lap_at u o
    → ((k : ℤ) → gives k ≡ Empty) → (at +ℤ pos a) ≤ℤ front → events_show rate media es
    (first +ℤ m) ≡ rest → (m <ℤ front → rest ≡ Empty)
    → events_show rate media
    (cons_option (black_event (job rate first media drop wide) c (record past { lap = lap_at u o })
    (lap_at u o)) es) (first +ℤ m) ≡ cond (within (at -ℤ pos b) front m)
    (crossed o.kind b a at last gives m) rest
black_step rate first media drop wide c past o u at front m b a l last gives es rest e before after
    other
    stands next empty late behind none = by (int_lt (pos 0) (o.before +ℤ o.after)) refl
  where
    lap : Lap
    lap = record { type = o.kind; begin = u -ℤ o.before; end = u +ℤ o.after }

    past_of : Option Lap → Past
    past_of z = record { item = past.item; lap = z; low = past.low }

    event : Event
    event = event_by (job rate first media drop wide) c (past_of (Some lap)) (Some lap)
        (black_side (frames_in (job rate first media drop wide) (lap.end -ℤ lap.begin))) lap.begin
        lap.end

    after_lap : (at +ℤ pos a) ≤ℤ m → m <ℤ front → crossed o.kind b a at last gives m ≡ rest
    after_lap low high = crossed_past o.kind b a at last gives m low ∙ empty (m -ℤ at)
        ∙ sym (none high)

    -- the stretch goes on behind the overlap with nothing
    shorter : cond (within (at -ℤ pos b) (at +ℤ pos a) m) (crossed o.kind b a at last gives m) rest
        ≡ cond (within (at -ℤ pos b) front m) (crossed o.kind b a at last gives m) rest
    shorter = by_lt_z m (at -ℤ pos b)
        (λ h. ap (λ t. cond t (crossed o.kind b a at last gives m) rest)
        (missed_before (at -ℤ pos b) (at +ℤ pos a) m h)
        ∙ sym (ap (λ t. cond t (crossed o.kind b a at last gives m) rest)
        (missed_before (at -ℤ pos b) front m h)))
        (λ h. by_lt_z m (at +ℤ pos a)
        (λ k. ap (λ t. cond t (crossed o.kind b a at last gives m) rest)
        (is_within (at -ℤ pos b) (at +ℤ pos a) m h k
        ∙ sym (is_within (at -ℤ pos b) front m h (omega (arith, ints, k, late)))))
        (λ k. ap (λ t. cond t (crossed o.kind b a at last gives m) rest)
        (missed_behind (at -ℤ pos b) (at +ℤ pos a) m k) ∙ no_event rate first media drop wide (at -ℤ pos b)
        front m (crossed o.kind b a at last gives m) rest (λ low high. after_lap k high)))

    empty_mix : (x y : Image) (p w : ℤ) → x ≡ Empty → y ≡ Empty → mix_of (kind_of o.kind) x y p w ≡
        Empty
    empty_mix x y p w f g = ap₂ (λ x y. mix_of (kind_of o.kind) x y p w) f g

    there : int_lt (pos 0) (o.before +ℤ o.after) ≡ true → (t : Bool)
        → is_there (clip_before past.item) ≡ t
        → events_show rate media (cons_option (cond t (Some event) None) es) (first +ℤ m) ≡ cond
        (within (at -ℤ pos b) front m) (crossed o.kind b a at last gives m) rest
    there g true t =
        let next_is : next_lap u l ≡ Some lap = next ∙ ap (λ z. cond z (Some lap) None) g in
        let other_kind : is_other_kind (kind_of o.kind) ≡ false =
        ap (λ z. is_there (cond z (Some lap) None) && is_other_kind (kind_of o.kind)) (sym g)
        ∙ other in
        let s = times-minus at (pos b) (ticks rate) in let r = sum-times at (pos a) (ticks rate) in
        let begins : lap.begin ≡ (at -ℤ pos b) *ℤ pos (ticks rate) =
        omega (arith, ints, e, before, s) in
        let ends : lap.end ≡ (at +ℤ pos a) *ℤ pos (ticks rate) = omega (arith, ints, e, after, r) in
        covers rate first media drop wide event (at -ℤ pos b) (at +ℤ pos a) m
        (crossed o.kind b a at last gives m) es rest
        (recorded rate first media drop wide lap.begin (at -ℤ pos b) begins)
        (recorded rate first media drop wide lap.end (at +ℤ pos a) ends)
        (λ low high. pair_shows rate media o.kind b a
        (unsigned_abs (frames_in (job rate first media drop wide) (lap.end -ℤ lap.begin))) at m
        (side_out (job rate first media drop wide) past.item lap.begin) event.to last gives
        (lap_frames rate first media drop wide u o b a before after) other_kind
        (λ k. stands.shown lap (pos b) next_is begins k) (λ k. sym (empty (k -ℤ pos b))))
        behind
        ∙ shorter
    there g false t = behind ∙ no_event rate first media drop wide (at -ℤ pos b) front m
        (crossed o.kind b a at last gives m) rest (λ low high. by_lt_z m (at +ℤ pos a)
        (λ k. crossed_in o.kind b a at last gives m k ∙ empty_mix (last (m -ℤ at)) (gives (m -ℤ at))
        (m -ℤ (at -ℤ pos b)) (pos b +ℤ pos a) (stands.black t (m -ℤ at)) (empty (m -ℤ at))
        ∙ sym (none high))
        (λ k. after_lap k high))

    by : (t : Bool) → int_lt (pos 0) (o.before +ℤ o.after) ≡ t
        → events_show rate media
        (cons_option (black_event (job rate first media drop wide) c
        (past_of (cond t (Some lap) None)) (cond t (Some lap) None)) es) (first +ℤ m) ≡ cond
        (within (at -ℤ pos b) front m) (crossed o.kind b a at last gives m) rest
    by true g = there g (is_there (clip_before past.item)) refl
    by false g =
        let p = not_lt (pos 0) (o.before +ℤ o.after) g in
        let s = sum-times (pos b) (pos a) (ticks rate) in
        let z = frames_le rate (pos b +ℤ pos a) (pos 0) (omega (arith, ints, p, before, after, s))
        in
        behind ∙ no_event rate first media drop wide (at -ℤ pos b) front m
        (crossed o.kind b a at last gives m) rest
        (λ low high. after_lap (omega (arith, ints, low, z)) high)

-- ---- an overlap with a clip behind it

pub clip_step : (rate : Rate) (first : ℤ) (media : MediaRows) (drop wide : Bool) (kind : Watch)
    (c : Channel) (past : Past) (o : Overlap) (s : Seat) (r : ClipRow) (u at front m : ℤ) (b a : ℕ)
    (l : List (ItemOf Listed)) (last : ℤ → Image) (es : List Event) (rest : Image)
    → KnowsKeys kind.key media → ItemFree (job rate first media drop wide) c s
    → clip_in s.item ≡ Some r
    → s.start ≡ u → s.past ≡ record past { lap = lap_at u o }
    → u ≡ at *ℤ pos (ticks rate) → o.before ≡ pos b *ℤ pos (ticks rate) → o.after ≡ pos a *ℤ pos
    (ticks rate) → (is_there (lap_at u o) && is_other_kind (kind_of o.kind)) ≡ false
    → Stands rate first media drop wide past.item at u l last → next_lap u l ≡ lap_at u o
    → end_of s ≡ front *ℤ pos (ticks rate) → (at +ℤ pos a) ≤ℤ front → events_show rate media es
    (first +ℤ m) ≡ rest → (m <ℤ front → rest ≡ Empty)
    → events_show rate media (cons_option (clip_event (job rate first media drop wide) c s r) es)
    (first +ℤ m) ≡ cond (within (at -ℤ pos b) front m)
    (crossed o.kind b a at last (gives rate kind s.item) m) rest
clip_step rate first media drop wide kind c past o s r u at front m b a l last es rest keys free is
    start
    past_is e before after other stands next ends late behind none =
    by (int_lt (begin_of s) (end_of s)) refl
  where
    lap_is : s.past.lap ≡ lap_at u o
    lap_is = ap (λ (p : Past). p.lap) past_is

    item_is : s.past.item ≡ past.item
    item_is = ap (λ (p : Past). p.item) past_is

    begins : begin_of s ≡ (at -ℤ pos b) *ℤ pos (ticks rate)
    begins = ap₂ begin_or lap_is start ∙ lap_begins rate o u at b a e before after

    to : Side
    to = side_of (job rate first media drop wide) r s.start (begin_of s)
        (frames_in (job rate first media drop wide) (end_of s -ℤ begin_of s))

    comes : int_lt (begin_of s) (end_of s) ≡ true → (k : ℤ) → side_shows rate media to k ≡ gives
        rate kind s.item (k -ℤ pos b)
    comes t k =
        let f = free.clip r is (ap (λ z. z || is_there (lap_behind s)) t) in
        let g = times-minus at (pos b) (ticks rate) in let h = times-minus (pos 0) (pos b)
        (ticks rate) in
        sym (side_of_clip rate first media drop wide kind c s r (begin_of s)
        (frames_in (job rate first media drop wide) (end_of s -ℤ begin_of s)) (pos 0 -ℤ pos b) k
        keys
        free is (ap (λ z. z || is_there (lap_behind s)) t)
        (omega (arith, ints, begins, g, h, start, e))
        (phase_at (job rate first media drop wide) s r f t))
        ∙ ap (gives rate kind s.item) (omega (arith, ints))

    cross_by : int_lt (begin_of s) (end_of s) ≡ true → (at -ℤ pos b) ≤ℤ m → (t : Bool)
        → int_lt (pos 0) (o.before +ℤ o.after) ≡ t
        → cross_shows rate media (cross_in (job rate first media drop wide) s.past
        (cond t (Some (record { type = o.kind; begin = u -ℤ o.before; end = u +ℤ o.after }))
        None)) to (m -ℤ (at -ℤ pos b)) ≡ crossed o.kind b a at last (gives rate kind s.item) m
    cross_by t low true g =
        let lap : Lap = record { type = o.kind; begin = u -ℤ o.before; end = u +ℤ o.after } in
        let next_is : next_lap u l ≡ Some lap = next ∙ ap (λ z. cond z (Some lap) None) g in
        let other_kind : is_other_kind (kind_of o.kind) ≡ false =
        ap (λ z. is_there (cond z (Some lap) None) && is_other_kind (kind_of o.kind)) (sym g)
        ∙ other in
        let q = times-minus at (pos b) (ticks rate) in
        pair_shows rate media o.kind b a
        (unsigned_abs (frames_in (job rate first media drop wide) (lap.end -ℤ lap.begin))) at m
        (side_out (job rate first media drop wide) s.past.item lap.begin) to last
        (gives rate kind s.item)
        (lap_frames rate first media drop wide u o b a before after) other_kind
        (λ k. ap (λ z. side_shows rate media (side_out (job rate first media drop wide) z lap.begin)
        k)
        item_is ∙ stands.shown lap (pos b) next_is (omega (arith, ints, e, before, q)) k)
        (comes t)
    cross_by t low false g =
        let p = not_lt (pos 0) (o.before +ℤ o.after) g in
        let q = sum-times (pos b) (pos a) (ticks rate) in
        let z = frames_le rate (pos b +ℤ pos a) (pos 0) (omega (arith, ints, p, before, after, q))
        in
        comes t (m -ℤ (at -ℤ pos b)) ∙ ap (gives rate kind s.item) (omega (arith, ints))
        ∙ sym (crossed_past o.kind b a at last (gives rate kind s.item) m
        (omega (arith, ints, low, z)))

    by : (t : Bool) → int_lt (begin_of s) (end_of s) ≡ t → events_show rate media
        (cons_option
        (cond t
        (Some (event_by (job rate first media drop wide) c s.past s.past.lap to (begin_of s)
        (end_of s)))
        None) es) (first +ℤ m)
        ≡ cond (within (at -ℤ pos b) front m)
        (crossed o.kind b a at last (gives rate kind s.item) m) rest
    by true t = covers rate first media drop wide
        (event_by (job rate first media drop wide) c s.past s.past.lap to (begin_of s) (end_of s))
        (at -ℤ pos b) front m (crossed o.kind b a at last (gives rate kind s.item) m) es rest
        (recorded rate first media drop wide (begin_of s) (at -ℤ pos b) begins)
        (recorded rate first media drop wide (end_of s) front ends)
        (λ low high. ap (λ z. cross_shows rate media
        (cross_in (job rate first media drop wide) s.past z)
        to (m -ℤ (at -ℤ pos b))) lap_is ∙ cross_by t low (int_lt (pos 0) (o.before +ℤ o.after))
        refl)
        behind
    by false t =
        let x = not_lt (begin_of s) (end_of s) t in
        let h = frames_le rate front (at -ℤ pos b) (omega (arith, ints, x, begins, ends)) in
        behind ∙ no_event rate first media drop wide (at -ℤ pos b) front m
        (crossed o.kind b a at last (gives rate kind s.item) m) rest
        (λ low high. absurd (omega (arith, ints, low, high, h)))

-- what comes in behind an overlap: a clip, or black
comes : (rate : Rate) (first : ℤ) (media : MediaRows) (drop wide : Bool) (kind : Watch)
    (c : Channel)
    (past : Past) (o : Overlap) (s : Seat) (u at front m : ℤ) (b a : ℕ) (l : List (ItemOf Listed))
    (last : ℤ → Image) (es : List Event) (rest : Image)
    → KnowsKeys kind.key media → ItemFree (job rate first media drop wide) c s → s.start ≡ u
    → s.past ≡ record past { lap = lap_at u o }
    → u ≡ at *ℤ pos (ticks rate) → o.before ≡ pos b *ℤ pos (ticks rate) → o.after ≡ pos a *ℤ pos
    (ticks rate) → (is_there (lap_at u o) && is_other_kind (kind_of o.kind)) ≡ false
    → Stands rate first media drop wide past.item at u l last → next_lap u l ≡ lap_at u o
    → end_of s ≡ front *ℤ pos (ticks rate) → (at +ℤ pos a) ≤ℤ front → events_show rate media es
    (first +ℤ m) ≡ rest → (m <ℤ front → rest ≡ Empty)
    → events_show rate media
    (cons_option (item_event (job rate first media drop wide) c s (clip_in s.item)) es) (first +ℤ m)
    ≡ cond (within (at -ℤ pos b) front m)
    (crossed o.kind b a at last (gives rate kind s.item) m) rest
comes rate first media drop wide kind c past o s u at front m b a l last es rest keys free start
    past_is
    e before after other stands next ends late behind none = by (clip_in s.item) refl
  where
    by : (q : Option ClipRow) → clip_in s.item ≡ q → events_show rate media
        (cons_option (item_event (job rate first media drop wide) c s q) es) (first +ℤ m) ≡ cond
        (within (at -ℤ pos b) front m) (crossed o.kind b a at last (gives rate kind s.item) m) rest
    by None is =
        ap (λ (p : Past). events_show rate media
        (cons_option (black_event (job rate first media drop wide) c p p.lap) es) (first +ℤ m))
        past_is
        ∙ black_step rate first media drop wide c past o u at front m b a l last
        (gives rate kind s.item)
        es rest e before after other stands next
        (λ k. black_gives rate kind s.item k free.item (ap is_there is)) late behind none
    by (Some r) is = clip_step rate first media drop wide kind c past o s r u at front m b a l last
        es
        rest keys free is start past_is e before after other stands next ends late behind none

-- ---- the events of a track

abbrev pub events_from : Rate → ℤ → MediaRows → (drop wide : Bool) → Channel → ℤ → Past
    → List (ItemOf Listed)
    → List Event
events_from rate first media drop wide c u past l =
    filter_map (event_of (job rate first media drop wide) c)
    (seats u past l)

-- the same with an item in front, by its overlap
abbrev pub events_by : Rate → ℤ → MediaRows → (drop wide : Bool) → Channel → ℤ → Past
    → ItemOf Listed
    → List (ItemOf Listed) → Option Overlap → List Event
events_by rate first media drop wide c u past x l overlap =
    let s : Seat = record { item = x; start = u; past = past; next = l } in
    cons_option (elim overlap [
      | None ↦ item_event (job rate first media drop wide) c s (clip_in x)
      | Some o ↦ tail_event (job rate first media drop wide) c s o l
    ])
    (events_from rate first media drop wide c (u +ℤ length_in x) (past_by overlap x u past) l)

-- from a cut on, the events of a track that is carried show its stretches
pub events_match : (rate : Rate) (first : ℤ) (media : MediaRows) (drop wide : Bool) (kind : Watch)
    (c : Channel) → KnowsKeys kind.key media → (low at u m : ℤ) (past : Past)
    (l : List (ItemOf Listed)) (bits : List Bit) (last : ℤ → Image)
    → u ≡ at *ℤ pos (ticks rate) → past.lap ≡ None → AreBitsOf rate kind l bits → Fits low at bits
    → AreFree (job rate first media drop wide) c u past l → AreCalm l → low ≤ℤ at
    → Stands rate first media drop wide past.item at u l last
    → events_show rate media (events_from rate first media drop wide c u past l) (first +ℤ m) ≡
    stretches_show (stretches at last bits) m
events_match rate first media drop wide kind c keys low at u m past [] [] last e none are fit free
    calm
    late stands = refl
events_match rate first media drop wide kind c keys low at u m past [] (b ∷ bits) last e none are
    fit
    free calm late stands = absurd are
events_match rate first media drop wide kind c keys low at u m past (x ∷ l) [] last e none are fit
    free
    calm late stands = absurd are
events_match rate first media drop wide kind c keys low at u m past (x ∷ l) ((piece n g) ∷ bits)
    last e
    none are fit free calm late stands =
    let s : Seat = record { item = x; start = u; past = past; next = l } in
    let is = are.0.0 in let long = are.0.1 in let n_low = are.0.2 in
    let t = sum-times at n (ticks rate) in
    let item = item_free (job rate first media drop wide) c s free.0 is in
    let there : u +ℤ length_in x ≡ (at +ℤ n) *ℤ pos (ticks rate) = omega (arith, ints, e, long, t)
    in
    let rest = stretches_show (stretches (at +ℤ n) (λ k. gives rate kind x (k +ℤ n)) bits) m in
    ap (λ o. events_show rate media
    (events_by rate first media drop wide c u past x l o) (first +ℤ m)) is
    ∙ piece_step rate first media drop wide kind c s at (front_of (at +ℤ n) bits) m
    (events_from rate first media drop wide c (u +ℤ length_in x) (past_by None x u past) l) rest
    keys
    item none e
    (front_is rate kind (at +ℤ n) (u +ℤ length_in x) l bits there are.1)
    (events_match rate first media drop wide kind c keys at (at +ℤ n) (u +ℤ length_in x) m
    (past_by None x u past) l bits (λ k. gives rate kind x (k +ℤ n)) there refl are.1 fit.1
    (subst (λ o. AreFree (job rate first media drop wide) c (u +ℤ length_in x) (past_by o x u past)
    l) is
    free.1) calm.1 (omega (arith, ints, n_low))
    (item_stands rate first media drop wide kind c s at n (u +ℤ length_in x) keys item e long refl))
    (λ h. stretches_before at (at +ℤ n) m (λ k. gives rate kind x (k +ℤ n)) bits fit.1
    (omega (arith, ints, n_low)) h)
    ∙ ap (λ h. stretches_show (stretches at last (piece n h ∷ bits)) m) (sym are.0.3)
events_match rate first media drop wide kind c keys low at u m past (x ∷ []) ((cross type b a) ∷ [])
    last
    e none are fit free calm late stands =
    let s : Seat = record { item = x; start = u; past = past; next = [] } in
    let o = are.0.0 in
    let f = cross_free (job rate first media drop wide) c s o free.0 are.0.1 in
    ap (λ o. events_show rate media
    (events_by rate first media drop wide c u past x [] o) (first +ℤ m)) are.0.1
    ∙ black_step rate first media drop wide c past o u at (at +ℤ pos a) m b a (x ∷ []) last nothing
    []
    Empty e are.0.4 are.0.5 f.kind stands (ap (λ o. option_and_then (lap_at u) o) are.0.1)
    (λ k. refl) (omega (arith, ints)) refl (λ h. refl)
    ∙ ap (λ q. stretches_show (stretches at last (cross q b a ∷ [])) m) are.0.3
events_match rate first media drop wide kind c keys low at u m past (x ∷ y ∷ l)
    ((cross type b a) ∷ [])
    last e none are fit free calm late stands = absurd are.1
events_match rate first media drop wide kind c keys low at u m past (x ∷ [])
    ((cross type b a) ∷ (piece n g) ∷ bits) last e none are fit free calm late stands = absurd are.1
events_match rate first media drop wide kind c keys low at u m past (x ∷ y ∷ l)
    ((cross type b a) ∷ (piece n g) ∷ bits) last e none are fit free calm late stands =
    let s : Seat = record { item = x; start = u; past = past; next = y ∷ l } in
    let o = are.0.0 in
    let f = cross_free (job rate first media drop wide) c s o free.0 are.0.1 in
    let between : Past = past_by (Some o) x u past in
    let s2 : Seat = record { item = y; start = u; past = between; next = l } in
    let is = are.1.0.0 in let long = are.1.0.1 in let n_low = are.1.0.2 in
    let point = are.0.2 in
    let t = sum-times at n (ticks rate) in
    let here : u +ℤ length_in x ≡ u = omega (arith, ints, point) in
    let free2 = subst (λ z. AreFree (job rate first media drop wide) c z between (y ∷ l)) here
    (subst (λ o. AreFree (job rate first media drop wide) c (u +ℤ length_in x) (past_by o x u past)
    (y ∷ l)) are.0.1 free.1) in
    let item = item_free (job rate first media drop wide) c s2 free2.0 is in
    let there : u +ℤ length_in y ≡ (at +ℤ n) *ℤ pos (ticks rate) = omega (arith, ints, e, long, t)
    in
    let rest = stretches_show (stretches (at +ℤ n) (λ k. gives rate kind y (k +ℤ n)) bits) m in
    let es = events_from rate first media drop wide c (u +ℤ length_in y) (past_by None y u between)
    l in
    let more = events_match rate first media drop wide kind c keys (at +ℤ pos a) (at +ℤ n)
    (u +ℤ length_in y) m (past_by None y u between) l bits (λ k. gives rate kind y (k +ℤ n))
    there refl are.1.1 fit.2
    (subst (λ q. AreFree (job rate first media drop wide) c (u +ℤ length_in y)
    (past_by q y u between) l)
    is free2.1) calm.1.1 (let w = fit.1 in omega (arith, ints, w))
    (item_stands rate first media drop wide kind c s2 at n (u +ℤ length_in y) keys item e long refl)
    in
    let front = front_is rate kind (at +ℤ n) (u +ℤ length_in y) l bits there are.1.1 in
    let w = fit.1 in
    let later = front_late (at +ℤ pos a) (at +ℤ n) bits fit.2 (omega (arith, ints, w)) in
    ap (λ o. events_show rate media
    (events_by rate first media drop wide c u past x (y ∷ l) o) (first +ℤ m)) are.0.1
    ∙ ap (λ z. events_show rate media (events_from rate first media drop wide c z between (y ∷ l))
    (first +ℤ m)) here
    ∙ ap (λ o. events_show rate media
    (events_by rate first media drop wide c u between y l o) (first +ℤ m)) is
    ∙ comes rate first media drop wide kind c past o s2 u at (front_of (at +ℤ n) bits) m b a
    (x ∷ y ∷ l)
    last es rest keys item refl refl e are.0.4 are.0.5 f.kind stands
    (ap (λ o. option_and_then (lap_at u) o) are.0.1) front later more
    (λ h. stretches_before (at +ℤ pos a) (at +ℤ n) m (λ k. gives rate kind y (k +ℤ n)) bits
    fit.2 (omega (arith, ints, w)) h)
    ∙ (λ i.
    stretches_show
    (stretches at last (cross (are.0.3 i) b a ∷ piece n (sym are.1.0.3 i) ∷ bits)) m)
events_match rate first media drop wide kind c keys low at u m past (x ∷ l)
    ((cross type b a) ∷ (cross type' b' a') ∷ bits) last e none are fit free calm late stands =
    absurd fit
