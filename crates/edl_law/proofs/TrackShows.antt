-- What the track of a channel's events shows.
use Rattle.std.proofs.Common.{◌≡◌, refl, sym, ap, ap₂, ◌∙◌, ℕ, ◌==◌, ℤ, pos, ◌+ℤ◌, ◌-ℤ◌, ◌*ℤ◌, ◌≤ℤ◌, ◌<ℤ◌, ◌||◌, Bool, true, false, cond, List, [], ◌∷◌, Option, Some, None, arith}
use Rattle.std.specs.Prelude.{int_lt}
use Rattle.std.specs.Int.{int_div_euclid}
use Rattle.std.proofs.lemmas.Int.{ints, by_lt_z}
use Rattle.std.proofs.lemmas.Slice.Eq.{bytes_eq-Decides}
use Rattle.tick_time.specs.declared.rates.Rate.{Rate}
use Rattle.tick_time.proofs.BoolLemmas.{both}
use Rattle.otio_model.specs.declared.compositions.ItemOf.{ItemOf}
use Rattle.otio_model.specs.declared.compositions.Listed.{Listed}
use Rattle.edl_list.specs.declared.list.Reel.{Reel}
use Rattle.edl_list.specs.declared.list.Reel.TheVariants.{Black, Named}
use Rattle.edl_list.specs.declared.list.Side.{Side}
use Rattle.edl_list.specs.declared.list.Cross.{Cross}
use Rattle.edl_list.specs.declared.list.Cross.TheVariants.{Cut, Dissolve, Wipe}
use Rattle.edl_list.specs.declared.list.Event.{Event}
use Rattle.edl_list.specs.Speeds.{side_speed}
use Rattle.otio_model.specs.Overlaps.{within}
use Rattle.coord.specs.Looks.{Show, Look, blank, from_end}
use Rattle.coord.specs.Sights.{exact, looks, sight, seen}
use Rattle.coord.specs.Images.{Empty, Single, Kind, kind_of, image}
use Rattle.edl_frames.specs.Shown.{reel_key, source_frame, mix_of, side_shows, reel_shows, crossing_shows, cross_shows, event_shows, events_show}
use Rattle.media_rows.specs.Rows.{MediaRows}
use Rattle.edl_frames.specs.Conformed.{Pair, pair_of, serves, leaves_gap, goes_on, is_black, is_same_reel, AreItems, end, gap, cut, pair, pair_with_side}
use Rattle.std.specs.Ordering.{int_eq}
use Rattle.std.proofs.lemmas.Bool.Decides.{Decides-int_eq}
use Rattle.edl_law.proofs.ListedRates.{IsListed}
use Rattle.edl_law.proofs.FrameQuotients.{floor, quotient_is, sum-times}
use Rattle.coord.proofs.LookSteps.{is_within, missed_before, missed_behind}
use Rattle.edl_law.proofs.LookSteps.{AreForward, Plays, Crosses, plays_forward, crosses_forward, seen_at, item_in, item_behind, cross_in, cross_behind, seen_from_end}
use Rattle.edl_law.proofs.ItemLooks.{is_number, ticks, ticks_some, item_plays, gap_plays, transition_crosses}

-- ---- events of a channel in order

-- how an event begins that is no cut: its frames lie in it, and its side is listed
pub record IsPairIn (rate : Rate) (media : MediaRows) (e : Event) (p : Pair) : Type 0 where
  pub inside : (e.rec_in +ℤ pos p.frames) ≤ℤ e.rec_out
  pub from : IsListed rate media p.from.reel
  pub shows : (k : ℤ) → event_shows rate media e k ≡ crossing_shows rate media (kind_of p.type)
      p.frames p.from e.to k

-- an event from a record frame on
pub record IsFrom (rate : Rate) (media : MediaRows) (at : ℤ) (e : Event) : Type 0 where
  pub begins : at ≤ℤ e.rec_in
  pub some : e.rec_in <ℤ e.rec_out
  pub to : IsListed rate media e.to.reel
  pub pair : (p : Pair) → pair_of e.cross ≡ Some p → IsPairIn rate media e p

abbrev pub AreFrom : Rate → MediaRows → ℤ → List Event → Type 0
AreFrom rate media at [] = Unit {0}
AreFrom rate media at (e ∷ es) = IsFrom rate media at e × AreFrom rate media e.rec_out es

-- events from a frame on are so from the first one's record in on
pub from_in : (rate : Rate) (media : MediaRows) (at : ℤ) (e : Event) (es : List Event)
    → AreFrom rate media at (e ∷ es) → AreFrom rate media e.rec_in (e ∷ es)
from_in rate media at e es g =
    (record { begins = omega (arith, ints); some = g.0.some; to = g.0.to; pair = g.0.pair }, g.1)

-- ---- what the events show

pub event_in : (rate : Rate) (media : MediaRows) (e : Event) (es : List Event) (m : ℤ)
    → e.rec_in ≤ℤ m → m <ℤ e.rec_out → events_show rate media (e ∷ es) m ≡ event_shows rate media e
    (m -ℤ e.rec_in)
event_in rate media e es m low high = rw (is_within e.rec_in e.rec_out m low high)

pub event_past : (rate : Rate) (media : MediaRows) (e : Event) (es : List Event) (m : ℤ)
    → e.rec_out ≤ℤ m → events_show rate media (e ∷ es) m ≡ events_show rate media es m
event_past rate media e es m past = rw (missed_behind e.rec_in e.rec_out m past)

pub events_before : (rate : Rate) (media : MediaRows) (at : ℤ) (es : List Event) (m : ℤ)
    → AreFrom rate media at es → m <ℤ at → events_show rate media es m ≡ Empty
events_before rate media at [] m g h = refl
events_before rate media at (e ∷ es) m g h =
    let b = g.0.begins in let s = g.0.some in
    let out : within e.rec_in e.rec_out m ≡ false = missed_before e.rec_in e.rec_out m
    (omega (arith, ints, b, h)) in
    ap (λ t. cond t (event_shows rate media e (m -ℤ e.rec_in)) (events_show rate media es m)) out
    ∙ events_before rate media e.rec_out es m g.1 (omega (arith, ints, b, s, h))

cut_shows : (rate : Rate) (media : MediaRows) (c : Cross) (to : Side) (k : ℤ) → pair_of c ≡ None
    → cross_shows rate media c to k ≡ side_shows rate media to k
cut_shows rate media Cut to k e = refl
cut_shows rate media (Dissolve n from) to k e = absurd (cc e)
cut_shows rate media (Wipe i n from) to k e = absurd (cc e)

crossing_in : (rate : Rate) (media : MediaRows) (kind : Kind) (frames : ℕ) (from to : Side) (k : ℤ)
    → k <ℤ pos frames
    → crossing_shows rate media kind frames from to k ≡ mix_of kind (side_shows rate media from k)
    (side_shows rate media to k) k (pos frames)
crossing_in rate media kind frames from to k h =
    let t : int_lt k (pos frames) ≡ true = grind (arith, ints) in
    ap (λ b. cond b (mix_of kind (side_shows rate media from k) (side_shows rate media to k) k
    (pos frames)) (side_shows rate media to k)) t

crossing_behind : (rate : Rate) (media : MediaRows) (kind : Kind) (frames : ℕ) (from to : Side)
    (k : ℤ) → pos frames ≤ℤ k
    → crossing_shows rate media kind frames from to k ≡ side_shows rate media to k
crossing_behind rate media kind frames from to k h =
    let t : int_lt k (pos frames) ≡ false = grind (arith, ints) in
    ap (λ b. cond b (mix_of kind (side_shows rate media from k) (side_shows rate media to k) k
    (pos frames)) (side_shows rate media to k)) t

-- ---- one event against its items

-- what is seen behind an event, where the item before is x
abbrev Behind : Rate → MediaRows → Event → List Event → Look → List Look → Type 0
Behind rate media e es x l = (m : ℤ) → e.rec_out ≤ℤ m → seen_at (from_end x) l
    ((m -ℤ e.rec_out) *ℤ pos (ticks rate)) ≡ events_show rate media es m

-- an item that begins with its event
pub cut_step : (rate : Rate) (media : MediaRows) (last : ℤ → Show) (e : Event) (es : List Event)
    (x : Look) (l : List Look) (m : ℤ)
    → Plays (ticks rate) (e.rec_out -ℤ e.rec_in) (side_shows rate media e.to) x → AreForward l
    → pair_of e.cross ≡ None → e.rec_in ≤ℤ m → Behind rate media e es x l
    → seen_at last (x ∷ l) ((m -ℤ e.rec_in) *ℤ pos (ticks rate)) ≡ events_show rate media (e ∷ es) m
cut_step rate media last e es x l m plays forward is_cut low behind = by_lt_z m e.rec_out
    (λ h. item_in (ticks rate) last (e.rec_out -ℤ e.rec_in) (m -ℤ e.rec_in)
    (side_shows rate media e.to) x l (ticks_some rate) plays forward (omega (arith, ints))
    (omega (arith, ints))
    ∙ sym (cut_shows rate media e.cross e.to (m -ℤ e.rec_in) is_cut)
    ∙ sym (event_in rate media e es m low h))
    (λ h. item_behind (ticks rate) last (e.rec_out -ℤ e.rec_in) (m -ℤ e.rec_in)
    (side_shows rate media e.to) x l plays (omega (arith, ints))
    ∙ (let d : (m -ℤ e.rec_in) -ℤ (e.rec_out -ℤ e.rec_in) ≡ m -ℤ e.rec_out = omega (arith, ints) in
    ap (λ z. seen_at (from_end x) l (z *ℤ pos (ticks rate))) d)
    ∙ behind m h ∙ sym (event_past rate media e es m h))

-- a transition and an item, where what stands before shows the outgoing side
pub pair_step : (rate : Rate) (media : MediaRows) (last : ℤ → Show) (e : Event) (es : List Event)
    (p : Pair) (t x : Look) (l : List Look) (m : ℤ)
    → ((k : ℤ) → pos 0 ≤ℤ k → image (last (k *ℤ pos (ticks rate))) ≡ side_shows rate media p.from k)
    → Crosses (ticks rate) p.type p.frames t
    → Plays (ticks rate) (e.rec_out -ℤ e.rec_in) (side_shows rate media e.to) x → AreForward l
    → IsPairIn rate media e p → e.rec_in ≤ℤ m → Behind rate media e es x l
    → seen_at last (t ∷ x ∷ l) ((m -ℤ e.rec_in) *ℤ pos (ticks rate)) ≡ events_show rate media
    (e ∷ es) m
pair_step rate media last e es p t x l m side crosses plays forward pair_in low behind =
    let inside = pair_in.inside in by_lt_z (m -ℤ e.rec_in) (pos p.frames)
    (λ h. cross_in (ticks rate) last p.type p.frames (m -ℤ e.rec_in) (e.rec_out -ℤ e.rec_in)
    (side_shows rate media e.to) t x l (ticks_some rate) crosses plays (omega (arith, ints)) h
    ∙ ap (λ i. mix_of (kind_of p.type) i (side_shows rate media e.to (m -ℤ e.rec_in))
    (m -ℤ e.rec_in) (pos p.frames)) (side (m -ℤ e.rec_in) (omega (arith, ints)))
    ∙ sym (crossing_in rate media (kind_of p.type) p.frames p.from e.to (m -ℤ e.rec_in) h)
    ∙ sym (pair_in.shows (m -ℤ e.rec_in))
    ∙ sym (event_in rate media e es m low (omega (arith, ints))))
    (λ f. cross_behind (ticks rate) last p.type p.frames (m -ℤ e.rec_in) t (x ∷ l) crosses
    (omega (arith, ints)) f
    ∙ by_lt_z m e.rec_out
    (λ h. item_in (ticks rate) last (e.rec_out -ℤ e.rec_in) (m -ℤ e.rec_in)
    (side_shows rate media e.to) x l (ticks_some rate) plays forward (omega (arith, ints))
    (omega (arith, ints))
    ∙ sym (crossing_behind rate media (kind_of p.type) p.frames p.from e.to (m -ℤ e.rec_in) f)
    ∙ sym (pair_in.shows (m -ℤ e.rec_in)) ∙ sym (event_in rate media e es m low h))
    (λ h. item_behind (ticks rate) last (e.rec_out -ℤ e.rec_in) (m -ℤ e.rec_in)
    (side_shows rate media e.to) x l plays (omega (arith, ints))
    ∙ (let d : (m -ℤ e.rec_in) -ℤ (e.rec_out -ℤ e.rec_in) ≡ m -ℤ e.rec_out = omega (arith, ints) in
    ap (λ z. seen_at (from_end x) l (z *ℤ pos (ticks rate))) d)
    ∙ behind m h ∙ sym (event_past rate media e es m h)))

-- ---- what serves as an outgoing side

-- what stands before shows each side for which it serves
abbrev pub Leaves : Rate → MediaRows → Option Event → ℤ → (ℤ → Show) → Type 0
Leaves rate media before at last = (from : Side) → serves rate before at from ≡ true → (k : ℤ)
    → image (last (k *ℤ pos (ticks rate))) ≡ side_shows rate media from k

-- the event before has ended
abbrev pub HasEnded : Option Event → ℤ → Type 0
HasEnded None at = Unit {0}
HasEnded (Some e) at = e.rec_out ≤ℤ at

black_shows : (rate : Rate) (media : MediaRows) (side : Side) (k : ℤ) → is_black side.reel ≡ true
    → side_shows rate media side k ≡ Empty
black_shows rate media side k e = by side.reel e
  where
    by : (r : Reel) → is_black r ≡ true → reel_shows rate media side r k ≡ Empty
    by Black e = refl
    by (Named reel) e = absurd (cc e)

still_ended : (o : Option Event) (at later : ℤ) → HasEnded o at → at <ℤ later → HasEnded o later
still_ended None at later h l = tt
still_ended (Some e) at later h l = omega (arith, ints)

-- the head of a track serves as black
pub head_leaves : (rate : Rate) (media : MediaRows) (at : ℤ) → Leaves rate media None at blank
head_leaves rate media at from e k = sym (black_shows rate media from k e)

lt_same : (z : ℤ) → int_lt z z ≡ false
lt_same z = grind (arith, ints)

goes_further : (a b k n : ℤ) (s : ℕ) → (a *ℤ pos 1000000) +ℤ (n *ℤ pos s) ≡ b *ℤ pos 1000000
    → a +ℤ int_div_euclid ((k +ℤ n) *ℤ pos s) (pos 1000000) ≡ b +ℤ int_div_euclid (k *ℤ pos s)
    (pos 1000000)
goes_further a b k n s e =
    let f = floor (k *ℤ pos s) 1000000 (omega arith) in
    let whole = f.whole in
    let t = sum-times k n s in
    let q = quotient_is ((k +ℤ n) *ℤ pos s) (int_div_euclid (k *ℤ pos s) (pos 1000000) +ℤ (b -ℤ a))
    1000000 f.rest f.low (omega (arith, ints, whole, t, e)) in
    omega (arith, ints, q)

reel_is : (rate : Rate) (media : MediaRows) (x y : Side) (p q : Reel) (k n : ℤ)
    → is_same_reel p q ≡ true → is_black q ≡ false → source_frame rate x k ≡ source_frame rate y n
    → reel_shows rate media x p k ≡ reel_shows rate media y q n
reel_is rate media x y Black Black k n e f g = absurd (cc f)
reel_is rate media x y Black (Named b) k n e f g = absurd (cc e)
reel_is rate media x y (Named a) Black k n e f g = absurd (cc e)
reel_is rate media x y (Named a) (Named b) k n e f g = ap₂ (λ r z. Single (reel_key media r) z)
    ((bytes_eq-Decides a b).0 e) g

-- an event that ended here serves as what it goes on to show
pub event_leaves : (rate : Rate) (media : MediaRows) (e : Event) (x : Look)
    → Plays (ticks rate) (e.rec_out -ℤ e.rec_in) (side_shows rate media e.to) x
    → Leaves rate media (Some e) e.rec_out (from_end x)
event_leaves rate media e x plays from served k = seen_from_end (ticks rate) (e.rec_out -ℤ e.rec_in)
    k (side_shows rate media e.to) x plays ∙ by (is_black from.reel) refl served
  where
    going : goes_on rate e e.rec_out from ≡ true → is_black from.reel ≡ false
        → side_shows rate media e.to (k +ℤ (e.rec_out -ℤ e.rec_in)) ≡ side_shows rate media from k
    going g b =
        let a = both (int_eq e.rec_out e.rec_out) _ g in
        let r = both (is_same_reel e.to.reel from.reel) _ a.1 in
        let s = both (side_speed rate e.to == side_speed rate from) _ r.1 in
        let speed = is_number (side_speed rate e.to) (side_speed rate from) s.0 in
        let come =
        (Decides-int_eq ((e.to.src_in *ℤ pos 1000000) +ℤ
        ((e.rec_out -ℤ e.rec_in) *ℤ pos (side_speed rate e.to))) (from.src_in *ℤ pos 1000000)).0
        s.1 in
        reel_is rate media e.to from e.to.reel from.reel (k +ℤ (e.rec_out -ℤ e.rec_in)) k r.0 b
        (goes_further e.to.src_in from.src_in k (e.rec_out -ℤ e.rec_in) (side_speed rate e.to) come
        ∙ ap (λ n. from.src_in +ℤ int_div_euclid (k *ℤ pos n) (pos 1000000)) speed)

    last_true : (p q : Bool) → p ≡ false → (p || q) ≡ true → q ≡ true
    last_true false q f e = e
    last_true true q f e = absurd (cc f)

    by : (b : Bool) → is_black from.reel ≡ b → cond b (leaves_gap e e.rec_out)
        (goes_on rate e e.rec_out from) ≡ true → side_shows rate media e.to
        (k +ℤ (e.rec_out -ℤ e.rec_in)) ≡ side_shows rate media from k
    by true b g = black_shows rate media e.to (k +ℤ (e.rec_out -ℤ e.rec_in))
        (last_true (int_lt e.rec_out e.rec_out) (is_black e.to.reel) (lt_same e.rec_out) g)
        ∙ sym (black_shows rate media from k b)
    by false b g = going g b

-- a gap serves as black alone
pub gap_leaves : (rate : Rate) (media : MediaRows) (before : Option Event) (at begin : ℤ) (x : Look)
    → Plays (ticks rate) (at -ℤ begin) (λ k. Empty) x → HasEnded before begin → begin <ℤ at
    → Leaves rate media before at (from_end x)
gap_leaves rate media before at begin x plays ended h from served k =
    seen_from_end (ticks rate) (at -ℤ begin) k (λ n. Empty) x plays
    ∙ sym (black_shows rate media from k (by before ended served))
  where
    some : (e : Event) (b : Bool) → e.rec_out ≤ℤ begin → is_black from.reel ≡ b
        → cond b (leaves_gap e at) (goes_on rate e at from) ≡ true → is_black from.reel ≡ true
    some e true l b g = b
    some e false l b g = let s = (Decides-int_eq e.rec_out at).0 (both (int_eq e.rec_out at) _ g).0
        in absurd (omega (arith, ints, s, l, h))

    by : (o : Option Event) → HasEnded o begin → serves rate o at from ≡ true
        → is_black from.reel ≡ true
    by None l g = g
    by (Some e) l g = some e (is_black from.reel) l refl g

-- ---- the track of a channel

forward : (rate : Rate) (media : MediaRows) (kind : List ℕ) (before : Option Event) (at : ℤ)
    (es : List Event) (items : List (ItemOf Listed)) → AreItems rate media before at es items
    → AreFrom rate media at es
    → AreForward (looks (exact kind) items)
forward rate media kind before at es items (end _ _) g = tt
forward rate media kind before at es items (gap _ _ e rest x others later is_gap more) g = (
  plays_forward (ticks rate) (e.rec_in -ℤ at) (λ k. Empty) (seen (exact kind) (sight x))
      (gap_plays rate (e.rec_in -ℤ at) kind x is_gap) (omega (arith, ints)),
  forward rate media kind before e.rec_in es others more (from_in rate media at e rest g),
)
forward rate media kind before at es items (cut _ _ e rest x others here is_cut item more) g =
    let s = g.0.some in (
      plays_forward (ticks rate) (e.rec_out -ℤ e.rec_in) (side_shows rate media e.to)
          (seen (exact kind) (sight x)) (item_plays rate media e.to (e.rec_out -ℤ e.rec_in) kind x
          g.0.to item) (omega (arith, ints)),
      forward rate media kind (Some e) e.rec_out rest others more g.1,
    )
forward rate media kind before at es items
    (pair _ _ e rest p t x others here is_pair served transition item more) g =
    let s = g.0.some in (
      crosses_forward (ticks rate) p.type p.frames (seen (exact kind) (sight t))
          (transition_crosses rate p.type p.frames kind t transition),
      (
        plays_forward (ticks rate) (e.rec_out -ℤ e.rec_in) (side_shows rate media e.to)
            (seen (exact kind) (sight x)) (item_plays rate media e.to (e.rec_out -ℤ e.rec_in) kind x
            g.0.to item) (omega (arith, ints)),
        forward rate media kind (Some e) e.rec_out rest others more g.1,
      ),
    )
forward rate media kind before at es items
    (pair_with_side _ _ e rest p z t x others here is_pair served side transition item more) g =
    let s = g.0.some in (
      plays_forward (ticks rate) (pos 0) (side_shows rate media p.from)
          (seen (exact kind) (sight z)) (item_plays rate media p.from (pos 0) kind z
          (g.0.pair p is_pair).from side) (omega (arith, ints)),
      (
        crosses_forward (ticks rate) p.type p.frames (seen (exact kind) (sight t))
            (transition_crosses rate p.type p.frames kind t transition),
        (
          plays_forward (ticks rate) (e.rec_out -ℤ e.rec_in) (side_shows rate media e.to)
              (seen (exact kind) (sight x)) (item_plays rate media e.to (e.rec_out -ℤ e.rec_in) kind
              x g.0.to item) (omega (arith, ints)),
          forward rate media kind (Some e) e.rec_out rest others more g.1,
        ),
      ),
    )

-- from a record frame on, the items of the events show what the events show
pub track_plays : (rate : Rate) (media : MediaRows) (kind : List ℕ) (before : Option Event) (at : ℤ)
    (es : List Event) (items : List (ItemOf Listed)) (last : ℤ → Show) (m : ℤ)
    → AreItems rate media before at es items → AreFrom rate media at es
    → Leaves rate media before at last → HasEnded before at → at ≤ℤ m
    → seen_at last (looks (exact kind) items) ((m -ℤ at) *ℤ pos (ticks rate)) ≡ events_show rate
    media es m
track_plays rate media kind before at es items last m (end _ _) g leaves ended low = refl
track_plays rate media kind before at es items last m (gap _ _ e rest x others later is_gap more) g
    leaves ended low =
    let plays = gap_plays rate (e.rec_in -ℤ at) kind x is_gap in
    let from = from_in rate media at e rest g in
    by_lt_z m e.rec_in
    (λ h. item_in (ticks rate) last (e.rec_in -ℤ at) (m -ℤ at) (λ k. Empty)
    (seen (exact kind) (sight x)) (looks (exact kind) others) (ticks_some rate) plays
    (forward rate media kind before e.rec_in (e ∷ rest) others more from) (omega (arith, ints))
    (omega (arith, ints))
    ∙ sym (events_before rate media e.rec_in (e ∷ rest) m from h))
    (λ h. item_behind (ticks rate) last (e.rec_in -ℤ at) (m -ℤ at) (λ k. Empty)
    (seen (exact kind) (sight x)) (looks (exact kind) others) plays (omega (arith, ints))
    ∙ (let d : (m -ℤ at) -ℤ (e.rec_in -ℤ at) ≡ m -ℤ e.rec_in = omega (arith, ints) in
    ap (λ z. seen_at (from_end (seen (exact kind) (sight x))) (looks (exact kind) others)
    (z *ℤ pos (ticks rate))) d)
    ∙ track_plays rate media kind before e.rec_in (e ∷ rest) others
    (from_end (seen (exact kind) (sight x))) m more from
    (gap_leaves rate media before e.rec_in at (seen (exact kind) (sight x)) plays ended later)
    (still_ended before at e.rec_in ended later) h)
track_plays rate media kind before at es items last m
    (cut _ _ e rest x others here is_cut item more) g leaves ended low =
    let plays = item_plays rate media e.to (e.rec_out -ℤ e.rec_in) kind x g.0.to item in
    ap (λ z. seen_at last (looks (exact kind) (x ∷ others)) ((m -ℤ z) *ℤ pos (ticks rate))) here
    ∙ cut_step rate media last e rest (seen (exact kind) (sight x)) (looks (exact kind) others) m
    plays (forward rate media kind (Some e) e.rec_out rest others more g.1) is_cut
    (omega (arith, ints))
    (λ n h. track_plays rate media kind (Some e) e.rec_out rest others
    (from_end (seen (exact kind) (sight x))) n more g.1
    (event_leaves rate media e (seen (exact kind) (sight x)) plays) (omega (arith, ints)) h)
track_plays rate media kind before at es items last m
    (pair _ _ e rest p t x others here is_pair served transition item more) g leaves ended low =
    let plays = item_plays rate media e.to (e.rec_out -ℤ e.rec_in) kind x g.0.to item in
    ap (λ z. seen_at last (looks (exact kind) (t ∷ x ∷ others)) ((m -ℤ z) *ℤ pos (ticks rate))) here
    ∙ pair_step rate media last e rest p (seen (exact kind) (sight t)) (seen (exact kind) (sight x))
    (looks (exact kind) others) m
    (λ k h. leaves p.from served k) (transition_crosses rate p.type p.frames kind t transition)
    plays (forward rate media kind (Some e) e.rec_out rest others more g.1) (g.0.pair p is_pair)
    (omega (arith, ints))
    (λ n h. track_plays rate media kind (Some e) e.rec_out rest others
    (from_end (seen (exact kind) (sight x))) n more g.1
    (event_leaves rate media e (seen (exact kind) (sight x)) plays) (omega (arith, ints)) h)
track_plays rate media kind before at es items last m
    (pair_with_side _ _ e rest p s t x others here is_pair served side transition item more) g
    leaves ended low =
    let plays = item_plays rate media e.to (e.rec_out -ℤ e.rec_in) kind x g.0.to item in
    let side_plays = item_plays rate media p.from (pos 0) kind s (g.0.pair p is_pair).from side in
    ap (λ z. seen_at last (looks (exact kind) (s ∷ t ∷ x ∷ others)) ((m -ℤ z) *ℤ pos (ticks rate)))
    here
    ∙ item_behind (ticks rate) last (pos 0) (m -ℤ e.rec_in) (side_shows rate media p.from)
    (seen (exact kind) (sight s)) (looks (exact kind) (t ∷ x ∷ others)) side_plays
    (omega (arith, ints))
    ∙ (let d : (m -ℤ e.rec_in) -ℤ pos 0 ≡ m -ℤ e.rec_in = omega (arith, ints) in
    ap (λ z. seen_at (from_end (seen (exact kind) (sight s)))
    (looks (exact kind) (t ∷ x ∷ others)) (z *ℤ pos (ticks rate))) d)
    ∙ pair_step rate media (from_end (seen (exact kind) (sight s))) e rest p
    (seen (exact kind) (sight t)) (seen (exact kind) (sight x)) (looks (exact kind) others) m
    (λ k h. seen_from_end (ticks rate) (pos 0) k (side_shows rate media p.from)
    (seen (exact kind) (sight s)) side_plays
    ∙ (let d : k +ℤ pos 0 ≡ k = omega (arith, ints) in ap (side_shows rate media p.from) d))
    (transition_crosses rate p.type p.frames kind t transition) plays
    (forward rate media kind (Some e) e.rec_out rest others more g.1) (g.0.pair p is_pair)
    (omega (arith, ints))
    (λ n h. track_plays rate media kind (Some e) e.rec_out rest others
    (from_end (seen (exact kind) (sight x))) n more g.1
    (event_leaves rate media e (seen (exact kind) (sight x)) plays) (omega (arith, ints)) h)
