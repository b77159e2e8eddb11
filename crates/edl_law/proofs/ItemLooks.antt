-- How the items of a conformed track look.
use Rattle.std.proofs.Common.{◌≡◌, refl, sym, ap, ap₂, ◌∙◌, ℕ, ◌==◌, ◌<◌, ℤ, pos, ◌*ℤ◌, Bool, true, false, cond, List, [], ◌∷◌, Option, Some, None, arith}
use Rattle.std.specs.Prelude.{codes, option_map, option_and_then}
use Rattle.std.specs.Option.{option_or}
use Rattle.std.proofs.lemmas.Int.{ints}
use Rattle.limits.proofs.IntegerSums.{size-of_natural}
use Rattle.std.proofs.Math.Nat.{mul-div_right, mul-mod_right}
use Rattle.tick_time.proofs.Units.{unit_positive}
use Rattle.sequences.specs.Pairs.{value_of}
use Rattle.json_value.specs.declared.Json.{out-Json}
use Rattle.tick_time.specs.declared.rates.Rate.{Rate}
use Rattle.tick_time.specs.declared.spans.Span.{Span}
use Rattle.tick_time.specs.declared.times.Time.{Time}
use Rattle.tick_time.specs.Rates.{frame, unit}
use Rattle.otio_model.specs.declared.media.Media.{Media as Reference}
use Rattle.otio_model.specs.declared.compositions.Clip.{Clip as ClipRow}
use Rattle.otio_model.specs.declared.compositions.ItemOf.{ItemOf}
use Rattle.otio_model.specs.declared.compositions.ItemOf.TheVariants.{Clip}
use Rattle.otio_model.specs.declared.compositions.Listed.{Listed}
use Rattle.otio_model.specs.Lengths.{active_media, Range, range_of, range_start, from_zero, clip_range, media_range, trimmed_start, or_zero}
use Rattle.edl_list.specs.declared.list.Reel.{Reel}
use Rattle.edl_list.specs.declared.list.Reel.TheVariants.{Black, Named}
use Rattle.edl_list.specs.declared.list.Side.{Side}
use Rattle.edl_list.specs.Speeds.{side_speed}
use Rattle.media_rows.specs.declared.row.MediaRow.{MediaRow}
use Rattle.coord.specs.Looks.{Key, FrameRate, Blank}
use Rattle.coord.specs.Keys.{key_of, media_key, media_rate, frame_rate, reel_of, reel_or_name, text_in, member_in}
use Rattle.otio_model.specs.Speeds.{combined, from_millionths}
use Rattle.otio_model.specs.Overlaps.{offset_of}
use Rattle.coord.specs.Speeds.{speed_of, media_at}
use Rattle.coord.specs.Sights.{View, exact, sight, seen, framed}
use Rattle.coord.specs.Images.{Empty, Single, image, frame_number}
use Rattle.edl_frames.specs.Shown.{url_or_reel, reel_key, source_frame, side_shows, reel_shows}
use Rattle.media_rows.specs.Rows.{MediaRows, row_of}
use Rattle.edl_frames.specs.Channels.{KeySeen, own_key}
use Rattle.edl_frames.specs.Conformed.{HasSpan, HasFrames, still, warp, effects_at, TellsReel, IsReference, IsClip, IsGap, IsReelItem, IsItem, IsTransition}
use Rattle.edl_law.proofs.ListedRates.{IsListed}
use Rattle.edl_law.proofs.FrameQuotients.{reached}
use Rattle.edl_law.proofs.LookSteps.{Plays, Crosses}

-- a kind of track, and what clips are known by
pub record Watch : Type 0 where
  pub kind : List ℕ
  pub key : KeySeen

-- a viewer of that kind, by those keys, who keeps the whole rate
abbrev pub exactly : Watch → View
exactly w = record { kind = w.kind; rate_kept = λ rate. rate; key = w.key }

abbrev pub ticks : Rate → ℕ
ticks rate = frame rate.num rate.den

pub rate_some : (rate : Rate) → 0 < unit rate.num rate.den
rate_some rate =
    let den = rate.positive in
    let most = rate.at_least_one in
    let some = unit_positive rate.num rate.den den (omega (arith, ints, den, most)) rate.small_num
    in
    omega (arith, some)

pub ticks_some : (rate : Rate) → 0 < ticks rate
ticks_some rate = omega (arith, rate_some rate)

-- ---- speeds

pub is_number : (n m : ℕ) → (n == m) ≡ true → n ≡ m
is_number n m e = grind (arith, e)

times_million : (n : ℕ) → from_millionths (pos 1000000 *ℤ pos n) ≡ pos n
times_million n = rw (mul-div_right n {m = 1000000} (omega arith), mul-mod_right 1000000 n) refl

pub speed_back : (n : ℕ) → combined (pos 1000000) (effects_at n) ≡ pos n
speed_back n = by (n == 1000000) refl
  where
    other : (b : Bool) → (n == 0) ≡ b → combined (pos 1000000) (cond b (still ∷ []) (warp n ∷ [])) ≡
        pos n
    other true e = ap pos (sym (is_number n 0 e))
    other false e = times_million n

    by : (b : Bool) → (n == 1000000) ≡ b → combined (pos 1000000)
        (cond b [] (cond (n == 0) (still ∷ []) (warp n ∷ []))) ≡ pos n
    by true e = ap pos (sym (is_number n 1000000 e))
    by false e = other (n == 0) refl

-- ---- clips

pub clip_watched : (c : ClipRow) (w : Watch) (key : Key) (r : FrameRate) (start speed u : ℤ)
    → c.enabled ≡ true → w.key (reel_of c) (key_of c) ≡ key → media_rate c ≡ Some r
    → trimmed_start {C = Listed} (Clip c) ≡ start → speed_of {C = Listed} (Clip c) ≡ speed
    → image ((sight (Clip c)).shows (exactly w) u)
    ≡ Single key (frame_number (media_at start speed u) r)
clip_watched c w key r start speed u a b d e f =
    λ i. image (cond (a i) (framed (exactly w) (b i) (media_at (e i) (f i) u) (d i)) Blank)

active : (c : ClipRow) (m : Reference) → c.active_media_reference_key ≡ codes "DEFAULT_MEDIA"
    → c.media_references ≡ (codes "DEFAULT_MEDIA", m) ∷ [] → active_media c ≡ Some m
active c m e f = ap₂ (λ k l. value_of k l) e f

told_reel : (c : ClipRow) (reel : List ℕ) → TellsReel reel c.metadata → reel_of c ≡ Some reel
told_reel c reel t =
    ap (λ m. option_and_then (λ j. text_in (out-Json j))
    (option_and_then (λ j. member_in (codes "reel") (out-Json j))
    (value_of (codes "cmx_3600") m))) t.outer
    ∙ ap (λ j. option_and_then (λ j. text_in (out-Json j)) (member_in (codes "reel") j)) t.inner
    ∙ ap text_in t.is

known_by : (c : ClipRow) (o : Option MediaRow) (reel : List ℕ) (m : Reference)
    → active_media c ≡ Some m → IsReference o m → reel_of c ≡ Some reel
    → key_of c ≡ url_or_reel o reel
known_by c None reel m e f g = ap₂ (λ a b. media_key a (reel_or_name b c.name))
    (e ∙ ap (λ n. Some n) f) g
known_by c (Some row) reel m e f g = ap (λ a. media_key a (reel_or_name (reel_of c) c.name))
    (e ∙ ap (λ n. Some n) f.2)

-- the rate of the media is the list's
rated_by : (rate : Rate) (c : ClipRow) (o : Option MediaRow) (m : Reference) (start count : ℤ)
    → active_media c ≡ Some m → IsReference o m → HasSpan rate start count c.source_range
    → ((row : MediaRow) → o ≡ Some row → frame_rate row.rate ≡ frame_rate rate)
    → media_rate c ≡ Some (frame_rate rate)
rated_by rate c None m start count e f s h =
    ap₂ (λ a b. option_map (λ (s : Span). frame_rate s.start.rate)
    (option_or (option_and_then media_range a) b)) (e ∙ ap (λ n. Some n) f) s.1
    ∙ ap (λ r. Some (frame_rate r)) s.2.from.kept
rated_by rate c (Some row) m start count e f s h =
    ap (λ a. option_map (λ (s : Span). frame_rate s.start.rate)
    (option_or (option_and_then media_range a) c.source_range)) (e ∙ ap (λ n. Some n) f.2)
    ∙ ap (λ r. Some r) (ap frame_rate f.1.from.kept ∙ h row refl)

starts_at : (rate : Rate) (c : ClipRow) (start count : ℤ) → HasSpan rate start count c.source_range
    → trimmed_start {C = Listed} (Clip c) ≡ start *ℤ pos (ticks rate)
starts_at rate c start count s =
    ap (λ o. range_start (option_or (option_map range_of o) (option_map range_of (clip_range c))))
    s.1
    ∙ s.2.from.ticks

long_is : (o : Option Span) (r : Option Range) (rate : Rate) (start count : ℤ)
    → HasSpan rate start count o
    → pos (or_zero (option_map (λ (r : Range). r.len) (option_or (option_map range_of o) r))) ≡
    count *ℤ pos (ticks rate)
long_is o r rate start count h =
    ap (λ q.
    pos (or_zero (option_map (λ (r : Range). r.len) (option_or (option_map range_of q) r)))) h.1
    ∙ size-of_natural h.0.len.ticks h.0.forward ∙ h.2.long.ticks

pub clip_plays : (rate : Rate) (media : MediaRows) (side : Side) (reel : List ℕ) (count : ℤ)
    (kind : List ℕ) (x : ItemOf Listed)
    → ((row : MediaRow) → row_of media reel ≡ Some row → frame_rate row.rate ≡ frame_rate rate)
    → IsClip rate (row_of media reel) side reel count x
    → Plays (ticks rate) count (λ k. Single (reel_key media reel) (source_frame rate side k))
    (seen (exact kind) (sight x))
clip_plays rate media side reel count kind x listed i =
    let c = i.clip in
    let reference = active c i.reference i.key i.references in
    let s = i.source in
    rw i.is (record {
      item = refl;
      long = long_is c.source_range (option_map range_of (clip_range c)) rate side.src_in count s;
      shows = λ k.
          clip_watched c (record { kind = kind; key = own_key }) (reel_key media reel)
          (frame_rate rate) (side.src_in *ℤ pos (ticks rate))
          (pos (side_speed rate side)) (k *ℤ pos (ticks rate)) i.enabled
          (known_by c (row_of media reel) reel i.reference reference i.listed
          (told_reel c reel i.metadata))
          (rated_by rate c (row_of media reel) i.reference side.src_in count reference i.listed s
          listed)
          (starts_at rate c side.src_in count s)
          (ap (combined (pos 1000000)) i.effects ∙ speed_back (side_speed rate side))
          ∙ ap (Single (reel_key media reel))
          (reached side.src_in k (unit rate.num rate.den) (side_speed rate side)
          (rate_some rate));
    })

-- ---- gaps

pub gap_plays : (rate : Rate) (count : ℤ) (kind : List ℕ) (x : ItemOf Listed) → IsGap rate count x
    → Plays (ticks rate) count (λ k. Empty) (seen (exact kind) (sight x))
gap_plays rate count kind x i =
    rw i.is
    (record {
      item = refl;
      long = long_is i.gap.source_range (Some (from_zero 0)) rate (pos 0) count
          i.source;
      shows = λ k. refl;
    })

-- ---- transitions

offset_is : (rate : Rate) (n : ℤ) (o : Option Time) → HasFrames rate n o → offset_of o ≡ n *ℤ pos
    (ticks rate)
offset_is rate n o h = ap offset_of h.1 ∙ h.2.ticks

pub transition_crosses : (rate : Rate) (type : List ℕ) (frames : ℕ) (kind : List ℕ)
    (x : ItemOf Listed) → IsTransition rate type frames x → Crosses (ticks rate) type frames
    (seen (exact kind) (sight x))
transition_crosses rate type frames kind x i = rw i.is (record {
  overlap = record {
    kind = i.transition.transition_type;
    before = offset_of i.transition.in_offset;
    after = offset_of i.transition.out_offset;
  };
  there = refl;
  kind = i.kind;
  before = offset_is rate (pos 0) i.transition.in_offset i.before ∙ omega (arith, ints);
  after = offset_is rate (pos frames) i.transition.out_offset i.after;
  point = refl;
})

-- ---- the item of a side

pub item_plays : (rate : Rate) (media : MediaRows) (side : Side) (count : ℤ) (kind : List ℕ)
    (x : ItemOf Listed) → IsListed rate media side.reel → IsItem rate media side count x
    → Plays (ticks rate) count (side_shows rate media side) (seen (exact kind) (sight x))
item_plays rate media side count kind x listed i = by side.reel listed i
  where
    by : (r : Reel) → IsListed rate media r → IsReelItem rate media side r count x
        → Plays (ticks rate) count (reel_shows rate media side r) (seen (exact kind) (sight x))
    by Black h j = gap_plays rate count kind x j
    by (Named reel) h j = clip_plays rate media side reel count kind x h j
