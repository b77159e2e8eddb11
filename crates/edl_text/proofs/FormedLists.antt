-- The list that sound lines say is well formed.
use Rattle.std.proofs.Common.{◌≡◌, ◌≢◌, ◌⊎◌, ℕ, ◌-◌, ◌^◌, ◌<◌, ◌≤◌, ◌==◌, ◌&&◌, ◌||◌, Bool, true, false, not, cond, nat_lt, pos, ◌+ℤ◌, ◌≤ℤ◌, ◌<ℤ◌, unsigned_abs, List, [], ◌∷◌, map, length, get_or, Option, Some, None, is_some, IsSome, option_map, unwrap_or, inl, inr, refl, sym, ap, subst, ◌∙◌, arith, rules}
use Rattle.std.specs.Option.{option_or}
use Rattle.std.specs.Str.{bytes_eq}
use Rattle.std.specs.List.{All, AllPairs, position}
use Rattle.std.specs.List.Sorted.{IsPermutation}
use Rattle.std.proofs.lemmas.Int.{ints}
use Rattle.std.proofs.lemmas.Int.Digits.{digits_value-lt}
use Rattle.std.proofs.lemmas.Bool.{not-false, or_parts}
use Rattle.std.proofs.lemmas.Bool.Decides.{nat_tests, Decides-eqb}
use Rattle.std.proofs.lemmas.List.{length-map}
use Rattle.std.proofs.lemmas.List.Elements.{All-nil, All-append, All-map, All-head}
use Rattle.std.proofs.lemmas.List.Quantifiers.{position-Some}
use Rattle.std.proofs.lemmas.List.Sorted.{All-permutation}
use Rattle.std.proofs.Math.Nat.{pow-le-pow_right}
use Rattle.tick_time.specs.declared.rates.Rate.{Rate}
use Rattle.text_lines.specs.ReelNames.{IsReelName}
use Rattle.smpte_tc.specs.declared.modes.Mode.{Mode}
use Rattle.smpte_tc.specs.Answers.{ninth, means_drop}
use Rattle.smpte_tc.specs.Day.{counted_of, labels_with, spelled}
use Rattle.smpte_tc.specs.Modes.{mode, mode_of}
use Rattle.smpte_tc.proofs.Dropping.{day_count}
use Rattle.edl_text.specs.Numbers as numbers
use Rattle.edl_text.specs.Numbers.{IsNumber}
use Rattle.edl_text.specs.Statements as said
use Rattle.edl_text.specs.Statements.{Statement, EventLine, SpeedLine, Nothing, Title, Mode as ModeLine, Event, Speed, FromName, ToName}
use Rattle.edl_text.specs.EventForms as events
use Rattle.edl_text.specs.Speeds as speeds
use Rattle.edl_text.specs.declared.statement_types.Kind.{Kind}
use Rattle.edl_text.specs.declared.statement_types.Kind.TheVariants as kinds
use Rattle.edl_list.specs.Formed.{IsReel, IsSpeed, IsFrame, IsSide, AreFrames, IsCross, IsEvent, AreInOrder, AreApart, IsWellFormed}
use Rattle.edl_list.specs.Speeds.{day_of}
use Rattle.edl_list.specs.declared.list.Event as listed
use Rattle.edl_list.specs.declared.list.EventList.{EventList}
use Rattle.edl_list.specs.declared.list.Reel.{Reel}
use Rattle.smpte_tc.specs.Frames.{is_mark, label_index, index_by, label_frame, label_frame_at}
use Rattle.edl_text.specs.Past.{Block, block_behind, blocks_in, noted}
use Rattle.edl_text.specs.Sides.{reel_of, reel_at, is_one_reel, duration, is_cut, has_labels, frame_at, source_in, source_out, record_in, record_out, speeds_of, latest, outgoing_speed, incoming, outgoing, from_side, begun}
use Rattle.edl_text.specs.Events.{channels_of, event_on, events_at, events_of}
use Rattle.edl_text.specs.Lines.{IsSound, follows_cut, runs_back, misses}
use Rattle.edl_text.specs.Lists.{events_in, IsSaid}
use Rattle.edl_text.specs.Order.{StandsBefore}
use Rattle.edl_text.specs.StateSaid.{AreSaid}
use Rattle.smpte_tc.proofs.WrittenLabels.{mode_fair}
use Rattle.edl_list.proofs.DayLemmas.{dropped_mode}
use Rattle.edl_text.proofs.LineByLine.{none_of_four, not_below}
use Rattle.edl_text.proofs.Noting.{with_note}

-- a frame number that a label names lies in the day
record InDay (rate : Rate) (n : ℕ) : Type 0 where
  below : n < day_of rate
  timecode : IsSome (mode_of rate false)

plain_day : (rate : Rate) (m : Mode) → mode_of rate false ≡ Some m → (day_of rate ≡ length (counted_of m)) × IsSome (mode_of rate false)
plain_day rate m e = (ap (λ o. unwrap_or (option_map (λ (k : Mode). length (counted_of k)) o) 0) e, subst (λ (o : Option Mode). IsSome o) (sym e) (some m))
  where
    some : (m : Mode) → IsSome (Some m)
    some m = search rules

in_mode : (rate : Rate) (drop : Bool) (m : Mode) (n : ℕ) → mode_of rate drop ≡ Some m → n < length (counted_of m) → InDay rate n
in_mode rate false m n e h =
    let day = plain_day rate m e in
    record { below = subst (λ k. n < k) (sym day.0) h; timecode = day.1 }
in_mode rate true m n e h =
    let plain : mode_of rate false ≡ Some (mode m.nominal 0) =
    dropped_mode rate.num rate.den (unsigned_abs rate.den == 1001) (unsigned_abs rate.num == 30000) (unsigned_abs rate.num == 60000) m refl refl refl e in
    let day = plain_day rate (mode m.nominal 0) plain in
    let fair = mode_fair rate true m e in
    let most = day_count m fair.some fair.fewer in
    let all = day_count (mode m.nominal 0) fair.some (omega arith) in
    let more : length (counted_of m) ≤ length (counted_of (mode m.nominal 0)) = omega (arith, most, all) in
    record { below = subst (λ k. n < k) (sym day.0) (omega (arith, h, more)); timecode = day.1 }

marked_place : (t : Bool) (o : Option ℕ) (n : ℕ) → cond t o None ≡ Some n → o ≡ Some n
marked_place true o n e = e
marked_place false o n e = cc e

placed : (m : Mode) (label : List ℕ) (n : ℕ) → label_index m label ≡ Some n → n < length (counted_of m)
unfolding label_index labels_with
placed m label n e =
    let labels = labels_with (ninth label) m in
    let at : position (bytes_eq label) labels ≡ Some n = marked_place (is_mark (ninth label)) (position (bytes_eq label) labels) n e in
    let found = position-Some (bytes_eq label) labels n label at in
    let count : length labels ≡ length (counted_of m) = length-map (counted_of m) (spelled (ninth label)) in
    omega (arith, found.0, count)

by_mode : (rate : Rate) (drop : Bool) (o : Option Mode) (label : List ℕ) (n : ℕ) → mode_of rate drop ≡ o → index_by o label ≡ Some n → InDay rate n
by_mode rate drop None label n e h = cc h
by_mode rate drop (Some m) label n e h = in_mode rate drop m n e (placed m label n h)

named_day : (rate : Rate) (drop : Bool) (label : List ℕ) (n : ℕ) → label_frame rate drop label ≡ Some n → InDay rate n
unfolding label_frame_at
named_day rate drop label n e = by_mode rate (means_drop label drop) (mode_of rate (means_drop label drop)) label n refl e

read_day : (rate : Rate) (drop : Bool) (label : List ℕ) (o : Option ℕ) → label_frame rate drop label ≡ o → is_some o ≡ true → InDay rate (unwrap_or o 0)
read_day rate drop label None e h = cc h
read_day rate drop label (Some n) e h = named_day rate drop label n e

label_day : (rate : Rate) (block : Block) (label : List ℕ) → is_some (label_frame rate block.drop label) ≡ true → InDay rate (frame_at rate block label)
label_day rate block label h = read_day rate block.drop label (label_frame rate block.drop label) refl h

and_both : (a b : Bool) → a && b ≡ true → (a ≡ true) × (b ≡ true)
and_both true b e = (refl, e)
and_both false b e = cc e

-- numbers of few digits
below_number : (most : ℕ) (field : List ℕ) (n : ℕ) → IsNumber most field n → n < 10 ^ most
below_number most field n h =
    let short = digits_value-lt 10 field h.digits.1 in
    let more : 10 ^ length field ≤ 10 ^ most = pow-le-pow_right (omega arith) h.few in
    omega (arith, h.value, short, more)

small_code : Kind → Type 0
small_code kinds.Cut = Unit {0}
small_code (kinds.Dissolve frames) = Unit {0}
small_code (kinds.Wipe code frames) = code ≤ 999

few_frames : (fields : List (List ℕ)) (k : Kind) → events.IsKind fields k → duration k ≤ 999
few_frames fields kinds.Cut h = omega arith
few_frames fields (kinds.Dissolve frames) h = let b = below_number 3 h.duration frames h.is_duration in omega (arith, b)
few_frames fields (kinds.Wipe code frames) h = let b = below_number 3 h.lasts.duration frames h.lasts.is_duration in omega (arith, b)

few_codes : (fields : List (List ℕ)) (k : Kind) → events.IsKind fields k → small_code k
unfolding small_code
few_codes fields kinds.Cut h = tt
few_codes fields (kinds.Dissolve frames) h = tt
few_codes fields (kinds.Wipe code frames) h = let b = below_number 3 h.is_kind.digits code h.is_kind.is_code in omega (arith, b)

good_reel : (field : List ℕ) (r : said.Reel) → numbers.IsReel field r → IsReel (reel_of r)
good_reel field said.Black h = tt
good_reel field (said.Named name) h = subst IsReelName (sym h.1) h.0

few_tenths : (text : List ℕ) (n : ℕ) → speeds.IsTenths text n → n ≤ 9999
few_tenths text n h =
    let a = below_number 3 h.whole h.units h.is_whole in
    let b = below_number 1 h.tenth h.more h.is_tenth in
    omega (arith, a, b, h.value)

-- speeds that M2 lines can give
AreSpeeds : List ℕ → Type 0
AreSpeeds [] = Unit {0}
AreSpeeds (v ∷ vs) = (v ≤ 9999) × AreSpeeds vs

latest_fine : (vs : List ℕ) → AreSpeeds vs → IsSpeed (latest vs)
unfolding AreSpeeds
latest_fine [] h = tt
latest_fine (v ∷ vs) h = h.0

outgoing_fine : (z : Bool) (vs : List ℕ) → AreSpeeds vs → IsSpeed (outgoing_speed z vs)
unfolding AreSpeeds
outgoing_fine false vs h = latest_fine vs h
outgoing_fine true [] h = tt
outgoing_fine true (v ∷ vs) h = latest_fine vs h.1

or_fine : (a b : Option ℕ) → IsSpeed a → IsSpeed b → IsSpeed (option_or a b)
or_fine None b h k = k
or_fine (Some v) b h k = h

-- an event line that sound lines can have
record IsFormed (rate : Rate) (block : Block) : Type 0 where
  reel : IsReel (reel_at block)
  frames : duration block.says.kind ≤ 999
  code : small_code block.says.kind
  first_source : InDay rate (source_in rate block)
  last_source : InDay rate (source_out rate block)
  first_record : InDay rate (record_in rate block)
  last_record : InDay rate (record_out rate block)
  source : source_in rate block ≤ source_out rate block
  record_span : record_in rate block ≤ record_out rate block
  speeds : (reel : Reel) → AreSpeeds (speeds_of reel block.notes)

AreFormed : Rate → List Block → Type 0
AreFormed rate [] = Unit {0}
AreFormed rate (block ∷ before) = IsFormed rate block × (misses rate block before ≡ false) × AreFormed rate before

-- a note keeps what the event lines before it are
abbrev GoodNote : Statement → Type 0
GoodNote Nothing = Unit {0}
GoodNote (Title title) = Unit {0}
GoodNote (ModeLine drop) = Unit {0}
GoodNote (Event event) = Unit {0}
GoodNote (Speed speed) = speed.tenths ≤ 9999
GoodNote (FromName name) = Unit {0}
GoodNote (ToName name) = Unit {0}

one_more : (t : Bool) (v : ℕ) (vs : List ℕ) → v ≤ 9999 → AreSpeeds vs → AreSpeeds (cond t (v ∷ vs) vs)
unfolding AreSpeeds
one_more true v vs h k = (h, k)
one_more false v vs h k = k

speeds_more : (s : Statement) (notes : List Statement) (reel : Reel) → GoodNote s → AreSpeeds (speeds_of reel notes) → AreSpeeds (speeds_of reel (s ∷ notes))
speeds_more Nothing notes reel h k = k
speeds_more (Title title) notes reel h k = k
speeds_more (ModeLine drop) notes reel h k = k
speeds_more (Event event) notes reel h k = k
speeds_more (Speed speed) notes reel h k = one_more (is_one_reel (reel_of speed.reel) reel) speed.tenths (speeds_of reel notes) h k
speeds_more (FromName name) notes reel h k = k
speeds_more (ToName name) notes reel h k = k

misses_noted : (rate : Rate) (s : Statement) (block : Block) (before : List Block) → misses rate block before ≡ false → misses rate (with_note s block) before ≡ false
misses_noted rate s block [] h = h
misses_noted rate s block (a ∷ others) h = h

formed_noted : (rate : Rate) (s : Statement) (blocks : List Block) → GoodNote s → AreFormed rate blocks → AreFormed rate (noted s blocks)
unfolding AreFormed
formed_noted rate s [] g h = tt
formed_noted rate s (block ∷ before) g h =
    let f = h.0 in (
      record {
        reel = f.reel;
        frames = f.frames;
        code = f.code;
        first_source = f.first_source;
        last_source = f.last_source;
        first_record = f.first_record;
        last_record = f.last_record;
        source = f.source;
        record_span = f.record_span;
        speeds = λ reel. speeds_more s block.notes reel g (f.speeds reel);
      },
      misses_noted rate s block before h.1,
      h.2,
    )

none_yet : AreSpeeds []
unfolding AreSpeeds
none_yet = tt

formed_event : (rate : Rate) (past : List Statement) (line : List ℕ) (event : EventLine) → IsSound rate past line (Event event)
    → IsFormed rate (block_behind past event) × (misses rate (block_behind past event) (blocks_in past) ≡ false)
formed_event rate past line event sound =
    let block = block_behind past event in
    let says = sound.says in
    let four = none_of_four (not (is_cut event.kind) && not (follows_cut block (blocks_in past))) (not (has_labels rate block)) (runs_back rate block) (misses rate block (blocks_in past)) _ _ _ _ sound.sound in
    let labels = not-false (has_labels rate block) four.1 in
    let a = and_both (is_some (label_frame rate block.drop event.source_in)) _ labels in
    let b = and_both (is_some (label_frame rate block.drop event.source_out)) _ a.1 in
    let c = and_both (is_some (label_frame rate block.drop event.record_in)) _ b.1 in
    let d = and_both (is_some (label_frame rate block.drop event.record_out)) _ c.1 in
    let back = or_parts (nat_lt (source_out rate block) (source_in rate block)) (nat_lt (record_out rate block) (record_in rate block)) four.2 in (
      record {
        reel = good_reel says.reel event.reel says.is_reel;
        frames = few_frames says.kind event.kind says.is_kind;
        code = few_codes says.kind event.kind says.is_kind;
        first_source = label_day rate block event.source_in a.0;
        last_source = label_day rate block event.source_out b.0;
        first_record = label_day rate block event.record_in c.0;
        last_record = label_day rate block event.record_out d.0;
        source = not_below (source_out rate block) (source_in rate block) back.0;
        record_span = not_below (record_out rate block) (record_in rate block) back.1;
        speeds = λ reel. none_yet;
      },
      four.3,
    )

formed_past : (rate : Rate) (past : List Statement) → AreSaid rate past → AreFormed rate (blocks_in past)
unfolding AreFormed
formed_past rate [] h = tt
formed_past rate (Event event ∷ past) h = let f = formed_event rate past h.0 event h.1 in (f.0, f.1, formed_past rate past h.2)
formed_past rate (Nothing ∷ past) h = formed_noted rate Nothing (blocks_in past) tt (formed_past rate past h.2)
formed_past rate (Title title ∷ past) h = formed_noted rate (Title title) (blocks_in past) tt (formed_past rate past h.2)
formed_past rate (ModeLine drop ∷ past) h = formed_noted rate (ModeLine drop) (blocks_in past) tt (formed_past rate past h.2)
formed_past rate (Speed speed ∷ past) h =
    formed_noted rate (Speed speed) (blocks_in past) (few_tenths h.1.says.is_speed.text speed.tenths h.1.says.is_speed.are_tenths) (formed_past rate past h.2)
formed_past rate (FromName name ∷ past) h = formed_noted rate (FromName name) (blocks_in past) tt (formed_past rate past h.2)
formed_past rate (ToName name ∷ past) h = formed_noted rate (ToName name) (blocks_in past) tt (formed_past rate past h.2)

-- frames as whole numbers
frame : (rate : Rate) (n : ℕ) → InDay rate n → IsFrame (day_of rate) (pos n)
frame rate n h = record { low = omega (arith, ints); high = omega (arith, ints, h.below) }

no_later : (a b : ℕ) → a ≤ b → pos a ≤ℤ pos b
no_later a b h = omega (arith, ints, h)

incoming_side : (rate : Rate) (block : Block) (before : List Block) → IsFormed rate block → IsSide (day_of rate) (incoming rate block before)
incoming_side rate block before h = record {
  reel = h.reel;
  src_in = frame rate (source_in rate block) h.first_source;
  src_out = frame rate (source_out rate block) h.last_source;
  forward = no_later (source_in rate block) (source_out rate block) h.source;
  speed = latest_fine (speeds_of (reel_at block) block.notes) (h.speeds (reel_at block));
}

outgoing_side : (rate : Rate) (block a : Block) → IsFormed rate block → IsFormed rate a → IsSide (day_of rate) (outgoing rate block a)
outgoing_side rate block a h k = record {
  reel = k.reel;
  src_in = frame rate (source_out rate a) k.last_source;
  src_out = frame rate (source_out rate a) k.last_source;
  forward = no_later (source_out rate a) (source_out rate a) (omega arith);
  speed = or_fine (latest (speeds_of (reel_at a) a.notes)) (outgoing_speed (is_one_reel (reel_at a) (reel_at block)) (speeds_of (reel_at a) block.notes))
      (latest_fine (speeds_of (reel_at a) a.notes) (k.speeds (reel_at a))) (outgoing_fine (is_one_reel (reel_at a) (reel_at block)) (speeds_of (reel_at a) block.notes) (h.speeds (reel_at a)));
}

-- how an event begins
lasting : (rate : Rate) (block a : Block) (others : List Block) (n : ℕ) → duration block.says.kind ≡ n → is_cut block.says.kind ≡ false → nat_lt 0 n ≡ true → n ≤ 999
    → IsFormed rate block → misses rate block (a ∷ others) ≡ false → AreFrames n (pos (record_in rate block)) (pos (record_out rate block))
lasting rate block a others n e cut some few h m =
    let open_test : not (is_cut block.says.kind) && (not (record_out rate a == record_in rate block) || nat_lt (record_out rate block - record_in rate block) (duration block.says.kind)) ≡ false = m in
    let both = or_parts (not (record_out rate a == record_in rate block)) (nat_lt (record_out rate block - record_in rate block) (duration block.says.kind)) (rw cut at open_test) in
    let inside : duration block.says.kind ≤ record_out rate block - record_in rate block = not_below (record_out rate block - record_in rate block) (duration block.says.kind) both.1 in
    let span = h.record_span in
    record {
      some = positive n some;
      few = few;
      inside = within (record_in rate block) (record_out rate block) n span (omega (arith, inside, e));
    }
  where
    positive : (n : ℕ) → nat_lt 0 n ≡ true → 1 ≤ n
    positive n e = grind (arith, nat_tests)

    within : (a b n : ℕ) → a ≤ b → n ≤ b - a → (pos a +ℤ pos n) ≤ℤ pos b
    within a b n h k = omega (arith, ints, h, k)

crossed : (rate : Rate) (block a : Block) (others : List Block) (k : Kind) (t : Bool) → block.says.kind ≡ k → nat_lt 0 (duration block.says.kind) ≡ t → duration k ≤ 999 → small_code k → IsFormed rate block → IsFormed rate a
    → misses rate block (a ∷ others) ≡ false → IsCross (day_of rate) (pos (record_in rate block)) (pos (record_out rate block)) (begun k (cond t (Some (outgoing rate block a)) None))
unfolding small_code
crossed rate block a others k false e f few code h g m = tt
crossed rate block a others kinds.Cut true e f few code h g m = tt
crossed rate block a others (kinds.Dissolve n) true e f few code h g m =
    (lasting rate block a others n (ap duration e) (ap is_cut e) (ap (nat_lt 0) (sym (ap duration e)) ∙ f) few h m, outgoing_side rate block a h g)
crossed rate block a others (kinds.Wipe c n) true e f few code h g m =
    (code, lasting rate block a others n (ap duration e) (ap is_cut e) (ap (nat_lt 0) (sym (ap duration e)) ∙ f) few h m, outgoing_side rate block a h g)

cross_formed : (rate : Rate) (block : Block) (before : List Block) → AreFormed rate (block ∷ before)
    → IsCross (day_of rate) (pos (record_in rate block)) (pos (record_out rate block)) (begun block.says.kind (from_side rate block before))
unfolding AreFormed
cross_formed rate block [] h = tt
cross_formed rate block (a ∷ others) h = crossed rate block a others block.says.kind (nat_lt 0 (duration block.says.kind)) refl refl h.0.frames h.0.code h.0 h.2.0 h.1

less : (a b : ℕ) → a ≤ b → a ≢ b → pos a <ℤ pos b
less a b p q = omega (arith, ints, p, q)

no_test : (t : Bool) → t ≡ false → t ≡ true → ⊥
no_test true p q = cc p
no_test false p q = cc q

line_formed : (t : Bool) (rate : Rate) (block : Block) (before : List Block) → (record_in rate block == record_out rate block) ≡ t → AreFormed rate (block ∷ before)
    → All (IsEvent (day_of rate)) (cond t [] (map (event_on rate block before) (channels_of block.says.channels)))
unfolding AreFormed
line_formed true rate block before e h = All-nil (IsEvent (day_of rate))
line_formed false rate block before e h =
    let f = h.0 in
    let apart : record_in rate block ≢ record_out rate block = λ same. no_test (record_in rate block == record_out rate block) e ((Decides-eqb (record_in rate block) (record_out rate block)).1 same) in
    All-map (IsEvent (day_of rate)) (event_on rate block before) (channels_of block.says.channels)
    (λ k d l. record {
      to = incoming_side rate block before f;
      rec_in = frame rate (record_in rate block) f.first_record;
      rec_out = frame rate (record_out rate block) f.last_record;
      some = less (record_in rate block) (record_out rate block) f.record_span apart;
      cross = cross_formed rate block before h;
    })

all_formed : (rate : Rate) (blocks : List Block) → AreFormed rate blocks → All (IsEvent (day_of rate)) (events_of rate blocks)
unfolding AreFormed
all_formed rate [] h = All-nil (IsEvent (day_of rate))
all_formed rate (block ∷ before) h =
    All-append (IsEvent (day_of rate)) (events_of rate before) (events_at rate block before) (all_formed rate before h.2) (line_formed (record_in rate block == record_out rate block) rate block before refl h)

timed : (rate : Rate) (blocks : List Block) → AreFormed rate blocks → (events_of rate blocks ≡ []) ⊎ IsSome (mode_of rate false)
unfolding AreFormed
timed rate [] h = inl refl
timed rate (block ∷ before) h = inr h.0.first_source.timecode

none_left : (ys : List listed.Event) → All (λ (e : listed.Event). ⊥) ys → ys ≡ []
none_left [] h = refl
none_left (y ∷ ys) h = absurd (All-head (λ (e : listed.Event). ⊥) y ys h)

timed_list : (rate : Rate) (xs ys : List listed.Event) → IsPermutation xs ys → (xs ≡ []) ⊎ IsSome (mode_of rate false) → (ys ≡ []) ⊎ IsSome (mode_of rate false)
timed_list rate xs ys same (inr h) = inr h
timed_list rate xs ys same (inl e) =
    inl (none_left ys (All-permutation (λ (x : listed.Event). ⊥) xs ys same (subst (λ l. All (λ (x : listed.Event). ⊥) l) (sym e) (All-nil (λ (x : listed.Event). ⊥)))))

weaker : (a b : listed.Event) → StandsBefore a b → AreInOrder a b
weaker a b (inl h) = inl h
weaker a b (inr (e, inl h)) = inr (e, omega (arith, h))
weaker a b (inr (e, inr (r, l))) = inr (e, omega (arith, r))

-- the list is well formed
pub formed_list : (rate : Rate) (past : List Statement) (list : EventList) → AreSaid rate past → IsSaid rate past list → AllPairs AreApart list.events → IsWellFormed list
formed_list rate past list said is apart =
    let formed = formed_past rate past said in
    let at = sym is.counted in
    let same = is.events.same in
    let order = is.events.order in
    record {
      timecode = subst (λ (r : Rate). (list.events ≡ []) ⊎ IsSome (mode_of r false)) at (timed_list rate (events_in rate past) list.events same (timed rate (blocks_in past) formed));
      events = subst (λ (r : Rate). All (IsEvent (day_of r)) list.events) at (All-permutation (IsEvent (day_of rate)) (events_in rate past) list.events same (all_formed rate (blocks_in past) formed));
      order = λ i j d a b. weaker (get_or list.events i d) (get_or list.events j d) (order i j d a b);
      apart = apart;
    }
