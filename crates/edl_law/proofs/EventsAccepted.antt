-- The list of a timeline is well formed, even, and carried by its media list.
use Rattle.std.proofs.Common.{◌≡◌, refl, sym, ap, ap₂, subst, ◌∙◌, ℕ, suc, zero, ◌+◌, ◌*◌, ◌==◌, ◌<◌, ◌≤◌, ℤ, pos, negsuc, ◌+ℤ◌, ◌-ℤ◌, ◌*ℤ◌, ◌≤ℤ◌, ◌<ℤ◌, ◌&&◌, ◌||◌, Bool, true, false, not, cond, List, [], ◌∷◌, ◌++◌, Option, Some, None, arith, inl}
use Rattle.std.specs.Prelude.{int_lt, int_le, nat_le, option_and_then, All, AllPairs, filter, find, length, IfSome, slice_index_or}
use Rattle.std.specs.Int.{int_div_euclid}
use Rattle.std.specs.List.{list_any, range_with_len}
use Rattle.std.proofs.lemmas.Int.{ints}
use Rattle.std.proofs.lemmas.List.Elements.{All-cons, All-head, All-tail}
use Rattle.std.proofs.lemmas.List.Kept.{AllPairs-cons}
use Rattle.tick_time.specs.declared.rates.Rate.{Rate}
use Rattle.tick_time.proofs.Wholes.{count-product}
use Rattle.otio_model.specs.declared.compositions.Clip.{Clip as ClipRow}
use Rattle.edl_list.specs.declared.list.Channel.{Channel}
use Rattle.edl_list.specs.declared.list.Channel.TheVariants.{V, A, A2}
use Rattle.edl_list.specs.declared.list.Reel.TheVariants.{Named}
use Rattle.edl_list.specs.declared.list.Side.{Side}
use Rattle.edl_list.specs.declared.list.Cross.{Cross}
use Rattle.edl_list.specs.declared.list.Cross.TheVariants.{Cut, Dissolve, Wipe}
use Rattle.edl_list.specs.declared.list.Event.{Event}
use Rattle.edl_list.specs.Formed.{IsReel, IsSpeed, IsFrame, IsSide, IsCross, IsEvent, AreApart, rank}
use Rattle.text_lines.specs.ReelNames.{IsReelName}
use Rattle.text_lines.proofs.ReelLemmas.{reel_name_is}
use Rattle.edl_list.specs.Layouts.{layout_of, FitsReel, FitsEvent}
use Rattle.edl_list.specs.Labelled.{outgoing}
use Rattle.edl_list.specs.Alike.{IsEvenEvent}
use Rattle.edl_list.specs.Speeds.{side_speed, count_of, speed_of, half_even}
use Rattle.media_rows.specs.declared.row.MediaRow.{MediaRow}
use Rattle.media_rows.specs.Rows.{AreRows, by_reel, by_url, MediaRows, row_of}
use Rattle.coord.specs.Keys.{frame_rate, reel_of}
use Rattle.otio_model.specs.Lengths.{active_media}
use Rattle.edl_frames.specs.Shown.{source_frame, is_on}
use Rattle.edl_frames.specs.Refused.{Use, outgoing_use, reel_row, if_listed, is_unlisted, has_other_rate, is_outside, is_none, event_fault, first_fault}
use Rattle.edl_frames.specs.declared.faults.ConformFault.TheVariants as F
use Rattle.edl_frames.specs.Seats.{Seat, is_there}
use Rattle.edl_frames.specs.ChildReasons.{Part, is_outside_row, row_differs}
use Rattle.edl_frames.specs.Sides.{side_of, black_side, source_at, speed_in, speed_in_tenths, clip_reel, clip_row, if_reel, reel_in, url_in, reel_named}
use Rattle.edl_frames.specs.Jobs.{tenths_of, count_in, mode_in, is_in_day, day_in}
use Rattle.text_lines.specs.ReelNames.{is_reel_name}
use Rattle.edl_law.specs.Premises.{AreListed}
use Rattle.edl_law.proofs.ListedRates.{passes}
use Rattle.edl_law.proofs.LookSteps.{times_le}
use Rattle.edl_law.proofs.SideLooks.{job, some_there, speed_kept, by_url_is}
use Rattle.edl_law.proofs.ReasonFacts.{ClipFree}
use Rattle.edl_law.proofs.EventsFormed.{EventHolds, EventsHold, CrossHolds, PartFree, SidesHold}
use Rattle.std.specs.Ordering.{int_eq}
use Rattle.tick_time.proofs.BoolLemmas.{both}

-- ---- what is known of a side of a list that is written

pub record Holds (rate : Rate) (media : MediaRows) (wide : Bool) (day : ℕ) (shown : Bool)
    (side : Side)
    (n : ℤ) : Type 0 where
  pub side_is : IsSide day side
  pub fits : FitsReel (layout_of wide) side.reel
  pub even : shown ≡ true → side_speed rate side ≡ 1000000 → (side.src_out -ℤ side.src_in) ≡ n
  pub listed : is_unlisted media (record { side = side; frames = n }) ≡ false
  pub rated : has_other_rate rate media (record { side = side; frames = n }) ≡ false
  pub inside : is_outside rate media (record { side = side; frames = n }) ≡ false

black_listed : (media : MediaRows) (src_out n : ℤ)
    → is_unlisted media (record { side = black_side src_out; frames = n }) ≡ false
black_listed None src_out n = refl
black_listed (Some rows) src_out n = refl

black_holds : (rate : Rate) (media : MediaRows) (wide : Bool) (day : ℕ) (shown : Bool) (z n : ℤ)
    → 999 < day
    → pos 0 ≤ℤ z → z ≤ℤ pos 999 → (shown ≡ true → z ≡ n)
    → Holds rate media wide day shown (black_side z)
    n
black_holds rate media wide day shown z n long low high same = record {
  side_is = record {
    reel = tt;
    src_in = record { low = omega (arith, ints); high = omega (arith, ints, long) };
    src_out = record { low = low; high = omega (arith, ints, long, high) };
    forward = low;
    speed = tt;
  };
  fits = tt;
  even = λ s e. let q = same s in omega (arith, ints, q);
  listed = black_listed media z n;
  rated = refl;
  inside = refl;
}

-- ---- a clip's side

find_within : (p : ℕ → Bool) (a n v : ℕ) → find p (range_with_len a n) ≡ Some v → v < a + n
find_within p a zero v e = absurd (cc e)
find_within p a (suc n) v e = by (p a) e (find_within p (a + 1) n v)
  where
    by : (b : Bool) → cond b (Some a) (find p (range_with_len (a + 1) n)) ≡ Some v
        → (find p (range_with_len (a + 1) n) ≡ Some v → v < a + 1 + n) → v < a + suc n
    by true f g = let same : a ≡ v = cc f in omega (arith, same)
    by false f g = let l = g f in omega (arith, l)

tenths_low : (count : ℕ) (speed : ℤ) (v : ℕ) → tenths_of count speed ≡ Some v → v ≤ 9999
unfolding tenths_of
tenths_low count speed v e = let l =
    find_within (λ v. int_eq (pos (half_even (v * 100000) count)) speed) 0 10000 v e in
    omega (arith, l)

speed_low : (rate : Rate) (first : ℤ) (media : MediaRows) (drop wide : Bool) (speed : ℤ)
    → IsSpeed (speed_in_tenths (job rate first media drop wide) speed)
speed_low rate first media drop wide speed = by (int_eq speed (pos 1000000))
    (tenths_of (count_in (mode_in (frame_rate rate) false)) speed) refl
  where
    by : (b : Bool) (o : Option ℕ) → tenths_of (count_in (mode_in (frame_rate rate) false)) speed ≡
        o → IsSpeed (cond b None o)
    by true o e = tt
    by false None e = tt
    by false (Some v) e = tenths_low (count_in (mode_in (frame_rate rate) false)) speed v e

-- a reel that is taken has a name that its column has room for
abbrev NamesReel : Bool → List ℕ → Type 0
NamesReel wide name = IsReelName name × (length name ≤ (layout_of wide).reel_width)

reel_holds : (wide : Bool) (o : Option (List ℕ)) (name : List ℕ)
    → if_reel (layout_of wide) o ≡ Some name → NamesReel wide name
reel_holds wide None name e = absurd (cc e)
reel_holds wide (Some n) name e =
    by (is_reel_name n && nat_le (length n) (layout_of wide).reel_width) refl e
  where
    fits : nat_le (length n) (layout_of wide).reel_width ≡ true
        → length n ≤ (layout_of wide).reel_width
    fits f = grind (arith, f)

    by : (b : Bool) → (is_reel_name n && nat_le (length n) (layout_of wide).reel_width) ≡ b
        → cond b (Some n) None ≡ Some name → NamesReel wide name
    by true f g =
        let p = both (is_reel_name n) (nat_le (length n) (layout_of wide).reel_width) f in
        let same : n ≡ name = cc g in
        subst (NamesReel wide) same (reel_name_is n p.0, fits p.1)
    by false f g = absurd (cc g)

reel_is_name : (wide : Bool) (media : MediaRows) (r : ClipRow) (name : List ℕ)
    → clip_reel (layout_of wide) media r ≡ Some name → NamesReel wide name
reel_is_name wide None r name e = reel_holds wide (reel_of r) name e
reel_is_name wide (Some rows) r name e = reel_holds wide (reel_in (clip_row (Some rows) r)) name e

-- the row of a clip is that of its reel
row_found : (wide : Bool) (rows : List MediaRow) (r : ClipRow) (name : List ℕ) → AreRows rows
    → clip_reel (layout_of wide) (Some rows) r ≡ Some name
    → (row : MediaRow) × (clip_row (Some rows) r ≡ Some row)
    × (by_reel name rows ≡ Some row)
row_found wide rows r name d e = by (clip_row (Some rows) r) refl e
  where
    cut : (n : List ℕ) (b : Bool) → cond b (Some n) None ≡ Some name → n ≡ name
    cut n true f = cc f
    cut n false f = absurd (cc f)

    url : (o : Option (List ℕ)) (row : MediaRow) → option_and_then (λ url. by_url url rows) o ≡ Some
        row → by_reel row.reel rows ≡ Some row
    url None row f = absurd (cc f)
    url (Some u) row f = (by_url_is u rows row d f).1

    by : (o : Option MediaRow) → clip_row (Some rows) r ≡ o
        → if_reel (layout_of wide) (reel_in o) ≡ Some name
        → (row : MediaRow) × (clip_row (Some rows) r ≡ Some row) × (by_reel name rows ≡ Some row)
    by None f g = absurd (cc g)
    by (Some row) f g = (
      row,
      f,
      ap (λ n. by_reel n rows) (sym (cut row.reel
          (is_reel_name row.reel && nat_le (length row.reel) (layout_of wide).reel_width) g))
          ∙ url (url_in (active_media r)) row f,
    )

pub in_day : (rate : Rate) (first : ℤ) (media : MediaRows) (drop wide : Bool) (day : ℕ) (n : ℤ)
    → day_in (mode_in (frame_rate rate) drop) ≤ day
    → is_in_day (job rate first media drop wide) n ≡ true
    → IsFrame day n
in_day rate first media drop wide day n h e =
    let p = both (int_le (pos 0) n) (int_lt n (pos (day_in (mode_in (frame_rate rate) drop)))) e in
    let a : pos 0 ≤ℤ n = grind (arith, ints, p.0) in
    let b : n <ℤ pos (day_in (mode_in (frame_rate rate) drop)) = grind (arith, ints, p.1) in
    record { low = a; high = omega (arith, ints, b, h) }

div_low : (z : ℤ) → pos 0 ≤ℤ z → pos 0 ≤ℤ int_div_euclid z (pos 1000000)
div_low (pos a) h = omega (arith, ints)
div_low (negsuc a) h = absurd (omega (arith, ints, h))

row_here : (wide : Bool) (media : MediaRows) (r : ClipRow) (name : List ℕ) → AreListed media
    → clip_reel (layout_of wide) media r ≡ Some name → (rows : List MediaRow) → media ≡ Some rows
    → is_there (by_reel name rows) ≡ true
row_here wide None r name d e rows f = absurd (cc f)
row_here wide (Some rows) r name d e other f = let same : rows ≡ other = cc f in
    ap (λ z. is_there (by_reel name z)) (sym same) ∙ ap is_there (row_found wide rows r name d e).2

row_same : (wide : Bool) (media : MediaRows) (r : ClipRow) (name : List ℕ) → AreListed media
    → clip_reel (layout_of wide) media r ≡ Some name → row_of media name ≡ clip_row media r
row_same wide None r name d e = refl
row_same wide (Some rows) r name d e = let q = row_found wide rows r name d e in q.2 ∙ sym q.1

unlisted_not : (media : MediaRows) (u : Use) (name : List ℕ) → u.side.reel ≡ Named name
    → ((rows : List MediaRow) → media ≡ Some rows → is_there (by_reel name rows) ≡ true)
    → is_unlisted media u ≡ false
unlisted_not None u name e h = refl
unlisted_not (Some rows) u name e h =
    ap (λ z. is_unlisted (Some rows)
    (record { side = record (u.side) { reel = z }; frames = u.frames })) e
    ∙ by (by_reel name rows) (h rows refl)
  where
    by : (o : Option MediaRow) → is_there o ≡ true → is_none o ≡ false
    by None f = absurd (cc f)
    by (Some row) f = refl

none_on : (a c z : ℤ) → c ≡ pos 0 → a ≡ a +ℤ int_div_euclid (c *ℤ z) (pos 1000000)
none_on a c z e = let m = ap (λ c. int_div_euclid (c *ℤ z) (pos 1000000)) e in
    let n : pos 0 *ℤ z ≡ pos 0 = omega (arith, ints) in
    let k = ap (λ c. int_div_euclid c (pos 1000000)) n in omega (arith, ints, m, k)

-- a side of a clip that is carried
pub clip_holds : (rate : Rate) (first : ℤ) (media : MediaRows) (drop wide : Bool) (day : ℕ)
    (shown : Bool) (s : Seat) (r : ClipRow) (p : Part) → AreListed media
    → day_in (mode_in (frame_rate rate) drop) ≤ day → ClipFree (job rate first media drop wide) s r
    → PartFree (job rate first media drop wide) s r p → pos 0 ≤ℤ p.counted
    → (shown ≡ true → p.counted ≡ p.frames) → Holds rate media wide day shown
    (side_of (job rate first media drop wide) r s.start p.at p.counted) p.frames
clip_holds rate first media drop wide day shown s r p rows_are h f free low same =
    let j = job rate first media drop wide in
    let name = some_there (clip_reel (layout_of wide) media r) f.named in
    let speed = speed_kept rate first media drop wide (speed_in r) f.tenths in
    let d = both (is_in_day j (source_at j r s.start p.at))
    (is_in_day j (source_at j r s.start p.at +ℤ int_div_euclid (p.counted *ℤ speed_in r)
    (pos 1000000))) (passes _ free.day) in
    let begin = in_day rate first media drop wide day (source_at j r s.start p.at) h d.0 in
    let side : Side = side_of j r s.start p.at p.counted in
    let reel_is : side.reel ≡ Named name.0 = ap reel_named name.1 in
    let rows = row_same wide media r name.0 rows_are name.1 in
    let gone : pos 0 ≤ℤ int_div_euclid (p.counted *ℤ speed_in r) (pos 1000000) =
    subst (λ z. pos 0 ≤ℤ int_div_euclid (p.counted *ℤ z) (pos 1000000)) speed
    (div_low (p.counted *ℤ pos (speed_of (count_of rate) (speed_in_tenths j (speed_in r))))
    (let t = times_le (pos 0) p.counted
    (speed_of (count_of rate) (speed_in_tenths j (speed_in r))) low in omega (arith, ints, t)))
    in
    record {
      side_is = record {
        reel = subst (λ o. IsReel (reel_named o)) (sym name.1)
            (reel_is_name wide media r name.0 name.1).0;
        src_in = begin;
        src_out = in_day rate first media drop wide day
            (source_at j r s.start p.at +ℤ int_div_euclid (p.counted *ℤ speed_in r) (pos 1000000)) h
            d.1;
        forward = omega (arith, ints, gone);
        speed = speed_low rate first media drop wide (speed_in r);
      };
      fits = subst (λ o. FitsReel (layout_of wide) (reel_named o)) (sym name.1)
          (reel_is_name wide media r name.0 name.1).1;
      even = λ sh own.
          let t : speed_in r ≡ pos 1000000 = sym speed ∙ ap (λ n. pos n) own in
          let q = ap (λ z. int_div_euclid (p.counted *ℤ z) (pos 1000000)) t in
          let k = count-product p.counted (pos 1000000) (omega (arith, ints)) in
          let z = same sh in
          omega (arith, ints, q, k, z);
      listed = unlisted_not media (record { side = side; frames = p.frames }) name.0 reel_is
          (row_here wide media r name.0 rows_are name.1);
      rated =
          ap
          (λ q.
          if_listed (λ row. not (int_eq row.rate.num rate.num && int_eq row.rate.den rate.den))
          (reel_row media q)) reel_is ∙ ap
          (if_listed (λ row. not (int_eq row.rate.num rate.num && int_eq row.rate.den rate.den)))
          rows
          ∙ differs (clip_row media r) f.same_row;
      inside =
          ap
          (λ q. if_listed (λ row. int_lt (source_frame rate side (pos 0)) row.start || int_le
          (row.start +ℤ row.count) (source_frame rate side (p.frames -ℤ pos 1))) (reel_row media q))
          reel_is
          ∙ ap
          (if_listed (λ row. int_lt (source_frame rate side (pos 0)) row.start || int_le
          (row.start +ℤ row.count) (source_frame rate side (p.frames -ℤ pos 1)))) rows
          ∙ outside (clip_row media r) free.row;
    }
  where
    differs : (o : Option MediaRow) → row_differs (job rate first media drop wide) o ≡ false
        → if_listed (λ row. not (int_eq row.rate.num rate.num && int_eq row.rate.den rate.den)) o ≡
        false
    differs None e = refl
    differs (Some row) e = e

    sped : pos (side_speed rate (side_of (job rate first media drop wide) r s.start p.at p.counted))
        ≡
        speed_in r
    sped = speed_kept rate first media drop wide (speed_in r) f.tenths

    outside : (o : Option MediaRow) → is_outside_row (job rate first media drop wide) r s.start o p
        ≡
        false
        → if_listed
        (λ row.
        int_lt (source_frame rate (side_of (job rate first media drop wide) r s.start p.at
        p.counted)
        (pos 0)) row.start || int_le (row.start +ℤ row.count)
        (source_frame rate (side_of (job rate first media drop wide) r s.start p.at p.counted)
        (p.frames -ℤ pos 1))) o ≡ false
    outside None e = refl
    outside (Some row) e =
        let a = sym (none_on (source_at (job rate first media drop wide) r s.start p.at) (pos 0)
        (pos (side_speed rate (side_of (job rate first media drop wide) r s.start p.at p.counted)))
        refl) in
        ap₂ (λ x z. int_lt x row.start || int_le (row.start +ℤ row.count)
        (source_at (job rate first media drop wide) r s.start p.at +ℤ int_div_euclid
        ((p.frames -ℤ pos 1) *ℤ z) (pos 1000000))) a sped ∙ e

-- ---- all events of a list

abbrev pub Known : Rate → MediaRows → Bool → ℕ → Bool → Side → ℤ → Type 0
Known rate media wide day shown side n = Holds rate media wide day shown side n

pub sides_hold : (rate : Rate) (first : ℤ) (media : MediaRows) (drop wide : Bool) (day : ℕ)
    → AreListed media → 999 < day → day_in (mode_in (frame_rate rate) drop) ≤ day
    → SidesHold (Known rate media wide day) (job rate first media drop wide)
sides_hold rate first media drop wide day rows long h = record {
  black = λ n low high. black_holds rate media wide day true n n long low high (λ e. refl);
  black_out = λ n. black_holds rate media wide day false (pos 0) n long (omega (arith, ints))
      (omega (arith, ints)) (λ e. absurd (cc e));
  clip = λ s r p f free low same. clip_holds rate first media drop wide day true s r p rows h f free
      low
      (λ e. same);
  clip_out = λ s r p f free low. clip_holds rate first media drop wide day false s r p rows h f free
      low
      (λ e. absurd (cc e));
}

-- the events of each channel are known, one after another
abbrev pub ChannelsHold : (Bool → Side → ℤ → Type 0) → List Event → Type 0
ChannelsHold Q es = (c : Channel) → (z : ℤ) × EventsHold Q z (filter (is_on c) es)

pub own_channel : (e : Event) → is_on e.channel e ≡ true
own_channel e = by e.channel
  where
    by : (c : Channel) → (rank c == rank c) ≡ true
    by V = refl
    by A = refl
    by A2 = refl

tail_holds : (Q : Bool → Side → ℤ → Type 0) (e : Event) (es : List Event) → ChannelsHold Q (e ∷ es)
    → ChannelsHold Q es
tail_holds Q e es h c = by (is_on c e) refl (h c)
  where
    by : (b : Bool) → is_on c e ≡ b → (z : ℤ) × EventsHold Q z
        (cond b (e ∷ filter (is_on c) es) (filter (is_on c) es)) → (z : ℤ) × EventsHold Q z
        (filter (is_on c) es)
    by true f g = (e.rec_out, g.1.1)
    by false f g = g

head_holds : (Q : Bool → Side → ℤ → Type 0) (e : Event) (es : List Event) → ChannelsHold Q (e ∷ es)
    → (z : ℤ) × EventHolds Q z e × EventsHold Q e.rec_out (filter (is_on e.channel) es)
head_holds Q e es h = by (is_on e.channel e) (own_channel e) (h e.channel)
  where
    by : (b : Bool) → b ≡ true → (z : ℤ) × EventsHold Q z
        (cond b (e ∷ filter (is_on e.channel) es) (filter (is_on e.channel) es))
        → (z : ℤ) × EventHolds Q z e × EventsHold Q e.rec_out (filter (is_on e.channel) es)
    by true f g = (g.0, g.1.0, g.1.1)
    by false f g = absurd (cc f)

pub all_hold : (Q : Bool → Side → ℤ → Type 0) (es : List Event) → ChannelsHold Q es
    → All (λ (e : Event). (z : ℤ) × EventHolds Q z e) es
all_hold Q [] h = λ k d l. absurd (omega (arith, l))
all_hold Q (e ∷ es) h = let q = head_holds Q e es h in
    All-cons (λ (e : Event). (z : ℤ) × EventHolds Q z e) e es (q.0, q.1)
    (all_hold Q es (tail_holds Q e es h))

-- events of the channel stand behind z
behind : (Q : Bool → Side → ℤ → Type 0) (c : Channel) (z : ℤ) (es : List Event)
    → EventsHold Q z (filter (is_on c) es) → All (λ (e : Event). is_on c e ≡ true → z ≤ℤ e.rec_in)
    es
behind Q c z [] h = λ k d l. absurd (omega (arith, l))
behind Q c z (e ∷ es) h = by (is_on c e) refl h (λ y g. behind Q c y es g)
  where
    further : (y : ℤ) → z ≤ℤ y → All (λ (e : Event). is_on c e ≡ true → y ≤ℤ e.rec_in) es
        → All (λ (e : Event). is_on c e ≡ true → z ≤ℤ e.rec_in) es
    further y l a = λ k d m o. let q = a k d m o in omega (arith, ints, q, l)

    by : (b : Bool) → is_on c e ≡ b
        → EventsHold Q z (cond b (e ∷ filter (is_on c) es) (filter (is_on c) es))
        → ((y : ℤ) → EventsHold Q y (filter (is_on c) es)
        → All (λ (e : Event). is_on c e ≡ true → y ≤ℤ e.rec_in) es)
        → All (λ (e : Event). is_on c e ≡ true → z ≤ℤ e.rec_in) (e ∷ es)
    by true f g more =
        let b = g.0.begins in let s = g.0.some in
        All-cons (λ (e : Event). is_on c e ≡ true → z ≤ℤ e.rec_in) e es (λ o. b)
        (further e.rec_out (omega (arith, ints, b, s)) (more e.rec_out g.1))
    by false f g more = All-cons (λ (e : Event). is_on c e ≡ true → z ≤ℤ e.rec_in) e es
        (λ o. absurd (cc (sym f ∙ o))) (more z g)

pub all_apart : (Q : Bool → Side → ℤ → Type 0) (es : List Event) → ChannelsHold Q es
    → AllPairs AreApart es
all_apart Q [] h = λ i j d l m. absurd (omega (arith, m))
all_apart Q (e ∷ es) h =
    let q = head_holds Q e es h in
    let a = behind Q e.channel e.rec_out es q.2 in
    AllPairs-cons AreApart e es (λ k d l same.
    inl (a k d l (on_same e.channel (slice_index_or es k d) same)))
    (all_apart Q es (tail_holds Q e es h))
  where
    on_same : (c : Channel) (x : Event) → c ≡ x.channel → is_on c x ≡ true
    on_same c x f = subst (λ (z : Channel). (rank z == rank x.channel) ≡ true) (sym f)
        (own_channel x)

-- ---- what follows for the list

cross_is : (rate : Rate) (media : MediaRows) (wide : Bool) (day : ℕ) (begin end : ℤ) (c : Cross)
    → CrossHolds (Known rate media wide day) begin end c → IsCross day begin end c
cross_is rate media wide day begin end Cut h = tt
cross_is rate media wide day begin end (Dissolve n from) h = (h.0, h.1.side_is)
cross_is rate media wide day begin end (Wipe code n from) h = (h.0, h.1, h.2.side_is)

-- an event is one that can stand in a well formed list, where its record frames are of the day
pub event_is : (rate : Rate) (media : MediaRows) (wide : Bool) (day : ℕ) (z : ℤ) (e : Event)
    → EventHolds (Known rate media wide day) z e → IsFrame day e.rec_in → IsFrame day e.rec_out
    → IsEvent day e
event_is rate media wide day z e h i o =
    record {
      to = h.to.side_is;
      rec_in = i;
      rec_out = o;
      some = h.some;
      cross =
          cross_is rate media wide day e.rec_in e.rec_out e.cross h.cross;
    }

-- the layout has columns for the reels of the event
pub event_fits : (rate : Rate) (media : MediaRows) (wide : Bool) (day : ℕ) (z : ℤ) (e : Event)
    → EventHolds (Known rate media wide day) z e → FitsEvent (layout_of wide) e
event_fits rate media wide day z e h =
    record { to = h.to.fits; from = by e.cross h.cross }
  where
    by : (c : Cross) → CrossHolds (Known rate media wide day) e.rec_in e.rec_out c
        → IfSome (outgoing c) (λ side. FitsReel (layout_of wide) side.reel)
    by Cut k = tt
    by (Dissolve n from) k = k.1.fits
    by (Wipe code n from) k = k.2.fits

pub event_even : (rate : Rate) (media : MediaRows) (wide : Bool) (day : ℕ) (z : ℤ) (e : Event)
    → EventHolds (Known rate media wide day) z e → IsEvenEvent rate e
event_even rate media wide day z e h = λ own. h.to.even refl own

any_both : (p : Use → Bool) (us : List Use) (u : Use) → list_any p us ≡ false → p u ≡ false
    → list_any p (us ++ (u ∷ [])) ≡ false
any_both p [] u e f = ap (λ b. b || false) f
any_both p (x ∷ us) u e f = by (p x) e (λ g. any_both p us u g f)
  where
    by : (b : Bool) → (b || list_any p us) ≡ false
        → (list_any p us ≡ false → list_any p (us ++ (u ∷ [])) ≡ false)
        → (b || list_any p (us ++ (u ∷ []))) ≡ false
    by true g h = absurd (cc g)
    by false g h = h g

one_use : (p : Use → Bool) (u : Use) → p u ≡ false → list_any p (u ∷ []) ≡ false
one_use p u e = ap (λ b. b || false) e

outgoing_fails : (rate : Rate) (media : MediaRows) (wide : Bool) (day : ℕ) (begin end : ℤ)
    (p : Use → Bool)
    (c : Cross) → ((side : Side) (n : ℤ) → Known rate media wide day false side n
    → p (record { side = side; frames = n }) ≡ false)
    → CrossHolds (Known rate media wide day) begin end c → list_any p (outgoing_use c) ≡ false
outgoing_fails rate media wide day begin end p Cut f h = refl
outgoing_fails rate media wide day begin end p (Dissolve n from) f h =
    one_use p (record { side = from; frames = pos n }) (f from (pos n) h.1)
outgoing_fails rate media wide day begin end p (Wipe code n from) f h =
    one_use p (record { side = from; frames = pos n }) (f from (pos n) h.2)

-- the media list carries the event
pub event_carried : (rate : Rate) (media : MediaRows) (wide : Bool) (day : ℕ) (z : ℤ) (e : Event)
    → EventHolds (Known rate media wide day) z e → event_fault rate media e ≡ None
event_carried rate media wide day z e h =
    let to : Use = record { side = e.to; frames = e.rec_out -ℤ e.rec_in } in
    let a = any_both (is_unlisted media) (outgoing_use e.cross) to
    (outgoing_fails rate media wide day e.rec_in e.rec_out (is_unlisted media) e.cross
    (λ s n k. k.listed) h.cross) h.to.listed in
    let b = any_both (has_other_rate rate media) (outgoing_use e.cross) to
    (outgoing_fails rate media wide day e.rec_in e.rec_out (has_other_rate rate media) e.cross
    (λ s n k. k.rated) h.cross) h.to.rated in
    let d = any_both (is_outside rate media) (outgoing_use e.cross) to
    (outgoing_fails rate media wide day e.rec_in e.rec_out (is_outside rate media) e.cross
    (λ s n k. k.inside) h.cross) h.to.inside in
    λ i. cond (a i) (Some (F.NoReel e.line)) (cond (b i) (Some (F.Rate e.line))
    (cond (d i) (Some (F.Outside e.line)) None))

pub all_carried_here : (rate : Rate) (media : MediaRows) (wide : Bool) (day : ℕ) (es : List Event)
    → All (λ (e : Event). (z : ℤ) × EventHolds (Known rate media wide day) z e) es
    → first_fault rate media es ≡ None
all_carried_here rate media wide day [] h = refl
all_carried_here rate media wide day (e ∷ es) h =
    let q = All-head (λ (e : Event). (z : ℤ) × EventHolds (Known rate media wide day) z e) e es h in
    ap (λ o. elim o [ None ↦ first_fault rate media es | Some fault ↦ Some fault ])
    (event_carried rate media wide day q.0 e q.1)
    ∙ all_carried_here rate media wide day es
    (All-tail (λ (e : Event). (z : ℤ) × EventHolds (Known rate media wide day) z e) e es h)
