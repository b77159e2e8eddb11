-- What the sides of a clip show that is carried.
use Rattle.std.proofs.Common.{◌≡◌, refl, sym, ap, ap₂, subst, ◌∙◌, ℕ, suc, ◌*◌, ℤ, pos, ◌+ℤ◌, ◌-ℤ◌, ◌*ℤ◌, ◌≤ℤ◌, ◌&&◌, Bool, true, false, not, cond, List, [], ◌∷◌, Option, Some, None, arith}
use Rattle.std.proofs.lemmas.List.Elements.{All-head, All-tail}
use Rattle.std.specs.Prelude.{All, unwrap_or, option_map, option_and_then, find, unsigned_abs}
use Rattle.std.specs.Int.{int_div_euclid, int_rem_euclid}
use Rattle.std.specs.Str.{bytes_eq}
use Rattle.std.specs.List.{range_with_len}
use Rattle.std.proofs.lemmas.Int.{ints}
use Rattle.std.proofs.lemmas.Slice.Eq.{bytes_eq-Decides}
use Rattle.tick_time.specs.declared.rates.Rate.{Rate}
use Rattle.otio_model.specs.declared.timelines.Timeline.{Timeline}
use Rattle.coord.specs.Programs.{record_rate, start_frame}
use Rattle.tick_time.specs.Rates.{unit}
use Rattle.tick_time.proofs.Wholes.{rem_zero, units_of}
use Rattle.otio_model.specs.declared.media.Media.{Media as Reference}
use Rattle.otio_model.specs.declared.media.Media.TheVariants as M
use Rattle.otio_model.specs.declared.compositions.Clip.{Clip as ClipRow}
use Rattle.otio_model.specs.declared.compositions.ItemOf.TheVariants.{Clip}
use Rattle.otio_model.specs.declared.compositions.Listed.{Listed}
use Rattle.otio_model.specs.Lengths.{active_media, trimmed_start}
use Rattle.edl_list.specs.Speeds.{half_even, side_speed, speed_of, count_of}
use Rattle.media_rows.specs.declared.row.MediaRow.{MediaRow}
use Rattle.media_rows.specs.Rows.{AreOther, AreRows, by_reel, by_url, MediaRows}
use Rattle.smpte_tc.specs.declared.modes.Mode.{Mode}
use Rattle.smpte_tc.specs.Modes.{plain_mode}
use Rattle.coord.specs.Looks.{Key, Url, FrameRate}
use Rattle.coord.specs.Keys.{key_of, media_key, media_rate, frame_rate, reel_or_name, reel_of}
use Rattle.coord.specs.Speeds.{media_at}
use Rattle.coord.specs.Sights.{sight}
use Rattle.coord.specs.Images.{Single, image}
use Rattle.edl_frames.specs.Shown.{side_shows, reel_shows, reel_key, url_or_reel}
use Rattle.edl_frames.specs.Jobs.{Job, tenths_of, count_in, mode_in, job_of}
use Rattle.edl_frames.specs.Seats.{is_there}
use Rattle.edl_frames.specs.Sides.{clip_reel, clip_row, if_reel, reel_in, url_in, speed_in, source_at, speed_in_tenths, side_of}
use Rattle.text_lines.specs.ReelNames.{is_reel_name}
use Rattle.edl_list.specs.declared.layout.Layout.{Layout}
use Rattle.edl_list.specs.Layouts.{layout_of}
use Rattle.std.specs.Prelude.{nat_le, length}
use Rattle.edl_frames.specs.ChildReasons.{is_between, has_rate, is_rate}
use Rattle.edl_law.proofs.ListedRates.{passes}
use Rattle.edl_law.proofs.FrameQuotients.{phase_whole, phase_own, sum-times}
use Rattle.edl_law.specs.Premises.{KnowsKeys}
use Rattle.edl_frames.specs.Channels.{own_key, reel_first}
use Rattle.edl_law.proofs.FrameQuotients.{same_is}
use Rattle.edl_law.proofs.ItemLooks.{Watch, exactly, ticks, rate_some, ticks_some, clip_watched}
use Rattle.std.specs.Ordering.{int_eq}
use Rattle.tick_time.proofs.BoolLemmas.{both}

-- what a timeline of this record rate is written for
abbrev pub job : Rate → ℤ → MediaRows → (drop wide : Bool) → Job
job rate first media drop wide = record {
  rate = frame_rate rate;
  first = first;
  media = media;
  drop = drop;
  layout = layout_of wide;
}

-- each such timeline is written for it
pub same_job : (t : Timeline) (rate : Rate) (media : MediaRows) (drop wide : Bool)
    → frame_rate rate ≡ record_rate t
    → job_of t media drop wide ≡ job rate (start_frame t) media drop wide
same_job t rate media drop wide e = λ k. record {
  rate = sym e k;
  first = start_frame t;
  media = media;
  drop = drop;
  layout = layout_of wide;
}

-- ---- speeds

find_is : (p : ℕ → Bool) (xs : List ℕ) (v : ℕ) → find p xs ≡ Some v → p v ≡ true
find_is p [] v e = absurd (cc e)
find_is p (x ∷ xs) v e = by (p x) refl e (find_is p xs v)
  where
    by : (b : Bool) → p x ≡ b → cond b (Some x) (find p xs) ≡ Some v
        → (find p xs ≡ Some v → p v ≡ true) → p v ≡ true
    by true f g h = let same : x ≡ v = cc g in ap p (sym same) ∙ f
    by false f g h = h g

tenths_give : (count : ℕ) (speed : ℤ) (v : ℕ) → tenths_of count speed ≡ Some v
    → pos (half_even (v * 100000) count) ≡ speed
unfolding tenths_of
tenths_give count speed v e = same_is (pos (half_even (v * 100000) count)) speed
    (find_is (λ v. int_eq (pos (half_even (v * 100000) count)) speed) (range_with_len 0 10000) v e)

pub some_there : {X : Type 0} (o : Option X) → is_there o ≡ true → (x : X) × (o ≡ Some x)
some_there None e = absurd (cc e)
some_there (Some x) e = (x, refl)

count_is : (rate : Rate) → count_in (mode_in (frame_rate rate) false) ≡ count_of rate
count_is rate = by (plain_mode rate.num rate.den)
  where
    by : (o : Option Mode) → count_in o ≡ unwrap_or (option_map (λ (mode : Mode). mode.nominal) o) 0
    by None = refl
    by (Some m) = refl

-- the speed of a clip's side is the clip's
pub speed_kept : (rate : Rate) (first : ℤ) (media : MediaRows) (drop wide : Bool) (speed : ℤ)
    → is_there (tenths_of (count_in (mode_in (frame_rate rate) false)) speed) ≡ true
    → pos (speed_of (count_of rate) (speed_in_tenths (job rate first media drop wide) speed))
    ≡ speed
speed_kept rate first media drop wide speed h = by (int_eq speed (pos 1000000)) refl
  where
    by : (b : Bool) → int_eq speed (pos 1000000) ≡ b
        → pos
        (speed_of (count_of rate)
        (cond b None (tenths_of (count_in (mode_in (frame_rate rate) false)) speed))) ≡ speed
    by true e = sym (same_is speed (pos 1000000) e)
    by false e = let t = some_there (tenths_of (count_in (mode_in (frame_rate rate) false)) speed) h
        in
        ap (λ o. pos (speed_of (count_of rate) o)) t.1
        ∙ ap (λ n. pos (half_even (t.0 * 100000) n)) (sym (count_is rate))
        ∙ tenths_give (count_in (mode_in (frame_rate rate) false)) speed t.0 t.1

-- ---- positions

-- a position that isn't between two frames is a whole number of them
on_frame : (z d : ℤ) → pos 1 ≤ℤ d → not (int_eq (int_rem_euclid z d) (pos 0)) ≡ false
    → (q : ℤ) × (z ≡ q *ℤ pos (unsigned_abs d))
on_frame z d h e = units_of z (unsigned_abs d) (omega (arith, ints, h))
    (rem_zero z d h (same_is (int_rem_euclid z d) (pos 0)
    (passes (int_eq (int_rem_euclid z d) (pos 0)) e)))

-- so many frames from where a side begins, at a whole frame or at its own speed
pub counts_on : (rate : Rate) (first : ℤ) (media : MediaRows) (drop wide : Bool) (c : ClipRow)
    (start u : ℤ) (b k : ℤ) (s : ℕ) → pos s ≡ speed_in c → u ≡ start +ℤ (b *ℤ pos (ticks rate))
    → (not (int_eq (speed_in c) (pos 1000000)) && is_between (job rate first media drop wide) c
    start
    (record { at = u; frames = pos 0; counted = pos 0 })) ≡ false
    → source_at (job rate first media drop wide) c start (u +ℤ (k *ℤ pos (ticks rate))) ≡ source_at
    (job rate first media drop wide) c start u +ℤ int_div_euclid (k *ℤ pos s) (pos 1000000)
counts_on rate first media drop wide c start u b k s speed at whole =
    let from = trimmed_start {C = Listed} (Clip c) in
    let f = ticks rate in
    let e : u -ℤ start ≡ b *ℤ pos f = omega (arith, ints, at) in
    let g : (u +ℤ (k *ℤ pos f)) -ℤ start ≡ (b +ℤ k) *ℤ pos f =
    (let t = sum-times b k f in omega (arith, ints, at, t)) in
    ap₂ (λ z n. int_div_euclid (media_at from n z) (pos f)) g (sym speed)
    ∙ by (int_eq (speed_in c) (pos 1000000)) refl whole
    ∙ ap (λ m. m +ℤ int_div_euclid (k *ℤ pos s) (pos 1000000))
    (sym (ap₂ (λ z n. int_div_euclid (media_at from n z) (pos f)) e (sym speed)))
  where
    by : (t : Bool) → int_eq (speed_in c) (pos 1000000) ≡ t
        → (not t && is_between (job rate first media drop wide) c start
        (record { at = u; frames = pos 0; counted = pos 0 })) ≡ false
        → int_div_euclid (media_at (trimmed_start {C = Listed} (Clip c)) (pos s)
        ((b +ℤ k) *ℤ pos (ticks rate))) (pos (ticks rate))
        ≡ int_div_euclid (media_at (trimmed_start {C = Listed} (Clip c)) (pos s)
        (b *ℤ pos (ticks rate))) (pos (ticks rate)) +ℤ int_div_euclid (k *ℤ pos s) (pos 1000000)
    by true own w = let i : pos s ≡ pos 1000000 = speed ∙ same_is (speed_in c) (pos 1000000) own in
        ap
        (λ n. int_div_euclid (media_at (trimmed_start {C = Listed} (Clip c)) n
        ((b +ℤ k) *ℤ pos (ticks rate))) (pos (ticks rate))) i
        ∙ phase_own (trimmed_start {C = Listed} (Clip c)) b k (unit rate.num rate.den)
        (rate_some rate)
        ∙ sym
        (ap
        (λ n. int_div_euclid (media_at (trimmed_start {C = Listed} (Clip c)) n
        (b *ℤ pos (ticks rate))) (pos (ticks rate)) +ℤ int_div_euclid (k *ℤ n) (pos 1000000)) i)
    by false own w =
        let e : u -ℤ start ≡ b *ℤ pos (ticks rate) = omega (arith, ints, at) in
        let p = ticks_some rate in
        let z = on_frame ((trimmed_start {C = Listed} (Clip c) *ℤ pos 1000000) +ℤ
        ((u -ℤ start) *ℤ speed_in c)) (pos (ticks rate) *ℤ pos 1000000) (omega (arith, ints, p))
        w in
        let q : (trimmed_start {C = Listed} (Clip c) *ℤ pos 1000000) +ℤ
        ((b *ℤ pos (ticks rate)) *ℤ pos s) ≡ z.0 *ℤ pos (ticks rate * 1000000) =
        (ap₂ (λ v n. (trimmed_start {C = Listed} (Clip c) *ℤ pos 1000000) +ℤ (v *ℤ n)) (sym e) speed
        ∙ z.1) in
        phase_whole (trimmed_start {C = Listed} (Clip c)) b k (unit rate.num rate.den) s z.0
        (rate_some rate) q

-- ---- keys

found_all : (P : MediaRow → Type 0) (url : List ℕ) (rows : List MediaRow) (row : MediaRow)
    → All P rows → by_url url rows ≡ Some row → P row
found_all P url [] row h e = absurd (cc e)
found_all P url (x ∷ rows) row h e = here (bytes_eq url x.url) e
    (found_all P url rows row (All-tail P x rows h))
  where
    here : (b : Bool) → cond b (Some x) (by_url url rows) ≡ Some row
        → (by_url url rows ≡ Some row → P row) → P row
    here true g k = let same : x ≡ row = cc g in subst P same (All-head P x rows h)
    here false g k = k g

pub by_url_is : (url : List ℕ) (rows : List MediaRow) (row : MediaRow) → AreRows rows
    → by_url url rows ≡ Some row → (row.url ≡ url) × (by_reel row.reel rows ≡ Some row)
by_url_is url [] row d e = absurd (cc e)
by_url_is url (x ∷ rows) row d e = here (bytes_eq url x.url) refl e
    (by_url_is url rows row (λ i j z l m. d (suc i) (suc j) z (omega (arith, l))
    (omega (arith, m))))
  where
    other : (p : Bool) → bytes_eq row.reel x.reel ≡ p → by_url url rows ≡ Some row
        → by_reel row.reel rows ≡ Some row → cond p (Some x) (by_reel row.reel rows) ≡ Some row
    other true f l g =
        let apart = found_all (AreOther x) url rows row
        (λ k z m. d 0 (suc k) z (omega arith) (omega (arith, m))) l in
        absurd (apart.0 (sym ((bytes_eq-Decides row.reel x.reel).0 f)))
    other false f l g = g

    here : (b : Bool) → bytes_eq url x.url ≡ b → cond b (Some x) (by_url url rows) ≡ Some row
        → (by_url url rows ≡ Some row → (row.url ≡ url) × (by_reel row.reel rows ≡ Some row))
        → (row.url ≡ url) × (by_reel row.reel (x ∷ rows) ≡ Some row)
    here true f g h =
        let same : x ≡ row = cc g in (
          ap (λ (r : MediaRow). r.url) (sym same) ∙ sym ((bytes_eq-Decides url x.url).0 f),
          ap (λ b. cond b (Some x) (by_reel row.reel rows))
              ((bytes_eq-Decides row.reel x.reel).1 (ap (λ (r : MediaRow). r.reel) (sym same)))
              ∙ ap (λ r. Some r) same,
        )
    here false f g h = let k = h g in (k.0, other (bytes_eq row.reel x.reel) refl g k.1)

if_reel_is : (layout : Layout) (o : Option (List ℕ)) (reel : List ℕ)
    → if_reel layout o ≡ Some reel → o ≡ Some reel
if_reel_is layout None reel e = absurd (cc e)
if_reel_is layout (Some name) reel e =
    by (is_reel_name name && nat_le (length name) layout.reel_width) e
  where
    by : (b : Bool) → cond b (Some name) None ≡ Some reel → Some name ≡ Some reel
    by true f = f
    by false f = absurd (cc f)

url_is : (o : Option Reference) (url : List ℕ) (other : Key) → url_in o ≡ Some url
    → media_key o other ≡ Url url
url_is None url other e = absurd (cc e)
url_is (Some (M.External m)) url other e = let same : m.target_url ≡ url = cc e in ap Url same
url_is (Some (M.Missing m)) url other e = absurd (cc e)
url_is (Some (M.Generator m)) url other e = absurd (cc e)
url_is (Some (M.Sequence m)) url other e = absurd (cc e)
url_is (Some (M.Kept k)) url other e = absurd (cc e)

-- with a media list a clip's key is the url that is listed of its reel
pub knows_listed : (rows : List MediaRow) → AreRows rows → KnowsKeys own_key (Some rows)
knows_listed rows d layout c reel e = by_row (clip_row (Some rows) c) refl
    (if_reel_is layout (reel_in (clip_row (Some rows) c)) reel e)
  where
    by_url_in : (o : Option (List ℕ)) (row : MediaRow) → url_in (active_media c) ≡ o
        → option_and_then (λ url. by_url url rows) o ≡ Some row → row.reel ≡ reel
        → key_of c ≡ reel_key (Some rows) reel
    by_url_in None row g f k = absurd (cc f)
    by_url_in (Some url) row g f k =
        let u = by_url_is url rows row d f in
        url_is (active_media c) url (reel_or_name (reel_of c) c.name) g
        ∙ ap Url (sym u.0)
        ∙ sym (ap (λ o. url_or_reel o reel) (ap (λ r. by_reel r rows) (sym k) ∙ u.1))

    by_row : (o : Option MediaRow) → clip_row (Some rows) c ≡ o → reel_in o ≡ Some reel
        → key_of c ≡ reel_key (Some rows) reel
    by_row None g f = absurd (cc f)
    by_row (Some row) g f = by_url_in (url_in (active_media c)) row refl g (cc f)

-- ---- what a side shows

-- in each frame from where a side begins, the clip shows what the side does
pub side_gives : (rate : Rate) (first : ℤ) (media : MediaRows) (drop wide : Bool) (c : ClipRow)
    (kind : Watch) (start u count : ℤ) (b k : ℤ) → KnowsKeys kind.key media → c.enabled ≡ true
    → has_rate (job rate first media drop wide) (media_rate c) ≡ true
    → is_there (tenths_of (count_in (mode_in (frame_rate rate) false)) (speed_in c)) ≡ true
    → is_there (clip_reel (layout_of wide) media c) ≡ true
    → u ≡ start +ℤ (b *ℤ pos (ticks rate))
    → (not (int_eq (speed_in c) (pos 1000000)) && is_between (job rate first media drop wide) c
    start
    (record { at = u; frames = pos 0; counted = pos 0 })) ≡ false
    → image ((sight (Clip c)).shows (exactly kind) ((b +ℤ k) *ℤ pos (ticks rate))) ≡ side_shows rate
    media (side_of (job rate first media drop wide) c start u count) k
side_gives rate first media drop wide c kind start u count b k keys enabled rated tenths named at
    whole =
    let j = job rate first media drop wide in
    let r = some_there (clip_reel (layout_of wide) media c) named in
    let s = some_there (media_rate c) (rate_there (media_rate c) rated) in
    let speed = speed_kept rate first media drop wide (speed_in c) tenths in
    let same : s.0 ≡ frame_rate rate = rate_same s.0 (subst (λ o. has_rate j o ≡ true) s.1 rated) in
    clip_watched c kind (reel_key media r.0) (frame_rate rate) (trimmed_start {C = Listed} (Clip c))
    (speed_in c) ((b +ℤ k) *ℤ pos (ticks rate)) enabled (keys (layout_of wide) c r.0 r.1)
    (s.1 ∙ ap (λ z. Some z) same) refl refl
    ∙ ap (Single (reel_key media r.0))
    (ap (λ z. int_div_euclid (media_at (trimmed_start {C = Listed} (Clip c)) (speed_in c) z)
    (pos (ticks rate))) (let t = sum-times b k (ticks rate) in omega (arith, ints, at, t))
    ∙ counts_on rate first media drop wide c start u b k
    (side_speed rate (side_of j c start u count))
    speed at whole)
    ∙ sym
    (ap (λ o. reel_shows rate media (side_of j c start u count)
    (Rattle.edl_frames.specs.Sides.reel_named o) k) r.1)
  where
    rate_there : (o : Option FrameRate) → has_rate (job rate first media drop wide) o ≡ true
        → is_there o ≡ true
    rate_there None e = absurd (cc e)
    rate_there (Some z) e = refl

    rate_same : (z : FrameRate) → is_rate z (frame_rate rate) ≡ true → z ≡ frame_rate rate
    rate_same z e = let p = both (int_eq z.num rate.num) (int_eq z.den rate.den) e in
        let a = same_is z.num rate.num p.0 in let b = same_is z.den rate.den p.1 in λ i.
        record { num = a i; den = b i }

-- without a media list a clip is known by its reel
pub knows_reels : KnowsKeys reel_first None
knows_reels layout c reel e =
    ap (λ o. reel_first o (key_of c)) (if_reel_is layout (reel_of c) reel e)
