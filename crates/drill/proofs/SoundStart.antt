-- The timeline that a drill begins with can be edited.
use Rattle.std.proofs.Common.{◌≡◌, refl, sym, ap, subst, ◌∙◌, ℕ, zero, suc, ◌+◌, ◌*◌, ◌^◌, ◌/◌, ◌%◌, ◌<◌, ◌≤◌, ℤ, pos, Bool, true, false, List, [], ◌∷◌, Option, Some, None, arith, length, map, slice_get}
use Rattle.std.specs.Prelude.{cond, bytes_eq, ◌*ℤ◌, option_map}
use Rattle.std.proofs.Math.IntN.{pos-*ℤ-pos}
use Rattle.std.proofs.Math.Nat.{mod-lt}
use Rattle.tick_time.specs.Rates.{frame}
use Rattle.tick_time.specs.declared.rates.Rate.{Rate}
use Rattle.otio_model.specs.declared.compositions.ItemOf.{ItemOf}
use Rattle.otio_model.specs.declared.compositions.Listed.{Listed}
use Rattle.otio_model.specs.Lengths.{added, from_zero, length_of, sum_of, Range}
use Rattle.otio_model.specs.Trees.{listed}
use Rattle.otio_model.proofs.Views.{items-listed}
use Rattle.otio_model.proofs.Adding.{lengths-listed}
use Rattle.media_rows.specs.declared.row.MediaRow.{MediaRow}
use Rattle.media_rows.specs.Rows.{by_reel}
use Rattle.coord.specs.Soundness.{AreFaultless, IsFaultlessItem, available_ticks, fault_of, is_long, ranged_fault}
use Rattle.coord.specs.declared.faults.ItemFault.TheVariants.{Long, NoLength}
use Rattle.coord.proofs.JudgingLemmas.{sound_all, sound_alone, sound_with}
use Rattle.tick_time.specs.FixedRates.{rate_24}
use Rattle.edit_script.specs.Items.{IsItem}
use Rattle.drill.specs.Draws.{after, draw, next}
use Rattle.drill.specs.Acts.{clip_at, clips, name_at, reel}
use Rattle.drill.specs.Media.{row, rows}
use Rattle.drill.specs.Starting.{AreItems, video_track}
use Rattle.drill.proofs.PlainClips.{IsPlain, clip_plain, is_short}

-- ---- the clips

-- a listed row is at 24 frames a second, and has a hundred thousand
abbrev IsListed : MediaRow → Type 0
IsListed r = (r.rate ≡ rate_24) × (r.count ≡ pos 100000)

listed_as : (k : ℕ) (r : MediaRow) → row k ≡ r → IsListed r
listed_as k r e = (ap (λ (q : MediaRow). q.rate) (sym e), ap (λ (q : MediaRow). q.count) (sym e))

some_row : (k : ℕ) (r : MediaRow) → Some (row k) ≡ Some r → row k ≡ r
some_row k r e = cc e

pick : (a b c d : Bool) (r : MediaRow)
    → cond a (Some (row 0)) (cond b (Some (row 1)) (cond c (Some (row 2))
    (cond d (Some (row 3)) None))) ≡ Some r → IsListed r
pick true b c d r e = listed_as 0 r (some_row 0 r e)
pick false true c d r e = listed_as 1 r (some_row 1 r e)
pick false false true d r e = listed_as 2 r (some_row 2 r e)
pick false false false true r e = listed_as 3 r (some_row 3 r e)
pick false false false false r e = absurd (let g : None ≡ Some r = e in cc g)

is_listed : (reel : List ℕ) (r : MediaRow) → by_reel reel rows ≡ Some r → IsListed r
is_listed reel r e =
    pick (bytes_eq reel (row 0).reel) (bytes_eq reel (row 1).reel) (bytes_eq reel (row 2).reel)
    (bytes_eq reel (row 3).reel) r e

-- the ticks of a frame
abbrev pub ticks : ℕ
ticks = frame (pos 24) (pos 1)

pub in_ticks_is : (r : Rate) (z : ℤ) (k : ℕ) → r ≡ rate_24
    → z ≡ pos k *ℤ pos (frame r.num r.den) → z ≡ pos (k * ticks)
in_ticks_is r z k e h =
    h ∙ ap (λ (q : Rate). pos k *ℤ pos (frame q.num q.den)) e ∙ pos-*ℤ-pos k ticks

-- at most so many ticks are the length of a clip
abbrev pub most : ℕ
most = 72 * ticks

less : (n x : ℕ) → zero < n → draw n x < n
less n x h = mod-lt (next x / 2 ^ 33) h

item_plain : (i x : ℕ) (c : ItemOf Listed) → IsItem rate_24 (Some rows) (clip_at i x) c
    → IsPlain most c
item_plain i x c (r, e, is) =
    let known = is_listed (reel (i % 4)) r e in
    let first : draw 1000 x < 1000 = less 1000 x (omega arith) in
    let long : draw 48 (next x) < 48 = less 48 (next x) (omega arith) in
    let a = 1000 + draw 1000 x in
    let n = 24 + draw 48 (next x) in
    let start = in_ticks_is r.rate is.shown.start.ticks a known.0 is.shows.from.ticks in
    let len = in_ticks_is rate_24 is.shown.len.ticks n refl is.shows.long.ticks in
    let there = in_ticks_is r.rate is.available.len.ticks 100000 known.0
    (is.listed.long.ticks ∙ ap (λ z. z *ℤ pos (frame r.rate.num r.rate.den)) known.1) in
    let plain = clip_plain (name_at i) r.url is.shown is.available (a * ticks) (n * ticks)
    (100000 * ticks) start len there (omega (arith, first)) (omega (arith, long)) (omega arith) in
    subst (IsPlain most) (sym is.is) (record {
      alone = plain.alone;
      fault = plain.fault;
      calm = plain.calm;
      other = plain.other;
      length = plain.length;
      long = plain.long;
      short = omega (arith, long, plain.short);
    })

abbrev pub ArePlainClips : List (ItemOf Listed) → Type 0
ArePlainClips [] = Unit {0}
ArePlainClips (x ∷ xs) = IsPlain most x × ArePlainClips xs

pub items_plain : (i n x : ℕ) (xs : List (ItemOf Listed)) → AreItems (clips i n x) xs
    → ArePlainClips xs × (length xs ≡ n)
items_plain i zero x xs h = subst (λ l. ArePlainClips l × (length l ≡ zero)) (sym h) (tt, refl)
items_plain i (suc n) x xs (c, others, e, is, rest) =
    let more = items_plain (i + 1) n (after 2 x) others rest in
    subst (λ l. ArePlainClips l × (length l ≡ suc n)) (sym e)
    ((item_plain i x c is, more.0), ap suc more.1)

-- ---- the track

record HasSum (xs : List (ItemOf Listed)) : Type 0 where
  pub total : ℕ
  pub sum : sum_of (map length_of xs) ≡ Some total
  pub added : added (map length_of xs) ≡ total
  pub short : total ≤ length xs * most

sum_step : (o : Option ℕ) (ns : List (Option ℕ)) (n m : ℕ) → o ≡ Some n → sum_of ns ≡ Some m
    → added ns ≡ m → (sum_of (o ∷ ns) ≡ Some (n + m)) × (added (o ∷ ns) ≡ n + m)
sum_step o ns n m e f g = rw (e, f, g) (refl, refl)

has_sum : (xs : List (ItemOf Listed)) → ArePlainClips xs → HasSum xs
has_sum [] h = record { total = 0; sum = refl; added = refl; short = omega arith }
has_sum (x ∷ xs) h =
    let more = has_sum xs h.1 in
    let both = sum_step (length_of x) (map length_of xs) h.0.length more.total h.0.long more.sum
    more.added in
    record {
      total = h.0.length + more.total;
      sum = both.0;
      added = both.1;
      short = omega (arith, h.0.short, more.short);
    }

track_fault : (xs : List (ItemOf Listed)) → ArePlainClips xs → length xs ≤ 1000
    → fault_of (video_track xs) ≡ None
track_fault xs h few =
    let s = has_sum xs h in
    let x = video_track xs in
    let long : length_of x ≡ Some s.total =
    ap (λ ns. option_map (λ (r : Range). r.len) (option_map from_zero (sum_of ns)))
    (lengths-listed xs)
    ∙ ap (λ o. option_map (λ (r : Range). r.len) (option_map from_zero o)) s.sum in
    let there : available_ticks x ≡ s.total = ap added (lengths-listed xs) ∙ s.added in
    let small : s.total ≤ 10 ^ 23 = omega (arith, few, s.short) in
    let near : is_long x s.total ≡ false =
    is_short x s.total s.total 0 small small (omega arith) there refl in
    ap (λ (o : Option ℕ). elim o [ None ↦ Some NoLength | Some n ↦ ranged_fault x n ]) long
    ∙ ap (λ b. cond b (Some Long) None) near

-- ---- no faults

pub plain_at : (xs : List (ItemOf Listed)) (i : ℕ) (y : ItemOf Listed) → ArePlainClips xs
    → slice_get xs i ≡ Some y → IsPlain most y
plain_at [] i y h e = absurd (cc e)
plain_at (x ∷ xs) zero y h e = let same : x ≡ y = cc e in subst (IsPlain most) same h.0
plain_at (x ∷ xs) (suc i) y h e = plain_at xs i y h.1 e

children_sound : (xs : List (ItemOf Listed)) → ArePlainClips xs → AreFaultless (listed xs)
children_sound xs h =
    sound_all (listed xs) (length xs) (subst (λ l. length l ≤ length xs) (sym (items-listed xs))
    (omega arith)) (λ i y below got.
    let there : slice_get xs i ≡ Some y = subst (λ l. slice_get l i ≡ Some y) (items-listed xs)
    got in
    let p = plain_at xs i y h there in
    sound_alone y p.alone p.fault)

track_sound : (xs : List (ItemOf Listed)) → ArePlainClips xs → length xs ≤ 1000
    → IsFaultlessItem (video_track xs)
track_sound xs h few =
    sound_with (video_track xs) (listed xs) refl (track_fault xs h few) (children_sound xs h)

only : (x y : ItemOf Listed) (i : ℕ) → slice_get (x ∷ []) i ≡ Some y → x ≡ y
only x y zero e = cc e
only x y (suc i) e = absurd (cc e)

pub root_sound : (xs : List (ItemOf Listed)) → ArePlainClips xs → length xs ≤ 1000
    → AreFaultless (listed (video_track xs ∷ []))
root_sound xs h few =
    let t = video_track xs in
    sound_all (listed (t ∷ [])) 1 (subst (λ l. length l ≤ 1) (sym (items-listed (t ∷ [])))
    (omega arith)) (λ i y below got.
    subst IsFaultlessItem (only t y i (subst (λ l. slice_get l i ≡ Some y) (items-listed (t ∷ []))
    got)) (track_sound xs h few))

pub started_sound : (x : ℕ) (xs : List (ItemOf Listed)) → AreItems (clips 0 40 x) xs
    → AreFaultless (listed (video_track xs ∷ []))
started_sound x xs h =
    let p = items_plain 0 40 x xs h in
    root_sound xs p.0 (omega (arith, p.1))
