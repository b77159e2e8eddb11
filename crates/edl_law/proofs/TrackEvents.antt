-- A track that is carried shows what its events show.
use Rattle.std.proofs.Common.{◌≡◌, refl, sym, ap, ap₂, ◌∙◌, ℕ, ◌+◌, ℤ, pos, ◌+ℤ◌, ◌-ℤ◌, ◌*ℤ◌, ◌≤ℤ◌, Bool, true, cond, List, [], ◌∷◌, map, Option, Some, None, arith}
use Rattle.std.specs.Prelude.{option_map}
use Rattle.std.specs.Option.{option_or}
use Rattle.std.proofs.lemmas.Int.{ints, by_lt_z}
use Rattle.tick_time.specs.declared.rates.Rate.{Rate}
use Rattle.otio_model.specs.declared.compositions.TrackOf.{TrackOf}
use Rattle.otio_model.specs.declared.compositions.ItemOf.{ItemOf}
use Rattle.otio_model.specs.declared.compositions.ItemOf.TheVariants.{Track}
use Rattle.otio_model.specs.declared.compositions.Listed.{Listed}
use Rattle.otio_model.specs.Trees.{items_of}
use Rattle.otio_model.specs.Lengths.{Range, range_of, from_zero, sum_of, both as added_both, length_of, or_zero}
use Rattle.edl_list.specs.declared.list.Channel.{Channel}
use Rattle.coord.specs.Looks.{Blank, total, blank, list_shows, track_shows}
use Rattle.coord.specs.Sights.{View, Sight, sight, seen, looks, lengths_seen}
use Rattle.edl_frames.specs.Channels.{keyed_child_shows, KeySeen}
use Rattle.coord.proofs.SightLemmas.{length_seen, sights-items, looks-items}
use Rattle.coord.specs.Images.{Image, Empty, image}
use Rattle.edl_frames.specs.Shown.{events_show}
use Rattle.media_rows.specs.Rows.{MediaRows}
use Rattle.edl_frames.specs.Seats.{head, length_in}
use Rattle.edl_frames.specs.ChildEvents.{track_events}
use Rattle.edl_law.proofs.FrameQuotients.{sum-times}
use Rattle.coord.proofs.LookSteps.{is_within, missed_before, missed_behind}
use Rattle.edl_law.proofs.LookSteps.{seen_at, times_le, times_lt}
use Rattle.edl_law.specs.Premises.{KnowsKeys}
use Rattle.edl_law.proofs.CalmItems.{AreCalm}
use Rattle.edl_law.proofs.ItemLooks.{Watch, exactly, ticks, ticks_some}
use Rattle.edl_law.proofs.Stretches.{Bit, piece, cross, IsBit, AreBits, stretches_show, stretches, crossed, nothing, front_of, Fits, front_late, front_early, stretches_are_shown}
use Rattle.edl_law.proofs.SideLooks.{job}
use Rattle.edl_law.proofs.ReasonFacts.{gives, IsBitOf, AreBitsOf, AreFree}
use Rattle.edl_law.proofs.FittedItems.{fitted}
use Rattle.edl_law.proofs.FrameMatches.{events_match, stretches_before, head_stands}
use Rattle.edl_law.proofs.TimelineShows.{inside_track}
use Rattle.otio_model.specs.Overlaps.{within}

look_long : (v : View) (x : ItemOf Listed) → (seen v (sight x)).length ≡ length_in x
look_long v x = ap (λ o. pos (or_zero o)) (length_seen x)

-- the looks of the children are the bits
looks_bit : (rate : Rate) (kind : Watch) (x : ItemOf Listed) (b : Bit) → IsBitOf rate kind x b
    → IsBit (ticks rate) (seen (exactly kind) (sight x)) b
looks_bit rate kind x (piece n g) i =
    record {
      item = i.0;
      long = look_long (exactly kind) x ∙ i.1;
      shows = λ k.
          ap (λ h. h k) (sym i.3);
    }
looks_bit rate kind x (cross type b a) i =
    record {
      overlap = i.0;
      there = i.1;
      kind = i.3;
      begins = i.4;
      ends = i.5;
      point =
          look_long (exactly kind) x ∙ i.2;
    }

looks_bits : (rate : Rate) (kind : Watch) (l : List (ItemOf Listed)) (bits : List Bit)
    → AreBitsOf rate kind l bits → AreBits (ticks rate) (looks (exactly kind) l) bits
looks_bits rate kind [] [] a = tt
looks_bits rate kind [] (b ∷ bits) a = absurd a
looks_bits rate kind (x ∷ l) [] a = absurd a
looks_bits rate kind (x ∷ l) (b ∷ bits) a =
    (looks_bit rate kind x b a.0, looks_bits rate kind l bits a.1)

-- ---- how long a track is

bits_end : ℤ → List Bit → ℤ
bits_end at [] = at
bits_end at ((piece n g) ∷ l) = bits_end (at +ℤ n) l
bits_end at ((cross type b a) ∷ l) = bits_end at l

total_bits : (rate : Rate) (kind : Watch) (at : ℤ) (l : List (ItemOf Listed)) (bits : List Bit)
    → AreBitsOf rate kind l bits → total (looks (exactly kind) l) ≡ (bits_end at bits -ℤ at) *ℤ pos
    (ticks rate)
unfolding bits_end
total_bits rate kind at [] [] a =
    let z : at -ℤ at ≡ pos 0 = omega (arith, ints) in
    let h = ap (λ n. n *ℤ pos (ticks rate)) z in omega (arith, ints, h)
total_bits rate kind at [] (b ∷ bits) a = absurd a
total_bits rate kind at (x ∷ l) [] a = absurd a
total_bits rate kind at (x ∷ l) ((piece n g) ∷ bits) a =
    let long = look_long (exactly kind) x ∙ a.0.1 in let more = total_bits rate kind (at +ℤ n) l
    bits a.1 in
    let s = sum-times n (bits_end (at +ℤ n) bits -ℤ (at +ℤ n)) (ticks rate) in
    let d : n +ℤ (bits_end (at +ℤ n) bits -ℤ (at +ℤ n)) ≡ bits_end (at +ℤ n) bits -ℤ at =
    omega (arith, ints) in let h = ap (λ z. z *ℤ pos (ticks rate)) d in
    omega (arith, ints, long, more, s, h)
total_bits rate kind at (x ∷ l) ((cross type b c) ∷ bits) a =
    let long = look_long (exactly kind) x ∙ a.0.2 in let more = total_bits rate kind at l bits a.1
    in omega (arith, ints, long, more)

end_late : (low at : ℤ) (bits : List Bit) → Fits low at bits → at ≤ℤ bits_end at bits
unfolding bits_end
end_late low at [] g = omega (arith, ints)
end_late low at ((piece n h) ∷ l) g = let e = end_late at (at +ℤ n) l g.1 in let n_low = g.0 in
    omega (arith, ints, e, n_low)
end_late low at ((cross type b a) ∷ []) g = omega (arith, ints)
end_late low at ((cross type b a) ∷ (piece n h) ∷ l) g = let e = end_late (at +ℤ pos a) (at +ℤ n) l
    g.2 in let n_low = g.1 in omega (arith, ints, e, n_low)
end_late low at ((cross type b a) ∷ (cross type' b' a') ∷ l) g = absurd g

-- nothing is shown behind the end
stretches_behind : (low at m : ℤ) (last : ℤ → Image) (bits : List Bit) → Fits low at bits
    → bits_end at bits ≤ℤ m → stretches_show (stretches at last bits) m ≡ Empty
unfolding bits_end
stretches_behind low at m last [] g h = refl
stretches_behind low at m last ((piece n gives) ∷ l) g h =
    let e = end_late at (at +ℤ n) l g.1 in let f = front_early (at +ℤ n) l in
    ap (λ b. cond b (gives (m -ℤ at))
    (stretches_show (stretches (at +ℤ n) (λ k. gives (k +ℤ n)) l) m))
    (missed_behind at (front_of (at +ℤ n) l) m (omega (arith, ints, e, f, h)))
    ∙ stretches_behind at (at +ℤ n) m (λ k. gives (k +ℤ n)) l g.1 h
stretches_behind low at m last ((cross type b a) ∷ []) g h = let z = g.1 in
    ap (λ t. cond t (crossed type b a at last nothing m) Empty)
    (missed_behind (at -ℤ pos b) (at +ℤ pos a) m (omega (arith, ints, h, z)))
stretches_behind low at m last ((cross type b a) ∷ (piece n gives) ∷ l) g h =
    let e = end_late (at +ℤ pos a) (at +ℤ n) l g.2 in let f = front_early (at +ℤ n) l in
    ap (λ t. cond t (crossed type b a at last gives m)
    (stretches_show (stretches (at +ℤ n) (λ k. gives (k +ℤ n)) l) m))
    (missed_behind (at -ℤ pos b) (front_of (at +ℤ n) l) m (omega (arith, ints, e, f, h)))
    ∙ stretches_behind (at +ℤ pos a) (at +ℤ n) m (λ k. gives (k +ℤ n)) l g.2 h
stretches_behind low at m last ((cross type b a) ∷ (cross type' b' a') ∷ l) g h = absurd g

-- where the length of a track is known, it is the sum of its looks
sum_is : (v : View) (l : List Sight) (n : ℕ) → sum_of (lengths_seen l) ≡ Some n
    → pos n ≡ total (map (seen v) l)
sum_is v [] n e = let z : 0 ≡ n = cc e in omega (arith, ints, z)
sum_is v (x ∷ l) n e = by x.length refl (sum_of (lengths_seen l)) refl (sum_is v l) e
  where
    by : (p : Option ℕ) → x.length ≡ p → (q : Option ℕ) → sum_of (lengths_seen l) ≡ q
        → ((k : ℕ) → sum_of (lengths_seen l) ≡ Some k → pos k ≡ total (map (seen v) l))
        → added_both (λ a b. a + b) p q ≡ Some n
        → pos n ≡ pos (or_zero x.length) +ℤ total (map (seen v) l)
    by None f q g r h = absurd (cc h)
    by (Some a) f None g r h = absurd (cc h)
    by (Some a) f (Some b) g r h =
        let z : a + b ≡ n = cc h in let k = ap (λ o. pos (or_zero o)) f in let m = r b g in
        omega (arith, ints, z, k, m)

-- ---- a track shows what its events show

pub track_is_written : (rate : Rate) (first : ℤ) (media : MediaRows) (drop wide : Bool)
    (c : Channel)
    (key : KeySeen) (t : TrackOf Listed) (long : ℕ) (n : ℤ) → KnowsKeys key media
    → t.source_range ≡ None → t.effects ≡ [] → t.enabled ≡ true
    → length_of (Track t) ≡ Some long → AreFree (job rate first media drop wide) c (pos 0) head
    (items_of t.children) → AreCalm (items_of t.children)
    → image (keyed_child_shows key (Track t) ((n -ℤ first) *ℤ pos (ticks rate))) ≡ events_show rate
    media (track_events (job rate first media drop wide) c (items_of t.children)) n
track_is_written rate first media drop wide c key t long n keys a b d known_long free calm =
    let w : Watch = record { kind = t.kind; key = key } in
    let v = exactly w in
    let items = items_of t.children in
    let m = n -ℤ first in
    let u = m *ℤ pos (ticks rate) in
    let l = looks v items in
    let f = fitted rate first media drop wide w c (pos 0) (pos 0) (pos 0) head items
    (omega (arith, ints)) refl (omega (arith, ints)) free calm in
    let all = total_bits rate w (pos 0) items f.bits f.are in
    let track_long : pos (or_zero (sight (Track t)).length) ≡ total l =
    (let e : (sight (Track t)).length ≡ Some long = length_seen (Track t) ∙ known_long in
    ap (λ o. pos (or_zero o)) e
    ∙ sum_is v (map sight items) long
    (sym
    (ap₂ (λ o l. option_map (λ (r : Range). r.len)
    (option_or (option_map range_of o) (option_map from_zero (sum_of (lengths_seen l))))) a
    (sights-items t.children) ∙ len_of (sum_of (lengths_seen (map sight items)))) ∙ e)
    ∙ ap total (sym (ap (map (seen v)) (sights-items t.children)) ∙ looks-items v t.children)) in
    let events : events_show rate media (track_events (job rate first media drop wide) c items) n ≡
    stretches_show (stretches (pos 0) nothing f.bits) m =
    (let z : n ≡ first +ℤ m = omega (arith, ints) in
    ap (events_show rate media (track_events (job rate first media drop wide) c items)) z
    ∙ events_match rate first media drop wide w c keys (pos 0) (pos 0) (pos 0) m head items f.bits
    nothing (omega (arith, ints)) refl f.are f.fit free calm (omega (arith, ints))
    (head_stands rate first media drop wide (pos 0) (pos 0) items)) in
    ap₂ (λ z s. image (cond (within (pos 0) z u) s Blank)) track_long
    (inside_track t v u a b d refl)
    ∙ by_lt_z m (pos 0)
    (λ h. let low = times_lt m (pos 0) (ticks rate) (ticks_some rate) h in
    let late = front_late (pos 0) (pos 0) f.bits f.fit (omega (arith, ints)) in
    ap (λ s. image (cond s (track_shows l u) Blank))
    (missed_before (pos 0) (total l) u (omega (arith, ints, low)))
    ∙ sym (stretches_before (pos 0) (pos 0) m nothing f.bits f.fit (omega (arith, ints))
    (omega (arith, ints, h, late))))
    (λ h. by_lt_z m (bits_end (pos 0) f.bits)
    (λ k. let low = times_le (pos 0) m (ticks rate) h in
    let high = times_lt m (bits_end (pos 0) f.bits -ℤ pos 0) (ticks rate) (ticks_some rate)
    (omega (arith, ints, k)) in
    let early = front_early (pos 0) f.bits in
    let in_all = is_within (pos 0) (total l) u (omega (arith, ints, low)) (omega (arith, ints, high, all))
    in
    let z : m ≡ m -ℤ pos 0 = omega (arith, ints) in
    ap (λ s. image (cond s (cond s (list_shows l u) Blank) Blank)) in_all
    ∙ ap (λ q. seen_at blank l (q *ℤ pos (ticks rate))) z
    ∙ stretches_are_shown (ticks rate) blank nothing l f.bits (pos 0) (pos 0) m (ticks_some rate)
    (looks_bits rate w items f.bits f.are) f.fit (omega (arith, ints)) (λ k. refl)
    (omega (arith, ints, h, early)))
    (λ k. let high = times_le (bits_end (pos 0) f.bits -ℤ pos 0) m (ticks rate)
    (omega (arith, ints, k)) in
    ap (λ s. image (cond s (track_shows l u) Blank))
    (missed_behind (pos 0) (total l) u (omega (arith, ints, high, all)))
    ∙ sym (stretches_behind (pos 0) (pos 0) m nothing f.bits f.fit k)))
    ∙ sym events
  where
    len_of : (o : Option ℕ) → option_map (λ (r : Range). r.len) (option_map from_zero o) ≡ o
    len_of None = refl
    len_of (Some k) = refl
