-- Items that are made of children look like them.
use mathlib.Core.Path.{fun_ext}
use Rattle.std.proofs.Common.{◌≡◌, refl, sym, ap, ap₂, ◌∙◌, ◌⊎◌, inl, inr, ℤ, pos, ◌≤ℤ◌, ◌&&◌, Bool, true, false, Option, Some, None, cond, List, [], ◌∷◌, arith}
use Rattle.std.specs.Prelude.{int_le, unsigned_abs, option_map, is_some}
use Rattle.std.specs.Option.{option_or}
use Rattle.std.proofs.lemmas.Int.{ints}
use Rattle.tick_time.specs.declared.rates.Rate.{Rate}
use Rattle.tick_time.specs.declared.times.Time.{Time}
use Rattle.tick_time.specs.declared.spans.Span.{Span}
use Rattle.otio_model.specs.declared.compositions.Clip.{Clip as ClipRow}
use Rattle.otio_model.specs.declared.compositions.ItemOf.{ItemOf}
use Rattle.otio_model.specs.declared.compositions.ItemOf.TheVariants.{Clip, Gap, Transition, Stack, Track}
use Rattle.otio_model.specs.declared.compositions.Listed.{Listed}
use Rattle.otio_model.specs.Lengths.{clip_range}
use Rattle.coord.specs.Looks.{Show, Blank, Look, Overlap, Key, Frame}
use Rattle.coord.specs.Speeds.{speed_of, media_at}
use Rattle.coord.specs.Keys.{frame_rate, key_of, reel_of}
use Rattle.coord.specs.Sights.{View, sight, sights, seen, looks, shows_inside, framed}
use Rattle.edits.specs.Finest.{in_range}
use Rattle.edits.specs.Nears.{is_whole, near_by, near, span_by, span_of}
use Rattle.edits.specs.Children.{Child, Old, Ranged, seen_child, child_looks, with_range, start_rate, length_rate, made, all_made, with_first}
use Rattle.edits.specs.Steady.{steady_start, is_steady, are_steady, IsBlind, Sees, IsRangedBefore, AreRangedBefore}
use Rattle.coord.proofs.Members.{same_some}

-- ---- times that are near

near_ticks : (z : ℤ) (r : Rate) (b : Bool) (e : in_range z ≡ b) (c : Bool) (f : is_whole z r ≡ c) (t : Time) → near_by z r b e c f ≡ Some t → t.ticks ≡ z
near_ticks z r false e c f t g = absurd (cc g)
near_ticks z r true e true f t g = ap (λ (x : Time). x.ticks) (sym (same_some _ t g))
near_ticks z r true e false f t g = ap (λ (x : Time). x.ticks) (sym (same_some _ t g))

near_is : (z : ℤ) (r : Rate) (t : Time) → near z r ≡ Some t → t.ticks ≡ z
near_is z r t g = near_ticks z r (in_range z) refl (is_whole z r) refl t g

kept_by : (z : ℤ) (r : Rate) (b : Bool) (e : in_range z ≡ b) (c : Bool) (f : is_whole z r ≡ c) (t : Time) → c ≡ true → near_by z r b e c f ≡ Some t → t.rate ≡ r
kept_by z r false e c f t w g = absurd (cc g)
kept_by z r true e true f t w g = ap (λ (x : Time). x.rate) (sym (same_some _ t g))
kept_by z r true e false f t w g = absurd (cc w)

-- whole units keep the rate
near_kept : (z : ℤ) (r : Rate) (t : Time) → is_whole z r ≡ true → near z r ≡ Some t → t.rate ≡ r
near_kept z r t w g = kept_by z r (in_range z) refl (is_whole z r) refl t w g

-- a span of two times
record Spans (a b : Option Time) (s : Span) : Type 0 where
  start : a ≡ Some s.start
  len : b ≡ Some s.len

span_parts : (a b : Option Time) (s : Span) → span_of a b ≡ Some s → Spans a b s
span_parts None b s e = absurd (cc e)
span_parts (Some x) None s e = absurd (cc e)
span_parts (Some x) (Some y) s e = by (int_le (pos 0) y.ticks) refl e
  where
    by : (t : Bool) (f : int_le (pos 0) y.ticks ≡ t) → span_by x y t f ≡ Some s → Spans (Some x) (Some y) s
    by false f g = absurd (cc g)
    by true f g = let k = same_some _ s g in record { start = ap (λ (w : Span). Some w.start) k; len = ap (λ (w : Span). Some w.len) k }

size_is : (z : ℤ) → pos 0 ≤ℤ z → pos (unsigned_abs z) ≡ z
size_is z h = omega (arith, ints)

-- the range of an item that was made
record Ranges (s n : ℤ) (r : Rate) (w : Span) : Type 0 where
  start : w.start.ticks ≡ s
  len : pos (unsigned_abs w.len.ticks) ≡ n
  kept : is_whole s r ≡ true → w.start.rate ≡ r

ranges : (s n : ℤ) (r q : Rate) (w : Span) → span_of (near s r) (near n q) ≡ Some w → Ranges s n r w
ranges s n r q w e = let k = span_parts (near s r) (near n q) w e in record {
  start = near_is s r w.start k.start;
  len = size_is w.len.ticks w.forward ∙ near_is n q w.len k.len;
  kept = λ f. near_kept s r w.start f k.start;
}

mapped : (x y : ItemOf Listed) (o : Option Span) → option_map (λ w. with_range w x) o ≡ Some y → (w : Span) × (o ≡ Some w) × (with_range w x ≡ y)
mapped x y None e = absurd (cc e)
mapped x y (Some w) e = (w, refl, same_some _ y e)

-- ---- looks

look_of : (m n : ℤ) (f g : ℤ → Show) (o : Option Overlap) → m ≡ n → ((u : ℤ) → f u ≡ g u) → Path Look (record { length = m; shows = f; overlap = o }) (record { length = n; shows = g; overlap = o })
look_of m n f g o e h = λ i. record { length = e i; shows = fun_ext h i; overlap = o }

-- a clip's frames are counted at a rate that the viewer takes for the same
frames_same : (v : View) (key : Key) (m : ℤ) (o p : Option Span) (w : Span) → is_some (option_or o p) ≡ true
    → ((q : Span) → o ≡ None → p ≡ Some q → v.rate_kept (frame_rate w.start.rate) ≡ v.rate_kept (frame_rate q.start.rate))
    → framed v key m (option_map (λ (s : Span). frame_rate s.start.rate) (option_or o (Some w))) ≡ framed v key m (option_map (λ (s : Span). frame_rate s.start.rate) (option_or o p))
frames_same v key m (Some a) p w e h = refl
frames_same v key m None None w e h = absurd (cc e)
frames_same v key m None (Some q) w e h = ap (λ r. Frame key m r) (h q refl refl)

old_rate : (r : Rate) (c : ClipRow) (q : Span) → c.source_range ≡ Some q → start_rate r (Clip c) ≡ q.start.rate
old_rate r c q e = rw e refl

steady_is : (c : ClipRow) (s : ℤ) (q : Span) → clip_range c ≡ None → c.source_range ≡ Some q → steady_start (clip_range c) c.source_range s ≡ true → is_whole s q.start.rate ≡ true
steady_is c s q e f g = rw (e, f) at g

pub made_look : (v : View) (r : Rate) (c : Child) (y : ItemOf Listed) → made r c ≡ Some y → IsRangedBefore c → IsBlind v ⊎ (is_steady c ≡ true) → seen v (sight y) ≡ seen_child v c
made_look v r (Old x) y e b k = ap (λ z. seen v (sight z)) (sym (same_some x y e))
made_look v r (Ranged (Clip c) s n) y e b k =
    let m = mapped (Clip c) y (span_of (near s (start_rate r (Clip c))) (near n (length_rate r (Clip c)))) e in
    let g = ranges s n (start_rate r (Clip c)) (length_rate r (Clip c)) m.0 m.1 in
    ap (λ z. seen v (sight z)) (sym m.2)
    ∙ look_of _ _ _ _ _ g.len (λ u.
    ap (λ z. cond c.enabled (framed v (v.key (reel_of c) (key_of c)) (media_at z (speed_of {C = Listed} (Clip c)) u) (option_map (λ (p : Span). frame_rate p.start.rate) (option_or (clip_range c) (Some m.0)))) Blank) g.start
    ∙ ap (λ z. cond c.enabled z Blank) (frames_same v (v.key (reel_of c) (key_of c)) (media_at s (speed_of {C = Listed} (Clip c)) u) (clip_range c) c.source_range m.0 b
    (λ q f i. elim k [
      | inl blind ↦ blind (frame_rate m.0.start.rate) (frame_rate q.start.rate)
      | inr steady ↦ ap (λ z. v.rate_kept (frame_rate z)) (g.kept (rw (old_rate r c q i) (steady_is c s q f i steady)) ∙ old_rate r c q i)
    ])))
made_look v r (Ranged (Gap c) s n) y e b k =
    let m = mapped (Gap c) y (span_of (near s (start_rate r (Gap c))) (near n (length_rate r (Gap c)))) e in let g = ranges s n (start_rate r (Gap c)) (length_rate r (Gap c)) m.0 m.1 in
    ap (λ z. seen v (sight z)) (sym m.2) ∙ look_of _ _ _ _ _ g.len (λ u. refl)
made_look v r (Ranged (Transition t) s n) y e b k = absurd b
made_look v r (Ranged (Stack c) s n) y e b k =
    let m = mapped (Stack c) y (span_of (near s (start_rate r (Stack c))) (near n (length_rate r (Stack c)))) e in let g = ranges s n (start_rate r (Stack c)) (length_rate r (Stack c)) m.0 m.1 in
    ap (λ z. seen v (sight z)) (sym m.2) ∙ look_of _ _ _ _ _ g.len (λ u. ap (λ z. shows_inside sights (Stack c) v (media_at z (speed_of (Stack c)) u)) g.start)
made_look v r (Ranged (Track c) s n) y e b k =
    let m = mapped (Track c) y (span_of (near s (start_rate r (Track c))) (near n (length_rate r (Track c)))) e in let g = ranges s n (start_rate r (Track c)) (length_rate r (Track c)) m.0 m.1 in
    ap (λ z. seen v (sight z)) (sym m.2) ∙ look_of _ _ _ _ _ g.len (λ u. ap (λ z. shows_inside sights (Track c) v (media_at z (speed_of (Track c)) u)) g.start)

pub first_of_two : {A : Type 0} (o : Option A) (p : Option (List A)) (m : List A) → with_first o p ≡ Some m → (x : A) × (l : List A) × (o ≡ Some x) × (p ≡ Some l) × (m ≡ x ∷ l)
first_of_two None p m e = absurd (cc e)
first_of_two (Some x) None m e = absurd (cc e)
first_of_two (Some x) (Some l) m e = (x, l, refl, refl, sym (same_some (x ∷ l) m e))

sees_one : (v : View) (c : Child) (l : List Child) → Sees v (c ∷ l) → IsBlind v ⊎ (is_steady c ≡ true)
sees_one v c l (inl b) = inl b
sees_one v c l (inr e) = inr (both (is_steady c) (are_steady l) e)
  where
    both : (a b : Bool) → (a && b) ≡ true → a ≡ true
    both true b f = refl
    both false b f = f

sees_rest : (v : View) (c : Child) (l : List Child) → Sees v (c ∷ l) → Sees v l
sees_rest v c l (inl b) = inl b
sees_rest v c l (inr e) = inr (both (is_steady c) (are_steady l) e)
  where
    both : (a b : Bool) → (a && b) ≡ true → b ≡ true
    both true b f = f
    both false b f = absurd (cc f)

pub made_looks : (v : View) (r : Rate) (l : List Child) (m : List (ItemOf Listed)) → all_made r l ≡ Some m → AreRangedBefore l → Sees v l → looks v m ≡ child_looks v l
made_looks v r [] m e b k = ap (looks v) (none m e)
  where
    none : (n : List (ItemOf Listed)) → Some [] ≡ Some n → n ≡ []
    none n f = cc f
made_looks v r (c ∷ l) m e b k =
    let p = first_of_two (made r c) (all_made r l) m e in
    ap (looks v) p.4 ∙ ap₂ (λ x n. x ∷ n) (made_look v r c p.0 p.2 b.0 (sees_one v c l k)) (made_looks v r l p.1 p.3 b.1 (sees_rest v c l k))
