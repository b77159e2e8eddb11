-- Pieces of sound items can be made, and are sound.
use Rattle.std.proofs.Common.{◌≡◌, refl, ap, ap₂, ◌∙◌, ℕ, suc, ◌-◌, ◌*◌, ◌≤◌, ℤ, pos, negsuc, ◌+ℤ◌, ◌-ℤ◌, ◌*ℤ◌, ◌≤ℤ◌, ◌<ℤ◌, ◌&&◌, ◌||◌, Bool, true, false, Option, Some, None, cond, arith}
use Rattle.std.specs.Prelude.{int_le, nat_lt, not, option_map, unsigned_abs}
use Rattle.std.specs.Int.{int_div_euclid}
use Rattle.std.proofs.lemmas.Int.{ints, by_lt_z, unsigned_abs-mul}
use borrow.Author.Differences.{product_is}
use Rattle.tick_time.specs.declared.rates.Rate.{Rate}
use Rattle.tick_time.specs.declared.spans.Span.{Span}
use Rattle.tick_time.specs.declared.times.Time.{Time}
use Rattle.limits.specs.Limits.{most_ticks}
use Rattle.otio_model.specs.declared.compositions.ItemOf.{ItemOf}
use Rattle.otio_model.specs.declared.compositions.ItemOf.TheVariants.{Clip, Gap, Transition, Stack, Track}
use Rattle.otio_model.specs.declared.compositions.Listed.{Listed}
use Rattle.otio_model.specs.Lengths.{length_of, source_of}
use Rattle.coord.specs.declared.faults.ItemFault.{ItemFault}
use Rattle.coord.specs.declared.faults.ItemFault.TheVariants.{Speed, Long}
use Rattle.coord.specs.Speeds.{speed_of, media_at, effects_of}
use Rattle.otio_model.specs.Speeds.{keeps_speed}
use Rattle.otio_model.specs.Lengths.{trimmed_start}
use Rattle.otio_model.specs.Trees.{is_transition}
use Rattle.coord.specs.Soundness.{fault_of, is_long, media_end, most_end, available_ticks}
use Rattle.coord.proofs.ShortItems.{trimmed_near, judged}
use Rattle.edits.specs.Finest.{in_range}
use Rattle.edits.specs.Nears.{near, near_by, span_of, span_by, is_whole}
use Rattle.edits.specs.Children.{Ranged, with_range, start_rate, length_rate, made}
use Rattle.edits.specs.Cuts.{is_whole_at}
use Rattle.edits_law.proofs.Pieces.{whole_rest, sum-times, floor_is}
use Rattle.std.proofs.lemmas.Bool.{or_parts}
use Rattle.limits.proofs.IntegerTests.{below-int_le, int_le-true}

-- ---- times that there are

near_there : (z : ℤ) (r : Rate) (b : Bool) (e : in_range z ≡ b) (c : Bool) (f : is_whole z r ≡ c) → b ≡ true → (t : Time) × (near_by z r b e c f ≡ Some t) × (t.ticks ≡ z)
near_there z r false e c f h = absurd (cc h)
near_there z r true e true f h = (_, refl, refl)
near_there z r true e false f h = (_, refl, refl)

pub near_some : (z : ℤ) (r : Rate) → in_range z ≡ true → (t : Time) × (near z r ≡ Some t) × (t.ticks ≡ z)
near_some z r h = near_there z r (in_range z) refl (is_whole z r) refl h

span_there : (a b : Time) (c : Bool) (e : int_le (pos 0) b.ticks ≡ c) → c ≡ true → (s : Span) × (span_by a b c e ≡ Some s) × (s.start.ticks ≡ a.ticks) × (s.len.ticks ≡ b.ticks)
span_there a b false e h = absurd (cc h)
span_there a b true e h = (_, refl, refl, refl)

-- an item with a range of these ticks
pub record IsMade (r : Rate) (x : ItemOf Listed) (s n : ℤ) : Type 0 where
  pub span : Span
  pub made : made r (Ranged x s n) ≡ Some (with_range span x)
  pub start : span.start.ticks ≡ s
  pub len : span.len.ticks ≡ n

pub can_make : (r : Rate) (x : ItemOf Listed) (s n : ℤ) → in_range s ≡ true → in_range n ≡ true → pos 0 ≤ℤ n → IsMade r x s n
can_make r x s n h k low =
    let a = near_some s (start_rate r x) h in
    let b = near_some n (length_rate r x) k in
    let e : int_le (pos 0) b.0.ticks ≡ true = not_low b.0 n low b.2 in
    let c = span_there a.0 b.0 (int_le (pos 0) b.0.ticks) refl e in
    let is : span_of (near s (start_rate r x)) (near n (length_rate r x)) ≡ Some c.0 = ap₂ span_of a.1 b.1 ∙ c.1 in
    record {
      span = c.0;
      made = ap (option_map (λ w. with_range w x)) is;
      start = c.2 ∙ a.2;
      len = c.3 ∙ b.2;
    }
  where
    not_low : (t : Time) (n : ℤ) → pos 0 ≤ℤ n → t.ticks ≡ n → int_le (pos 0) t.ticks ≡ true
    not_low t n low e = let f : int_le (pos 0) n ≡ true = grind (arith, ints) in rw e f

-- ---- bounds

pub range_yes : (z : ℤ) → (pos 0 -ℤ pos 705600000000000000000000) ≤ℤ z → z ≤ℤ pos 705600000000000000000000 → in_range z ≡ true
range_yes z h k =
    let a : int_le (pos 0 -ℤ pos most_ticks) z ≡ true = grind (arith, ints) in
    let b : int_le z (pos most_ticks) ≡ true = grind (arith, ints) in rw (a, b) refl

-- where an item starts is in range
pub start_low : (x : ItemOf Listed) → ((pos 0 -ℤ pos 705600000000000000000000) ≤ℤ trimmed_start x) × (trimmed_start x ≤ℤ pos 705600000000000000000000)
start_low x = ((trimmed_near x).low, (trimmed_near x).high)

sign_high : (m : ℕ) (p : ℤ) → pos 0 ≤ℤ p → pos 0 ≤ℤ (pos m *ℤ p)
sign_high m (pos s) h = omega (arith, ints)
sign_high m (negsuc s) h = absurd (omega (arith, ints))

sign_low : (m : ℕ) (p : ℤ) → p <ℤ pos 0 → (pos m *ℤ p) ≤ℤ pos 0
sign_low m (pos s) h = absurd (omega (arith, ints))
sign_low m (negsuc s) h =
    let e : pos m *ℤ (pos 0 -ℤ pos (suc s)) ≡ pos m *ℤ negsuc s = ap (λ z. pos m *ℤ z) (let f : pos 0 -ℤ pos (suc s) ≡ negsuc s = omega (arith, ints) in f) in
    let k : unsigned_abs (pos m *ℤ negsuc s) ≡ m * suc s = unsigned_abs-mul (pos m) (negsuc s) in
    omega (arith, ints, product_is (pos m) (negsuc s))

-- part of a product lies between 0 and the product
pub data Part (t n : ℕ) (p : ℤ) : Type 0 where
  up : pos 0 ≤ℤ (pos t *ℤ p) → (pos t *ℤ p) ≤ℤ (pos n *ℤ p) → Part t n p
  down : (pos n *ℤ p) ≤ℤ (pos t *ℤ p) → (pos t *ℤ p) ≤ℤ pos 0 → Part t n p

pub part : (t n : ℕ) (p : ℤ) → t ≤ n → Part t n p
part t n p h =
    let d = n - t in
    let e : pos n ≡ pos t +ℤ pos d = omega (arith, ints) in
    let f : pos n *ℤ p ≡ (pos t *ℤ p) +ℤ (pos d *ℤ p) = ap (λ z. z *ℤ p) e ∙ sum-times (pos t) (pos d) p in
    by_lt_z p (pos 0)
    (λ k. let a = sign_low t p k in let b = sign_low d p k in down (omega (arith, ints, a, b, f)) a)
    (λ k. let a = sign_high t p k in let b = sign_high d p k in up a (omega (arith, ints, a, b, f)))

-- ---- what a sound item is

pub record IsSoundOne (x : ItemOf Listed) : Type 0 where
  pub ticks : ℕ
  pub length : length_of x ≡ Some ticks
  pub speed : keeps_speed (pos 1000000) (effects_of x) ≡ true
  pub short : ticks ≤ most_ticks
  pub room : nat_lt most_ticks (available_ticks x) ≡ false
  pub low : (pos 0 -ℤ most_end) ≤ℤ media_end x ticks
  pub high : media_end x ticks ≤ℤ most_end

and_true : (a b : Bool) → not (a && b) ≡ false → (a ≡ true) × (b ≡ true)
and_true true true e = (refl, refl)
and_true true false e = absurd (cc e)
and_true false b e = absurd (cc e)

pub nat_most : (m n : ℕ) → nat_lt m n ≡ false → n ≤ m
nat_most m n e = grind arith

nat_least : (m n : ℕ) → n ≤ m → nat_lt m n ≡ false
nat_least m n e = grind arith

pub sound_one : (x : ItemOf Listed) → is_transition x ≡ false → fault_of x ≡ None → IsSoundOne x
sound_one x t e = of (length_of x) refl (rw t at e)
  where
    both : (c d : Bool) → cond c (cond d (Some Long) None) (Some Speed) ≡ None → (c ≡ true) × (d ≡ false)
    both true true f = absurd (cc f)
    both true false f = (refl, refl)
    both false d f = absurd (cc f)

    of : (o : Option ℕ) → length_of x ≡ o → judged x o ≡ None → IsSoundOne x
    of None f m = absurd (cc m)
    of (Some n) f m =
        let c = both (keeps_speed (pos 1000000) (effects_of x)) (is_long x n) m in
        let d = or_parts (nat_lt most_ticks n) (nat_lt most_ticks (available_ticks x) || not (int_le (pos 0 -ℤ most_end) (media_end x n) && int_le (media_end x n) most_end)) c.1 in
        let g = or_parts (nat_lt most_ticks (available_ticks x)) (not (int_le (pos 0 -ℤ most_end) (media_end x n) && int_le (media_end x n) most_end)) d.1 in
        let h = and_true (int_le (pos 0 -ℤ most_end) (media_end x n)) (int_le (media_end x n) most_end) g.1 in
        record { ticks = n; length = f; speed = c.0; short = nat_most most_ticks n d.0; room = g.0; low = int_le-true _ _ h.0; high = int_le-true _ _ h.1 }

pub fault_none : (x : ItemOf Listed) → IsSoundOne x → fault_of x ≡ None
fault_none x s = of (is_transition x)
  where
    long : is_long x s.ticks ≡ false
    long = rw (nat_least most_ticks s.ticks s.short, s.room, below-int_le (pos 0 -ℤ most_end) (media_end x s.ticks) s.low, below-int_le (media_end x s.ticks) most_end s.high) refl

    of : (b : Bool) → cond {A = Option ItemFault} b None (judged x (length_of x)) ≡ None
    of true = refl
    of false = rw (s.length, s.speed, long) refl

-- ---- an item with another range

range_length : (w : Span) (x : ItemOf Listed) → is_transition x ≡ false → length_of (with_range w x) ≡ Some (unsigned_abs w.len.ticks)
range_length w (Clip c) e = refl
range_length w (Gap c) e = refl
range_length w (Transition c) e = absurd (cc e)
range_length w (Stack c) e = refl
range_length w (Track c) e = refl

range_effects : (w : Span) (x : ItemOf Listed) → effects_of (with_range w x) ≡ effects_of x
range_effects w (Clip c) = refl
range_effects w (Gap c) = refl
range_effects w (Transition c) = refl
range_effects w (Stack c) = refl
range_effects w (Track c) = refl

range_room : (w : Span) (x : ItemOf Listed) → available_ticks (with_range w x) ≡ available_ticks x
range_room w (Clip c) = refl
range_room w (Gap c) = refl
range_room w (Transition c) = refl
range_room w (Stack c) = refl
range_room w (Track c) = refl

range_starts : (w : Span) (x : ItemOf Listed) → is_transition x ≡ false → trimmed_start (with_range w x) ≡ w.start.ticks
range_starts w (Clip c) e = refl
range_starts w (Gap c) e = refl
range_starts w (Transition c) e = absurd (cc e)
range_starts w (Stack c) e = refl
range_starts w (Track c) e = refl

-- a part of a sound item, of no greater length, whose media end in range
pub part_sound : (x : ItemOf Listed) (w : Span) (n : ℕ) → is_transition x ≡ false → IsSoundOne x → unsigned_abs w.len.ticks ≡ n → n ≤ most_ticks
    → (pos 0 -ℤ most_end) ≤ℤ ((w.start.ticks *ℤ pos 1000000) +ℤ (pos n *ℤ speed_of x)) → ((w.start.ticks *ℤ pos 1000000) +ℤ (pos n *ℤ speed_of x)) ≤ℤ most_end → fault_of (with_range w x) ≡ None
part_sound x w n t s len short low high =
    let speed : speed_of (with_range w x) ≡ speed_of x = ap (Rattle.otio_model.specs.Speeds.combined (pos 1000000)) (range_effects w x) in
    let end : media_end (with_range w x) n ≡ (w.start.ticks *ℤ pos 1000000) +ℤ (pos n *ℤ speed_of x) =
    ap₂ (λ a b. (a *ℤ pos 1000000) +ℤ (pos n *ℤ b)) (range_starts w x t) speed in
    fault_none (with_range w x) (record {
      ticks = n;
      length = range_length w x t ∙ ap Some len;
      speed = ap (keeps_speed (pos 1000000)) (range_effects w x) ∙ s.speed;
      short = short;
      room = ap (nat_lt most_ticks) (range_room w x) ∙ s.room;
      low = rw end low;
      high = rw end high;
    })

-- a sound item's left piece can be made, and is sound
pub record MakesSound (r : Rate) (x : ItemOf Listed) (s n : ℤ) : Type 0 where
  pub item : ItemOf Listed
  pub span : Span
  pub made : made r (Ranged x s n) ≡ Some item
  pub len : span.len.ticks ≡ n
  pub is : item ≡ with_range span x
  pub sound : fault_of item ≡ None

pub left_made : (r : Rate) (x : ItemOf Listed) (t : ℕ) → is_transition x ≡ false → (s : IsSoundOne x) → t ≤ s.ticks → MakesSound r x (trimmed_start x) (pos t)
left_made r x t k s h =
    let b = start_low x in let short = s.short in let low = s.low in let high = s.high in
    let m = can_make r x (trimmed_start x) (pos t) (range_yes (trimmed_start x) b.0 b.1) (range_yes (pos t) (omega (arith, ints)) (omega (arith, ints))) (omega (arith, ints)) in
    let w = m.span in
    let len : unsigned_abs w.len.ticks ≡ t = ap unsigned_abs m.len in
    let ends : ((pos 0 -ℤ most_end) ≤ℤ ((trimmed_start x *ℤ pos 1000000) +ℤ (pos t *ℤ speed_of x))) × (((trimmed_start x *ℤ pos 1000000) +ℤ (pos t *ℤ speed_of x)) ≤ℤ most_end) =
    elim (part t s.ticks (speed_of x) h) [
      | up p q ↦ (omega (arith, ints, p, q, low, high, b.0, b.1), omega (arith, ints, p, q, low, high, b.0, b.1))
      | down p q ↦ (omega (arith, ints, p, q, low, high, b.0, b.1), omega (arith, ints, p, q, low, high, b.0, b.1))
    ] in
    let start = m.start in
    record {
      item = with_range w x;
      span = w;
      made = m.made;
      len = m.len;
      is = refl;
      sound = part_sound x w t k s len (omega (arith, h, short)) (rw start ends.0) (rw start ends.1);
    }

-- and so is its right piece, where t ticks are whole ticks of its media
whole_media : (x : ItemOf Listed) (t : ℤ) → is_whole_at x t ≡ true → (media_at (trimmed_start x) (speed_of x) t *ℤ pos 1000000) ≡ ((trimmed_start x *ℤ pos 1000000) +ℤ (t *ℤ speed_of x))
whole_media x t e =
    let rest = whole_rest x t e in
    let f = floor_is (t *ℤ speed_of x) in
    sum-times (trimmed_start x) (int_div_euclid (t *ℤ speed_of x) (pos 1000000)) (pos 1000000) ∙ ap (λ z. (trimmed_start x *ℤ pos 1000000) +ℤ z) (let g : int_div_euclid (t *ℤ speed_of x) (pos 1000000) *ℤ pos 1000000 ≡ t *ℤ speed_of x = omega (arith, ints) in g)

pub right_made : (r : Rate) (x : ItemOf Listed) (t : ℕ) → is_transition x ≡ false → (s : IsSoundOne x) → t ≤ s.ticks → is_whole_at x (pos t) ≡ true
    → MakesSound r x (media_at (trimmed_start x) (speed_of x) (pos t)) (pos (s.ticks - t))
right_made r x t k s h whole =
    let b = start_low x in let short = s.short in let low = s.low in let high = s.high in
    let at = media_at (trimmed_start x) (speed_of x) (pos t) in
    let is = whole_media x (pos t) whole in
    let d = s.ticks - t in
    let sum : pos s.ticks *ℤ speed_of x ≡ (pos t *ℤ speed_of x) +ℤ (pos d *ℤ speed_of x) = ap (λ z. z *ℤ speed_of x) (let e : pos s.ticks ≡ pos t +ℤ pos d = omega (arith, ints) in e) ∙ sum-times (pos t) (pos d) (speed_of x) in
    let ends : ((pos 0 -ℤ pos 705600000000000000000000) ≤ℤ at) × (at ≤ℤ pos 705600000000000000000000) =
    elim (part t s.ticks (speed_of x) h) [
      | up p q ↦ (omega (arith, ints, p, q, low, high, b.0, b.1, is), omega (arith, ints, p, q, low, high, b.0, b.1, is))
      | down p q ↦ (omega (arith, ints, p, q, low, high, b.0, b.1, is), omega (arith, ints, p, q, low, high, b.0, b.1, is))
    ] in
    let m = can_make r x at (pos d) (range_yes at ends.0 ends.1) (range_yes (pos d) (omega (arith, ints)) (omega (arith, ints))) (omega (arith, ints)) in
    let w = m.span in
    let len : unsigned_abs w.len.ticks ≡ d = ap unsigned_abs m.len in
    let start = m.start in
    let end : (w.start.ticks *ℤ pos 1000000) +ℤ (pos d *ℤ speed_of x) ≡ media_end x s.ticks =
    ap (λ z. (z *ℤ pos 1000000) +ℤ (pos d *ℤ speed_of x)) start ∙ (let e : (at *ℤ pos 1000000) +ℤ (pos d *ℤ speed_of x) ≡ (trimmed_start x *ℤ pos 1000000) +ℤ (pos s.ticks *ℤ speed_of x) = omega (arith, ints, is, sum) in e) in
    record {
      item = with_range w x;
      span = w;
      made = m.made;
      len = m.len;
      is = refl;
      sound = part_sound x w d k s len (omega (arith, short)) (rw end low) (rw end high);
    }
