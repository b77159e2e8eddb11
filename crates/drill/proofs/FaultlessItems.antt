-- The items of a conformed track have no fault.
use Rattle.std.proofs.Common.{◌≡◌, refl, sym, ap, ap₂, subst, ◌∙◌, ℕ, ◌+◌, ◌*◌, ◌≤◌, ℤ, pos, negsuc, ◌+ℤ◌, ◌-ℤ◌, ◌*ℤ◌, ◌≤ℤ◌, ◌&&◌, ◌||◌, ◌==◌, Bool, true, false, not, cond, List, [], ◌∷◌, Option, Some, None, unsigned_abs, arith}
use Rattle.std.specs.Prelude.{nat_lt, int_le, option_map}
use Rattle.std.specs.Option.{option_or}
use Rattle.std.proofs.lemmas.Int.{ints}
use Rattle.std.proofs.lemmas.Bool.Decides.{nat_tests}
use Rattle.std.proofs.lemmas.Nat.{mul-le}
use Rattle.std.proofs.Math.Nat.{add-mul, mul_assoc, mul_comm}
use Rattle.limits.proofs.IntegerSums.{size-of_natural}
use Rattle.limits.specs.Limits.{most_ticks}
use Rattle.tick_time.specs.declared.rates.Rate.{Rate}
use Rattle.tick_time.specs.declared.spans.Span.{Span}
use Rattle.otio_model.specs.declared.compositions.ItemOf.{ItemOf}
use Rattle.otio_model.specs.declared.compositions.ItemOf.TheVariants.{Clip, Gap}
use Rattle.otio_model.specs.declared.compositions.Listed.{Listed}
use Rattle.otio_model.specs.Trees.{children_of, is_transition}
use Rattle.otio_model.specs.Lengths.{Range, range_of, range_start, from_zero, clip_range, length_of, trimmed_start}
use Rattle.otio_model.specs.Speeds.{combined, keeps_speed}
use Rattle.coord.specs.declared.faults.ItemFault.TheVariants.{NoLength, Speed, Long}
use Rattle.coord.specs.Speeds.{effects_of, speed_of}
use Rattle.coord.specs.Soundness.{available_ticks, fault_of, is_long, media_end, most_end, ranged_fault, span_ticks}
use Rattle.edl_list.specs.declared.list.Reel.{Reel}
use Rattle.edl_list.specs.declared.list.Reel.TheVariants.{Black, Named}
use Rattle.edl_list.specs.declared.list.Side.{Side}
use Rattle.edl_list.specs.Speeds.{side_speed}
use Rattle.media_rows.specs.declared.row.MediaRow.{MediaRow}
use Rattle.media_rows.specs.Rows.{MediaRows, row_of}
use Rattle.edl_frames.specs.Conformed.{HasSpan, effects_at, IsClip, IsGap, IsReelItem, IsItem, IsTransition, still, warp}
use Rattle.edl_law.proofs.ItemLooks.{ticks, speed_back}

-- ---- an item without a fault

not_less : (m n : ℕ) → n ≤ m → nat_lt m n ≡ false
not_less m n h = grind (arith, nat_tests)

is_inside : (m z : ℤ) → pos 0 ≤ℤ z → z ≤ℤ m → not (int_le (pos 0 -ℤ m) z && int_le z m) ≡ false
is_inside m z low high =
    let a : int_le (pos 0 -ℤ m) z ≡ true = grind (arith, ints) in
    let b : int_le z m ≡ true = grind (arith, ints) in
    ap₂ (λ p q. not (p && q)) a b

not_long : (p q r : Bool) → p ≡ false → q ≡ false → r ≡ false → (p || (q || r)) ≡ false
not_long p q r a b c = ap₂ (λ x y. x || y) a (ap₂ (λ x y. x || y) b c)

-- what an item is asked for: a length, a speed, and ends within a million seconds
pub record Fits (x : ItemOf Listed) (n : ℕ) : Type 0 where
  pub long : length_of x ≡ Some n
  pub speed : keeps_speed (pos 1000000) (effects_of x) ≡ true
  pub few : n ≤ most_ticks
  pub available : available_ticks x ≤ most_ticks
  pub low : pos 0 ≤ℤ media_end x n
  pub high : media_end x n ≤ℤ most_end

fits_in : (x : ItemOf Listed) (n : ℕ) → Fits x n → ranged_fault x n ≡ None
fits_in x n f =
    let long : is_long x n ≡ false = not_long _ _ _ (not_less most_ticks n f.few)
    (not_less most_ticks (available_ticks x) f.available)
    (is_inside most_end (media_end x n) f.low f.high) in
    ap (λ b. cond b (cond (is_long x n) (Some Long) None) (Some Speed)) f.speed
    ∙ ap (λ b. cond b (Some Long) None) long

pub no_fault : (x : ItemOf Listed) (n : ℕ) → is_transition x ≡ false → Fits x n
    → fault_of x ≡ None
no_fault x n item f =
    ap (λ b. cond b None (elim (length_of x) [ None ↦ Some NoLength | Some n ↦ ranged_fault x n ]))
    item
    ∙ ap (λ o. elim o [ None ↦ Some NoLength | Some n ↦ ranged_fault x n ]) f.long
    ∙ fits_in x n f

-- ---- spans

abs_low : (z : ℤ) (m : ℕ) → pos 0 ≤ℤ z → z ≤ℤ pos m → unsigned_abs z ≤ m
abs_low z m low high = omega (arith, ints, low, high)

-- a span lasts a million seconds at most
span_low : (o : Option Span) → span_ticks o ≤ most_ticks
span_low None = omega arith
span_low (Some s) = abs_low s.len.ticks most_ticks s.forward s.len.high

-- how long an item of a span is
pub record Lasts (rate : Rate) (n : ℤ) (o : Option Span) (r : Option Range) : Type 0 where
  pub ticks_are : ℕ
  pub long : option_map (λ (r : Range). r.len) (option_or (option_map range_of o) r)
      ≡ Some ticks_are
  pub is : pos ticks_are ≡ n *ℤ pos (ticks rate)
  pub few : ticks_are ≤ most_ticks

lasts : (rate : Rate) (start n : ℤ) (o : Option Span) (r : Option Range) → HasSpan rate start n o
    → Lasts rate n o r
lasts rate start n o r h = record {
  ticks_are = unsigned_abs h.0.len.ticks;
  long = ap (λ q. option_map (λ (r : Range). r.len) (option_or (option_map range_of q) r)) h.1;
  is = size-of_natural h.0.len.ticks h.0.forward ∙ h.2.long.ticks;
  few = abs_low h.0.len.ticks most_ticks h.0.forward h.0.len.high;
}

starts : (rate : Rate) (start n : ℤ) (o : Option Span) (r : Option Range) → HasSpan rate start n o
    → range_start (option_or (option_map range_of o) r) ≡ start *ℤ pos (ticks rate)
starts rate start n o r h =
    ap (λ q. range_start (option_or (option_map range_of q) r)) h.1 ∙ h.2.from.ticks

-- ---- speeds

fast : (s : ℕ) → s ≤ 1000 * 1000000
    → (int_le (pos 0 -ℤ pos 1000000000) (pos s) && int_le (pos s) (pos 1000000000)) ≡ true
fast s h =
    let a : int_le (pos 0 -ℤ pos 1000000000) (pos s) ≡ true = grind (arith, ints) in
    let b : int_le (pos s) (pos 1000000000) ≡ true = grind (arith, ints) in
    ap₂ (λ p q. p && q) a b

-- the effects that give a speed keep it
keeps : (s : ℕ) → s ≤ 1000 * 1000000 → keeps_speed (pos 1000000) (effects_at s) ≡ true
keeps s h = by (s == 1000000) (s == 0) refl refl
  where
    by : (p q : Bool) → (s == 1000000) ≡ p → (s == 0) ≡ q → keeps_speed (pos 1000000)
        (cond p [] (cond q (still ∷ []) (warp s ∷ []))) ≡ true
    by true q e f = refl
    by false true e f = refl
    by false false e f =
        let same : combined (pos 1000000) (warp s ∷ []) ≡ pos s =
        sym (ap₂ (λ p q. combined (pos 1000000) (cond p [] (cond q (still ∷ []) (warp s ∷ [])))) e
        f) ∙ speed_back s in
        ap (λ z. (int_le (pos 0 -ℤ pos 1000000000) z && int_le z (pos 1000000000)) && true) same
        ∙ ap (λ b. b && true) (fast s h)

-- ---- where sides end in their sources

-- so many millionths of a frame, from a source in on, end within a day of so many frames
pub record Ends (day : ℕ) (src_in n : ℤ) (speed : ℕ) : Type 0 where
  pub starts_low : pos 0 ≤ℤ src_in
  pub some : pos 0 ≤ℤ n
  pub high : ((src_in *ℤ pos 1000000) +ℤ (n *ℤ pos speed)) ≤ℤ pos (day * 1000000)

-- the same in ticks
ends_ticks : (a k s d t m : ℕ) → a * 1000000 + k * s ≤ d * 1000000 → d * t ≤ m
    → (a * t) * 1000000 + (k * t) * s ≤ m * 1000000
ends_ticks a k s d t m h g =
    let times = mul-le (a * 1000000 + k * s) t (d * 1000000) t h (omega arith) in
    let sum = add-mul (a * 1000000) (k * s) t in
    let first : (a * 1000000) * t ≡ (a * t) * 1000000 = omega arith in
    let next : (k * s) * t ≡ (k * t) * s =
    mul_assoc k s t ∙ ap (λ z. k * z) (mul_comm s t) ∙ sym (mul_assoc k t s) in
    let day : (d * 1000000) * t ≡ (d * t) * 1000000 = omega arith in
    omega (arith, times, sum, first, next, day, g)

-- where an item ends in its media
media_is : (x speed : ℤ) (n : ℕ) (a k : ℤ) (s t : ℕ) → x ≡ a *ℤ pos t
    → speed ≡ pos s → pos n ≡ k *ℤ pos t
    → (x *ℤ pos 1000000) +ℤ (pos n *ℤ speed) ≡ ((a *ℤ pos t) *ℤ pos 1000000)
    +ℤ ((k *ℤ pos t) *ℤ pos s)
media_is x speed n a k s t e f g =
    ap₂ (λ p q. (p *ℤ pos 1000000) +ℤ q) e (ap₂ (λ p q. p *ℤ q) g f)

pub record Within (m : ℕ) (z : ℤ) : Type 0 where
  pub low : pos 0 ≤ℤ z
  pub high : z ≤ℤ (pos m *ℤ pos 1000000)

ends_within : (day : ℕ) (src_in n : ℤ) (s t m : ℕ) → Ends day src_in n s → day * t ≤ m
    → Within m (((src_in *ℤ pos t) *ℤ pos 1000000) +ℤ ((n *ℤ pos t) *ℤ pos s))
ends_within day (pos a) (pos k) s t m e g =
    let high = e.high in
    let all = ends_ticks a k s day t m (omega (arith, ints, high)) g in
    record { low = omega (arith, ints); high = omega (arith, ints, all) }
ends_within day (negsuc a) k s t m e g = let low = e.starts_low in absurd (omega (arith, ints, low))
ends_within day (pos a) (negsuc k) s t m e g = let low = e.some in absurd (omega (arith, ints, low))

-- ---- the items of sides

-- what is known of an item of a track: it has no fault and no children, and is so many frames long
pub record IsPart (rate : Rate) (n : ℤ) (x : ItemOf Listed) : Type 0 where
  pub fault : fault_of x ≡ None
  pub leaf : children_of x ≡ None
  pub ticks_are : ℕ
  pub long : length_of x ≡ Some ticks_are
  pub is : pos ticks_are ≡ n *ℤ pos (ticks rate)

leaf_part : {rate : Rate} {n : ℤ} (x : ItemOf Listed) (m : ℕ) → fault_of x ≡ None
    → children_of x ≡ None → length_of x ≡ Some m → pos m ≡ n *ℤ pos (ticks rate) → IsPart rate n x
leaf_part x m fault leaf long is =
    record { fault = fault; leaf = leaf; ticks_are = m; long = long; is = is }

clip_part : (rate : Rate) (row : Option MediaRow) (side : Side) (reel : List ℕ) (day : ℕ) (n : ℤ)
    (x : ItemOf Listed) → IsClip rate row side reel n x → side_speed rate side ≤ 1000 * 1000000
    → day * ticks rate ≤ most_ticks → Ends day side.src_in n (side_speed rate side)
    → IsPart rate n x
clip_part rate row side reel day n x i slow short e =
    subst (IsPart rate n) (sym i.is) (leaf_part (Clip i.clip) l.ticks_are
    (no_fault (Clip i.clip) l.ticks_are refl (record {
      long = l.long;
      speed = ap (keeps_speed (pos 1000000)) i.effects ∙ keeps (side_speed rate side) slow;
      few = l.few;
      available = span_low (clip_range i.clip);
      low = subst (λ z. pos 0 ≤ℤ z) (sym end_is) w.low;
      high = subst (λ z. z ≤ℤ most_end) (sym end_is) w.high;
    })) refl l.long l.is)
  where
    l : Lasts rate n i.clip.source_range (option_map range_of (clip_range i.clip))
    l = lasts rate side.src_in n i.clip.source_range (option_map range_of (clip_range i.clip))
        i.source

    end_is : media_end {C = Listed} (Clip i.clip) l.ticks_are
        ≡ ((side.src_in *ℤ pos (ticks rate)) *ℤ pos 1000000)
        +ℤ ((n *ℤ pos (ticks rate)) *ℤ pos (side_speed rate side))
    end_is = media_is (trimmed_start {C = Listed} (Clip i.clip))
        (speed_of {C = Listed} (Clip i.clip)) l.ticks_are side.src_in n (side_speed rate side)
        (ticks rate)
        (starts rate side.src_in n i.clip.source_range (option_map range_of (clip_range i.clip))
        i.source)
        (ap (combined (pos 1000000)) i.effects ∙ speed_back (side_speed rate side)) l.is

    w : Within most_ticks (((side.src_in *ℤ pos (ticks rate)) *ℤ pos 1000000)
        +ℤ ((n *ℤ pos (ticks rate)) *ℤ pos (side_speed rate side)))
    w = ends_within day side.src_in n (side_speed rate side) (ticks rate) most_ticks e short

-- an item without media, from 0 on, at its own speed
pub plain_end : (start speed : ℤ) (n m : ℕ) → start ≡ pos 0 → speed ≡ pos 1000000 → n ≤ m
    → Within m ((start *ℤ pos 1000000) +ℤ (pos n *ℤ speed))
plain_end start speed n m a b h =
    subst (Within m) (sym (ap₂ (λ p q. (p *ℤ pos 1000000) +ℤ (pos n *ℤ q)) a b))
    (record { low = omega (arith, ints); high = omega (arith, ints, h) })

none_of : (t : ℕ) → pos 0 *ℤ pos t ≡ pos 0
none_of t = omega (arith, ints)

pub gap_part : (rate : Rate) (n : ℤ) (x : ItemOf Listed) → IsGap rate n x → IsPart rate n x
gap_part rate n x i =
    let g = i.gap in
    let l = lasts rate (pos 0) n g.source_range (Some (from_zero 0)) i.source in
    let w = plain_end (trimmed_start {C = Listed} (Gap g)) (speed_of {C = Listed} (Gap g))
    l.ticks_are most_ticks
    (starts rate (pos 0) n g.source_range (Some (from_zero 0)) i.source ∙ none_of (ticks rate))
    (ap (combined (pos 1000000)) i.effects) l.few in
    subst (IsPart rate n) (sym i.is) (leaf_part (Gap g) l.ticks_are
    (no_fault (Gap g) l.ticks_are refl (record {
      long = l.long;
      speed = ap (keeps_speed (pos 1000000)) i.effects;
      few = l.few;
      available = omega arith;
      low = w.low;
      high = w.high;
    })) refl l.long l.is)

pub item_part : (rate : Rate) (media : MediaRows) (side : Side) (day : ℕ) (n : ℤ)
    (x : ItemOf Listed) → IsItem rate media side n x → side_speed rate side ≤ 1000 * 1000000
    → day * ticks rate ≤ most_ticks → Ends day side.src_in n (side_speed rate side)
    → IsPart rate n x
item_part rate media side day n x i slow short e = by side.reel i
  where
    by : (r : Reel) → IsReelItem rate media side r n x → IsPart rate n x
    by Black j = gap_part rate n x j
    by (Named reel) j = clip_part rate (row_of media reel) side reel day n x j slow short e

pub transition_part : (rate : Rate) (type : List ℕ) (frames : ℕ) (x : ItemOf Listed)
    → IsTransition rate type frames x → IsPart rate (pos 0) x
transition_part rate type frames x i = subst (IsPart rate (pos 0)) (sym i.is) (record {
  fault = refl;
  leaf = refl;
  ticks_are = 0;
  long = refl;
  is = sym (none_of (ticks rate));
})
