-- The whole list where the touched children are others.
use Rattle.std.proofs.Common.{◌≡◌, refl, sym, subst, ap, ap₂, ◌∙◌, inl, inr, ℕ, ◌+◌, ◌-◌, ◌≤◌, ℤ}
use Rattle.std.proofs.Common.{◌-ℤ◌, ◌≤ℤ◌, Some, List, [], ◌∷◌, ◌++◌, take, drop, length, arith}
use Rattle.std.proofs.Common.{append_assoc, length-append}
use Rattle.std.specs.Prelude.{option_map}
use Rattle.std.proofs.lemmas.Int.{ints}
use Rattle.tick_time.specs.declared.rates.Rate.{Rate}
use Rattle.otio_model.specs.declared.compositions.ItemOf.{ItemOf}
use Rattle.otio_model.specs.declared.compositions.Listed.{Listed}
use Rattle.otio_model.specs.Edits.{replaced}
use Rattle.edits.specs.Children.{Child, all_made}
use Rattle.edits.specs.Cuts.{olds, strip}
use Rattle.edits.specs.Edges.{Held, Zone, added, start, end, first_changed, gap_of, left_behind}
use Rattle.edits.specs.Narrow.{ahead, onward, past_met, touched, up_to_met}
use Rattle.edits_law.proofs.Parted.{added_low, made_narrow, replaced_middle}
use Rattle.edits_law.proofs.Touched.{ahead_onward, up_past}
use Rattle.edits_law.proofs.TouchedHeld.{ahead_is, touched_held}
use Rattle.edits_law.proofs.NarrowEdges.{last_before, first_behind, olds_behind}
use Rattle.edit_trim.specs.Changes.{changed, parts, reshaped}
use Rattle.edit_trim.specs.Seats.{IsRound, zone_of}
use Rattle.edit_trim.specs.declared.replacements.Shape.{Shape}
use Rattle.edit_trim.specs.declared.replacements.Interval.{Interval}
use Rattle.edit_trim.proofs.KeptEdges.{first_keep}

-- the touched children before and behind the item, as the zone lies for them
abbrev pub near_before : Held → Zone → List (ItemOf Listed)
near_before h z = onward h.before z.from z.to

abbrev pub near_behind : Held → Zone → List (ItemOf Listed)
near_behind h z = up_to_met h.behind (z.from -ℤ end h) (z.to -ℤ end h)

abbrev pub passed : Held → Zone → ℤ
passed h z = added (ahead h.before z.from z.to)

-- what comes in place of the touched children
abbrev pub middle : Held → Zone → Shape → List Child
middle h z s = parts s (strip (near_before h z) (z.from -ℤ passed h z) (z.to -ℤ passed h z)) h.item
    (strip (near_behind h z) (z.from -ℤ end h) (z.to -ℤ end h))

ends_low : (h : Held) → start h ≤ℤ end h
ends_low h = omega (arith, ints)

behind_split : (h : Held) (z : Interval) (s : Shape) → IsRound h z s
    → first_changed (changed s.behind) (left_behind h (zone_of z))
    ≡ first_changed (changed s.behind) (strip (near_behind h (zone_of z)) (z.from -ℤ end h)
    (z.to -ℤ end h))
    ++ olds (past_met h.behind (z.from -ℤ end h) (z.to -ℤ end h))
behind_split h z s r = elim r.end [
  | inl e ↦ let f = r.from in let g = ends_low h in
      first_behind (changed s.behind) h.behind (z.from -ℤ end h) (z.to -ℤ end h)
      (omega (arith, ints, e, f, g)) (omega (arith, ints, e))
  | inr e ↦ subst (λ c. first_changed (changed c) (left_behind h (zone_of z))
      ≡ first_changed (changed c) (strip (near_behind h (zone_of z)) (z.from -ℤ end h)
      (z.to -ℤ end h))
      ++ olds (past_met h.behind (z.from -ℤ end h) (z.to -ℤ end h))) (sym e)
      (first_keep (left_behind h (zone_of z)) ∙ olds_behind h.behind (z.from -ℤ end h)
      (z.to -ℤ end h)
      ∙ ap (λ q. q ++ olds (past_met h.behind (z.from -ℤ end h) (z.to -ℤ end h)))
      (sym (first_keep (strip (near_behind h (zone_of z)) (z.from -ℤ end h) (z.to -ℤ end h)))))
]

join : (a l g c k r p : List Child) → (a ++ l) ++ (g ++ (c ++ (k ++ (r ++ p)))) ≡ a
    ++ ((l ++ (g ++ (c ++ (k ++ r)))) ++ p)
join a l g c k r p =
    append_assoc a l (g ++ (c ++ (k ++ (r ++ p))))
    ∙ ap (λ q. a ++ q) (ap (λ q. l ++ (g ++ (c ++ q))) (sym (append_assoc k r p))
    ∙ ap (λ q. l ++ (g ++ q)) (sym (append_assoc c (k ++ r) p))
    ∙ ap (λ q. l ++ q) (sym (append_assoc g (c ++ (k ++ r)) p))
    ∙ sym (append_assoc l (g ++ (c ++ (k ++ r))) p))

pub split : (h : Held) (z : Interval) (s : Shape) → IsRound h z s
    → reshaped h (zone_of z) s ≡ olds (ahead h.before z.from z.to)
    ++ (middle h (zone_of z) s ++ olds (past_met h.behind (z.from -ℤ end h) (z.to -ℤ end h)))
split h z s r =
    let f = r.from in let t = r.to in let low = added_low h.before in
    ap₂ (λ p q. p ++ (gap_of s.gap_before ++ (changed s.item h.item ++ (gap_of s.gap_behind ++ q))))
    (last_before (changed s.before) h.before z.from z.to (omega (arith, ints, f, t))
    (omega (arith, ints, t, low)) f t)
    (behind_split h z s r)
    ∙ join (olds (ahead h.before z.from z.to)) _ (gap_of s.gap_before) (changed s.item h.item)
    (gap_of s.gap_behind) _ (olds (past_met h.behind (z.from -ℤ end h) (z.to -ℤ end h)))

-- ---- the touched children by their index

len_split : {A : Type 0} (l r : List A) (n : ℕ) → n ≡ length l → take n (l ++ r) ≡ l
len_split l r n e = ap (λ k. take k (l ++ r)) e ∙ take_front l r
  where
    take_front : {A : Type 0} (l r : List A) → take (length l) (l ++ r) ≡ l
    take_front [] r = refl
    take_front (x ∷ l) r = ap (λ q. x ∷ q) (take_front l r)

len_past : {A : Type 0} (l r : List A) (n : ℕ) → n ≡ length l → drop n (l ++ r) ≡ r
len_past l r n e = ap (λ k. drop k (l ++ r)) e ∙ drop_front l r
  where
    drop_front : {A : Type 0} (l r : List A) → drop (length l) (l ++ r) ≡ r
    drop_front [] r = refl
    drop_front (x ∷ l) r = drop_front l r

-- the held item in its list, and how many of its neighbours are touched
pub record Counts (l : List (ItemOf Listed)) (h : Held) (z : Interval) (at count : ℕ) : Type 0 where
  pub parts : l ≡ h.before ++ (h.item ∷ h.behind)
  pub at_is : at ≡ length (ahead h.before z.from z.to)
  pub count_is : count ≡ length (near_before h (zone_of z)) + 1 + length (near_behind h (zone_of z))

pub counted : (l : List (ItemOf Listed)) (h : Held) (z : Interval) (s : Shape) (at count : ℕ)
    → l ≡ h.before ++ (h.item ∷ h.behind) → IsRound h z s
    → at ≡ length (ahead l z.from z.to) → count ≡ length (touched l z.from z.to)
    → Counts l h z at count
counted l h z s at count e r f g =
    let low = r.from in let high = r.to in let more = ends_low h in
    let a : ahead l z.from z.to ≡ ahead h.before z.from z.to =
    ap (λ q. ahead q z.from z.to) e ∙ ahead_is h.before h.item h.behind z.from z.to high
    (omega (arith, ints, low, more)) in
    let t : touched l z.from z.to ≡ near_before h (zone_of z)
    ++ (h.item ∷ near_behind h (zone_of z)) =
    ap (λ q. touched q z.from z.to) e ∙ touched_held h.before h.item h.behind z.from z.to high
    (omega (arith, ints, low, more)) in
    let n = length-append (near_before h (zone_of z)) (h.item ∷ near_behind h (zone_of z)) in
    record {
      parts = e;
      at_is = f ∙ ap length a;
      count_is = let k = g ∙ ap length t in omega (arith, k, n);
    }

-- how the list falls into parts
pub record Parted (l : List (ItemOf Listed)) (h : Held) (z : Interval) : Type 0 where
  pub whole : l ≡ ahead h.before z.from z.to ++ ((near_before h (zone_of z)
      ++ (h.item ∷ near_behind h (zone_of z))) ++ past_met h.behind (z.from -ℤ end h)
      (z.to -ℤ end h))
  pub before : h.before ≡ ahead h.before z.from z.to ++ near_before h (zone_of z)
  pub behind : h.behind ≡ near_behind h (zone_of z)
      ++ past_met h.behind (z.from -ℤ end h) (z.to -ℤ end h)

pub parted : (l : List (ItemOf Listed)) (h : Held) (z : Interval)
    → l ≡ h.before ++ (h.item ∷ h.behind) → Parted l h z
parted l h z e =
    let b : h.before ≡ ahead h.before z.from z.to ++ near_before h (zone_of z) =
    sym (ahead_onward h.before z.from z.to) in
    let c : h.behind ≡ near_behind h (zone_of z) ++ past_met h.behind (z.from -ℤ end h)
    (z.to -ℤ end h) = sym (up_past h.behind (z.from -ℤ end h) (z.to -ℤ end h)) in
    record {
      whole = e ∙ ap₂ (λ p q. p ++ (h.item ∷ q)) b c
          ∙ append_assoc (ahead h.before z.from z.to) (near_before h (zone_of z)) _
          ∙ ap (λ q. ahead h.before z.from z.to ++ q)
          (sym (append_assoc (near_before h (zone_of z)) (h.item ∷ near_behind h (zone_of z)) _));
      before = b;
      behind = c;
    }

-- what is copied of the list: the touched children before the item, and those behind it
pub before_is : (l : List (ItemOf Listed)) (h : Held) (z : Interval) (at count index n : ℕ)
    → Counts l h z at count → h.before ≡ take index l → index ≡ length h.before → n ≡ index - at
    → take n (drop at l) ≡ near_before h (zone_of z)
before_is l h z at count index n k e f g =
    let p = parted l h z k.parts in
    let long = length-append (ahead h.before z.from z.to) (near_before h (zone_of z)) in
    let same = ap length p.before in
    let start = k.at_is in
    ap (λ q. take n (drop at q)) p.whole
    ∙ ap (take n) (len_past (ahead h.before z.from z.to) _ at k.at_is)
    ∙ ap (take n) (append_assoc (near_before h (zone_of z)) (h.item ∷ near_behind h (zone_of z)) _)
    ∙ len_split (near_before h (zone_of z)) _ n (omega (arith, f, g, long, same, start))

pub behind_is : (l : List (ItemOf Listed)) (h : Held) (z : Interval) (at count index n : ℕ)
    → Counts l h z at count → h.behind ≡ drop (index + 1) l → index ≡ length h.before
    → n ≡ ((at + count) - index) - 1
    → take n (drop (index + 1) l) ≡ near_behind h (zone_of z)
behind_is l h z at count index n k e f g =
    let p = parted l h z k.parts in
    let long = length-append (ahead h.before z.from z.to) (near_before h (zone_of z)) in
    let same = ap length p.before in
    let start = k.at_is in
    let many = k.count_is in
    ap (take n) (sym e ∙ p.behind)
    ∙ len_split (near_behind h (zone_of z)) _ n (omega (arith, f, g, long, same, start, many))

-- the indexes lie in the list
pub record Within (l : List (ItemOf Listed)) (at count index : ℕ) : Type 0 where
  pub first : at ≤ index
  pub past : index + 1 ≤ at + count
  pub all : at + count ≤ length l

pub within : (l : List (ItemOf Listed)) (h : Held) (z : Interval) (at count index : ℕ)
    → Counts l h z at count → index ≡ length h.before → Within l at count index
within l h z at count index k f =
    let p = parted l h z k.parts in
    let long = length-append (ahead h.before z.from z.to) (near_before h (zone_of z)) in
    let same = ap length p.before in
    let behind = ap length p.behind in
    let back = length-append (near_behind h (zone_of z))
    (past_met h.behind (z.from -ℤ end h) (z.to -ℤ end h)) in
    let whole = ap length k.parts ∙ length-append h.before (h.item ∷ h.behind) in
    let start = k.at_is in
    let many = k.count_is in
    record {
      first = omega (arith, f, long, same, start);
      past =
          omega (arith, f, long, same, start, many);
      all =
          omega (arith, f, long, same, start, many, behind, back, whole);
    }

-- what comes in place of the touched children makes the whole list
pub whole_made : (rate : Rate) (l : List (ItemOf Listed)) (h : Held) (z : Interval) (s : Shape)
    (at count : ℕ) (p : List (ItemOf Listed)) → IsRound h z s → Counts l h z at count
    → all_made rate (middle h (zone_of z) s) ≡ Some p
    → all_made rate (reshaped h (zone_of z) s) ≡ Some (replaced at count p l)
whole_made rate l h z s at count p r k e =
    let w = parted l h z k.parts in
    let A : List (ItemOf Listed) = ahead h.before z.from z.to in
    let n = length-append (near_before h (zone_of z)) (h.item ∷ near_behind h (zone_of z)) in
    let many : count ≡ length (near_before h (zone_of z) ++ (h.item ∷ near_behind h (zone_of z))) =
    let c = k.count_is in omega (arith, c, n) in
    ap (all_made rate) (split h z s r)
    ∙ made_narrow rate (ahead h.before z.from z.to) (middle h (zone_of z) s)
    (past_met h.behind (z.from -ℤ end h) (z.to -ℤ end h))
    ∙ ap (option_map (λ m. ahead h.before z.from z.to
    ++ (m ++ past_met h.behind (z.from -ℤ end h) (z.to -ℤ end h)))) e
    ∙ ap Some (sym (ap₂ (λ i j. replaced i j p l) k.at_is many
    ∙ ap (replaced (length (ahead h.before z.from z.to))
    (length (near_before h (zone_of z) ++ (h.item ∷ near_behind h (zone_of z)))) p) w.whole
    ∙ replaced_middle (ahead h.before z.from z.to)
    (near_before h (zone_of z) ++ (h.item ∷ near_behind h (zone_of z)))
    (past_met h.behind (z.from -ℤ end h) (z.to -ℤ end h)) p))

pub done : (n : ℕ) → n ≡ n
done n = refl
