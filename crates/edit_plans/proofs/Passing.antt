-- Children that are passed on the way to a zone.
use Rattle.std.proofs.Common.{◌≡◌, refl, sym, subst, ap, ap₂, ◌∙◌, ℕ, zero, suc, ◌+◌, ◌*◌, ◌≤◌}
use Rattle.std.proofs.Common.{ℤ, pos, ◌+ℤ◌, ◌-ℤ◌, ◌≤ℤ◌, Bool, true, false, cond, arith}
use Rattle.std.proofs.Common.{List, [], ◌∷◌, ◌++◌, take, drop, length}
use Rattle.std.proofs.Common.{length-append, length-take-le}
use Rattle.std.specs.Prelude.{int_lt, int_le, ◌||◌}
use Rattle.std.proofs.lemmas.Int.{ints}
use Rattle.limits.proofs.IntegerTests.{int_lt-true as lt_is}
pub use Rattle.limits.proofs.IntegerTests.{int_le-of_difference as lies_to}
use Rattle.limits.proofs.IntegerSums.{minus-minus as less_more}
use Rattle.otio_model.specs.declared.compositions.ItemOf.{ItemOf}
use Rattle.otio_model.specs.declared.compositions.Listed.{Listed}
use Rattle.otio_model.specs.Kept.{reach_in}
use Rattle.edits.specs.Children.{ticks}
use Rattle.edits.specs.Narrow.{is_met, any_met, ahead, onward, up_to_met, touched}
use Rattle.edits.specs.Edges.{added}
use Rattle.edits_law.proofs.Parted.{added_low}
use Rattle.pieces.specs.Short.{AreShort}
use Rattle.coord.proofs.Members.{none_left}
use Rattle.edit_plans.specs.Parts.{IsClear}
use Rattle.edit_plans.proofs.Clearing.{clear_ahead, late_none, reach_drop}

pub lies_from : (a b n : ℤ) → int_le b (a +ℤ n) ≡ int_le (b -ℤ a) n
lies_from a b n = grind (arith, ints)

pub ruleset meets = (lies_from, lies_to)

zero_more : (n : ℕ) → n ≡ 0 + n
zero_more n = omega arith

-- ---- the first that is met

-- i children that take so many ticks are passed, and the rest are still to be tested
pub record Passing (l : List (ItemOf Listed)) (a b : ℤ) (rest : List (ItemOf Listed)) (at : ℤ)
    (i : ℕ) : Type 0 where
  pub count : length (ahead l a b) ≡ i + length (ahead rest (a -ℤ at) (b -ℤ at))
  pub ticks : added (ahead l a b) ≡ at +ℤ added (ahead rest (a -ℤ at) (b -ℤ at))
  pub low : pos 0 ≤ℤ at
  pub high : at ≤ℤ pos (i * 705600000000000000000000)

pub added_both : (l r : List (ItemOf Listed)) → added (l ++ r) ≡ added l +ℤ added r
added_both [] r = omega (arith, ints)
added_both (x ∷ l) r = let e = added_both l r in omega (arith, ints, e)

pub added_taken : (l : List (ItemOf Listed)) (i : ℕ) → AreShort l
    → added (take i l) ≤ℤ pos (i * 705600000000000000000000)
added_taken l zero h = omega (arith, ints)
added_taken [] (suc i) h = omega (arith, ints)
added_taken (x ∷ l) (suc i) h =
    let a = (h 0 x refl).short in
    let b = added_taken l i (λ j y e. h (suc j) y e) in
    omega (arith, ints, a, b)

-- how long first children are that are clear of a zone
pub clear_short : (l : List (ItemOf Listed)) (c at : ℤ) (i : ℕ) → IsClear l c i at → AreShort l
    → (pos 0 ≤ℤ at) × (at ≤ℤ pos (i * 705600000000000000000000))
clear_short l c at i k h =
    let e = k.long in
    let low = added_low (take i l) in
    let high = added_taken l i h in
    (omega (arith, ints, low, e), omega (arith, ints, high, e))

-- they are passed at once
pub pass_clear : (l : List (ItemOf Listed)) (a b c at s : ℤ) (i : ℕ) → IsClear l c i at → c ≡ a
    → s ≡ at → AreShort l → Passing l a b (drop i l) s i
pass_clear l a b c at s i k e f h =
    let long : s ≡ added (take i l) = f ∙ k.long in
    let same : ahead l a b ≡ take i l ++ ahead (drop i l) (a -ℤ s) (b -ℤ s) =
    clear_ahead l i a b (reach_in l) (omega arith)
    (λ p. let q = k.early p in omega (arith, ints, q, e, f, long))
    ∙ ap (λ z. take i l ++ ahead (drop i l) (a -ℤ z) (b -ℤ z)) (sym long) in
    let bounds = clear_short l c at i k h in
    record {
      count = ap length same ∙ length-append (take i l) (ahead (drop i l) (a -ℤ s) (b -ℤ s))
          ∙ ap (λ n. n + length (ahead (drop i l) (a -ℤ s) (b -ℤ s)))
          (length-take-le i l k.within);
      ticks = ap added same ∙ added_both (take i l) (ahead (drop i l) (a -ℤ s) (b -ℤ s))
          ∙ ap (λ z. z +ℤ added (ahead (drop i l) (a -ℤ s) (b -ℤ s))) (sym long);
      low = omega (arith, ints, bounds.0, f);
      high = omega (arith, ints, bounds.1, f);
    }

sum_more : (s t z : ℤ) → s +ℤ (t +ℤ z) ≡ (s +ℤ t) +ℤ z
sum_more s t z = omega (arith, ints)

count_more : (i n : ℕ) → i + suc n ≡ (i + 1) + n
count_more i n = omega arith

pub pass_next : (l rest more : List (ItemOf Listed)) (a b at now : ℤ) (i : ℕ) (x : ItemOf Listed)
    (r : Bool) → Passing l a b rest at i → rest ≡ x ∷ more → r ≡ is_met x (a -ℤ at) (b -ℤ at)
    → r ≡ false → now ≡ at +ℤ ticks x → pos 0 ≤ℤ ticks x
    → ticks x ≤ℤ pos 705600000000000000000000
    → Passing l a b more now (i + 1)
pass_next l rest more a b at now i x r p e f g z low high =
    let no : is_met x (a -ℤ at) (b -ℤ at) ≡ false = sym f ∙ g in
    let here : ahead (x ∷ more) (a -ℤ at) (b -ℤ at) ≡ x
    ∷ ahead more ((a -ℤ at) -ℤ ticks x) ((b -ℤ at) -ℤ ticks x) = rw no refl in
    let moved : ahead more ((a -ℤ at) -ℤ ticks x) ((b -ℤ at) -ℤ ticks x)
    ≡ ahead more (a -ℤ now) (b -ℤ now) = ap₂ (ahead more)
    (less_more a at (ticks x) ∙ ap (λ k. a -ℤ k) (sym z))
    (less_more b at (ticks x) ∙ ap (λ k. b -ℤ k) (sym z)) in
    let all : ahead rest (a -ℤ at) (b -ℤ at) ≡ x ∷ ahead more (a -ℤ now) (b -ℤ now) =
    ap (λ q. ahead q (a -ℤ at) (b -ℤ at)) e ∙ here ∙ ap (λ q. x ∷ q) moved in
    record {
      count = p.count ∙ ap (λ q. i + length q) all
          ∙ count_more i (length (ahead more (a -ℤ now) (b -ℤ now)));
      ticks = p.ticks ∙ ap (λ q. at +ℤ added q) all
          ∙ sum_more at (ticks x) (added (ahead more (a -ℤ now) (b -ℤ now)))
          ∙ ap (λ k. k +ℤ added (ahead more (a -ℤ now) (b -ℤ now))) (sym z);
      low = omega (arith, ints, p.low, z, low);
      high = omega (arith, ints, p.high, z, high);
    }

no_more : (i : ℕ) (n : ℕ) (r : List (ItemOf Listed)) → n ≡ i + length r → r ≡ [] → i ≡ n
no_more i n r e f = let g : length r ≡ 0 = ap length f in omega (arith, e, g)

no_ticks : (at z : ℤ) (r : List (ItemOf Listed)) → z ≡ at +ℤ added r → r ≡ [] → at ≡ z
no_ticks at z r e f = let g : added r ≡ pos 0 = ap added f in omega (arith, ints, e, g)

stop : (rest more : List (ItemOf Listed)) (a b : ℤ) (x : ItemOf Listed) (r : Bool) → rest ≡ x ∷ more
    → r ≡ is_met x a b → r ≡ true → ahead rest a b ≡ []
stop rest more a b x r e f g =
    let yes : is_met x a b ≡ true = sym f ∙ g in
    let here : ahead (x ∷ more) a b ≡ [] = rw yes refl in
    ap (λ q. ahead q a b) e ∙ here

pub met_count : (l rest more : List (ItemOf Listed)) (a b c d at : ℤ) (i : ℕ) (x : ItemOf Listed)
    (r : Bool) → Passing l a b rest at i → rest ≡ x ∷ more → r ≡ is_met x (a -ℤ at) (b -ℤ at)
    → r ≡ true → a ≡ c → b ≡ d → i ≡ length (ahead l c d)
met_count l rest more a b c d at i x r p e f g h k =
    no_more i _ _ p.count (stop rest more (a -ℤ at) (b -ℤ at) x r e f g)
    ∙ ap length (ap₂ (ahead l) h k)

pub met_ticks : (l rest more : List (ItemOf Listed)) (a b c d at : ℤ) (i : ℕ) (x : ItemOf Listed)
    (r : Bool) → Passing l a b rest at i → rest ≡ x ∷ more → r ≡ is_met x (a -ℤ at) (b -ℤ at)
    → r ≡ true → a ≡ c → b ≡ d → at ≡ added (ahead l c d)
met_ticks l rest more a b c d at i x r p e f g h k =
    no_ticks at _ _ p.ticks (stop rest more (a -ℤ at) (b -ℤ at) x r e f g)
    ∙ ap added (ap₂ (ahead l) h k)

end_empty : (l : List (ItemOf Listed)) (i : ℕ) (a b : ℤ) → length l ≤ i → ahead (drop i l) a b ≡ []
end_empty l i a b n = ap (λ q. ahead q a b) (none_left l i n)

pub end_count : (l : List (ItemOf Listed)) (a b c d at : ℤ) (i n : ℕ)
    → Passing l a b (drop i l) at i → length l ≤ i → n ≡ i → a ≡ c → b ≡ d
    → n ≡ length (ahead l c d)
end_count l a b c d at i n p m f h k = f ∙ no_more i _ _ p.count
    (end_empty l i (a -ℤ at) (b -ℤ at) m) ∙ ap length (ap₂ (ahead l) h k)

pub end_ticks : (l : List (ItemOf Listed)) (a b c d at : ℤ) (i : ℕ) → Passing l a b (drop i l) at i
    → length l ≤ i → a ≡ c → b ≡ d → at ≡ added (ahead l c d)
end_ticks l a b c d at i p m h k = no_ticks at _ _ p.ticks (end_empty l i (a -ℤ at) (b -ℤ at) m)
    ∙ ap added (ap₂ (ahead l) h k)

-- ---- the last that is met

-- of the children from the first that is met on, k are passed, and up to the last of them that is
-- met there are n
pub record Reaching (onto : ℕ) (rest : List (ItemOf Listed)) (a b : ℤ) (at : ℤ) (k n i : ℕ) : Type 0
  where
    pub is : onto ≡ cond (any_met rest (a -ℤ at) (b -ℤ at))
        (k + length (up_to_met rest (a -ℤ at) (b -ℤ at))) n
    pub small : n ≤ k
    pub low : pos 0 ≤ℤ at
    pub high : at ≤ℤ pos (i * 705600000000000000000000)

none_up : (r : List (ItemOf Listed)) (a b : ℤ) → any_met r a b ≡ false
    → length (up_to_met r a b) ≡ 0
none_up [] a b e = refl
none_up (x ∷ r) a b e = let q : up_to_met (x ∷ r) a b ≡ [] = rw e refl in ap length q

at_start : (r : List (ItemOf Listed)) (a b : ℤ) (c : Bool) → any_met r a b ≡ c
    → length (up_to_met r a b) ≡ cond c (0 + length (up_to_met r a b)) 0
at_start r a b true e = zero_more (length (up_to_met r a b))
at_start r a b false e = none_up r a b e

pub reach_first : (onto : ℕ) (r : List (ItemOf Listed)) (a b at : ℤ) (i : ℕ)
    → onto ≡ length (up_to_met r (a -ℤ at) (b -ℤ at)) → pos 0 ≤ℤ at
    → at ≤ℤ pos (i * 705600000000000000000000) → Reaching onto r a b at 0 0 i
reach_first onto r a b at i e low high = record {
  is = e
      ∙ at_start r (a -ℤ at) (b -ℤ at) (any_met r (a -ℤ at) (b -ℤ at)) refl;
  small =
      omega arith;
  low = low;
  high = high;
}

or_true : (p q : Bool) → p ≡ true → (p || q) ≡ true
or_true p q e = rw e refl

or_false : (p q : Bool) → p ≡ false → (p || q) ≡ q
or_false p q e = rw e refl

up_one : (x : ItemOf Listed) (more : List (ItemOf Listed)) (a b c d : ℤ)
    → any_met (x ∷ more) a b ≡ true → a -ℤ ticks x ≡ c → b -ℤ ticks x ≡ d
    → length (up_to_met (x ∷ more) a b) ≡ suc (length (up_to_met more c d))
up_one x more a b c d e f g =
    let q : up_to_met (x ∷ more) a b ≡ x ∷ up_to_met more (a -ℤ ticks x) (b -ℤ ticks x) =
    rw e refl in
    ap length q ∙ ap suc (ap length (ap₂ (up_to_met more) f g))

-- one that is met
met_by : (k m : ℕ) (c : Bool) (more : List (ItemOf Listed)) (a b : ℤ) → any_met more a b ≡ c
    → m ≡ k + 1 → k + suc (length (up_to_met more a b)) ≡ cond c (m + length (up_to_met more a b)) m
met_by k m true more a b e f = let n : ℕ = length (up_to_met more a b) in omega (arith, f)
met_by k m false more a b e f = let z = none_up more a b e in omega (arith, f, z)

-- one that is not
pass_by : (k m n : ℕ) (c : Bool) (more : List (ItemOf Listed)) (a b : ℤ) → any_met more a b ≡ c
    → m ≡ k + 1 → cond c (k + suc (length (up_to_met more a b))) n
    ≡ cond c (m + length (up_to_met more a b)) n
pass_by k m n true more a b e f = let w : ℕ = length (up_to_met more a b) in omega (arith, f)
pass_by k m n false more a b e f = refl

cond_true : {A : Type 0} (c : Bool) (u v : A) → c ≡ true → cond c u v ≡ u
cond_true c u v e = rw e refl

cond_false : {A : Type 0} (c : Bool) (u v : A) → c ≡ false → cond c u v ≡ v
cond_false c u v e = rw e refl

pub reach_met : (onto : ℕ) (rest more : List (ItemOf Listed)) (a b at now : ℤ) (k n i m : ℕ)
    (x : ItemOf Listed) (r : Bool) → Reaching onto rest a b at k n i → rest ≡ x ∷ more
    → r ≡ is_met x (a -ℤ at) (b -ℤ at) → r ≡ true → m ≡ k + 1
    → now ≡ at +ℤ ticks x → pos 0 ≤ℤ ticks x → ticks x ≤ℤ pos 705600000000000000000000
    → Reaching onto more a b now m m (i + 1)
reach_met onto rest more a b at now k n i m x r p e f g h z low high =
    let c : a -ℤ at -ℤ ticks x ≡ a -ℤ now = less_more a at (ticks x) ∙ ap (λ q. a -ℤ q) (sym z) in
    let d : b -ℤ at -ℤ ticks x ≡ b -ℤ now = less_more b at (ticks x) ∙ ap (λ q. b -ℤ q) (sym z) in
    let some : any_met (x ∷ more) (a -ℤ at) (b -ℤ at) ≡ true =
    or_true (is_met x (a -ℤ at) (b -ℤ at)) _ (sym f ∙ g) in
    let here : onto ≡ cond (any_met (x ∷ more) (a -ℤ at) (b -ℤ at))
    (k + length (up_to_met (x ∷ more) (a -ℤ at) (b -ℤ at))) n = p.is
    ∙ ap (λ q. cond (any_met q (a -ℤ at) (b -ℤ at))
    (k + length (up_to_met q (a -ℤ at) (b -ℤ at))) n) e in
    record {
      is = here ∙ cond_true _ _ n some ∙ ap (λ q. k + q)
          (up_one x more (a -ℤ at) (b -ℤ at) (a -ℤ now) (b -ℤ now) some c d)
          ∙ met_by k m (any_met more (a -ℤ now) (b -ℤ now)) more (a -ℤ now) (b -ℤ now) refl h;
      small = omega arith;
      low = omega (arith, ints, p.low, z, low);
      high = omega (arith, ints, p.high, z, high);
    }

pass_cond : (k m n : ℕ) (c : Bool) (x : ItemOf Listed) (more : List (ItemOf Listed)) (a b u v : ℤ)
    → any_met more u v ≡ c → any_met (x ∷ more) a b ≡ any_met more u v → a -ℤ ticks x ≡ u
    → b -ℤ ticks x ≡ v → m ≡ k + 1
    → cond (any_met (x ∷ more) a b) (k + length (up_to_met (x ∷ more) a b)) n
    ≡ cond c (m + length (up_to_met more u v)) n
pass_cond k m n true x more a b u v e f g h i =
    cond_true _ _ n (f ∙ e) ∙ ap (λ q. k + q) (up_one x more a b u v (f ∙ e) g h)
    ∙ pass_by k m n true more u v e i
pass_cond k m n false x more a b u v e f g h i = let no : any_met (x ∷ more) a b ≡ false = f
    ∙ e in cond_false (any_met (x ∷ more) a b) _ n no

pub reach_pass : (onto : ℕ) (rest more : List (ItemOf Listed)) (a b at now : ℤ) (k n i m : ℕ)
    (x : ItemOf Listed) (r : Bool) → Reaching onto rest a b at k n i → rest ≡ x ∷ more
    → r ≡ is_met x (a -ℤ at) (b -ℤ at) → r ≡ false → m ≡ k + 1
    → now ≡ at +ℤ ticks x → pos 0 ≤ℤ ticks x → ticks x ≤ℤ pos 705600000000000000000000
    → Reaching onto more a b now m n (i + 1)
reach_pass onto rest more a b at now k n i m x r p e f g h z low high =
    let c : a -ℤ at -ℤ ticks x ≡ a -ℤ now = less_more a at (ticks x) ∙ ap (λ q. a -ℤ q) (sym z) in
    let d : b -ℤ at -ℤ ticks x ≡ b -ℤ now = less_more b at (ticks x) ∙ ap (λ q. b -ℤ q) (sym z) in
    let some : any_met (x ∷ more) (a -ℤ at) (b -ℤ at) ≡ any_met more (a -ℤ now) (b -ℤ now) =
    or_false (is_met x (a -ℤ at) (b -ℤ at)) _ (sym f ∙ g) ∙ ap₂ (any_met more) c d in
    let here : onto ≡ cond (any_met (x ∷ more) (a -ℤ at) (b -ℤ at))
    (k + length (up_to_met (x ∷ more) (a -ℤ at) (b -ℤ at))) n = p.is
    ∙ ap (λ q. cond (any_met q (a -ℤ at) (b -ℤ at))
    (k + length (up_to_met q (a -ℤ at) (b -ℤ at))) n) e in
    record {
      is = here ∙ pass_cond k m n (any_met more (a -ℤ now) (b -ℤ now)) x more (a -ℤ at) (b -ℤ at)
          (a -ℤ now) (b -ℤ now) refl some c d h;
      small = omega (arith, p.small, h);
      low = omega (arith, ints, p.low, z, low);
      high = omega (arith, ints, p.high, z, high);
    }

lt_same : (a at : ℤ) → int_lt (pos 0) (a -ℤ at) ≡ int_lt at a
lt_same a at = grind (arith, ints)

reach_nothing : (onto : ℕ) (rest : List (ItemOf Listed)) (a b at : ℤ) (k n i : ℕ)
    → Reaching onto rest a b at k n i → rest ≡ [] → onto ≡ cond (int_lt at a) (k + 0) n
reach_nothing onto rest a b at k n i p e = p.is ∙ ap
    (λ q. cond (any_met q (a -ℤ at) (b -ℤ at)) (k + length (up_to_met q (a -ℤ at) (b -ℤ at))) n) e
    ∙ ap (λ c. cond c (k + 0) n) (lt_same a at)

-- the zone begins after the end of the list, or it doesn't
pub reach_behind : (onto : ℕ) (l : List (ItemOf Listed)) (a b at : ℤ) (k n i m : ℕ)
    → Reaching onto (drop i l) a b at k n i → length l ≤ i → int_lt at a ≡ true → m ≡ k → m ≡ onto
reach_behind onto l a b at k n i m p h e f =
    let z : onto ≡ k + 0 = reach_nothing onto (drop i l) a b at k n i p (none_left l i h)
    ∙ cond_true (int_lt at a) (k + 0) n e in
    omega (arith, z, f)

pub reach_end : (onto : ℕ) (l : List (ItemOf Listed)) (a b at : ℤ) (k n i : ℕ)
    → Reaching onto (drop i l) a b at k n i → length l ≤ i → int_lt at a ≡ false → n ≡ onto
reach_end onto l a b at k n i p h e = sym (reach_nothing onto (drop i l) a b at k n i p
    (none_left l i h) ∙ cond_false (int_lt at a) (k + 0) n e)

-- what begins after all that the zone reaches isn't met, nor is what follows
pub reach_over : (onto : ℕ) (l : List (ItemOf Listed)) (a b at t u : ℤ) (k n i : ℕ)
    → Reaching onto (drop i l) a b at k n i → a ≤ℤ b → int_lt t u ≡ true → t ≡ b
    → u ≡ at -ℤ pos (reach_in l) → n ≡ onto
reach_over onto l a b at t u k n i p z e f g =
    let late = lt_is t u e in
    let none : any_met (drop i l) (a -ℤ at) (b -ℤ at) ≡ false =
    late_none (drop i l) (a -ℤ at) (b -ℤ at) (reach_in l) (reach_drop l i)
    (omega (arith, ints, z)) (omega (arith, ints, late, f, g)) in
    sym (p.is ∙ cond_false (any_met (drop i l) (a -ℤ at) (b -ℤ at)) _ n none)

-- ---- where the touched ones begin

one_ahead : (x : ItemOf Listed) (l : List (ItemOf Listed)) (a b : ℤ) (c : Bool) → is_met x a b ≡ c
    → length (ahead l (a -ℤ ticks x) (b -ℤ ticks x)) ≤ length l
    → length (ahead (x ∷ l) a b) ≤ length (x ∷ l)
one_ahead x l a b true e i = let q : ahead (x ∷ l) a b ≡ [] = rw e refl in
    let n : length (ahead (x ∷ l) a b) ≡ 0 = ap length q in omega (arith, n)
one_ahead x l a b false e i = let q : ahead (x ∷ l) a b ≡ x
    ∷ ahead l (a -ℤ ticks x) (b -ℤ ticks x) = rw e refl in let n = ap length q in
    omega (arith, n, i)

pub ahead_count : (l : List (ItemOf Listed)) (a b : ℤ) → length (ahead l a b) ≤ length l
ahead_count [] a b = omega arith
ahead_count (x ∷ l) a b = one_ahead x l a b (is_met x a b) refl
    (ahead_count l (a -ℤ ticks x) (b -ℤ ticks x))

one_onward : (x : ItemOf Listed) (l : List (ItemOf Listed)) (a b : ℤ) (c : Bool) → is_met x a b ≡ c
    → onward l (a -ℤ ticks x) (b -ℤ ticks x) ≡ drop (length (ahead l (a -ℤ ticks x) (b -ℤ ticks x)))
    l → onward (x ∷ l) a b ≡ drop (length (ahead (x ∷ l) a b)) (x ∷ l)
one_onward x l a b true e i = rw e refl
one_onward x l a b false e i = rw e i

pub onward_is : (l : List (ItemOf Listed)) (a b : ℤ) → onward l a b ≡ drop (length (ahead l a b)) l
onward_is [] a b = refl
onward_is (x ∷ l) a b = one_onward x l a b (is_met x a b) refl
    (onward_is l (a -ℤ ticks x) (b -ℤ ticks x))

added_by : (x : ItemOf Listed) (l : List (ItemOf Listed)) (a b : ℤ) (n : ℕ) (c : Bool)
    → is_met x a b ≡ c → pos 0 ≤ℤ ticks x → ticks x ≤ℤ pos 705600000000000000000000
    → (pos 0 ≤ℤ added (ahead l (a -ℤ ticks x) (b -ℤ ticks x)))
    × (added (ahead l (a -ℤ ticks x) (b -ℤ ticks x))
    ≤ℤ pos (length (ahead l (a -ℤ ticks x) (b -ℤ ticks x)) * 705600000000000000000000))
    → (pos 0 ≤ℤ added (ahead (x ∷ l) a b)) × (added (ahead (x ∷ l) a b)
    ≤ℤ pos (length (ahead (x ∷ l) a b) * 705600000000000000000000))
added_by x l a b n true e low high i = let q : ahead (x ∷ l) a b ≡ [] = rw e refl in
    let m : length (ahead (x ∷ l) a b) ≡ 0 = ap length q in let k : added (ahead (x ∷ l) a b)
    ≡ pos 0 = ap added q in (omega (arith, ints, k), omega (arith, ints, k, m))
added_by x l a b n false e low high i =
    let q : ahead (x ∷ l) a b ≡ x ∷ ahead l (a -ℤ ticks x) (b -ℤ ticks x) = rw e refl in
    let m = ap length q in
    let k : added (ahead (x ∷ l) a b) ≡ ticks x +ℤ added (ahead l (a -ℤ ticks x) (b -ℤ ticks x)) =
    ap added q in
    (omega (arith, ints, k, low, i.0), omega (arith, ints, k, m, high, i.1))

-- what stands ahead isn't too long
pub added_ahead : (l : List (ItemOf Listed)) (a b : ℤ) → AreShort l
    → (pos 0 ≤ℤ added (ahead l a b)) × (added (ahead l a b)
    ≤ℤ pos (length (ahead l a b) * 705600000000000000000000))
added_ahead [] a b h = (omega (arith, ints), omega (arith, ints))
added_ahead (x ∷ l) a b h = added_by x l a b 0 (is_met x a b) refl (omega (arith, ints))
    (h 0 x refl).short (added_ahead l (a -ℤ ticks x) (b -ℤ ticks x) (λ i y e. h (suc i) y e))

-- the touched ones, sought from the first on
pub reach_touched : (l rest : List (ItemOf Listed)) (a b at : ℤ) (n : ℕ) → AreShort l
    → n ≡ length (ahead l a b) → at ≡ added (ahead l a b) → rest ≡ drop n l
    → Reaching (length (touched l a b)) rest a b at 0 0 n
reach_touched l rest a b at n h e f g =
    let bounds = added_ahead l a b h in
    let same : onward l a b ≡ rest = onward_is l a b ∙ ap (λ k. drop k l) (sym e) ∙ sym g in
    let onto : length (touched l a b) ≡ length (up_to_met rest (a -ℤ at) (b -ℤ at)) =
    ap (λ q. length (up_to_met q (a -ℤ added (ahead l a b)) (b -ℤ added (ahead l a b)))) same
    ∙ ap (λ k. length (up_to_met rest (a -ℤ k) (b -ℤ k))) (sym f) in
    reach_first _ rest a b at n onto (omega (arith, ints, bounds.0, f))
    (omega (arith, ints, bounds.1, e, f))

-- the same, with each number by an equation
pub reach_as : (l rest : List (ItemOf Listed)) (a b at u v s : ℤ) (n k : ℕ) → AreShort l
    → n ≡ length (ahead l a b) → at ≡ added (ahead l a b) → rest ≡ drop n l → u ≡ a → v ≡ b → s ≡ at
    → k ≡ 0
    → Reaching (length (touched l u v)) rest u v s k 0 n
reach_as l rest a b at u v s n k h e f g i j m o =
    subst (λ x. Reaching (length (touched l x v)) rest x v s k 0 n) (sym i)
    (subst (λ x. Reaching (length (touched l a x)) rest a x s k 0 n) (sym j)
    (subst (λ x. Reaching (length (touched l a b)) rest a b x k 0 n) (sym m)
    (subst (λ x. Reaching (length (touched l a b)) rest a b at x 0 n) (sym o)
    (reach_touched l rest a b at n h e f g))))

pub met_as : (onto : ℕ) (rest more : List (ItemOf Listed)) (a b at now : ℤ) (k n i m q : ℕ)
    (x : ItemOf Listed) (r : Bool) → Reaching onto rest a b at k n i → rest ≡ x ∷ more
    → r ≡ is_met x (a -ℤ at) (b -ℤ at) → r ≡ true → m ≡ k + 1
    → now ≡ at +ℤ ticks x → pos 0 ≤ℤ ticks x → ticks x ≤ℤ pos 705600000000000000000000 → q ≡ m
    → Reaching onto more a b now m q (i + 1)
met_as onto rest more a b at now k n i m q x r p e f g h z low high o =
    subst (λ y. Reaching onto more a b now m y (i + 1)) (sym o)
    (reach_met onto rest more a b at now k n i m x r p e f g h z low high)

pub pass_as : (onto : ℕ) (rest more : List (ItemOf Listed)) (a b at now : ℤ) (k n i m q : ℕ)
    (x : ItemOf Listed) (r : Bool) → Reaching onto rest a b at k n i → rest ≡ x ∷ more
    → r ≡ is_met x (a -ℤ at) (b -ℤ at) → r ≡ false → m ≡ k + 1
    → now ≡ at +ℤ ticks x → pos 0 ≤ℤ ticks x → ticks x ≤ℤ pos 705600000000000000000000 → q ≡ n
    → Reaching onto more a b now m q (i + 1)
pass_as onto rest more a b at now k n i m q x r p e f g h z low high o =
    subst (λ y. Reaching onto more a b now m y (i + 1)) (sym o)
    (reach_pass onto rest more a b at now k n i m x r p e f g h z low high)
