-- Children that are passed on the way to a zone, one by one or several at once.
use Rattle.std.proofs.Common.{◌≡◌, refl, sym, subst, ap, ap₂, ◌∙◌, ℕ, zero, suc, ◌+◌, ◌-◌, ◌≤◌}
use Rattle.std.proofs.Common.{◌<◌, ◌^◌, ℤ, pos, ◌+ℤ◌, ◌-ℤ◌, ◌≤ℤ◌, ◌<ℤ◌, Bool, true, false}
use Rattle.std.proofs.Common.{List, [], ◌∷◌, Some, take, drop, length, slice_get, cond, arith}
use Rattle.std.specs.Prelude.{int_le, IsSomeAnd, ◌&&◌, ◌||◌}
use Rattle.std.proofs.lemmas.Int.{ints}
use Rattle.std.proofs.lemmas.List.{drop-drop, length-drop}
use Rattle.std.proofs.Math.Seq.{take-add}
use Rattle.limits.proofs.IntegerSums.{minus-minus as less_more}
use Rattle.otio_model.specs.declared.compositions.ItemOf.{ItemOf}
use Rattle.otio_model.specs.declared.compositions.ItemOf.TheVariants.{Clip, Gap, Transition}
use Rattle.otio_model.specs.declared.compositions.ItemOf.TheVariants.{Stack, Track}
use Rattle.otio_model.specs.declared.compositions.Listed.{Listed}
use Rattle.otio_model.specs.Counts.{count}
use Rattle.otio_model.specs.Lengths.{start_of}
use Rattle.otio_model.specs.Trees.{items_of}
use Rattle.otio_model.specs.declared.quiet.Quiet.{Quiet}
use Rattle.otio_model.specs.declared.seeks.Seat.{Seat}
use Rattle.otio_model.specs.Seats.{IsSeat}
use Rattle.otio_model.specs.Zones.{IsQuiet, NoneReached, crosses, is_reached}
use Rattle.otio_model.proofs.LengthLimits.{few_enough, short_enough}
use Rattle.coord.proofs.Members.{got_below, next}
use Rattle.edits.specs.Children.{ticks}
use Rattle.edits.specs.Edges.{added}
use Rattle.edits.specs.Narrow.{ahead, is_met, touched}
use Rattle.edits_law.proofs.Parted.{added_low}
use Rattle.pieces.specs.Short.{AreShort, IsShort}
use Rattle.pieces.proofs.Grown.{ticks_are}
use Rattle.edit_plans.specs.Parts.{IsFurther, IsMetAt, IsPassed, IsStarted, NoneMet}
use Rattle.edit_plans.proofs.Holding.{start_ticks, sum_ticks, take_more}
use Rattle.edit_plans.proofs.Passing.{Passing, Reaching, added_both, added_taken, ahead_count}
use Rattle.edit_plans.proofs.Passing.{met_as, pass_as, pass_next, reach_pass, reach_touched}
use Rattle.edit_plans.proofs.Reached.{start_inside}

-- ---- none that the zone reaches is met

unreached : (c r s u : Bool) → (c || (s && r)) ≡ false → u ≡ r → ((c || (r && s)) || (s && u)) ≡ false
unreached true r s u e f = absurd (cc e)
unreached false true true u e f = absurd (cc e)
unreached false true false u e f = refl
unreached false false true u e f = f
unreached false false false u e f = refl

reached-met : (x : ItemOf Listed) (a b : ℤ) → is_reached x a b ≡ false → is_met x a b ≡ false
reached-met (Clip c) a b e =
    ap (λ n. int_le (pos 0) b && int_le a n) (ticks_are (Clip c)) ∙ e
reached-met (Gap g) a b e =
    ap (λ n. int_le (pos 0) b && int_le a n) (ticks_are (Gap g)) ∙ e
reached-met (Transition t) a b e =
    unreached (crosses (Transition t) a b) (int_le a (pos 0)) (int_le (pos 0) b)
    (int_le a (ticks (Transition t))) e refl
reached-met (Stack s) a b e =
    ap (λ n. int_le (pos 0) b && int_le a n) (ticks_are (Stack s)) ∙ e
reached-met (Track t) a b e =
    ap (λ n. int_le (pos 0) b && int_le a n) (ticks_are (Track t)) ∙ e

none-met : (l : List (ItemOf Listed)) (a b c d : ℤ) → NoneReached l a b → a ≡ c → b ≡ d
    → NoneMet l c d
none-met [] a b c d h e f = tt
none-met (x ∷ l) a b c d h e f =
    let n = ticks_are x in (
      reached-met x c d (sym (ap₂ (is_reached x) e f) ∙ h.0),
      none-met l _ _ (c -ℤ ticks x) (d -ℤ ticks x) h.1 (omega (arith, ints, e, n))
          (omega (arith, ints, f, n)),
    )

-- ---- first children, and more of them

-- one more
pub passed-next : (l : List (ItemOf Listed)) (i j : ℕ) (at now : ℤ) (x : ItemOf Listed)
    → IsPassed l i at → slice_get l i ≡ Some x → j ≡ i + 1 → now ≡ at +ℤ ticks x → IsPassed l j now
passed-next l i j at now x p e f g =
    let below = got_below l i x e in
    let more = take_more l i x e in
    record {
      within = omega (arith, f, below);
      long = g ∙ ap (λ z. z +ℤ ticks x) p.long ∙ sym more ∙ ap (λ n. added (take n l)) (sym f);
    }

-- they aren't too long
pub passed-near : (l : Listed) (i : ℕ) (at : ℤ) → count l < 2 ^ 32 → AreShort (items_of l)
    → IsPassed (items_of l) i at
    → (pos 0 ≤ℤ at) × (at ≤ℤ pos 100000000000000000000000000000000000)
passed-near l i at few short p =
    let fewer = few_enough l few in
    let there = p.within in
    let long = p.long in
    let low = added_low (take i (items_of l)) in
    let high = added_taken (items_of l) i short in
    (omega (arith, ints, low, long), omega (arith, ints, fewer, there, high, long))

start-near : (l : Listed) (i : ℕ) (at : ℤ) → count l < 2 ^ 32 → at ≡ added (take i (items_of l))
    → (pos 0 ≤ℤ at) × (at <ℤ pos 170141183460469231731687303715884105728)
start-near l i at few e =
    let s = start_ticks l i in
    let inside = start_inside l i in
    let all = short_enough l few in
    (omega (arith, ints, s, e), omega (arith, ints, s, e, inside, all))

-- those before the first that a zone meets
ahead-by : (x : ItemOf Listed) (l : List (ItemOf Listed)) (a b : ℤ) (c : Bool) → is_met x a b ≡ c
    → ahead l (a -ℤ ticks x) (b -ℤ ticks x)
    ≡ take (length (ahead l (a -ℤ ticks x) (b -ℤ ticks x))) l
    → ahead (x ∷ l) a b ≡ take (length (ahead (x ∷ l) a b)) (x ∷ l)
ahead-by x l a b true e h = rw e refl
ahead-by x l a b false e h = rw e (ap (λ q. x ∷ q) h)

ahead-taken : (l : List (ItemOf Listed)) (a b : ℤ) → ahead l a b ≡ take (length (ahead l a b)) l
ahead-taken [] a b = refl
ahead-taken (x ∷ l) a b =
    ahead-by x l a b (is_met x a b) refl (ahead-taken l (a -ℤ ticks x) (b -ℤ ticks x))

pub ahead-passed : (l : List (ItemOf Listed)) (a b at : ℤ) (i : ℕ) → i ≡ length (ahead l a b)
    → at ≡ added (ahead l a b) → IsPassed l i at
ahead-passed l a b at i e f =
    let n = ahead_count l a b in
    record {
      within = omega (arith, e, n);
      long = f ∙ ap added (ahead-taken l a b) ∙ ap (λ m. added (take m l)) (sym e);
    }

-- those that the list's pieces show not to be reached
pub further-quiet : (l : Listed) (u v a b at now : ℤ) (i j : ℕ) (q : Quiet)
    → IsPassed (items_of l) i at → IsQuiet l i u v q → u ≡ a → v ≡ b → j ≡ i + q.count
    → now ≡ at +ℤ q.ticks → IsFurther (items_of l) a b i at j now
further-quiet l u v a b at now i j q p k e f g h =
    let n : j - i ≡ q.count = omega (arith, g) in
    let part : List (ItemOf Listed) = take q.count (drop i (items_of l)) in
    let sum : q.ticks ≡ added part = k.ticks ∙ sum_ticks part in
    let start : pos (start_of l i) ≡ at = start_ticks l i ∙ sym p.long in
    let there = k.within in
    let all = p.within in
    let left = length-drop i (items_of l) in
    record {
      order = omega (arith, g);
      passed = record {
        within = omega (arith, there, all, left, g);
        long = h ∙ ap₂ (λ y z. y +ℤ z) p.long sum ∙ sym (added_both (take i (items_of l)) part)
            ∙ ap added (sym (take-add i q.count (items_of l)))
            ∙ ap (λ m. added (take m (items_of l))) (sym g);
      };
      long = h ∙ ap (λ z. at +ℤ z) sum
          ∙ ap (λ m. at +ℤ added (take m (drop i (items_of l)))) (sym n);
      unmet = subst (λ m. NoneMet (take m (drop i (items_of l))) (a -ℤ at) (b -ℤ at)) (sym n)
          (none-met part _ _ (a -ℤ at) (b -ℤ at) k.none (omega (arith, ints, e, start))
          (omega (arith, ints, f, start)));
    }

-- their ends are numbers of 128 bits
pub quiet-near : (l : Listed) (u v at : ℤ) (i : ℕ) (q : Quiet) → count l < 2 ^ 32
    → IsPassed (items_of l) i at → IsQuiet l i u v q
    → (pos 0 ≤ℤ at) × (pos 0 ≤ℤ q.ticks)
    × ((at +ℤ q.ticks) <ℤ pos 170141183460469231731687303715884105728)
quiet-near l u v at i q few p k =
    let f = further-quiet l u v u v at (at +ℤ q.ticks) i (i + q.count) q p k refl refl refl refl in
    let first = start-near l i at few p.long in
    let last = start-near l (i + q.count) (at +ℤ q.ticks) few f.passed.long in
    let sum = k.ticks in
    (first.0, omega (arith, ints, sum), last.1)

-- ---- what holds of them

-- a child is met or isn't, by another number for where it starts
pub met-as : (x : ItemOf Listed) (a b u v : ℤ) (r : Bool) → r ≡ is_met x (a -ℤ u) (b -ℤ u) → u ≡ v
    → r ≡ is_met x (a -ℤ v) (b -ℤ v)
met-as x a b u v r e f = e ∙ ap (λ z. is_met x (a -ℤ z) (b -ℤ z)) f

-- what holds from one child that isn't met to the next holds after several
by-unmet : (P : List (ItemOf Listed) → ℤ → ℕ → Type 0) (a b : ℤ)
    → ((x : ItemOf Listed) (rest : List (ItemOf Listed)) (at : ℤ) (i : ℕ) → IsShort x
    → is_met x (a -ℤ at) (b -ℤ at) ≡ false → P (x ∷ rest) at i → P rest (at +ℤ ticks x) (i + 1))
    → (rest : List (ItemOf Listed)) (at : ℤ) (i n : ℕ) → AreShort rest → n ≤ length rest
    → NoneMet (take n rest) (a -ℤ at) (b -ℤ at) → P rest at i
    → P (drop n rest) (at +ℤ added (take n rest)) (i + n)
by-unmet P a b step rest at i zero short h none p =
    let z : at ≡ at +ℤ pos 0 = omega (arith, ints) in
    let m : i ≡ i + 0 = omega arith in
    subst (λ y. P rest y (i + 0)) z (subst (P rest at) m p)
by-unmet P a b step [] at i (suc n) short h none p = absurd (omega (arith, h))
by-unmet P a b step (x ∷ rest) at i (suc n) short h none p =
    let later : NoneMet (take n rest) (a -ℤ (at +ℤ ticks x)) (b -ℤ (at +ℤ ticks x)) =
    subst (λ y. NoneMet (take n rest) y (b -ℤ (at +ℤ ticks x))) (less_more a at (ticks x))
    (subst (λ y. NoneMet (take n rest) ((a -ℤ at) -ℤ ticks x) y) (less_more b at (ticks x)) none.1)
    in
    let all = by-unmet P a b step rest (at +ℤ ticks x) (i + 1) n (λ k y e. short (suc k) y e)
    (omega (arith, h)) later (step x rest at i (short 0 x refl) none.0 p) in
    let sum : (at +ℤ ticks x) +ℤ added (take n rest) ≡ at +ℤ (ticks x +ℤ added (take n rest)) =
    omega (arith, ints) in
    let m : (i + 1) + n ≡ i + suc n = omega arith in
    subst (λ y. P (drop n rest) y (i + suc n)) sum
    (subst (P (drop n rest) ((at +ℤ ticks x) +ℤ added (take n rest))) m all)

short-drop : (l : List (ItemOf Listed)) (i : ℕ) → AreShort l → AreShort (drop i l)
short-drop l zero h = h
short-drop [] (suc i) h = h
short-drop (x ∷ l) (suc i) h = short-drop l i (λ k y e. h (suc k) y e)

-- the same of first children and more of them
by-further : (P : List (ItemOf Listed) → ℤ → ℕ → Type 0) (l : List (ItemOf Listed)) (a b at now : ℤ)
    (i j : ℕ) → ((x : ItemOf Listed) (rest : List (ItemOf Listed)) (z : ℤ) (k : ℕ) → IsShort x
    → is_met x (a -ℤ z) (b -ℤ z) ≡ false → P (x ∷ rest) z k → P rest (z +ℤ ticks x) (k + 1))
    → AreShort l → IsFurther l a b i at j now → P (drop i l) at i → P (drop j l) now j
by-further P l a b at now i j step h f p =
    let order = f.order in
    let there = f.passed.within in
    let left = length-drop i l in
    let n : i + (j - i) ≡ j = omega (arith, order) in
    let all = by-unmet P a b step (drop i l) at i (j - i) (short-drop l i h)
    (omega (arith, order, there, left)) f.unmet p in
    subst (λ r. P r now j) (drop-drop (j - i) i l ∙ ap (λ m. drop m l) n)
    (subst (λ z. P (drop (j - i) (drop i l)) z j) (sym f.long)
    (subst (P (drop (j - i) (drop i l)) (at +ℤ added (take (j - i) (drop i l)))) n all))

pub pass-further : (l : List (ItemOf Listed)) (a b at now : ℤ) (i j : ℕ) → AreShort l
    → IsFurther l a b i at j now → Passing l a b (drop i l) at i → Passing l a b (drop j l) now j
pass-further l a b at now i j h f p =
    by-further (Passing l a b) l a b at now i j
    (λ x rest z k s no q. pass_next l (x ∷ rest) rest a b z (z +ℤ ticks x) k x
    (is_met x (a -ℤ z) (b -ℤ z)) q refl refl no refl (omega (arith, ints)) s.short) h f p

pub reach-further : (onto : ℕ) (l : List (ItemOf Listed)) (a b at now : ℤ) (first n i j : ℕ)
    → AreShort l → first ≤ i → IsFurther l a b i at j now
    → Reaching onto (drop i l) a b at (i - first) n i
    → (first ≤ j) × Reaching onto (drop j l) a b now (j - first) n j
reach-further onto l a b at now first n i j h o f p =
    by-further (λ rest z k. (first ≤ k) × Reaching onto rest a b z (k - first) n k) l a b at now i j
    (λ x rest z k s no q. (
      omega (arith, q.0),
      reach_pass onto (x ∷ rest) rest a b z (z +ℤ ticks x) (k - first) n k ((k + 1) - first) x
          (is_met x (a -ℤ z) (b -ℤ z)) q.1 refl refl no (omega (arith, q.0)) refl (omega (arith, ints))
          s.short,
    )) h f (o, p)

-- one child that is met or isn't
pub reach-child : (onto : ℕ) (rest more : List (ItemOf Listed)) (a b at now : ℤ) (k n i m q : ℕ)
    (x : ItemOf Listed) (r : Bool) → Reaching onto rest a b at k n i → rest ≡ x ∷ more
    → r ≡ is_met x (a -ℤ at) (b -ℤ at) → m ≡ k + 1 → now ≡ at +ℤ ticks x
    → ticks x ≤ℤ pos 705600000000000000000000 → q ≡ cond r m n
    → Reaching onto more a b now m q (i + 1)
reach-child onto rest more a b at now k n i m q x true p e f h z high o =
    met_as onto rest more a b at now k n i m q x true p e f refl h z (omega (arith, ints)) high o
reach-child onto rest more a b at now k n i m q x false p e f h z high o =
    pass_as onto rest more a b at now k n i m q x false p e f refl h z (omega (arith, ints)) high o

-- ---- up to a child that is met

-- the touched ones, sought from the first to an index
abbrev Sought : List (ItemOf Listed) → ℤ → ℤ → ℕ → ℕ → ℕ → Type 0
Sought l a b i s n = Reaching (length (touched l a b)) (drop s l) a b (added (take s l)) (s - i) n s

sought-first : (l : List (ItemOf Listed)) (a b : ℤ) (i : ℕ) → AreShort l → i ≡ length (ahead l a b)
    → Sought l a b i i 0
sought-first l a b i short e =
    let none : 0 ≡ i - i = omega arith in
    let long : added (take i l) ≡ added (ahead l a b) =
    ap (λ m. added (take m l)) e ∙ sym (ap added (ahead-taken l a b)) in
    subst (λ k. Reaching (length (touched l a b)) (drop i l) a b (added (take i l)) k 0 i) none
    (reach_touched l (drop i l) a b (added (take i l)) i short e long refl)

sought-next : (l : List (ItemOf Listed)) (a b : ℤ) (i s n q : ℕ) (x : ItemOf Listed) (r : Bool)
    → Sought l a b i s n → i ≤ s → slice_get l s ≡ Some x → IsShort x
    → r ≡ is_met x (a -ℤ added (take s l)) (b -ℤ added (take s l)) → q ≡ cond r ((s + 1) - i) n
    → Sought l a b i (s + 1) q
sought-next l a b i s n q x r p h e short f g =
    reach-child _ (drop s l) (drop (s + 1) l) a b (added (take s l)) (added (take (s + 1) l)) (s - i)
    n s ((s + 1) - i) q x r p (next l s x e) f (omega (arith, h)) (take_more l s x e) short.short g

got : (l : List (ItemOf Listed)) (s : ℕ) → s < length l
    → (x : ItemOf Listed) × (slice_get l s ≡ Some x)
got [] s h = absurd (omega (arith, h))
got (x ∷ l) zero h = (x, refl)
got (x ∷ l) (suc s) h = got l s (omega (arith, h))

sought : (l : List (ItemOf Listed)) (a b : ℤ) (i d s : ℕ) → AreShort l → i ≡ length (ahead l a b)
    → s ≡ i + d → s ≤ length l → (n : ℕ) × Sought l a b i s n
sought l a b i zero s short e f h =
    let same : i ≡ s = omega (arith, f) in
    (0, subst (λ k. Sought l a b i k 0) same (sought-first l a b i short e))
sought l a b i (suc d) s short e f h =
    let same : (i + d) + 1 ≡ s = omega (arith, f) in
    let p = sought l a b i d (i + d) short e refl (omega (arith, f, h)) in
    let x = got l (i + d) (omega (arith, f, h)) in
    let at : ℤ = added (take (i + d) l) in
    let n : ℕ = cond (is_met x.0 (a -ℤ at) (b -ℤ at)) (((i + d) + 1) - i) p.0 in
    let q : Sought l a b i ((i + d) + 1) n =
    sought-next l a b i (i + d) p.0 n x.0 (is_met x.0 (a -ℤ at) (b -ℤ at)) p.1 (omega arith) x.1
    (short (i + d) x.0 x.1) refl refl in
    (n, subst (λ k. Sought l a b i k n) same q)

sought-met : (l : List (ItemOf Listed)) (a b : ℤ) (i s : ℕ) → AreShort l → i ≡ length (ahead l a b)
    → i ≤ s → s < length l → IsMetAt l a b s → Sought l a b i (s + 1) ((s + 1) - i)
sought-met l a b i s short e h k m =
    let x = got l s k in
    let p = sought l a b i (s - i) s short e (omega (arith, h)) (omega (arith, k)) in
    let met : is_met x.0 (a -ℤ added (take s l)) (b -ℤ added (take s l)) ≡ true =
    subst (λ o. IsSomeAnd o
    (λ y. is_met y (a -ℤ added (take s l)) (b -ℤ added (take s l)) ≡ true)) x.1 m in
    sought-next l a b i s p.0 _ x.0 true p.1 h x.1 (short s x.0 x.1) (sym met) refl

sought-by : (l : List (ItemOf Listed)) (a b now : ℤ) (i j d : ℕ) → AreShort l
    → i ≡ length (ahead l a b) → IsStarted l a b i j now → d ≡ j - i → Sought l a b i j (j - i)
sought-by l a b now i j zero short e s f =
    let order = s.order in
    let same : i ≡ j = omega (arith, f, order) in
    let none : 0 ≡ i - i = omega arith in
    subst (λ k. Sought l a b i k (k - i)) same
    (subst (λ n. Sought l a b i i n) none (sought-first l a b i short e))
sought-by l a b now i j (suc d) short e s f =
    let within = s.passed.within in
    let same : (j - 1) + 1 ≡ j = omega (arith, f) in
    subst (λ k. Sought l a b i k (k - i)) same
    (sought-met l a b i (j - 1) short e (omega (arith, f)) (omega (arith, f, within))
    (s.met (omega (arith, f))))

-- the search may begin behind a child that is met
pub reach-started : (l : List (ItemOf Listed)) (a b now u v : ℤ) (i j n : ℕ) → AreShort l
    → i ≡ length (ahead l u v) → IsStarted l a b i j now → a ≡ u → b ≡ v → n ≡ j - i
    → Reaching (length (touched l a b)) (drop j l) a b now (j - i) n j
reach-started l a b now u v i j n short e s f g h =
    let first : i ≡ length (ahead l a b) = e ∙ sym (ap₂ (λ c d. length (ahead l c d)) f g) in
    subst (λ m. Reaching (length (touched l a b)) (drop j l) a b now (j - i) m j) (sym h)
    (subst (λ z. Reaching (length (touched l a b)) (drop j l) a b z (j - i) (j - i) j)
    (sym s.passed.long)
    (sought-by l a b now i j (j - i) short first s refl))

pub seat-passed : (l : Listed) (t : ℤ) (s : Seat) → IsSeat l t s
    → IsPassed (items_of l) s.index s.start
seat-passed l t s h =
    let within = h.within in
    record { within = omega (arith, within); long = h.starts ∙ start_ticks l s.index }

-- those ahead are a start
pub started-ahead : (l : List (ItemOf Listed)) (a b now : ℤ) (i : ℕ) → IsPassed l i now
    → IsStarted l a b i i now
started-ahead l a b now i p = record {
  passed = p;
  order = omega arith;
  met = λ h. absurd (omega (arith, h));
}

-- and so are those up to a child that is met
pub started-met : (l : List (ItemOf Listed)) (a b u v at now : ℤ) (i s j : ℕ) (x : ItemOf Listed)
    (r : Bool) → IsPassed l s at → slice_get l s ≡ Some x → i ≤ s → r ≡ is_met x (u -ℤ at) (v -ℤ at)
    → r ≡ true → u ≡ a → v ≡ b → j ≡ s + 1 → now ≡ at +ℤ ticks x → IsStarted l a b i j now
started-met l a b u v at now i s j x r p e h f g y z k m =
    let last : j - 1 ≡ s = omega (arith, k) in
    let here : is_met x (a -ℤ at) (b -ℤ at) ≡ true =
    sym (ap₂ (λ c d. is_met x (c -ℤ at) (d -ℤ at)) y z) ∙ sym f ∙ g in
    let met : is_met x (a -ℤ added (take s l)) (b -ℤ added (take s l)) ≡ true =
    subst (λ w. is_met x (a -ℤ w) (b -ℤ w) ≡ true) p.long here in
    let there : IsMetAt l a b s = subst (λ o. IsSomeAnd o
    (λ y. is_met y (a -ℤ added (take s l)) (b -ℤ added (take s l)) ≡ true)) (sym e) met in
    record {
      passed = passed-next l s j at now x p e k m;
      order = omega (arith, h, k);
      met = λ _. subst (IsMetAt l a b) (sym last) there;
    }
