-- Sums over record frames.
use Rattle.std.proofs.Common.{◌≡◌, ◌∙◌, refl, sym, ap, ap₂, subst, inr, ℕ, zero, suc, ◌+◌, ◌<◌, ℤ, pos, ◌+ℤ◌, add-one}
use Rattle.std.specs.Prelude.{Result, Ok, Err, IfOk, OnErr}
use Rattle.std.specs.declared.alloc.AllocError.{AllocError}
use Rattle.otio_model.specs.declared.timelines.Timeline.{Timeline}
use Rattle.coord.specs.Images.{Image, Empty, image}
use Rattle.coord.specs.Programs.{program}
use Rattle.drill.specs.Sums.{numbers_of, sum_shown, child_sum, IsWide, StopsChild}

-- one record frame more
pub one_more : (shows : ℤ → Image) (first sum frame here next : ℤ) (i : ℕ)
    → sum ≡ sum_shown shows first i → frame ≡ first +ℤ pos i → here ≡ numbers_of (shows frame)
    → next ≡ sum +ℤ here → next ≡ sum_shown shows first (i + 1)
one_more shows first sum frame here next i before e f g =
    g ∙ ap₂ (λ (a b : ℤ). a +ℤ b) before (f ∙ ap (λ (z : ℤ). numbers_of (shows z)) e)
    ∙ ap (sum_shown shows first) (sym (add-one i))

-- what shows the same has the same sum
pub same_sum : (shows others : ℤ → Image) (first : ℤ) (n : ℕ)
    → ((frame : ℤ) → shows frame ≡ others frame)
    → sum_shown shows first n ≡ sum_shown others first n
same_sum shows others first n h = ap (λ (f : ℤ → Image). sum_shown f first n) (λ i frame. h frame i)

-- where nothing is ever seen, the sum is 0
pub nothing_seen : (shows : ℤ → Image) (first : ℤ) (n : ℕ) → ((frame : ℤ) → shows frame ≡ Empty)
    → pos 0 ≡ sum_shown shows first n
nothing_seen shows first zero h = refl
nothing_seen shows first (suc i) h =
    ap₂ (λ (a : ℤ) (b : Image). a +ℤ numbers_of b) (nothing_seen shows first i h)
    (sym (h (first +ℤ pos i)))

-- a sum that is the same number
pub sum_then : (r : Result ℤ AllocError) (a b : ℤ) → IfOk r (λ sum. sum ≡ a) → a ≡ b
    → IfOk r (λ sum. sum ≡ b)
sum_then r a b h e = subst (λ (z : ℤ). IfOk r (λ sum. sum ≡ z)) e h

-- ---- why a sum isn't made

-- a sum has more than 128 bits
pub wide_sum : (t : Timeline) (k : ℕ) (first sum frame here : ℤ) (n i : ℕ) → i < n
    → sum ≡ child_sum t k first i → frame ≡ first +ℤ pos i
    → here ≡ numbers_of (image (program t k frame)) → IsWide (sum +ℤ here)
    → StopsChild t k first n
wide_sum t k first sum frame here n i less before e f wide = inr (record {
  after = i;
  within = less;
  wide = inr (subst IsWide
      (one_more (λ (frame : ℤ). image (program t k frame)) first sum frame here (sum +ℤ here) i
      before e f refl) wide);
})

-- a result that stops does for a reason that there is
pub stops : (r : Result ℤ AllocError) (A : Type 0) → A → OnErr r A
stops (Ok sum) A h = tt
stops (Err error) A h = h

-- a result that stops for a reason stops for another one
pub stop_then : (r : Result ℤ AllocError) (A B : Type 0) → OnErr r A → (A → B) → OnErr r B
stop_then (Ok sum) A B h f = tt
stop_then (Err error) A B h f = f h
