-- The first frame of an event that shows a source frame.
use Rattle.std.proofs.Common.{◌≡◌, refl, sym, ap, ◌∙◌, ℕ, zero, suc, ◌+◌, ◌*◌, ◌/◌, ◌≤◌, ◌<◌, ℤ, pos, ◌+ℤ◌, ◌-ℤ◌, ◌<ℤ◌, Bool, true, false, nat_lt, cond, ◌⊎◌, inl, inr, Some, None, unsigned_abs, FitsSigned, w64, to_z, of_z, arith}
use Rattle.std.specs.Ordering.{int_eq}
use Rattle.std.proofs.lemmas.Bool.Decides.{Decides-int_eq, nat_tests}
use Rattle.std.proofs.lemmas.Int.{ints, to_z-of_z}
use Rattle.std.proofs.lemmas.Nat.{mul-le}
use Rattle.tick_time.specs.declared.rates.Rate.{Rate}
use Rattle.edl_list.specs.declared.list.Side.{Side}
use Rattle.edl_list.specs.Formed.{IsFrame}
use Rattle.edl_list.specs.Speeds.{side_speed}
use Rattle.edl_frames.specs.Shown.{source_frame}
use Rattle.note_text.specs.Belonging.{first_from}
use Rattle.note_text.proofs.SourceFrames.{field}

-- none of the frames from k on shows it
none_from : (rate : Rate) (side : Side) (frame : ℤ) (k left : ℕ)
    → ((j : ℕ) → k ≤ j → j < k + left → source_frame rate side (pos j) ≡ frame → ⊥) → first_from rate side frame k left ≡ None
none_from rate side frame k zero h = refl
none_from rate side frame k (suc left) h =
    by (int_eq (source_frame rate side (pos k)) frame) refl
    (none_from rate side frame (suc k) left (λ j a b. h j (omega (arith, a)) (omega (arith, b))))
  where
    by : (b : Bool) → int_eq (source_frame rate side (pos k)) frame ≡ b → first_from rate side frame (suc k) left ≡ None
        → cond b (Some k) (first_from rate side frame (suc k) left) ≡ None
    by true e m = absurd (h k (omega arith) (omega arith) ((Decides-int_eq (source_frame rate side (pos k)) frame).0 e))
    by false e m = m

-- the frame n is the first from k on that shows it
some_from : (rate : Rate) (side : Side) (frame : ℤ) (k left n : ℕ) → k ≤ n → n < k + left → source_frame rate side (pos n) ≡ frame
    → ((j : ℕ) → k ≤ j → j < n → source_frame rate side (pos j) ≡ frame → ⊥) → first_from rate side frame k left ≡ Some n
some_from rate side frame k zero n low high is h = absurd (omega (arith, low, high))
some_from rate side frame k (suc left) n low high is h =
    by (int_eq (source_frame rate side (pos k)) frame) refl
    (λ less. some_from rate side frame (suc k) left n (omega (arith, less)) (omega (arith, high)) is (λ j a b. h j (omega (arith, a)) b))
  where
    either : k < n ⊎ k ≡ n
    either = split (nat_lt k n) refl
      where
        split : (b : Bool) → nat_lt k n ≡ b → k < n ⊎ k ≡ n
        split true e = inl (let m : k < n = grind (arith, nat_tests, e) in m)
        split false e = inr (let m : k ≡ n = grind (arith, nat_tests, e, low) in m)

    reached : k < n ⊎ k ≡ n → int_eq (source_frame rate side (pos k)) frame ≡ true → k ≡ n
    reached (inl less) e = absurd (h k (omega arith) less ((Decides-int_eq (source_frame rate side (pos k)) frame).0 e))
    reached (inr same) e = same

    later : k < n ⊎ k ≡ n → int_eq (source_frame rate side (pos k)) frame ≡ false → k < n
    later (inl less) e = less
    later (inr same) e =
        let shows : source_frame rate side (pos k) ≡ frame = ap (λ j. source_frame rate side (pos j)) same ∙ is in
        let f : true ≡ false = sym ((Decides-int_eq (source_frame rate side (pos k)) frame).1 shows) ∙ e in absurd (cc f)

    by : (b : Bool) → int_eq (source_frame rate side (pos k)) frame ≡ b → (k < n → first_from rate side frame (suc k) left ≡ Some n)
        → cond b (Some k) (first_from rate side frame (suc k) left) ≡ Some n
    by true e m = ap (λ j. Some j) (reached either e)
    by false e m = m (later either e)

-- the frame that is shown tells how far the side has come
far : (rate : Rate) (side : Side) (frame : ℤ) (ahead j : ℕ) → frame ≡ (side.src_in +ℤ pos ahead) → source_frame rate side (pos j) ≡ frame
    → j * side_speed rate side / 1000000 ≡ ahead
far rate side frame ahead j is shows =
    let e : (side.src_in +ℤ pos (j * side_speed rate side / 1000000)) ≡ (side.src_in +ℤ pos ahead) = shows ∙ is in
    omega (arith, ints, e)

short : (j s ahead : ℕ) → j * s < ahead * 1000000 → j * s / 1000000 ≡ ahead → ⊥
short j s ahead less e = absurd (omega (arith, less, e))

pub found : (rate : Rate) (side : Side) (frame : ℤ) (ahead k left : ℕ) → frame ≡ (side.src_in +ℤ pos ahead) → k < left
    → ((j : ℕ) → j < k → j * side_speed rate side < ahead * 1000000) → k * side_speed rate side / 1000000 ≡ ahead
    → Some k ≡ first_from rate side frame 0 left
found rate side frame ahead k left is within before here =
    sym (some_from rate side frame 0 left k (omega arith) (omega (arith, within)) (ap (λ q. side.src_in +ℤ pos q) here ∙ sym is)
    (λ j low high shows. short j (side_speed rate side) ahead (before j high) (far rate side frame ahead j is shows)))

pub missed_short : (rate : Rate) (side : Side) (frame : ℤ) (ahead k left : ℕ) → frame ≡ (side.src_in +ℤ pos ahead) → left ≤ k
    → ((j : ℕ) → j < k → j * side_speed rate side < ahead * 1000000) → None ≡ first_from rate side frame 0 left
missed_short rate side frame ahead k left is past before =
    sym (none_from rate side frame 0 left (λ j low high shows.
    short j (side_speed rate side) ahead (before j (omega (arith, high, past))) (far rate side frame ahead j is shows)))

over : (j k s ahead : ℕ) → k ≤ j → (0 < s → ahead * 1000000 ≤ k * s) → (k * s / 1000000 ≡ ahead → ⊥) → j * s / 1000000 ≡ ahead → ⊥
over j k zero ahead low there other e = other (let a : k * 0 ≡ 0 = omega arith in let b : j * 0 ≡ 0 = omega arith in ap (λ x. x / 1000000) (a ∙ sym b) ∙ e)
over j k (suc s) ahead low there other e =
    let more = mul-le k (suc s) j (suc s) low (omega arith) in
    let enough = there (omega arith) in
    other (omega (arith, more, enough, e))

pub missed_over : (rate : Rate) (side : Side) (frame : ℤ) (ahead k left : ℕ) → frame ≡ (side.src_in +ℤ pos ahead)
    → ((j : ℕ) → j < k → j * side_speed rate side < ahead * 1000000) → (0 < side_speed rate side → ahead * 1000000 ≤ k * side_speed rate side)
    → (k * side_speed rate side / 1000000 ≡ ahead → ⊥) → None ≡ first_from rate side frame 0 left
missed_over rate side frame ahead k left is before there other =
    sym (none_from rate side frame 0 left (λ j low high shows. by j (nat_lt j k) refl (far rate side frame ahead j is shows)))
  where
    by : (j : ℕ) (b : Bool) → nat_lt j k ≡ b → j * side_speed rate side / 1000000 ≡ ahead → ⊥
    by j true e q = let m : j < k = grind (arith, nat_tests, e) in short j (side_speed rate side) ahead (before j m) q
    by j false e q = let m : k ≤ j = grind (arith, nat_tests, e) in over j k (side_speed rate side) ahead m there other q

pub missed_far : (rate : Rate) (side : Side) (frame : ℤ) (left : ℕ) → side_speed rate side ≤ 1000000000 → left ≤ 5184000
    → ((q : ℕ) → q ≤ 10000000000 → frame ≡ (side.src_in +ℤ pos q) → ⊥) → None ≡ first_from rate side frame 0 left
missed_far rate side frame left slow few h =
    sym (none_from rate side frame 0 left (λ j low high shows.
    let most = mul-le j (side_speed rate side) 5184000 1000000000 (omega (arith, high, few)) slow in
    h (j * side_speed rate side / 1000000) (omega (arith, most)) (sym shows)))

-- how long an event lasts
pub record IsLong (a b : ℤ) : Type 0 where
  pub is : to_z w64 (of_z w64 (to_z w64 (of_z w64 b) -ℤ to_z w64 (of_z w64 a))) ≡ b -ℤ a
  pub few : unsigned_abs (b -ℤ a) < 5184000

pub lasts : (a b : ℤ) (day : ℕ) → day ≤ 5184000 → IsFrame day a → IsFrame day b → a <ℤ b → IsLong a b
lasts a b day small fa fb on =
    let x = field day a small fa in
    let y = field day b small fb in
    let low = fa.low in let high = fb.high in
    record {
      is = rw (x, y) (to_z-of_z w64 (b -ℤ a) (let g : FitsSigned w64 (b -ℤ a) = omega (arith, ints, low, high, small, on) in g));
      few = omega (arith, ints, low, high, small, on);
    }
