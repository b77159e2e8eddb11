-- Fields have one start and one span, and media of a span lie in range.
use Rattle.std.proofs.Common.{◌≡◌, FitsSigned, w64, ◌≤◌, ◌*◌, ◌≤ℤ◌, ◌+◌, ◌+ℤ◌, ◌*ℤ◌, ℕ, ℤ, pos, Bool, true, false, cond, List, Option, Some, None, sym, subst, ◌∙◌, arith}
use Rattle.std.proofs.lemmas.Int.{ints, fits_signed_from_abs}
use Rattle.std.specs.Option.{option_map}
use Rattle.std.specs.Prelude.{◌↔◌, IsTrue, Result, Ok, Err, IfOk, IfErr}
use Rattle.std.specs.Result.{is_ok}
use Rattle.std.proofs.lemmas.Bool.{false≢true}
use Rattle.std.proofs.lemmas.Option.{same_Some}
use Rattle.tick_time.specs.declared.times.Time.{Time}
use Rattle.std.proofs.lemmas.Nat.{mul-le}
use Rattle.std.specs.Str.Parse.{digits_value}
use Rattle.tick_time.specs.Rates.{frame}
use Rattle.tick_time.specs.Times.{IsInRange}
use Rattle.tick_time.specs.declared.rates.Rate.{Rate}
use Rattle.smpte_tc.specs.Frames.{label_frame}
use Rattle.smpte_tc.specs.Words.{is_label_form}
use Rattle.smpte_tc.specs.PointFrames.{IsFrame}
use Rattle.media_rows.specs.Rows.{IsRowInRange}
use Rattle.media_rows.specs.declared.row.MediaRow.{MediaRow}
use Rattle.media_list.specs.Words.{start_frame}
use Rattle.media_list.specs.Lines.{Fields, IsSpanInRange, IsSpan, IsRow}

-- whether so many ticks lie in range is told by whether they make a time
pub range_told : {E : Type 0} (X : E → Type 0) (ticks : ℤ) (r : Result Time E) (b : Bool)
    → b ≡ is_ok r → IfOk r (λ time. time.ticks ≡ ticks)
    → IfErr r (λ e. X e × (IsInRange ticks → ⊥)) → (IsTrue b ↔ IsInRange ticks)
range_told X ticks (Ok time) b same made fault = (
  λ _. subst IsInRange made (record { low = time.low; high = time.high }),
  λ _. same,
)
range_told X ticks (Err e) b same made fault = (
  λ yes. absurd (false≢true (sym same ∙ yes)),
  λ range. absurd (fault.1 range),
)

-- a start says one frame
start_once : (rate : Rate) (field : List ℕ) (a b : ℤ) → start_frame rate field ≡ Some a
    → start_frame rate field ≡ Some b → a ≡ b
start_once rate field a b p q = same_Some a b (sym p ∙ q)

-- fields have one span
pub span_once : (rate : Rate) (f : Fields) (a b n k : ℤ) → IsSpan rate f a n → IsSpan rate f b k
    → (a ≡ b) × (n ≡ k)
span_once rate f a b n k p q =
    (start_once rate f.start a b p.starts q.starts, p.counts ∙ sym q.counts)

-- none where start and length make none
pub span_refused : (rate : Rate) (f : Fields) (a n : ℤ) → start_frame rate f.start ≡ Some a
    → n ≡ pos (digits_value 10 f.count) → (IsSpanInRange rate a n → ⊥)
    → (start count : ℤ) → IsSpan rate f start count → ⊥
span_refused rate f a n starts counts none start count span =
    none (subst (λ x. IsSpanInRange rate x n)
    (start_once rate f.start start a span.starts starts)
    (subst (IsSpanInRange rate start) (span.counts ∙ sym counts) span.range))

-- a start that says no frame has none
pub span_unsaid : (rate : Rate) (f : Fields) → start_frame rate f.start ≡ None
    → (start count : ℤ) → IsSpan rate f start count → ⊥
span_unsaid rate f none start count span =
    let e : None ≡ Some start = sym none ∙ span.starts in cc

mapped_some : (o : Option ℕ) (start : ℤ) → option_map pos o ≡ Some start
    → (n : ℕ) × (start ≡ pos n)
mapped_some None start e = let h : None ≡ Some start = e in absurd (cc)
mapped_some (Some n) start e = (n, sym (same_Some (pos n) start e))

start_by : (rate : Rate) (field : List ℕ) (t : Bool) (start : ℤ)
    → cond t (option_map pos (label_frame rate false field)) (Some (pos (digits_value 10 field)))
    ≡ Some start
    → (n : ℕ) × (start ≡ pos n)
start_by rate field true start e = mapped_some (label_frame rate false field) start e
start_by rate field false start e = (digits_value 10 field, sym (same_Some _ start e))

-- a start isn't negative
start_positive : (rate : Rate) (field : List ℕ) (start : ℤ) → start_frame rate field ≡ Some start
    → (n : ℕ) × (start ≡ pos n)
start_positive rate field start e = start_by rate field (is_label_form field) start e

less_in_range : (a b : ℕ) → a ≤ b → IsInRange (pos b) → IsInRange (pos a)
less_in_range a b le h =
    record { low = omega (arith, ints); high = omega (arith, ints, le, h.high) }

parts_in_range : (start count tick : ℕ) → IsInRange ((pos start +ℤ pos count) *ℤ pos tick)
    → IsInRange (pos start *ℤ pos tick) × IsInRange (pos count *ℤ pos tick)
parts_in_range start count tick h = (
  less_in_range (start * tick) ((start + count) * tick)
      (mul-le start tick (start + count) tick (omega arith) (omega arith)) h,
  less_in_range (count * tick) ((start + count) * tick)
      (mul-le count tick (start + count) tick (omega arith) (omega arith)) h,
)

-- media of a span lie in range, from their start and over their length
pub row_range : (line : List ℕ) (row : MediaRow) → IsRow line row → IsRowInRange row
row_range line row is =
    let span = is.span in
    let start = start_positive row.rate is.fields.start row.start span.starts in
    let count = digits_value 10 is.fields.count in
    let tick = frame row.rate.num row.rate.den in
    let range = parts_in_range start.0 count tick
    (subst (λ n. IsInRange ((pos start.0 +ℤ n) *ℤ pos tick)) span.counts
    (subst (λ a. IsInRange ((a +ℤ row.count) *ℤ pos tick)) start.1 span.range.fits)) in
    record {
      some = omega (arith, ints, span.range.some);
      starts = subst (λ a. IsInRange (a *ℤ pos tick)) (sym start.1) range.0;
      lasts = subst (λ n. IsInRange (n *ℤ pos tick)) (sym span.counts) range.1;
    }

pub span_in_range_where : (rate : Rate) (start count : ℤ) → pos 1 ≤ℤ count
    → IsInRange ((start +ℤ count) *ℤ pos (frame rate.num rate.den))
    → IsSpanInRange rate start count
span_in_range_where rate start count some fits = record { some = some; fits = fits }

-- there is no span where there is no frame
pub no_span_in_range : (rate : Rate) (start count : ℤ) → count ≤ℤ pos 0
    → IsSpanInRange rate start count → ⊥
no_span_in_range rate start count low h = omega (arith, ints, low, h.some)

-- a frame's number is one of 64 bits
pub frame_fits : (n : ℤ) → IsFrame n → FitsSigned w64 n
frame_fits n h =
    subst (FitsSigned w64) (sym h.1) (fits_signed_from_abs w64 (pos h.0) (omega (arith, h.2)))
