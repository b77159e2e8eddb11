-- Labels as they are written and read.
use Rattle.std.proofs.Common.{◌≡◌, ℕ, ℤ, pos, Bool, List, Some, None, Option, Ok, unsigned_abs, length, sym, ap, subst, arith}
use Rattle.std.proofs.lemmas.Int.{ints}
use Rattle.tick_time.specs.declared.rates.Rate.{Rate}
use Rattle.smpte_tc.specs.declared.modes.Mode.{Mode}
use Rattle.smpte_tc.specs.Modes.{mode_of}
use Rattle.smpte_tc.specs.Laws.{IsPlain}
use Rattle.smpte_tc.specs.Answers.{ReadsAt, WritesAt}
use Rattle.smpte_tc.proofs.WrittenLabels.{written_eleven, written_plain, read_as}
use Rattle.smpte_tc.specs.Frames.{label_frame}
use Rattle.smpte_tc.proofs.FrameLemmas.{frame_read}
use Rattle.edl_text.specs.Columns.{label_text}
use Rattle.edl_list.specs.Labelled.{IsBelowDay}
use Rattle.edl_text.proofs.Days.{text_written}
use Rattle.edl_law.proofs.SolidTexts.{solid_where}
use Rattle.edl_law.proofs.FieldLemmas.{IsField}

label_known : (rate : Rate) (drop : Bool) (n : ℤ) → IsBelowDay rate drop n → WritesAt (mode_of rate drop) n (Ok (label_text rate drop n))
label_known rate drop n h = subst (λ l. WritesAt (mode_of rate drop) n (Ok l)) (text_written rate drop n h.label h.written) h.written

-- a label that is written is a field
pub label_field : (rate : Rate) (drop : Bool) (n : ℤ) → IsBelowDay rate drop n → IsField (label_text rate drop n)
label_field rate drop n h =
    let label = label_text rate drop n in
    let known = label_known rate drop n h in
    let eleven : length label ≡ 11 = written_eleven (mode_of rate drop) n label known in
    record { some = λ none. absurd (omega (arith, eleven, ap length none)); above = solid_where IsPlain (λ b plain. omega (arith, plain.0)) label (written_plain rate drop n label known) }

abs_by : (o : Option Mode) (n : ℤ) (text : List ℕ) → WritesAt o n (Ok text) → pos (unsigned_abs n) ≡ n
abs_by None n text w = absurd (cc)
abs_by (Some mode) n text w = let e = w.1 in omega (arith, ints, e)

-- a frame number of the day isn't negative
pub frame_low : (rate : Rate) (drop : Bool) (n : ℤ) → IsBelowDay rate drop n → pos (unsigned_abs n) ≡ n
frame_low rate drop n h = abs_by (mode_of rate drop) n h.label h.written

-- a label that is written names its number
pub frame_known : (rate : Rate) (drop : Bool) (n : ℤ) → IsBelowDay rate drop n → label_frame rate drop (label_text rate drop n) ≡ Some (unsigned_abs n)
frame_known rate drop n h =
    let label = label_text rate drop n in
    let again = read_as rate drop n label (label_known rate drop n h) in
    sym (frame_read rate drop label n (unsigned_abs n) (subst (λ d. ReadsAt (mode_of rate d) label (Ok n)) (sym again.meant) again.number) (sym (frame_low rate drop n h)))
