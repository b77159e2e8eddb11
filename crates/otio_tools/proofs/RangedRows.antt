-- The media of the rows that were read lie within a million seconds of 0.
use Rattle.std.proofs.Common.{◌≤◌, ◌*◌, ◌+◌, ◌+ℤ◌, ◌*ℤ◌, ℕ, ℤ, pos, Bool, true, false, List, [], ◌∷◌, sym, subst, arith}
use Rattle.std.specs.Prelude.{All, slice_index_or}
use Rattle.std.proofs.lemmas.Int.{ints}
use Rattle.std.proofs.lemmas.Nat.{mul-le}
use Rattle.std.proofs.lemmas.List.Elements.{All-cons, All-nil, All-append}
use Rattle.tick_time.specs.Rates.{frame}
use Rattle.tick_time.specs.Times.{IsInRange}
use Rattle.text_lines.specs.Lines.{lines_of}
use Rattle.media_rows.specs.Rows.{IsRowInRange}
use Rattle.media_rows.specs.declared.row.MediaRow.{MediaRow}
use Rattle.media_list.specs.Lines.{LineSays, nothing, one}
use Rattle.media_list.specs.Lists.{LinesSay}
use Rattle.media_list.specs.Plain.{IsPlainRow}
use Rattle.media_list.proofs.SpanLemmas.{row_range}
use Rattle.ale_text.proofs.PlainRows.{log_plain}
use Rattle.otio_tools.specs.Kept.{AreRowsAs}

less_in_range : (a b : ℕ) → a ≤ b → IsInRange (pos b) → IsInRange (pos a)
less_in_range a b le h =
    let high = h.high in
    record { low = omega (arith, ints); high = omega (arith, ints, le, high) }

-- a row that a line can say
plain_range : (row : MediaRow) → IsPlainRow row → IsRowInRange row
plain_range row p =
    let start = p.start.0 in
    let count = p.count.0 in
    let tick = frame row.rate.num row.rate.den in
    let range : IsInRange (pos ((start + count) * tick)) =
    subst (λ n. IsInRange ((pos start +ℤ n) *ℤ pos tick)) p.count.1
    (subst (λ a. IsInRange ((a +ℤ row.count) *ℤ pos tick)) p.start.1 p.range.fits) in
    let some = p.range.some in
    record {
      some = omega (arith, ints, some);
      starts = subst (λ a. IsInRange (a *ℤ pos tick)) (sym p.start.1)
          (less_in_range (start * tick) ((start + count) * tick)
          (mul-le start tick (start + count) tick (omega arith) (omega arith)) range);
      lasts = subst (λ n. IsInRange (n *ℤ pos tick)) (sym p.count.1)
          (less_in_range (count * tick) ((start + count) * tick)
          (mul-le count tick (start + count) tick (omega arith) (omega arith)) range);
    }

-- the rows of a line, and of lines
line_ranged : (line : List ℕ) (rows : List MediaRow) → LineSays line rows → All IsRowInRange rows
line_ranged line rows (nothing skipped e) =
    subst (All IsRowInRange) (sym e) (All-nil IsRowInRange)
line_ranged line rows (one row is e) =
    subst (All IsRowInRange) (sym e)
    (All-cons IsRowInRange row [] (row_range line row is) (All-nil IsRowInRange))

lines_ranged : (lines : List (List ℕ)) (rows : List MediaRow) → LinesSay lines rows
    → All IsRowInRange rows
lines_ranged [] rows e = subst (All IsRowInRange) (sym e) (All-nil IsRowInRange)
lines_ranged (line ∷ lines) rows h =
    subst (All IsRowInRange) (sym h.2)
    (All-append IsRowInRange h.0 h.1 (line_ranged line h.0 h.3)
    (lines_ranged lines h.1 h.4))

-- rows of a log or of a media list
pub rows_ranged_as : (log : Bool) (bytes : List ℕ) (rows : List MediaRow)
    → AreRowsAs log bytes rows → All IsRowInRange rows
rows_ranged_as true bytes rows h =
    let plain = (log_plain bytes rows h).1 in
    λ k d l. plain_range (slice_index_or rows k d) (plain k d l)
rows_ranged_as false bytes rows h = lines_ranged (lines_of bytes) rows h.say
