-- How a reader goes from line to line.
use Rattle.std.proofs.Common.{◌≡◌, ◌+◌, ◌≤◌, ◌<◌, ◌⊎◌, inl, inr, ℕ, List, [], ◌∷◌, ◌++◌, take, drop, length, Result, Ok, Err, OnOk, IfErr, refl, sym, ap, subst, ◌∙◌, length-append, append_assoc, append-nil, arith}
use Rattle.limits.specs.Limits.{most_bytes}
use Rattle.text_lines.specs.First.{HasNone, IsFirst}
use Rattle.text_lines.specs.Lines.{lines_of, without_return}
use Rattle.text_lines.proofs.Splitting.{lines_first, lines_last, shorter_behind}
use Rattle.media_rows.specs.declared.row.MediaRow.{MediaRow}
use Rattle.media_list.specs.declared.table.Table.{Table}
use Rattle.media_list.specs.declared.faults.MediaFault.{MediaFault}
use Rattle.media_list.specs.declared.faults.MediaFault.TheVariants.{Memory}
use Rattle.media_list.specs.Lines.{IsRow, LineSays, one, IsTwice, IsLineFault, twice}
use Rattle.media_list.specs.Lists.{LinesSay, IsMediaList, IsFault}
use Rattle.media_list.specs.Tables.{IsIndexed, HasTaken, HasRead}
use Rattle.media_list.proofs.OneOutcome.{say_more}

-- a row that is put last was said by the line
pub took_row : {X : Type 0} (r : Result X MediaFault) (line : List ℕ) (row : MediaRow)
    (old new : List MediaRow) → IsRow line row
    → OnOk r (new ≡ old ++ row ∷ []) → OnOk r (HasTaken line old new)
took_row (Ok x) line row old new is h = (row ∷ [], h, one row is refl)
took_row (Err fault) line row old new is h = tt

-- and one that isn't is twice
pub twice_row : {X : Type 0} (r : Result X MediaFault) (line : List ℕ) (row : MediaRow)
    (rows : List MediaRow) (n : ℕ) → IsRow line row
    → IfErr r (λ fault. (fault ≡ Memory) ⊎ IsTwice rows n row fault)
    → IfErr r (λ fault. (fault ≡ Memory) ⊎ IsLineFault rows n line fault)
twice_row (Ok x) line row rows n is h = tt
twice_row (Err fault) line row rows n is (inl memory) = inl memory
twice_row (Err fault) line row rows n is (inr w) = inr (twice row is w)

-- before the first line
pub starts : (bytes : List ℕ) (table : Table) → table.rows.items ≡ [] → IsIndexed table
    → length bytes ≤ most_bytes → HasRead bytes bytes 1 table
starts bytes table none indexed small = record {
  before = [];
  lines = refl;
  say = none;
  counts = refl;
  room = omega (arith, small);
  indexed = indexed;
}

say_one : (line : List ℕ) (here : List MediaRow) → LineSays line here → LinesSay (line ∷ []) here
say_one line here says = (here, [], sym (append-nil here), says, refl)

say_on : (before : List (List ℕ)) (line : List ℕ) (old new : List MediaRow) → LinesSay before old
    → HasTaken line old new → LinesSay (before ++ line ∷ []) new
say_on before line old new say took =
    subst (LinesSay (before ++ line ∷ [])) (sym took.1)
    (say_more before (line ∷ []) old took.0 say (say_one line took.0 took.2))

-- behind a line that has an end
pub goes_on : (bytes rest behind line : List ℕ) (number end : ℕ) (old new : Table)
    → HasRead bytes rest number old → IsFirst 10 rest end
    → line ≡ without_return (take end rest) → behind ≡ drop (end + 1) rest
    → HasTaken line old.rows.items new.rows.items → IsIndexed new
    → HasRead bytes behind (number + 1) new
goes_on bytes rest behind line number end old new h first here there took indexed =
    let cut : lines_of rest ≡ line ∷ lines_of behind =
    lines_first rest end first ∙ ap (λ l. l ∷ lines_of (drop (end + 1) rest)) (sym here)
    ∙ ap (λ l. line ∷ lines_of l) (sym there) in
    let shorter : length behind < length rest = subst (λ l. length l < length rest) (sym there)
    (shorter_behind 10 rest end first) in
    record {
      before = h.before ++ line ∷ [];
      lines = h.lines ∙ ap (λ l. h.before ++ l) cut
          ∙ sym (append_assoc h.before (line ∷ []) (lines_of behind));
      say = say_on h.before line old.rows.items new.rows.items h.say took;
      counts = omega (arith, h.counts, length-append h.before (line ∷ []));
      room = omega (arith, h.room, shorter);
      indexed = indexed;
    }

-- a line that is refused is the first that is wrong
pub goes_wrong : (bytes rest line : List ℕ) (behind : List (List ℕ)) (number : ℕ) (table : Table)
    (fault : MediaFault) → length bytes ≤ most_bytes → HasRead bytes rest number table
    → lines_of rest ≡ line ∷ behind → (fault ≡ Memory)
    ⊎ IsLineFault table.rows.items number line fault → (fault ≡ Memory) ⊎ IsFault bytes fault
goes_wrong bytes rest line behind number table fault small h cut (inl memory) = inl memory
goes_wrong bytes rest line behind number table fault small h cut (inr wrong) = inr (inr (
  small,
  record {
    before = h.before;
    line = line;
    behind = behind;
    split = h.lines ∙ ap (λ l. h.before ++ l) cut;
    rows = table.rows.items;
    say = h.say;
    apart = h.indexed.apart;
    wrong = subst (λ n. IsLineFault table.rows.items n line fault) h.counts wrong;
  },
))

pub ended_wrong : (bytes rest line : List ℕ) (number end : ℕ) (table : Table) (fault : MediaFault)
    → length bytes ≤ most_bytes → HasRead bytes rest number table
    → IsFirst 10 rest end → line ≡ without_return (take end rest)
    → (fault ≡ Memory) ⊎ IsLineFault table.rows.items number line fault
    → (fault ≡ Memory) ⊎ IsFault bytes fault
ended_wrong bytes rest line number end table fault small h first here wrong =
    goes_wrong bytes rest line (lines_of (drop (end + 1) rest)) number table fault small h
    (lines_first rest end first ∙ ap (λ l. l ∷ lines_of (drop (end + 1) rest)) (sym here)) wrong

pub last_wrong : (bytes rest : List ℕ) (number : ℕ) (table : Table) (fault : MediaFault)
    → length bytes ≤ most_bytes → HasRead bytes rest number table
    → HasNone 10 rest → (fault ≡ Memory) ⊎ IsLineFault table.rows.items number rest fault
    → (fault ≡ Memory) ⊎ IsFault bytes fault
last_wrong bytes rest number table fault small h none wrong =
    goes_wrong bytes rest rest [] number table fault small h (lines_last rest none) wrong

-- behind the last line the rows are those of all lines
pub ends : (bytes rest : List ℕ) (number : ℕ) (old new : Table) → length bytes ≤ most_bytes
    → HasRead bytes rest number old → HasNone 10 rest
    → HasTaken rest old.rows.items new.rows.items → IsIndexed new → IsMediaList bytes new.rows.items
ends bytes rest number old new small h none took indexed = record {
  small = small;
  say = subst (λ l. LinesSay l new.rows.items)
      (sym (h.lines ∙ ap (λ l. h.before ++ l) (lines_last rest none)))
      (say_on h.before rest old.rows.items new.rows.items h.say took);
  apart = indexed.apart;
}
