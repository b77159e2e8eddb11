-- How a reader goes from line to line.
use Rattle.std.proofs.Common.{◌≡◌, ◌≢◌, ◌≤◌, ◌<◌, ◌+◌, ◌^◌, ◌⊎◌, ◌==◌, inl, inr, ℕ, Bool, true, false, List, [], ◌∷◌, ◌++◌, take, drop, length, Option, Some, None, Result, Ok, Err, IfErr, refl, sym, ap, ap₂, subst, ◌∙◌, length-append, append_assoc, append-nil, arith}
use Rattle.std.proofs.lemmas.Bool.Decides.{nat_tests}
use Rattle.std.proofs.lemmas.List.Elements.{All-nil, All-push}
use Rattle.limits.specs.Limits.{most_bytes}
use Rattle.text_lines.specs.First.{HasNone, IsFirst}
use Rattle.text_lines.specs.Lines.{without_return}
use Rattle.text_lines.proofs.Pieces.{ended_at, last_at, ended_none, last_none}
use Rattle.text_lines.proofs.Splitting.{shorter_behind}
use Rattle.tick_time.specs.declared.rates.Rate.{Rate}
use Rattle.media_rows.specs.declared.row.MediaRow.{MediaRow}
use Rattle.edl_list.specs.Speeds.{day_of}
use Rattle.edl_list.proofs.DayLemmas.{day_paced}
use Rattle.ale_text.specs.Words.{IsBlankLine}
use Rattle.ale_text.specs.Lines.{Taking, Takes, Follows, LineSays, blank, full, RowSays, taken, nothing, GivesRate, IsLineFault}
use Rattle.ale_text.specs.Logs.{LinesSay, IsFault, EndsEarly, MustGoOn, firsts, log_lines, own_line}
use Rattle.ale_text.specs.Tables.{IsKept, IsSmallTake, HasTimecode, IsTimed, Steps, idle, taking, IsSound, Gathers, HasRead, HasEnded, IsOfLog, with_taking}
use Rattle.ale_text.specs.Views.{HasTaken}
use Rattle.ale_text.specs.declared.faults.AleFault.{AleFault}
use Rattle.ale_text.specs.declared.faults.AleFault.TheVariants.{Form, Memory}
use Rattle.ale_text.specs.declared.rows.Take.{Take}
use Rattle.ale_text.specs.declared.sections.Columns.{Columns}
use Rattle.ale_text.specs.declared.sections.Due.{Due}
use Rattle.ale_text.specs.declared.sections.Due.TheVariants.{Heading, Entry, Names, Data, Row}
use Rattle.ale_text.specs.declared.tapes.Tapes.{Tapes}
use Rattle.ale_text.proofs.Gathering.{rows_more}
use Rattle.ale_text.proofs.LabelDays.{frame_in_day}
use Rattle.ale_text.proofs.LogRows.{has_mode}

-- ---- one row

pub day_small : (rate : Rate) → HasTimecode rate → day_of rate < 10 ^ 18
day_small rate h =
    let p = day_paced rate (has_mode rate h) in
    let day = p.day in
    let small = p.small in
    omega (arith, day, small)

pub sound_taking : (rate : Rate) (columns : Columns) (row : List ℕ) (t : Taking) → HasTimecode rate
    → Takes rate columns row t → IsSound rate t
sound_taking rate columns row t timecode takes = record {
  named = takes.named;
  above = takes.above;
  day = frame_in_day rate _ t.end timecode takes.end;
}

-- what code took of a row lies in the day
pub small_take : (rate : Rate) (columns : Columns) (row : List ℕ) (take : Take) → HasTimecode rate
    → HasTaken rate columns row take → IsSmallTake take
small_take rate columns row take timecode h =
    let day = (sound_taking rate columns row h.taking timecode h.takes).day in
    let small = day_small rate timecode in
    record {
      first = h.taking.start;
      last = h.taking.end;
      start = h.is.start;
      end = h.is.end;
      above = h.takes.above;
      small = omega (arith, day, small);
    }

-- a row of frames that were taken
pub takes_row : (rate : Rate) (columns : Columns) (row : List ℕ) (take : Take)
    (old new : List MediaRow) → (IsBlankLine row → ⊥)
    → (h : HasTaken rate columns row take) → new ≡ with_taking rate h.taking old
    → Steps (Row rate columns) row (Row rate columns) old new
takes_row rate columns row take old new not_blank h is =
    taking rate columns h.taking refl
    (full not_blank (taken h.taking h.takes refl, refl)) is

-- and one that doesn't count
pub idles_row : (rate : Rate) (columns : Columns) (row : List ℕ) (rows : List MediaRow)
    → (IsBlankLine row → ⊥) → RowSays rate columns row []
    → Steps (Row rate columns) row (Row rate columns) rows rows
idles_row rate columns row rows not_blank says = idle (full not_blank (says, refl)) refl

-- ---- what is due behind a line

gives_timed : (before behind : Option Rate) (name value : List ℕ)
    → GivesRate before name value behind → IsTimed (Entry before) → IsTimed (Entry behind)
gives_timed (Some rate) behind name value gives timed =
    subst (λ o. IsTimed (Entry o)) (sym gives) timed
gives_timed None (Some rate) name value gives timed = gives.1.timecode
gives_timed None None name value gives timed = tt

follows_timed : (due next : Due) (line : List ℕ) (said : List Taking) → Follows due line said next
    → IsTimed due → IsTimed next
follows_timed Heading next line said f timed = subst IsTimed (sym f.2) tt
follows_timed (Entry before) Heading line said f timed = absurd f
follows_timed (Entry before) (Entry behind) line said f timed =
    gives_timed before behind f.0.name f.0.value f.0.gives timed
follows_timed (Entry before) (Names rate) line said f timed =
    subst (λ o. IsTimed (Entry o)) f.1 timed
follows_timed (Entry before) (Data rate columns) line said f timed = absurd f
follows_timed (Entry before) (Row rate columns) line said f timed = absurd f
follows_timed (Names rate) Heading line said f timed = absurd f
follows_timed (Names rate) (Entry behind) line said f timed = absurd f
follows_timed (Names rate) (Names other) line said f timed = absurd f
follows_timed (Names rate) (Data same columns) line said f timed =
    subst HasTimecode (sym f.1) timed
follows_timed (Names rate) (Row other columns) line said f timed = absurd f
follows_timed (Data rate columns) next line said f timed = subst IsTimed (sym f.2) timed
follows_timed (Row rate columns) next line said f timed = subst IsTimed (sym f.1) timed

-- a rate that is known has timecode
pub says_timed : (due next : Due) (line : List ℕ) (said : List Taking) → LineSays due line said next
    → IsTimed due → IsTimed next
says_timed due next line said (blank is none same) timed = subst IsTimed (sym same) timed
says_timed due next line said (full not f) timed = follows_timed due next line said f timed

-- ---- the rows behind a line

empty_gathers : (due : Due) → Gathers due [] []
unfolding firsts
empty_gathers Heading = (refl, refl)
empty_gathers (Entry rate) = (refl, refl)
empty_gathers (Names rate) = (refl, refl)
empty_gathers (Data rate columns) = (refl, refl)
empty_gathers (Row rate columns) = (refl, All-nil (IsSound rate))

emptied : (due : Due) (takings : List Taking) (rows : List MediaRow) → takings ≡ [] → rows ≡ []
    → Gathers due takings rows
emptied due takings rows none no_rows =
    subst (λ l. Gathers due l rows) (sym none)
    (subst (Gathers due []) (sym no_rows) (empty_gathers due))

pub row_stays : (rate : Rate) (columns : Columns) (line : List ℕ) (said : List Taking) (next : Due)
    → LineSays (Row rate columns) line said next → next ≡ Row rate columns
row_stays rate columns line said next (blank is none same) = same
row_stays rate columns line said next (full not f) = f.1

idles : (due next : Due) (line : List ℕ) (takings : List Taking) (rows : List MediaRow)
    → Gathers due takings rows → LineSays due line [] next → Gathers next takings rows
idles Heading next line takings rows g says = emptied next takings rows g.0 g.1
idles (Entry rate) next line takings rows g says = emptied next takings rows g.0 g.1
idles (Names rate) next line takings rows g says = emptied next takings rows g.0 g.1
idles (Data rate columns) next line takings rows g says = emptied next takings rows g.0 g.1
idles (Row rate columns) next line takings rows g says =
    subst (λ d. Gathers d takings rows) (sym (row_stays rate columns line [] next says)) g

first_of : (a b : Taking) → a ∷ [] ≡ b ∷ [] → b ≡ a
first_of a b e = cc

says_takes : (rate : Rate) (columns : Columns) (line : List ℕ) (t : Taking) (next : Due)
    → LineSays (Row rate columns) line (t ∷ []) next → Takes rate columns line t
says_takes rate columns line t next (blank is none same) =
    absurd (let e : t ∷ [] ≡ [] = none in cc)
says_takes rate columns line t next (full not f) = by f.0
  where
    by : RowSays rate columns line (t ∷ []) → Takes rate columns line t
    by (taken other takes e) =
        subst (Takes rate columns line) (first_of t other e) takes
    by (nothing other lacks none) = absurd (let e : t ∷ [] ≡ [] = none in cc)

-- what a line says, and the rows of all that was said
record StepsOn (due next : Due) (line : List ℕ) (takings : List Taking)
    (new : List MediaRow) : Type 0 where
  here : List Taking
  says : LineSays due line here next
  gathered : Gathers next (takings ++ here) new

steps_on : (due next : Due) (line : List ℕ) (takings : List Taking) (old new : List MediaRow)
    → IsTimed due → Gathers due takings old → Steps due line next old new
    → StepsOn due next line takings new
steps_on due next line takings old new timed g (idle says same) = record {
  here = [];
  says = says;
  gathered = subst (λ l. Gathers next l new) (sym (append-nil takings))
      (idles due next line takings new (subst (Gathers due takings) (sym same) g) says);
}
steps_on due next line takings old new timed g (taking rate columns t is says put) =
    let row_says : LineSays (Row rate columns) line (t ∷ []) next =
    subst (λ d. LineSays d line (t ∷ []) next) is says in
    let row_g : Gathers (Row rate columns) takings old =
    subst (λ d. Gathers d takings old) is g in
    let timecode : HasTimecode rate = subst IsTimed is timed in
    let sound = sound_taking rate columns line t timecode
    (says_takes rate columns line t next row_says) in
    let behind : Gathers (Row rate columns) (takings ++ t ∷ []) new = (
      put ∙ ap (with_taking rate t) row_g.0 ∙ rows_more rate takings t row_g.1,
      All-push (IsSound rate) takings t row_g.1 sound,
    ) in
    record {
      here = t ∷ [];
      says = says;
      gathered = subst (λ d. Gathers d (takings ++ t ∷ []) new)
          (sym (row_stays rate columns line (t ∷ []) next row_says)) behind;
    }

-- ---- all lines

-- lines that stand one after the other
pub say_more : (due mid last : Due) (lines more : List (List ℕ)) (a b : List Taking)
    → LinesSay due lines a mid → LinesSay mid more b last → LinesSay due (lines ++ more) (a ++ b) last
say_more due mid last [] more a b p q =
    subst (λ l. LinesSay due more (l ++ b) last) (sym p.0)
    (subst (λ d. LinesSay d more b last) p.1 q)
say_more due mid last (line ∷ lines) more a b p q = (
  p.0,
  p.1 ++ b,
  p.2,
  ap (λ l. l ++ b) p.3 ∙ append_assoc p.0 p.1 b,
  p.4,
  say_more p.2 mid last lines more p.1 b p.5 q,
)

say_one : (due next : Due) (line : List ℕ) (here : List Taking) → LineSays due line here next
    → LinesSay due (line ∷ []) here next
say_one due next line here says = (here, [], next, sym (append-nil here), says, (refl, refl))

-- the first line of a log, and those behind it
lines_first : (rest : List ℕ) (end : ℕ) → IsFirst 10 rest end
    → log_lines rest ≡ without_return (take end rest) ∷ log_lines (drop (end + 1) rest)
lines_first rest end f =
    ap log_lines f.split
    ∙ ap₂ (λ l b. l ++ own_line b) (ended_at (take end rest) (drop (end + 1) rest) f.before)
    (last_at (take end rest) (drop (end + 1) rest) f.before)

lines_last : (rest : List ℕ) → HasNone 10 rest → log_lines rest ≡ own_line rest
lines_last rest none = ap₂ (λ l b. l ++ own_line b) (ended_none rest none) (last_none rest none)

-- before the first line
pub starts : (bytes : List ℕ) (tapes : Tapes) → tapes.rows.items ≡ [] → IsKept tapes
    → length bytes ≤ most_bytes → HasRead bytes bytes 1 Heading tapes
starts bytes tapes none kept small = record {
  before = [];
  takings = [];
  lines = refl;
  say = (refl, refl);
  counts = refl;
  room = omega (arith, small);
  kept = kept;
  timed = tt;
  gathered = (refl, none);
}

-- behind a line that has an end
pub goes_on : (bytes rest behind line : List ℕ) (number end : ℕ) (due next : Due)
    (old new : Tapes) → HasRead bytes rest number due old → IsFirst 10 rest end
    → line ≡ without_return (take end rest) → behind ≡ drop (end + 1) rest
    → Steps due line next old.rows.items new.rows.items → IsKept new
    → HasRead bytes behind (number + 1) next new
goes_on bytes rest behind line number end due next old new h first here there steps kept =
    let step = steps_on due next line h.takings old.rows.items new.rows.items h.timed h.gathered
    steps in
    let cut : log_lines rest ≡ line ∷ log_lines behind =
    lines_first rest end first ∙ ap (λ l. l ∷ log_lines (drop (end + 1) rest)) (sym here)
    ∙ ap (λ l. line ∷ log_lines l) (sym there) in
    let shorter : length behind < length rest = subst (λ l. length l < length rest) (sym there)
    (shorter_behind 10 rest end first) in
    record {
      before = h.before ++ line ∷ [];
      takings = h.takings ++ step.here;
      lines = h.lines ∙ ap (λ l. h.before ++ l) cut
          ∙ sym (append_assoc h.before (line ∷ []) (log_lines behind));
      say = say_more Heading due next h.before (line ∷ []) h.takings step.here h.say
          (say_one due next line step.here step.says);
      counts = omega (arith, h.counts, length-append h.before (line ∷ []));
      room = omega (arith, h.room, shorter);
      kept = kept;
      timed = says_timed due next line step.here step.says h.timed;
      gathered = step.gathered;
    }

-- a line that is refused is the first that is wrong
goes_wrong : (bytes rest line : List ℕ) (behind : List (List ℕ)) (number : ℕ) (due : Due)
    (tapes : Tapes) (fault : AleFault) → length bytes ≤ most_bytes
    → HasRead bytes rest number due tapes → log_lines rest ≡ line ∷ behind
    → (fault ≡ Memory) ⊎ IsLineFault due number line fault
    → (fault ≡ Memory) ⊎ IsFault bytes fault
goes_wrong bytes rest line behind number due tapes fault small h cut (inl memory) = inl memory
goes_wrong bytes rest line behind number due tapes fault small h cut (inr wrong) = inr (inr (
  small,
  inl (record {
    before = h.before;
    line = line;
    behind = behind;
    split = h.lines ∙ ap (λ l. h.before ++ l) cut;
    said = h.takings;
    due = due;
    say = h.say;
    wrong = subst (λ n. IsLineFault due n line fault) h.counts wrong;
  }),
))

pub ended_wrong : (bytes rest line : List ℕ) (number end : ℕ) (due : Due) (tapes : Tapes)
    (fault : AleFault) → length bytes ≤ most_bytes → HasRead bytes rest number due tapes
    → IsFirst 10 rest end → line ≡ without_return (take end rest)
    → (fault ≡ Memory) ⊎ IsLineFault due number line fault
    → (fault ≡ Memory) ⊎ IsFault bytes fault
ended_wrong bytes rest line number end due tapes fault small h first here wrong =
    goes_wrong bytes rest line (log_lines (drop (end + 1) rest)) number due tapes fault small h
    (lines_first rest end first ∙ ap (λ l. l ∷ log_lines (drop (end + 1) rest)) (sym here)) wrong

own_some : (line : List ℕ) → line ≢ [] → own_line line ≡ line ∷ []
own_some [] some = absurd (some refl)
own_some (b ∷ bytes) some = refl

pub last_wrong : (bytes rest : List ℕ) (number : ℕ) (due : Due) (tapes : Tapes) (fault : AleFault)
    → length bytes ≤ most_bytes → HasRead bytes rest number due tapes → HasNone 10 rest
    → rest ≢ [] → (fault ≡ Memory) ⊎ IsLineFault due number rest fault
    → (fault ≡ Memory) ⊎ IsFault bytes fault
last_wrong bytes rest number due tapes fault small h none some wrong =
    goes_wrong bytes rest rest [] number due tapes fault small h
    (lines_last rest none ∙ own_some rest some) wrong

-- where nothing is left, all lines are read
pub ends_empty : (bytes rest : List ℕ) (number : ℕ) (due : Due) (tapes : Tapes)
    → HasRead bytes rest number due tapes → HasNone 10 rest → rest ≡ []
    → HasEnded bytes number due tapes
ends_empty bytes rest number due tapes h none empty =
    let all : log_lines bytes ≡ h.before =
    h.lines ∙ ap (λ l. h.before ++ l) (lines_last rest none ∙ ap own_line empty)
    ∙ append-nil h.before in
    record {
      takings = h.takings;
      say = subst (λ l. LinesSay Heading l h.takings due) (sym all) h.say;
      counts = h.counts ∙ ap (λ l. length l + 1) (sym all);
      timed = h.timed;
      gathered = h.gathered;
    }

-- and so they are behind the last one
pub ends_behind : (bytes rest : List ℕ) (number : ℕ) (due next : Due) (old new : Tapes)
    → HasRead bytes rest number due old → HasNone 10 rest → rest ≢ []
    → Steps due rest next old.rows.items new.rows.items
    → HasEnded bytes (number + 1) next new
ends_behind bytes rest number due next old new h none some steps =
    let step = steps_on due next rest h.takings old.rows.items new.rows.items h.timed h.gathered
    steps in
    let all : log_lines bytes ≡ h.before ++ rest ∷ [] =
    h.lines ∙ ap (λ l. h.before ++ l) (lines_last rest none ∙ own_some rest some) in
    record {
      takings = h.takings ++ step.here;
      say = subst (λ l. LinesSay Heading l (h.takings ++ step.here) next) (sym all)
          (say_more Heading due next h.before (rest ∷ []) h.takings step.here h.say
          (say_one due next rest step.here step.says));
      counts = omega (arith, h.counts, length-append h.before (rest ∷ []), ap length all);
      timed = says_timed due next rest step.here step.says h.timed;
      gathered = step.gathered;
    }

-- the tapes of a log that has ended behind its rows
pub is_of_log : (bytes : List ℕ) (number : ℕ) (rate : Rate) (columns : Columns) (tapes : Tapes)
    → HasEnded bytes number (Row rate columns) tapes → IsOfLog bytes tapes
is_of_log bytes number rate columns tapes h = record {
  rate = rate;
  columns = columns;
  takings = h.takings;
  say = h.say;
  timecode = h.timed;
  are = h.gathered.0;
  sound = h.gathered.1;
}

-- and why one that has ended before is none
pub ends_early : (bytes : List ℕ) (number : ℕ) (due : Due) (tapes : Tapes)
    → HasEnded bytes number due tapes → MustGoOn due → EndsEarly (log_lines bytes) (Form number)
ends_early bytes number due tapes h more =
    record { said = h.takings; due = due; say = h.say; more = more; is = ap Form h.counts }

-- nothing is left where the length says so, and else something
pub is_empty : (rest : List ℕ) (t : Bool) → t ≡ (length rest == 0) → t ≡ true → rest ≡ []
is_empty [] t same e = refl
is_empty (b ∷ rest) t same e = absurd (grind (arith, nat_tests, same, e))

pub is_some : (rest : List ℕ) (t : Bool) → t ≡ (length rest == 0) → t ≡ false → rest ≢ []
is_some rest t same e none = absurd (grind (arith, nat_tests, same, e, ap length none))

pub too_early : {X : Type 0} (r : Result X AleFault) (bytes : List ℕ) → length bytes ≤ most_bytes
    → IfErr r (EndsEarly (log_lines bytes))
    → IfErr r (λ fault. (fault ≡ Memory) ⊎ IsFault bytes fault)
too_early (Ok x) bytes small h = tt
too_early (Err fault) bytes small h = inr (inr (small, inr h))
