-- The rows of a log are plain: a line of a media list can say each.
use Rattle.std.proofs.Common.{◌≡◌, ◌≢◌, ◌≤◌, ◌<◌, ◌-◌, ◌+ℤ◌, ◌*ℤ◌, ◌||◌, ℕ, zero, suc, pos, Bool, true, false, All, List, [], ◌∷◌, ◌++◌, map, codes, length, get_or, refl, sym, ap, subst, arith}
use Rattle.std.specs.Str.{bytes_eq}
use Rattle.std.proofs.lemmas.Bool.{false≢true}
use Rattle.std.proofs.lemmas.Int.{ints}
use Rattle.std.proofs.lemmas.Slice.Eq.{bytes_eq-Decides}
use Rattle.std.proofs.lemmas.List.Elements.{All-append, All-cons, All-filter, All-head, All-nil, All-tail}
use Rattle.tick_time.specs.Rates.{frame}
use Rattle.tick_time.specs.Times.{IsInRange}
use Rattle.tick_time.specs.declared.rates.Rate.{Rate}
use Rattle.text_lines.specs.ReelNames.{IsReelName}
use Rattle.edl_list.specs.Speeds.{day_of}
use Rattle.media_rows.specs.Rows.{AreRows}
use Rattle.media_rows.specs.declared.row.MediaRow.{MediaRow}
use Rattle.media_list.specs.Plain.{IsPlainRow, IsPrinted}
use Rattle.ale_text.specs.Words.{IsTape}
use Rattle.ale_text.specs.Lines.{Taking, LineSays, blank, full, RowSays, taken, nothing, Follows}
use Rattle.ale_text.specs.Logs.{LinesSay, IsLog, firsts, greatest, least, log_lines, of_tape, row_of}
use Rattle.ale_text.specs.Tables.{HasTimecode, IsSound, IsTimed}
use Rattle.ale_text.specs.declared.sections.Columns.{Columns}
use Rattle.ale_text.specs.declared.sections.Due.{Due}
use Rattle.ale_text.specs.declared.sections.Due.TheVariants.{Heading, Entry, Names, Data, Row}
use Rattle.ale_text.proofs.FirstLemmas.{among, same_name}
use Rattle.ale_text.proofs.Gathering.{tapes_of, starts_of, ends_of, some_taken, sound_of}
use Rattle.ale_text.proofs.LeastLemmas.{greatest_first, least_first}
use Rattle.ale_text.proofs.LineByLine.{day_small, row_stays, says_timed, sound_taking}
use Rattle.ale_text.proofs.LogRows.{greatest_in_day, in_day, rows_apart}

-- ---- the takings of a log are sound

-- behind a row rows are due
rows_stay : (rate : Rate) (columns : Columns) (lines : List (List ℕ)) (said : List Taking)
    (last : Due) → LinesSay (Row rate columns) lines said last → last ≡ Row rate columns
rows_stay rate columns [] said last p = p.1
rows_stay rate columns (line ∷ lines) said last p =
    rows_stay rate columns lines p.1 last
    (subst (λ d. LinesSay d lines p.1 last) (row_stays rate columns line p.0 p.2 p.4) p.5)

none_said : (line : List ℕ) (due next : Due) (said : List Taking) → Follows due line said next
    → ((rate : Rate) (columns : Columns) → due ≡ Row rate columns → ⊥) → said ≡ []
none_said line Heading next said f other = f.1
none_said line (Entry before) Heading said f other = absurd f
none_said line (Entry before) (Entry behind) said f other = f.1
none_said line (Entry before) (Names rate) said f other = f.2
none_said line (Entry before) (Data rate columns) said f other = absurd f
none_said line (Entry before) (Row rate columns) said f other = absurd f
none_said line (Names rate) Heading said f other = absurd f
none_said line (Names rate) (Entry behind) said f other = absurd f
none_said line (Names rate) (Names more) said f other = absurd f
none_said line (Names rate) (Data same columns) said f other = f.2
none_said line (Names rate) (Row more columns) said f other = absurd f
none_said line (Data rate columns) next said f other = f.1
none_said line (Row rate columns) next said f other = absurd (other rate columns refl)

no_row_in : (due : Due) (line : List ℕ) (said : List Taking) (next : Due)
    → LineSays due line said next → ((rate : Rate) (columns : Columns) → due ≡ Row rate columns → ⊥)
    → said ≡ []
no_row_in due line said next (blank is none same) other = none
no_row_in due line said next (full not f) other = none_said line due next said f other

row_sound : (rate : Rate) (columns : Columns) (line : List ℕ) (said : List Taking) (next : Due)
    → HasTimecode rate → LineSays (Row rate columns) line said next → All (IsSound rate) said
row_sound rate columns line said next timecode (blank is none same) =
    subst (All (IsSound rate)) (sym none) (All-nil (IsSound rate))
row_sound rate columns line said next timecode (full not f) = by f.0
  where
    by : RowSays rate columns line said → All (IsSound rate) said
    by (taken t takes e) =
        subst (All (IsSound rate)) (sym e) (All-cons (IsSound rate) t []
        (sound_taking rate columns line t timecode takes) (All-nil (IsSound rate)))
    by (nothing other lacks none) =
        subst (All (IsSound rate)) (sym none) (All-nil (IsSound rate))

some_rate : Due → Rate → Rate
some_rate (Row rate columns) other = rate
some_rate Heading other = other
some_rate (Entry rate) other = other
some_rate (Names rate) other = other
some_rate (Data rate columns) other = other

-- what lines say of tapes is sound where rows are due in the end
record SaysSound (rate : Rate) (said : List Taking) : Type 0 where
  timecode : HasTimecode rate
  sound : All (IsSound rate) said

line_sound : (due next : Due) (line : List ℕ) (here : List Taking) (lines : List (List ℕ))
    (others : List Taking) (rate : Rate) (columns : Columns) → IsTimed due
    → LineSays due line here next → LinesSay next lines others (Row rate columns)
    → All (IsSound rate) here
unfolding some_rate
line_sound (Row r c) next line here lines others rate columns timed says rest =
    let stays = row_stays r c line here next says in
    let last = rows_stay r c lines others (Row rate columns)
    (subst (λ d. LinesSay d lines others (Row rate columns)) stays rest) in
    let same : rate ≡ r = ap (λ d. some_rate d rate) last in
    subst (λ x. All (IsSound x) here) (sym same) (row_sound r c line here next timed says)
line_sound Heading next line here lines others rate columns timed says rest =
    subst (All (IsSound rate)) (sym (no_row_in Heading line here next says
    (λ r c e. let h : Heading ≡ Row r c = e in cc))) (All-nil (IsSound rate))
line_sound (Entry o) next line here lines others rate columns timed says rest =
    subst (All (IsSound rate)) (sym (no_row_in (Entry o) line here next says
    (λ r c e. let h : Entry o ≡ Row r c = e in cc))) (All-nil (IsSound rate))
line_sound (Names x) next line here lines others rate columns timed says rest =
    subst (All (IsSound rate)) (sym (no_row_in (Names x) line here next says
    (λ r c e. let h : Names x ≡ Row r c = e in cc))) (All-nil (IsSound rate))
line_sound (Data x y) next line here lines others rate columns timed says rest =
    subst (All (IsSound rate)) (sym (no_row_in (Data x y) line here next says
    (λ r c e. let h : Data x y ≡ Row r c = e in cc))) (All-nil (IsSound rate))

say_sound : (due : Due) (lines : List (List ℕ)) (said : List Taking) (rate : Rate)
    (columns : Columns) → IsTimed due → LinesSay due lines said (Row rate columns)
    → SaysSound rate said
say_sound due [] said rate columns timed p = record {
  timecode = subst IsTimed (sym p.1) timed;
  sound = subst (All (IsSound rate)) (sym p.0) (All-nil (IsSound rate));
}
say_sound due (line ∷ lines) said rate columns timed p =
    let rest = say_sound p.2 lines p.1 rate columns (says_timed due p.2 line p.0 p.4 timed) p.5 in
    record {
      timecode = rest.timecode;
      sound = subst (All (IsSound rate)) (sym p.3) (All-append (IsSound rate) p.0 p.1
          (line_sound due p.2 line p.0 lines p.1 rate columns timed p.4 p.5) rest.sound);
    }

-- ---- the rows are plain

among_more : (tape : List ℕ) (names : List (List ℕ)) (P : List ℕ → Type 0) → All P names
    → among tape names ≡ true → P tape
among_more tape [] P all e = absurd (false≢true e)
among_more tape (name ∷ names) P all e =
    by (bytes_eq tape name) refl e (among_more tape names P (All-tail P name names all))
  where
    by : (t : Bool) → bytes_eq tape name ≡ t → (t || among tape names) ≡ true
        → (among tape names ≡ true → P tape) → P tape
    by true h n rest = subst P (sym (same_name tape name h)) (All-head P name names all)
    by false h n rest = rest n

tapes_named : (rate : Rate) (takings : List Taking) → All (IsSound rate) takings
    → All IsTape (tapes_of takings)
tapes_named rate [] sound = All-nil IsTape
tapes_named rate (t ∷ takings) sound =
    All-cons IsTape t.tape (tapes_of takings) (All-head (IsSound rate) t takings sound).named
    (tapes_named rate takings (All-tail (IsSound rate) t takings sound))

firsts_all : (P : List ℕ → Type 0) (names : List (List ℕ)) → All P names → All P (firsts names)
unfolding firsts
firsts_all P [] all = All-nil P
firsts_all P (name ∷ names) all =
    All-cons P name _ (All-head P name names all)
    (All-filter _ P (firsts names) (firsts_all P names (All-tail P name names all)))

url_printed : (tape : List ℕ) → IsReelName tape → All IsPrinted (codes "tape:" ++ tape)
url_printed tape h =
    All-append IsPrinted (codes "tape:") tape (word 116 (codes "ape:") (omega arith)
    (omega arith) (word 97 (codes "pe:") (omega arith) (omega arith)
    (word 112 (codes "e:") (omega arith) (omega arith)
    (word 101 (codes ":") (omega arith) (omega arith) (word 58 [] (omega arith) (omega arith)
    (All-nil IsPrinted))))))
    (λ k d within. let r = h.prints k d within in (omega (arith, r.0), r.1))
  where
    word : (b : ℕ) (bytes : List ℕ) → 32 ≤ b → b ≤ 126 → All IsPrinted bytes
        → All IsPrinted (b ∷ bytes)
    word b bytes low high all = All-cons IsPrinted b bytes (low, high) all

-- of each tape that is named something was taken
taken_from : (rate : Rate) (tape : List ℕ) (takings : List Taking) → All (IsSound rate) takings
    → among tape (tapes_of takings) ≡ true
    → least (starts_of (of_tape tape takings)) < greatest (ends_of (of_tape tape takings))
unfolding least greatest
taken_from rate tape takings sound there =
    by (of_tape tape takings) (sound_of rate tape takings sound)
    (some_taken tape takings there)
  where
    by : (l : List Taking) → All (IsSound rate) l → l ≢ []
        → least (starts_of l) < greatest (ends_of l)
    by [] all some = absurd (some refl)
    by (t ∷ l) all some =
        let here = (All-head (IsSound rate) t l all).above in
        omega (
          arith,
          here,
          least_first t.start (starts_of l),
          greatest_first t.end (ends_of l),
        )

row_plain : (rate : Rate) (takings : List Taking) (tape : List ℕ) → HasTimecode rate
    → All (IsSound rate) takings → among tape (tapes_of takings) ≡ true
    → IsPlainRow (row_of rate takings tape)
row_plain rate takings tape timecode sound there =
    let named = among_more tape (tapes_of takings) IsTape (tapes_named rate takings sound) there in
    let own = sound_of rate tape takings sound in
    let low = least (starts_of (of_tape tape takings)) in
    let high = greatest (ends_of (of_tape tape takings)) in
    let above : low < high = taken_from rate tape takings sound there in
    let day : high ≤ day_of rate = greatest_in_day rate (of_tape tape takings) own in
    let small = day_small rate timecode in
    let whole : pos low +ℤ pos (high - low) ≡ pos high = omega (arith, ints, above) in
    record {
      reel = named.reel;
      other = named.other;
      url = url_printed tape named.reel;
      start = (low, refl, omega (arith, above, day, small));
      count = (high - low, refl, omega (arith, above, day, small));
      range = record {
        some = omega (arith, ints, above);
        fits = subst (λ z. IsInRange (z *ℤ pos (frame rate.num rate.den))) (sym whole)
            (in_day rate high timecode day);
      };
    }

rows_plain : (rate : Rate) (takings : List Taking) (names : List (List ℕ)) → HasTimecode rate
    → All (IsSound rate) takings → All (λ n. among n (tapes_of takings) ≡ true) names
    → All IsPlainRow (map (row_of rate takings) names)
rows_plain rate takings [] timecode sound there = All-nil IsPlainRow
rows_plain rate takings (name ∷ names) timecode sound there =
    All-cons IsPlainRow (row_of rate takings name) (map (row_of rate takings) names)
    (row_plain rate takings name timecode sound
    (All-head (λ n. among n (tapes_of takings) ≡ true) name names there))
    (rows_plain rate takings names timecode sound
    (All-tail (λ n. among n (tapes_of takings) ≡ true) name names there))

later : (t u : Bool) → u ≡ true → (t || u) ≡ true
later true u e = refl
later false u e = e

-- each name is among the names
all_among : (names : List (List ℕ)) → All (λ n. among n names ≡ true) names
all_among names = λ k d within. by names k d within
  where
    by : (l : List (List ℕ)) (k : ℕ) (d : List ℕ) → k < length l → among (get_or l k d) l ≡ true
    by [] k d within = absurd (omega (arith, within))
    by (n ∷ l) zero d within = ap (λ t. t || among n l) ((bytes_eq-Decides n n).1 refl)
    by (n ∷ l) (suc k) d within =
        later (bytes_eq (get_or l k d) n) (among (get_or l k d) l) (by l k d (omega (arith, within)))

pub log_plain : (bytes : List ℕ) (rows : List MediaRow) → IsLog bytes rows
    → AreRows rows × All IsPlainRow rows
log_plain bytes rows log =
    let s = say_sound Heading (log_lines bytes) log.takings log.rate log.columns tt log.say in
    let plain = rows_plain log.rate log.takings (firsts (tapes_of log.takings)) s.timecode s.sound
    (firsts_all (λ n. among n (tapes_of log.takings) ≡ true) (tapes_of log.takings)
    (all_among (tapes_of log.takings))) in (
      subst AreRows (sym log.are) (rows_apart log.rate log.takings),
      subst (All IsPlainRow) (sym log.are) plain,
    )
