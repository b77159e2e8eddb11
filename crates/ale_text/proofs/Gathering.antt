-- The rows of a log, with the frames of one row more.
use Rattle.std.proofs.Common.{◌≡◌, ◌≢◌, ◌≤◌, ◌+◌, ◌-◌, ◌||◌, ℕ, pos, Bool, true, false, cond, All, List, [], ◌∷◌, ◌++◌, map, max, min, codes, refl, sym, ap, ap₂, ◌∙◌, append-nil, arith}
use Rattle.std.specs.Str.{bytes_eq}
use Rattle.std.proofs.lemmas.Bool.{false≢true}
use Rattle.std.proofs.lemmas.List.{map-append}
use Rattle.std.proofs.lemmas.List.Elements.{All-head, All-filter, filter-append}
use Rattle.std.proofs.lemmas.Slice.Eq.{bytes_eq-Decides}
use Rattle.tick_time.specs.declared.rates.Rate.{Rate}
use Rattle.media_rows.specs.declared.row.MediaRow.{MediaRow}
use Rattle.ale_text.specs.Lines.{Taking}
use Rattle.ale_text.specs.Logs.{firsts, least, greatest, of_tape, row_of, log_rows}
use Rattle.ale_text.specs.Tables.{IsSound, first_row, widened, with_taking}
use Rattle.ale_text.proofs.FirstLemmas.{among, AreApart, eq_turned, firsts_among, firsts_apart, firsts_more, same_name}
use Rattle.ale_text.proofs.LeastLemmas.{greatest_first, greatest_more, least_first, least_more}

abbrev pub tape_of : Taking → List ℕ
tape_of t = t.tape

abbrev pub tapes_of : List Taking → List (List ℕ)
tapes_of takings = map tape_of takings

abbrev pub starts_of : List Taking → List ℕ
starts_of takings = map (λ t. t.start) takings

abbrev pub ends_of : List Taking → List ℕ
ends_of takings = map (λ t. t.end) takings

-- the row of a tape from one frame up to another
abbrev spanned : Rate → List ℕ → ℕ → ℕ → MediaRow
spanned rate tape first end = record {
  reel = tape;
  url = codes "tape:" ++ tape;
  rate = rate;
  start = pos first;
  count = pos (end - first);
}

-- the row of these frames of a tape
abbrev row_with : Rate → List ℕ → List Taking → MediaRow
row_with rate tape takings =
    spanned rate tape (least (starts_of takings)) (greatest (ends_of takings))

-- of another tape nothing more was taken
other_tape : (tape : List ℕ) (takings : List Taking) (t : Taking) → bytes_eq tape t.tape ≡ false
    → of_tape tape (takings ++ t ∷ []) ≡ of_tape tape takings
other_tape tape takings t e =
    filter-append (λ x. bytes_eq tape x.tape) takings (t ∷ [])
    ∙ ap (λ b. of_tape tape takings ++ cond b (t ∷ []) []) e
    ∙ append-nil (of_tape tape takings)

-- and of its own tape, these frames
own_tape : (tape : List ℕ) (takings : List Taking) (t : Taking) → bytes_eq tape t.tape ≡ true
    → of_tape tape (takings ++ t ∷ []) ≡ of_tape tape takings ++ t ∷ []
own_tape tape takings t e =
    filter-append (λ x. bytes_eq tape x.tape) takings (t ∷ [])
    ∙ ap (λ b. of_tape tape takings ++ cond b (t ∷ []) []) e

-- a tape that isn't among those of the takings was never taken from
none_taken : (tape : List ℕ) (takings : List Taking) → among tape (tapes_of takings) ≡ false
    → of_tape tape takings ≡ []
none_taken tape [] e = refl
none_taken tape (t ∷ takings) e =
    by (bytes_eq tape t.tape) e (none_taken tape takings)
  where
    by : (b : Bool) → (b || among tape (tapes_of takings)) ≡ false
        → (among tape (tapes_of takings) ≡ false → of_tape tape takings ≡ [])
        → cond b (t ∷ of_tape tape takings) (of_tape tape takings) ≡ []
    by true n rest = absurd (false≢true (sym n))
    by false n rest = rest n

-- and one that is was
pub some_taken : (tape : List ℕ) (takings : List Taking) → among tape (tapes_of takings) ≡ true
    → of_tape tape takings ≢ []
some_taken tape [] e none = absurd (false≢true e)
some_taken tape (t ∷ takings) e none =
    by (bytes_eq tape t.tape) e none (some_taken tape takings)
  where
    by : (b : Bool) → (b || among tape (tapes_of takings)) ≡ true
        → cond b (t ∷ of_tape tape takings) (of_tape tape takings) ≡ []
        → (among tape (tapes_of takings) ≡ true → of_tape tape takings ≢ []) → ⊥
    by true n none rest = cc
    by false n none rest = rest n none

-- frames of sound takings end behind their first
pub least_below : (rate : Rate) (takings : List Taking) → All (IsSound rate) takings
    → least (starts_of takings) ≤ greatest (ends_of takings)
unfolding least greatest
least_below rate [] sound = omega arith
least_below rate (t ∷ takings) sound =
    let here = All-head (IsSound rate) t takings sound in
    omega (
      arith,
      least_first t.start (starts_of takings),
      greatest_first t.end (ends_of takings),
      here.above,
    )

pub sound_of : (rate : Rate) (tape : List ℕ) (takings : List Taking) → All (IsSound rate) takings
    → All (IsSound rate) (of_tape tape takings)
sound_of rate tape takings sound =
    All-filter (λ x. bytes_eq tape x.tape) (IsSound rate) takings sound

-- a row that is widened to further frames of its tape is that of all of them
widens : (rate : Rate) (tape : List ℕ) (takings : List Taking) (t : Taking) → takings ≢ []
    → All (IsSound rate) takings
    → row_with rate tape (takings ++ t ∷ []) ≡ widened t (row_with rate tape takings)
widens rate tape [] t some sound = absurd (some refl)
widens rate tape (x ∷ takings) t some sound =
    let whole = x ∷ takings in
    let low : least (starts_of (whole ++ t ∷ [])) ≡ min (least (starts_of whole)) t.start =
    ap least (map-append (λ y. y.start) whole (t ∷ []))
    ∙ least_more x.start (starts_of takings) t.start in
    let high : greatest (ends_of (whole ++ t ∷ [])) ≡ max (greatest (ends_of whole)) t.end =
    ap greatest (map-append (λ y. y.end) whole (t ∷ []))
    ∙ greatest_more (ends_of whole) t.end in
    let below = least_below rate whole sound in
    let back : least (starts_of whole) + (greatest (ends_of whole) - least (starts_of whole))
    ≡ greatest (ends_of whole) = omega (arith, below) in
    ap₂ (spanned rate tape) low (high ∙ ap (λ n. max n t.end) (sym back))

-- the row of another tape stays
row_other : (rate : Rate) (takings : List Taking) (t : Taking) (tape : List ℕ)
    → bytes_eq tape t.tape ≡ false
    → row_of rate (takings ++ t ∷ []) tape ≡ row_of rate takings tape
row_other rate takings t tape e = ap (row_with rate tape) (other_tape tape takings t e)

-- that of its own tape is widened
row_own : (rate : Rate) (takings : List Taking) (t : Taking) (tape : List ℕ)
    → bytes_eq tape t.tape ≡ true → among tape (tapes_of takings) ≡ true
    → All (IsSound rate) takings
    → row_of rate (takings ++ t ∷ []) tape ≡ widened t (row_of rate takings tape)
row_own rate takings t tape e there sound =
    ap (row_with rate tape) (own_tape tape takings t e)
    ∙ widens rate tape (of_tape tape takings) t (some_taken tape takings there)
    (sound_of rate tape takings sound)

-- and a tape that is new has the row of these frames
row_new : (rate : Rate) (takings : List Taking) (t : Taking)
    → among t.tape (tapes_of takings) ≡ false
    → row_of rate (takings ++ t ∷ []) t.tape ≡ first_row rate t
unfolding least greatest
row_new rate takings t none =
    let same : bytes_eq t.tape t.tape ≡ true = (bytes_eq-Decides t.tape t.tape).1 refl in
    ap (row_with rate t.tape) (own_tape t.tape takings t same
    ∙ ap (λ l. l ++ t ∷ []) (none_taken t.tape takings none))
    ∙ ap (spanned rate t.tape t.start) (omega arith)

-- the rows of tapes among which that of these frames isn't
rows_stay : (rate : Rate) (takings : List Taking) (t : Taking) (names : List (List ℕ))
    → among t.tape names ≡ false
    → map (row_of rate (takings ++ t ∷ [])) names ≡ map (row_of rate takings) names
rows_stay rate takings t [] none = refl
rows_stay rate takings t (name ∷ names) none =
    by (bytes_eq t.tape name) refl none (rows_stay rate takings t names)
  where
    by : (b : Bool) → bytes_eq t.tape name ≡ b → (b || among t.tape names) ≡ false
        → (among t.tape names ≡ false
        → map (row_of rate (takings ++ t ∷ [])) names ≡ map (row_of rate takings) names)
        → row_of rate (takings ++ t ∷ []) name ∷ map (row_of rate (takings ++ t ∷ [])) names
        ≡ row_of rate takings name ∷ map (row_of rate takings) names
    by true e n rest = absurd (false≢true (sym n))
    by false e n rest =
        ap₂ (λ r l. r ∷ l) (row_other rate takings t name (eq_turned t.tape name false e)) (rest n)

-- take its row behind them
put_behind : (rate : Rate) (takings : List Taking) (t : Taking) (names : List (List ℕ))
    → among t.tape names ≡ false
    → with_taking rate t (map (row_of rate takings) names)
    ≡ map (row_of rate takings) names ++ first_row rate t ∷ []
put_behind rate takings t [] none = refl
put_behind rate takings t (name ∷ names) none =
    by (bytes_eq t.tape name) none (put_behind rate takings t names)
  where
    by : (b : Bool) → (b || among t.tape names) ≡ false
        → (among t.tape names ≡ false → with_taking rate t (map (row_of rate takings) names)
        ≡ map (row_of rate takings) names ++ first_row rate t ∷ [])
        → cond b (widened t (row_of rate takings name) ∷ map (row_of rate takings) names)
        (row_of rate takings name ∷ with_taking rate t (map (row_of rate takings) names))
        ≡ row_of rate takings name ∷ (map (row_of rate takings) names ++ first_row rate t ∷ [])
    by true n rest = absurd (false≢true (sym n))
    by false n rest = ap (λ l. row_of rate takings name ∷ l) (rest n)

-- and among rows of distinct tapes that of these frames is widened
widens_one : (rate : Rate) (takings : List Taking) (t : Taking) (names : List (List ℕ))
    → AreApart names → among t.tape names ≡ true → among t.tape (tapes_of takings) ≡ true
    → All (IsSound rate) takings
    → with_taking rate t (map (row_of rate takings) names)
    ≡ map (row_of rate (takings ++ t ∷ [])) names
widens_one rate takings t [] apart there taken sound = absurd (false≢true there)
widens_one rate takings t (name ∷ names) apart there taken sound =
    by (bytes_eq t.tape name) refl there
    (λ among_rest. widens_one rate takings t names apart.1 among_rest taken sound)
  where
    by : (b : Bool) → bytes_eq t.tape name ≡ b → (b || among t.tape names) ≡ true
        → (among t.tape names ≡ true → with_taking rate t (map (row_of rate takings) names)
        ≡ map (row_of rate (takings ++ t ∷ [])) names)
        → cond b (widened t (row_of rate takings name) ∷ map (row_of rate takings) names)
        (row_of rate takings name ∷ with_taking rate t (map (row_of rate takings) names))
        ≡ row_of rate (takings ++ t ∷ []) name ∷ map (row_of rate (takings ++ t ∷ [])) names
    by true e n rest =
        let own = same_name t.tape name e in
        let last : among t.tape names ≡ false = ap (λ x. among x names) own ∙ apart.0 in
        let known : among name (tapes_of takings) ≡ true =
        ap (λ x. among x (tapes_of takings)) (sym own) ∙ taken in
        ap₂ (λ r l. r ∷ l)
        (sym (row_own rate takings t name (eq_turned t.tape name true e) known sound))
        (sym (rows_stay rate takings t names last))
    by false e n rest =
        ap₂ (λ r l. r ∷ l) (sym (row_other rate takings t name (eq_turned t.tape name false e)))
        (rest n)

-- the rows of a log with the frames of one row more
pub rows_more : (rate : Rate) (takings : List Taking) (t : Taking) → All (IsSound rate) takings
    → with_taking rate t (log_rows rate takings) ≡ log_rows rate (takings ++ t ∷ [])
rows_more rate takings t sound =
    by (among t.tape (tapes_of takings)) refl
    ∙ sym (ap (map (row_of rate (takings ++ t ∷ [])))
    (ap firsts (map-append tape_of takings (t ∷ [])) ∙ firsts_more (tapes_of takings) t.tape))
  where
    by : (b : Bool) → among t.tape (tapes_of takings) ≡ b
        → with_taking rate t (log_rows rate takings)
        ≡ map (row_of rate (takings ++ t ∷ []))
        (cond b (firsts (tapes_of takings)) (firsts (tapes_of takings) ++ t.tape ∷ []))
    by true e = widens_one rate takings t (firsts (tapes_of takings))
        (firsts_apart (tapes_of takings)) (firsts_among t.tape (tapes_of takings) ∙ e) e sound
    by false e =
        let none : among t.tape (firsts (tapes_of takings)) ≡ false =
        firsts_among t.tape (tapes_of takings) ∙ e in
        put_behind rate takings t (firsts (tapes_of takings)) none
        ∙ ap₂ (λ l r. l ++ r ∷ [])
        (sym (rows_stay rate takings t (firsts (tapes_of takings)) none))
        (sym (row_new rate takings t e))
        ∙ sym (map-append (row_of rate (takings ++ t ∷ [])) (firsts (tapes_of takings))
        (t.tape ∷ []))
