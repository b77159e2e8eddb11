-- The rows of tapes by the places of their names.
use Rattle.std.proofs.Common.{◌≡◌, ◌<◌, ◌+◌, ◌-◌, ◌^◌, All, ℕ, zero, suc, Bool, true, false, cond, List, [], ◌∷◌, ◌++◌, map, length, drop, get_or, slice_set, max, min, unsigned_abs, Option, Some, None, Result, Ok, Err, OnOk, position, String, string_bytes, refl, sym, ap, subst, ◌∙◌, arith}
use Rattle.std.specs.List.{list_any, position_from}
use Rattle.std.specs.Str.{bytes_eq}
use Rattle.std.specs.declared.alloc.Global.{Global}
use Rattle.std.proofs.lemmas.Iterator.Adapters.{position_from-zero}
use Rattle.std.proofs.lemmas.List.{length-map}
use Rattle.std.proofs.lemmas.List.Elements.{All-head, All-tail, All-cons, All-push}
use Rattle.tick_time.specs.declared.rates.Rate.{Rate}
use Rattle.media_rows.specs.Rows.{by_reel}
use Rattle.media_rows.specs.declared.row.MediaRow.{MediaRow}
use Rattle.media_list.proofs.LookUps.{AreNames, is_name, reel_of, reels_more}
use Rattle.ale_text.specs.Lines.{Taking}
use Rattle.ale_text.specs.Tables.{IsKept, IsSmallRow, IsSmallTake, first_row, widened, with_taking}
use Rattle.ale_text.specs.Views.{IsTake}
use Rattle.ale_text.specs.declared.rows.Take.{Take}
use Rattle.ale_text.specs.declared.tapes.Tapes.{Tapes}

-- there are as many names as rows
pub as_many : (tapes : Tapes) → IsKept tapes → length tapes.names.keys ≡ length tapes.rows.items
as_many tapes kept =
    sym (length-map tapes.names.keys string_bytes) ∙ ap length kept.names
    ∙ length-map tapes.rows.items reel_of

-- what code took, as plain data
abbrev pub taking_of : (take : Take) → IsSmallTake take → Taking
taking_of take small = record { tape = take.tape.now; start = small.first; end = small.last }

pub is_taking : (take : Take) (small : IsSmallTake take) → IsTake take (taking_of take small)
is_taking take small = record { tape = refl; start = small.start; end = small.end }

-- a new row is small
first_small : (rate : Rate) (take : Take) (small : IsSmallTake take)
    → IsSmallRow (first_row rate (taking_of take small))
first_small rate take small =
    let last = small.small in
    let above = small.above in
    record {
      first = small.first;
      many = small.last - small.first;
      start = refl;
      count = refl;
      small = omega (arith, last, above);
    }

-- and so is one that is widened
widened_small : (t : Taking) (row : MediaRow) → IsSmallRow row → t.start < t.end → t.end < 10 ^ 18
    → IsSmallRow (widened t row)
widened_small t row r above last =
    let start = ap unsigned_abs r.start in
    let many = ap unsigned_abs r.count in
    let small = r.small in
    record {
      first = min (unsigned_abs row.start) t.start;
      many = max (unsigned_abs row.start + unsigned_abs row.count) t.end
          - min (unsigned_abs row.start) t.start;
      start = refl;
      count = refl;
      small = omega (arith, start, many, small, above, last);
    }

-- the row of a new tape behind the others, and its name behind theirs
pub kept_more : (rate : Rate) (take : Take) (small : IsSmallTake take) (old new : Tapes)
    (row : MediaRow) (key : String Global) → IsKept old
    → row ≡ first_row rate (taking_of take small)
    → by_reel take.tape.now old.rows.items ≡ None → string_bytes key ≡ take.tape.now
    → new.names.keys ≡ cond (list_any (is_name (string_bytes key)) old.names.keys) old.names.keys
    (old.names.keys ++ key ∷ [])
    → new.rows.items ≡ old.rows.items ++ row ∷ [] → IsKept new
kept_more rate take small old new row key kept is fresh named keys items =
    let reel : row.reel ≡ take.tape.now = ap reel_of is in
    record {
      names = reels_more key old.names.keys new.names.keys old.rows.items row kept.names
          (ap (λ r. by_reel r old.rows.items) reel ∙ fresh) (named ∙ sym reel) keys
          ∙ ap (map reel_of) (sym items);
      small = subst (All IsSmallRow) (sym items)
          (All-push IsSmallRow old.rows.items row kept.small
          (subst IsSmallRow (sym is) (first_small rate take small)));
    }

-- frames of a tape that no row has go behind the rows
pub goes_behind : (rate : Rate) (t : Taking) (rows : List MediaRow) → by_reel t.tape rows ≡ None
    → with_taking rate t rows ≡ rows ++ first_row rate t ∷ []
goes_behind rate t [] none = refl
goes_behind rate t (row ∷ rows) none =
    by (bytes_eq t.tape row.reel) none (goes_behind rate t rows)
  where
    by : (b : Bool) → cond b (Some row) (by_reel t.tape rows) ≡ None
        → (by_reel t.tape rows ≡ None → with_taking rate t rows ≡ rows ++ first_row rate t ∷ [])
        → cond b (widened t row ∷ rows) (row ∷ with_taking rate t rows)
        ≡ row ∷ (rows ++ first_row rate t ∷ [])
    by true n rest = cc
    by false n rest = ap (λ l. row ∷ l) (rest n)

pub put_last : {X E : Type 0} (r : Result X E) (rate : Rate) (t : Taking)
    (old new : List MediaRow) → by_reel t.tape old ≡ None
    → OnOk r (new ≡ old ++ first_row rate t ∷ []) → OnOk r (new ≡ with_taking rate t old)
put_last (Ok x) rate t old new none h = h ∙ sym (goes_behind rate t old none)
put_last (Err e) rate t old new none h = tt

-- what a place that was looked for from n on gives
abbrev Placed : Rate → Taking → List MediaRow → ℕ → Option ℕ → Type 0
Placed rate t rows n None = Unit {0}
Placed rate t rows n (Some i) = (j : ℕ) × (i ≡ n + j) × (j < length rows)
    × ((new d : MediaRow) → new ≡ widened t (get_or rows j d)
    → slice_set rows j new ≡ with_taking rate t rows)

placed_more : (rate : Rate) (t : Taking) (row : MediaRow) (rows : List MediaRow) (n : ℕ)
    (o : Option ℕ) → bytes_eq t.tape row.reel ≡ false → Placed rate t rows (n + 1) o
    → Placed rate t (row ∷ rows) n o
placed_more rate t row rows n None e h = tt
placed_more rate t row rows n (Some i) e h = (
  suc h.0,
  omega (arith, h.1),
  omega (arith, h.2),
  λ new d is. ap (λ l. row ∷ l) (h.3 new d is)
      ∙ sym (ap (λ b. cond b (widened t row ∷ rows) (row ∷ with_taking rate t rows)) e),
)

placed_by : (rate : Rate) (t : Taking) (k : String Global) (keys : List (String Global))
    (row : MediaRow) (rows : List MediaRow) (n : ℕ) (b : Bool)
    → is_name t.tape k ≡ b → string_bytes k ≡ row.reel
    → Placed rate t rows (n + 1) (position_from (is_name t.tape) (n + 1) keys)
    → Placed rate t (row ∷ rows) n (position_from (is_name t.tape) n (k ∷ keys))
placed_by rate t k keys row rows n true e same h =
    let at : bytes_eq t.tape row.reel ≡ true = sym (ap (bytes_eq t.tape) same) ∙ e in
    rw e (
      0,
      omega arith,
      omega arith,
      λ new d is. ap (λ r. r ∷ rows) is
          ∙ sym (ap (λ b. cond b (widened t row ∷ rows) (row ∷ with_taking rate t rows)) at),
    )
placed_by rate t k keys row rows n false e same h =
    rw e (placed_more rate t row rows n (position_from (is_name t.tape) (n + 1) keys)
    (sym (ap (bytes_eq t.tape) same) ∙ e) h)

placed : (rate : Rate) (t : Taking) (keys : List (String Global)) (rows : List MediaRow) (n : ℕ)
    → AreNames reel_of keys rows
    → Placed rate t rows n (position_from (is_name t.tape) n keys)
placed rate t [] rows n e = tt
placed rate t (k ∷ keys) [] n e = absurd (omega (arith, ap length e))
placed rate t (k ∷ keys) (row ∷ rows) n e =
    placed_by rate t k keys row rows n (is_name t.tape k) refl (ap (λ l. get_or l 0 []) e)
    (placed rate t keys rows (n + 1) (ap (drop 1) e))

-- the row at the place of a tape's name, widened, is put there
pub put_at : (rate : Rate) (t : Taking) (keys : List (String Global)) (rows : List MediaRow)
    (i : ℕ) (new d : MediaRow) → AreNames reel_of keys rows
    → Some i ≡ position (is_name t.tape) keys → new ≡ widened t (get_or rows i d)
    → slice_set rows i new ≡ with_taking rate t rows
put_at rate t keys rows i new d names found is =
    let h : Placed rate t rows 0 (Some i) =
    subst (Placed rate t rows 0) (sym (found ∙ position_from-zero (is_name t.tape) keys))
    (placed rate t keys rows 0 names) in
    let at : i ≡ h.0 = omega (arith, h.1) in
    ap (λ j. slice_set rows j new) at ∙ h.3 new d (is ∙ ap (λ j. widened t (get_or rows j d)) at)

same_reels : (rows : List MediaRow) (i : ℕ) (new d : MediaRow) → new.reel ≡ (get_or rows i d).reel
    → i < length rows → map reel_of (slice_set rows i new) ≡ map reel_of rows
same_reels [] i new d e within = refl
same_reels (row ∷ rows) zero new d e within = ap (λ r. r ∷ map reel_of rows) e
same_reels (row ∷ rows) (suc i) new d e within =
    ap (λ l. row.reel ∷ l) (same_reels rows i new d e (omega (arith, within)))

small_at : (rows : List MediaRow) (i : ℕ) (new : MediaRow) → All IsSmallRow rows → IsSmallRow new
    → All IsSmallRow (slice_set rows i new)
small_at [] i new all small = all
small_at (row ∷ rows) zero new all small =
    All-cons IsSmallRow new rows small (All-tail IsSmallRow row rows all)
small_at (row ∷ rows) (suc i) new all small =
    All-cons IsSmallRow row (slice_set rows i new) (All-head IsSmallRow row rows all)
    (small_at rows i new (All-tail IsSmallRow row rows all) small)

-- a row that is widened in its place keeps the names in theirs
pub kept_at : (t : Taking) (old new : Tapes) (i : ℕ) (row d : MediaRow) → IsKept old
    → i < length old.rows.items → row ≡ widened t (get_or old.rows.items i d)
    → t.start < t.end → t.end < 10 ^ 18
    → new.rows.items ≡ slice_set old.rows.items i row → new.names.keys ≡ old.names.keys
    → IsKept new
kept_at t old new i row d kept within is above last items keys =
    let rows = old.rows.items in
    record {
      names = ap (map string_bytes) keys ∙ kept.names
          ∙ sym (same_reels rows i row d (ap reel_of is) within)
          ∙ ap (map reel_of) (sym items);
      small = subst (All IsSmallRow) (sym items) (small_at rows i row kept.small
          (subst IsSmallRow (sym is) (widened_small t (get_or rows i d) (kept.small i d within) above
          last)));
    }
