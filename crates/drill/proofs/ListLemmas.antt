-- The lines are the media list of the four rows.
use Rattle.std.proofs.Common.{◌≡◌, ◌<◌, ◌+◌, ◌++◌, refl, sym, ap, subst, ◌∙◌, ℕ, List, [], ◌∷◌, map, arith, All, inl, inr}
use Rattle.std.specs.Prelude.{codes, AllPairs, get_or, ◌⊎◌}
use Rattle.std.proofs.lemmas.Fmt.{decimal_digit}
use Rattle.std.proofs.lemmas.Int.{ints}
use Rattle.std.proofs.lemmas.List.Elements.{All-cons, All-nil}
use Rattle.std.proofs.lemmas.List.Kept.{AllPairs-cons}
use Rattle.text_lines.specs.Lines.{ended_lines, last_line, lines_of, without_return}
use Rattle.media_rows.specs.declared.row.MediaRow.{MediaRow}
use Rattle.media_rows.specs.Rows.{AreOther, AreRows, IsRowInRange}
use Rattle.media_list.specs.Lines.{one, tab_fields, field_list}
use Rattle.media_list.specs.Lists.{IsFault, IsMediaList, LinesSay}
use Rattle.media_list.specs.declared.faults.MediaFault.{MediaFault}
use Rattle.media_list.specs.declared.faults.MediaFault.TheVariants.{Memory}
use Rattle.media_list.proofs.OneOutcome.{list_once, list_or_fault}
use Rattle.drill.specs.Media.{row, rows}
use Rattle.drill.proofs.LineLemmas.{fields_with, row_with, says_row}

-- the line of a digit
abbrev line_of : ℕ → List ℕ
line_of d = 82 ∷ d ∷ 9 ∷ 50 ∷ 52 ∷ 9 ∷ 48 ∷ 9 ∷ 49 ∷ 48 ∷ 48 ∷ 48 ∷ 48 ∷ 48 ∷ 9 ∷ 114 ∷ d
    ∷ 46 ∷ 109 ∷ 111 ∷ 118 ∷ []

-- the lines
abbrev pub text : List ℕ
text = line_of 48 ++ 10 ∷ (line_of 49 ++ 10 ∷ (line_of 50 ++ 10 ∷ line_of 51))

abbrev spelled : ℕ → MediaRow
spelled d = row_with (82 ∷ d ∷ []) (114 ∷ d ∷ 46 ∷ 109 ∷ 111 ∷ 118 ∷ [])

row_spelled : (k : ℕ) → k < 10 → spelled (48 + k) ≡ row k
row_spelled k h =
    ap (λ t. row_with (codes "R" ++ t) (codes "r" ++ (t ++ codes ".mov"))) (sym (decimal_digit k h))

-- the reel and the URL of a digit
abbrev reel_of : ℕ → List ℕ
reel_of d = 82 ∷ d ∷ []

abbrev url_of : ℕ → List ℕ
url_of d = 114 ∷ d ∷ 46 ∷ 109 ∷ 111 ∷ 118 ∷ []

abbrev Splits : ℕ → Type 0
Splits d = tab_fields (line_of d) ≡ field_list (fields_with (reel_of d) (url_of d))

splits : Splits 48 × Splits 49 × Splits 50 × Splits 51
unfolding tab_fields
splits = (refl, refl, refl, refl)

lines : lines_of text ≡ line_of 48 ∷ line_of 49 ∷ line_of 50 ∷ line_of 51 ∷ []
unfolding ended_lines last_line without_return
lines = refl

-- the rows, spelled
abbrev spelled_rows : List MediaRow
spelled_rows = spelled 48 ∷ spelled 49 ∷ spelled 50 ∷ spelled 51 ∷ []

same_rows : spelled_rows ≡ rows
same_rows =
    ap (λ r. r ∷ spelled 49 ∷ spelled 50 ∷ spelled 51 ∷ []) (row_spelled 0 (omega arith))
    ∙ ap (λ r. row 0 ∷ r ∷ spelled 50 ∷ spelled 51 ∷ []) (row_spelled 1 (omega arith))
    ∙ ap (λ r. row 0 ∷ row 1 ∷ r ∷ spelled 51 ∷ []) (row_spelled 2 (omega arith))
    ∙ ap (λ r. row 0 ∷ row 1 ∷ row 2 ∷ r ∷ []) (row_spelled 3 (omega arith))

say : LinesSay (line_of 48 ∷ line_of 49 ∷ line_of 50 ∷ line_of 51 ∷ []) spelled_rows
say =
    let a = says_row (line_of 48) (reel_of 48) (url_of 48) refl refl splits.0 refl in
    let b = says_row (line_of 49) (reel_of 49) (url_of 49) refl refl splits.1 refl in
    let c = says_row (line_of 50) (reel_of 50) (url_of 50) refl refl splits.2 refl in
    let d = says_row (line_of 51) (reel_of 51) (url_of 51) refl refl splits.3 refl in (
      spelled 48 ∷ [],
      spelled 49 ∷ spelled 50 ∷ spelled 51 ∷ [],
      refl,
      one (spelled 48) a refl,
      (
        spelled 49 ∷ [],
        spelled 50 ∷ spelled 51 ∷ [],
        refl,
        one (spelled 49) b refl,
        (
          spelled 50 ∷ [],
          spelled 51 ∷ [],
          refl,
          one (spelled 50) c refl,
          (spelled 51 ∷ [], [], refl, one (spelled 51) d refl, refl),
        ),
      ),
    )

other : (d e : ℕ) → d < e → AreOther (spelled d) (spelled e)
other d e l = (
  λ same. absurd (omega (arith, l, ap (λ (t : List ℕ). get_or t 1 0) same)),
  λ same. absurd (omega (arith, l, ap (λ (t : List ℕ). get_or t 1 0) same)),
)

-- digits that rise
abbrev Rises : ℕ → List ℕ → Type 0
Rises d [] = Unit {0}
Rises d (e ∷ es) = (d < e) × Rises d es

all_other : (d : ℕ) (es : List ℕ) → Rises d es → All (AreOther (spelled d)) (map spelled es)
all_other d [] h = All-nil (AreOther (spelled d))
all_other d (e ∷ es) h =
    All-cons (AreOther (spelled d)) (spelled e) (map spelled es) (other d e h.0)
    (all_other d es h.1)

none_apart : AllPairs {X = MediaRow} AreOther []
none_apart = λ i j d less within. absurd (omega (arith, within))

more_apart : (d : ℕ) (es : List ℕ) → Rises d es → AreRows (map spelled es)
    → AreRows (map spelled (d ∷ es))
more_apart d es h rest =
    AllPairs-cons AreOther (spelled d) (map spelled es) (all_other d es h) rest

apart : AreRows spelled_rows
apart =
    more_apart 48 (49 ∷ 50 ∷ 51 ∷ []) (omega arith, (omega arith, (omega arith, tt)))
    (more_apart 49 (50 ∷ 51 ∷ []) (omega arith, (omega arith, tt))
    (more_apart 50 (51 ∷ []) (omega arith, tt) (more_apart 51 [] tt none_apart)))

-- the text is the media list of the rows
pub is_list : IsMediaList text rows
is_list = subst (IsMediaList text) same_rows (record {
  small = omega arith;
  say = subst (λ l. LinesSay l spelled_rows) (sym lines) say;
  apart = apart;
})

-- their media lie within a million seconds of 0
row_ranged : (k : ℕ) → IsRowInRange (row k)
row_ranged k = record {
  some = omega (arith, ints);
  starts = record { low = omega (arith, ints); high = omega (arith, ints) };
  lasts = record { low = omega (arith, ints); high = omega (arith, ints) };
}

pub rows_ranged : All IsRowInRange rows
rows_ranged =
    All-cons IsRowInRange (row 0) (row 1 ∷ row 2 ∷ row 3 ∷ []) (row_ranged 0)
    (All-cons IsRowInRange (row 1) (row 2 ∷ row 3 ∷ []) (row_ranged 1)
    (All-cons IsRowInRange (row 2) (row 3 ∷ []) (row_ranged 2)
    (All-cons IsRowInRange (row 3) [] (row_ranged 3) (All-nil IsRowInRange))))

-- reading the text fails for want of memory alone
pub only_memory : (f : MediaFault) → (f ≡ Memory) ⊎ IsFault text f → f ≡ Memory
only_memory f (inl same) = same
only_memory f (inr wrong) = absurd (list_or_fault text rows f is_list wrong)

-- and gives the rows
pub same_list : (list : List MediaRow) → IsMediaList text list → list ≡ rows
same_list list h = list_once text list rows h is_list
