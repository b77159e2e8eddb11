-- The fields between the tabs of a line, and those that are texts.
use Rattle.std.proofs.Common.{◌≡◌, ◌+◌, ◌<◌, ◌==◌, ℕ, Bool, true, false, List, [], ◌∷◌, ◌++◌, IsUtf8, take, drop, length, get_or, refl, sym, ap, subst, ◌∙◌, length-append, arith}
use Rattle.std.specs.List.{onto_first}
use Rattle.std.specs.Str.{IsCharBoundary}
use Rattle.std.proofs.lemmas.Grind.{common_steps}
use Rattle.std.proofs.lemmas.List.Splits.{slice_split_at, slice_split_none, slice_split-cons_yes, slice_split-cons_no, length-slice_split}
use Rattle.std.proofs.lemmas.Str.{IsUtf8-drop, IsUtf8-past_char, IsCharBoundary-before_ascii}
use Rattle.std.proofs.Math.Seq.{drop-append_seam}
use Rattle.text_lines.specs.First.{HasNone, IsFirst}
use Rattle.media_list.specs.Lines.{Fields, field_list, tab_fields}

-- the field before a tab
pub fields_first : (line : List ℕ) (i : ℕ) → IsFirst 9 line i
    → tab_fields line ≡ take i line ∷ tab_fields (drop (i + 1) line)
unfolding tab_fields
fields_first line i f =
    ap tab_fields f.split
    ∙ slice_split_at (λ b. b == 9) (take i line) 9 (drop (i + 1) line) f.before refl

-- the last field
pub fields_last : (line : List ℕ) → HasNone 9 line → tab_fields line ≡ line ∷ []
unfolding tab_fields
fields_last line none = slice_split_none (λ b. b == 9) line none

pub some_field : (line : List ℕ) → 0 < length (tab_fields line)
unfolding tab_fields
some_field line = omega (arith, length-slice_split (λ b. b == 9) line)

-- fields with a tab between
abbrev joined : List (List ℕ) → List ℕ
joined [] = []
joined (field ∷ []) = field
joined (field ∷ next ∷ fields) = field ++ 9 ∷ joined (next ∷ fields)

joined_more : (fields : List (List ℕ)) → 0 < length fields
    → joined ([] ∷ fields) ≡ 9 ∷ joined fields
joined_more [] some = absurd (omega (arith, some))
joined_more (field ∷ fields) some = refl

joined_onto : (b : ℕ) (fields : List (List ℕ)) → 0 < length fields
    → joined (onto_first b fields) ≡ b ∷ joined fields
joined_onto b [] some = absurd (omega (arith, some))
joined_onto b (field ∷ []) some = refl
joined_onto b (field ∷ next ∷ fields) some = refl

join_by : (b : ℕ) (bs : List ℕ) (t : Bool) → (b == 9) ≡ t → joined (tab_fields bs) ≡ bs
    → joined (tab_fields (b ∷ bs)) ≡ b ∷ bs
unfolding tab_fields
join_by b bs true e h =
    let is : b ≡ 9 = grind (arith, e) in
    ap joined (slice_split-cons_yes (λ x. x == 9) b bs e)
    ∙ joined_more (tab_fields bs) (some_field bs)
    ∙ ap (λ l. 9 ∷ l) h ∙ ap (λ x. x ∷ bs) (sym is)
join_by b bs false e h =
    ap joined (slice_split-cons_no (λ x. x == 9) b bs e)
    ∙ joined_onto b (tab_fields bs) (some_field bs)
    ∙ ap (λ l. b ∷ l) h

-- a line is its fields with a tab between
join : (line : List ℕ) → joined (tab_fields line) ≡ line
unfolding tab_fields
join [] = refl
join (b ∷ bs) = join_by b bs (b == 9) refl (join bs)

-- what follows a tab of a text is a text
behind_tab : (xs ys : List ℕ) → IsUtf8 (xs ++ 9 ∷ ys) → IsUtf8 ys
unfolding lib.Utf8.encode
behind_tab xs ys u =
    let within : length xs < length (xs ++ 9 ∷ ys) = omega (arith, length-append xs (9 ∷ ys)) in
    let tab : get_or (xs ++ 9 ∷ ys) (length xs) 0 < 128 = grind (arith, common_steps) in
    let at : IsCharBoundary (xs ++ 9 ∷ ys) (length xs) = IsCharBoundary-before_ascii (xs ++ 9 ∷ ys)
    (length xs) within tab in
    let behind : IsUtf8 (9 ∷ ys) = subst IsUtf8 (drop-append_seam xs (9 ∷ ys))
    (IsUtf8-drop (xs ++ 9 ∷ ys) (length xs) u at) in
    IsUtf8-past_char (9 ∷ ys) ys 9 behind refl

-- the URL of a text is a text
pub url_is_text : (line : List ℕ) (f : Fields) → IsUtf8 line → tab_fields line ≡ field_list f
    → IsUtf8 f.url
url_is_text line f u e =
    let whole : IsUtf8 (joined (field_list f)) = subst IsUtf8 (sym (join line) ∙ ap joined e) u in
    behind_tab f.count f.url (behind_tab f.start _
    (behind_tab f.rate _ (behind_tab f.reel _ whole)))
