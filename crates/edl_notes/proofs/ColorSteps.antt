-- Color corrections that notes say, and those that metadata have.
use Rattle.std.proofs.Common.{◌≡◌, ◌<◌, ◌+◌, ℕ, Bor, List, [], ◌∷◌, ◌++◌, Option, Some, None, codes, length, take, slice_index_or, refl, sym, ap, subst, ◌∙◌}
use Rattle.std.specs.Prelude.{MatchOption}
use Rattle.std.proofs.lemmas.Option.{same_Some}
use Rattle.json_value.specs.declared.Json.{Json, out-Json}
use Rattle.json_value.specs.declared.Json.TheOpen.{Json-F}
use Rattle.sequences.specs.Pairs.{put}
use Rattle.coord.specs.Keys.{member_in}
use Rattle.note_text.specs.Found.{AreNumeralsOf, HasSat, HasSop, IsNumeralOf, IsTripleOf, color_member}
use Rattle.note_text.specs.Noted.{last_sat, last_sop, member_if}
use Rattle.note_text.specs.declared.notes.Triple.{Triple}
use Rattle.note_text.specs.declared.notes.Said.{Said}
use Rattle.note_text.specs.declared.notes.Said.TheVariants.{Loc, Sop, Sat}
use Rattle.note_text.specs.declared.notes.Note.{Note}
use Rattle.edl_notes.specs.Steps.{said_by}
use Rattle.edl_notes.proofs.MarkerSteps.{said_next}

-- ---- the last of several

last_sop-append : (a b : List Said) (found : Option Json) → last_sop found (a ++ b) ≡ last_sop (last_sop found a) b
last_sop-append [] b found = refl
last_sop-append (Loc at color name ∷ a) b found = last_sop-append a b found
last_sop-append (Sop slope offset power ∷ a) b found = last_sop-append a b _
last_sop-append (Sat numeral ∷ a) b found = last_sop-append a b found

last_sat-append : (a b : List Said) (found : Option Json) → last_sat found (a ++ b) ≡ last_sat (last_sat found a) b
last_sat-append [] b found = refl
last_sat-append (Loc at color name ∷ a) b found = last_sat-append a b found
last_sat-append (Sop slope offset power ∷ a) b found = last_sat-append a b found
last_sat-append (Sat numeral ∷ a) b found = last_sat-append a b _

-- one note more
pub sop_next : (bs : List (Bor Note)) (i : ℕ) (b : Bor Note) (old new : Option Json) → i < length bs → b ≡ slice_index_or bs i b → new ≡ last_sop old (b.now.said ∷ [])
    → old ≡ last_sop None (said_by (take i bs)) → new ≡ last_sop None (said_by (take (i + 1) bs))
sop_next bs i b old new within is here before =
    here ∙ ap (λ o. last_sop o (b.now.said ∷ [])) before ∙ sym (last_sop-append (said_by (take i bs)) (b.now.said ∷ []) None) ∙ ap (last_sop None) (sym (said_next bs i b within is))

pub sat_next : (bs : List (Bor Note)) (i : ℕ) (b : Bor Note) (old new : Option Json) → i < length bs → b ≡ slice_index_or bs i b → new ≡ last_sat old (b.now.said ∷ [])
    → old ≡ last_sat None (said_by (take i bs)) → new ≡ last_sat None (said_by (take (i + 1) bs))
sat_next bs i b old new within is here before =
    here ∙ ap (λ o. last_sat o (b.now.said ∷ [])) before ∙ sym (last_sat-append (said_by (take i bs)) (b.now.said ∷ []) None) ∙ ap (last_sat None) (sym (said_next bs i b within is))

-- ---- members

-- the saturation comes after slope, offset and power
pub sat_put : (sop : Option Json) (value : Json) → put (codes "asc_sat") value (member_if (codes "asc_sop") sop) ≡ member_if (codes "asc_sop") sop ++ member_if (codes "asc_sat") (Some value)
sat_put None value = refl
sat_put (Some sop) value = refl

-- ---- what metadata have

-- a value that is no numeral
pub other_numeral : (value : Json) → ((spelled : List ℕ) → out-Json value ≡ Json-F.Num spelled → ⊥) → (spelled : List ℕ) → IsNumeralOf (Some value) spelled → ⊥
other_numeral value n spelled h = n spelled h.0

-- a member that isn't there is no list of numerals
pub no_member : (name : List ℕ) (sop : Json) → member_in name (out-Json sop) ≡ None → (t : Triple) → IsTripleOf name sop t → ⊥
no_member name sop e t h = absurd (cc (sym e ∙ h.member))

-- the three numerals of the member that is there
pub of_value : (name : List ℕ) (sop value : Json) (t : Triple) → member_in name (out-Json sop) ≡ Some value → IsTripleOf name sop t → AreNumeralsOf value t
of_value name sop value t e h =
    let same : h.value ≡ value = same_Some h.value value (sym h.member ∙ e) in
    subst (λ j. AreNumeralsOf j t) same h.numerals

pub as_triple : (name : List ℕ) (sop value : Json) (t : Triple) → member_in name (out-Json sop) ≡ Some value → AreNumeralsOf value t → IsTripleOf name sop t
as_triple name sop value t e h = record { value = value; member = e; numerals = h }

-- ---- slope, offset and power

pub no_sop : (metadata : List (List ℕ × Json)) → color_member (codes "asc_sop") metadata ≡ None → (slope offset power : Triple) → HasSop metadata slope offset power → ⊥
no_sop metadata e slope offset power h = absurd (cc (sym e ∙ h.member))

pub sop_is : (metadata : List (List ℕ × Json)) (sop : Json) (slope offset power : Triple) → color_member (codes "asc_sop") metadata ≡ Some sop → (h : HasSop metadata slope offset power) → h.sop ≡ sop
sop_is metadata sop slope offset power e h = same_Some h.sop sop (sym h.member ∙ e)

pub no_slope : (metadata : List (List ℕ × Json)) (sop : Json) → color_member (codes "asc_sop") metadata ≡ Some sop → ((t : Triple) → IsTripleOf (codes "slope") sop t → ⊥)
    → (slope offset power : Triple) → HasSop metadata slope offset power → ⊥
no_slope metadata sop e n slope offset power h = n slope (subst (λ j. IsTripleOf (codes "slope") j slope) (sop_is metadata sop slope offset power e h) h.slope_is)

pub no_offset : (metadata : List (List ℕ × Json)) (sop : Json) → color_member (codes "asc_sop") metadata ≡ Some sop → ((t : Triple) → IsTripleOf (codes "offset") sop t → ⊥)
    → (slope offset power : Triple) → HasSop metadata slope offset power → ⊥
no_offset metadata sop e n slope offset power h = n offset (subst (λ j. IsTripleOf (codes "offset") j offset) (sop_is metadata sop slope offset power e h) h.offset_is)

pub no_power : (metadata : List (List ℕ × Json)) (sop : Json) → color_member (codes "asc_sop") metadata ≡ Some sop → ((t : Triple) → IsTripleOf (codes "power") sop t → ⊥)
    → (slope offset power : Triple) → HasSop metadata slope offset power → ⊥
no_power metadata sop e n slope offset power h = n power (subst (λ j. IsTripleOf (codes "power") j power) (sop_is metadata sop slope offset power e h) h.power_is)

-- ---- saturation

pub no_sat : (metadata : List (List ℕ × Json)) → color_member (codes "asc_sat") metadata ≡ None → (numeral : List ℕ) → HasSat metadata numeral → ⊥
no_sat metadata e numeral h = subst (λ o. IsNumeralOf o numeral) e h

pub sat_as : (metadata : List (List ℕ × Json)) (value : Json) (numeral : List ℕ) → color_member (codes "asc_sat") metadata ≡ Some value → IsNumeralOf (Some value) numeral → HasSat metadata numeral
sat_as metadata value numeral e h = subst (λ o. IsNumeralOf o numeral) (sym e) h

pub sat_of : (metadata : List (List ℕ × Json)) (value : Json) (numeral : List ℕ) → color_member (codes "asc_sat") metadata ≡ Some value → HasSat metadata numeral → IsNumeralOf (Some value) numeral
sat_of metadata value numeral e h = subst (λ o. IsNumeralOf o numeral) e h

-- ---- results in other words

pub match_as : {A : Type 0} (o : Option A) (P Q : Type 0) (F G : A → Type 0) → (P → Q) → ((a : A) → F a → G a) → MatchOption o P F → MatchOption o Q G
match_as None P Q F G f g h = f h
match_as (Some a) P Q F G f g h = g a h
