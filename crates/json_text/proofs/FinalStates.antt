-- The end of the bytes: which states stand for a whole text.
use Rattle.std.proofs.Common.{◌≡◌, ℕ, ◌<◌, ◌≤◌, List, [], ◌∷◌, ◌++◌, Some, None, Ok, Bool, true, false, refl, sym, ap, ◌∙◌, append-nil, cond, subst, ◌⊎◌, inl, inr}
use Rattle.std.proofs.lemmas.Str.{encode_ascii, is_utf8-from_IsUtf8}
use Rattle.std.specs.Char.{IsScalar, encode_utf8}
use Rattle.std.specs.Str.{IsUtf8}
use Rattle.json_value.specs.declared.Json.{Json}
use Rattle.json_value.specs.declared.Json.TheVariants.{Num}
use Rattle.json_text.specs.Grammar.{FourDigits, Chars, close, plain as plain_of, short as short_of, code as code_of, pair as pair_of, Colon, colon_blank, colon_here, Value, blank, null, yes, no, number as number_of, string as string_of, list as list_of, map as map_of, Items, items_blank, items_none, items_some, MoreItems, more_items_blank, more_items_done, more_items_next, Pairs, pairs_blank, pairs_none, pairs_some, MorePairs, more_pairs_blank, more_pairs_done, more_pairs_next, Pair, pair_blank, pair_named, text_of}
use Rattle.json_text.specs.State.Machine.{StringPlace, plain, escape, code, high, slash, low, tail, Hand, value, first_item, first_name, next_name, colon, behind, done, word, number, text, MachineState, start, run, at_last, at_last_in, numeral, ends}
use Rattle.json_text.specs.declared.state.Digits.{Digits}
use Rattle.json_text.specs.declared.state.Digits.TheVariants.{Zero as NoDigit, One, Two, Three}
use Rattle.json_text.specs.declared.state.Place.{Place}
use Rattle.json_text.specs.State.Opened.{Unclosed}
use Rattle.json_text.specs.State.Opened.{list as LevelOfList, map as LevelOfMap}
use Rattle.json_text.proofs.Utf8Lemmas.{Within, wide_of, order}
use Rattle.json_text.proofs.NumberLemmas.{Completed, numeral_to}
use Rattle.json_text.proofs.TextSteps.{opens, Escaped, in_short, in_code_of, in_pair, opens_code, digits_of}
use Rattle.json_text.proofs.Finishes.{Finishes, Rest, Completes, OfNumber, IsHalf, In, raw, IsState}
use Rattle.json_text.proofs.SeenTexts.{sees}

-- ---- no part of a text is empty
no_char : (c : ℕ) (m : List ℕ) → IsScalar c → [] ≡ encode_utf8 c ++ m → ⊥
no_char c m s e = by (order c 128)
  where
    by : (c < 128) ⊎ (128 ≤ c) → ⊥
    by (inl h) = let f : [] ≡ c ∷ m = e ∙ ap (λ l. l ++ m) (encode_ascii c h) in cc f
    by (inr h) = let w = wide_of c s h in let f : [] ≡ w.lead ∷ (w.bytes ++ m) = e ∙ ap (λ l. l ++ m) w.is in cc f

no_chars : (more rest : List ℕ) → Chars [] more rest → ⊥
no_chars more rest (close bytes x r e f) = cc e
no_chars more rest (plain_of bytes x r c m after s l n o e f k) = no_char c m s e
no_chars more rest (short_of bytes x r b c m after e f g k) = cc e
no_chars more rest (code_of bytes x r c m mid after e f g k l) = cc e
no_chars more rest (pair_of bytes x r hi lo m mid next end after e f g k l n o p) = cc e

no_escape : (more rest : List ℕ) → Chars (92 ∷ []) more rest → ⊥
no_escape more rest k = by (opens [] more rest k)
  where
    by : Escaped [] more rest → ⊥
    by (in_short b c n after e f g k) = cc e
    by (in_code_of c n mid after e f g k l) = cc e
    by (in_pair h n mid e f g k) = cc e

few_digits : (digits : Digits) (k : ℕ) (mid : List ℕ) → FourDigits (raw digits ++ []) k mid → ⊥
few_digits NoDigit k mid f = let e = f.8 in cc e
few_digits (One a) k mid f = let e = f.8 in cc e
few_digits (Two a b) k mid f = let e = f.8 in cc e
few_digits (Three a b c) k mid f = let e = f.8 in cc e

no_half : (h : ℕ) (digits : Digits) (more rest : List ℕ) → IsHalf h (92 ∷ 117 ∷ (raw digits ++ [])) more rest → ⊥
no_half h digits more rest i =
    let e : raw digits ++ [] ≡ i.next = let f = i.begins in cc f in
    few_digits digits i.half i.mid (subst (λ x. FourDigits x i.half i.mid) (sym e) i.digits)

no_tail : (r : ℕ × ℕ) (rs : List (ℕ × ℕ)) (own mid : List ℕ) → Within (r ∷ rs) own → [] ≡ own ++ mid → ⊥
no_tail r rs [] mid w e = w
no_tail r rs (x ∷ own) mid w e = cc e

no_part : (part : StringPlace) (more rest : List ℕ) → In part [] more rest → ⊥
no_part plain more rest k = no_chars more rest k
no_part escape more rest k = no_escape more rest k
no_part (code digits) more rest k = let d = digits_of (raw digits ++ []) more rest (opens_code (raw digits ++ []) more rest k) in few_digits digits d.0 d.1 d.2
no_part (high h) more rest k = let e = k.begins in cc e
no_part (slash h) more rest k = let e = k.begins in cc e
no_part (low h digits) more rest k = no_half h digits more rest k
no_part (tail []) more rest k = k
no_part (tail (r ∷ rs)) more rest k = no_tail r rs k.own k.mid k.within k.begins

no_colon : (mid : List ℕ) → Colon [] mid → ⊥
no_colon mid (colon_blank bytes rest b m e f k) = cc e
no_colon mid (colon_here bytes rest e) = cc e

no_value : (room : ℕ) (x : Json) (rest : List ℕ) → Value room [] x rest → ⊥
no_value room x rest (blank r bytes y rest' b m e f k) = cc e
no_value room x rest (null r bytes y rest' e f) = cc e
no_value room x rest (yes r bytes y rest' e f) = cc e
no_value room x rest (no r bytes y rest' e f) = cc e
no_value room x rest (number_of r bytes y rest' spelled e f k) = by spelled e (numeral_to spelled k)
  where
    by : (s : List ℕ) → [] ≡ s ++ rest → Completed s → ⊥
    by [] e k = k
    by (d ∷ s) e k = cc e
no_value room x rest (string_of r bytes y rest' m t e f k) = cc e
no_value room x rest (list_of r bytes y rest' inner m items n e f k) = cc e
no_value room x rest (map_of r bytes y rest' inner m pairs n e f k) = cc e

no_items : (room : ℕ) (xs : List Json) (rest : List ℕ) → Items room [] xs rest → ⊥
no_items room xs rest (items_blank r bytes y rest' b m e f k) = cc e
no_items room xs rest (items_none r bytes y rest' e f) = cc e
no_items room xs rest (items_some r bytes y rest' mid x others f k l) = no_value room x mid k

no_more_items : (room : ℕ) (xs : List Json) (rest : List ℕ) → MoreItems room [] xs rest → ⊥
no_more_items room xs rest (more_items_blank r bytes y rest' b m e f k) = cc e
no_more_items room xs rest (more_items_done r bytes y rest' e f) = cc e
no_more_items room xs rest (more_items_next r bytes y rest' m mid x others e f k l) = cc e

no_pair : (room : ℕ) (name : List ℕ) (x : Json) (rest : List ℕ) → Pair room [] name x rest → ⊥
no_pair room name x rest (pair_blank r bytes n y rest' b m e f k) = cc e
no_pair room name x rest (pair_named r bytes n y rest' m mid after e chars at val) = cc e

no_pairs : (room : ℕ) (ps : List (List ℕ × Json)) (rest : List ℕ) → Pairs room [] ps rest → ⊥
no_pairs room ps rest (pairs_blank r bytes y rest' b m e f k) = cc e
no_pairs room ps rest (pairs_none r bytes y rest' e f) = cc e
no_pairs room ps rest (pairs_some r bytes y rest' mid name x others f k l) = no_pair room name x mid k

no_more_pairs : (room : ℕ) (ps : List (List ℕ × Json)) (rest : List ℕ) → MorePairs room [] ps rest → ⊥
no_more_pairs room ps rest (more_pairs_blank r bytes y rest' b m e f k) = cc e
no_more_pairs room ps rest (more_pairs_done r bytes y rest' e f) = cc e
no_more_pairs room ps rest (more_pairs_next r bytes y rest' m mid name x others e f k l) = cc e

-- ---- the states that end a text
number_last : (limit : ℕ) (levels : List Unclosed) (t : List ℕ) (place : Place) (v : Json) → IsUtf8 t → (more rest : List ℕ) → [] ≡ more ++ rest → Completes (Some place) more → Rest limit levels (Num (t ++ more)) rest v
    → at_last_in levels (number t place) ≡ Some v
number_last limit [] t place v u [] [] e k h = let p = is_utf8-from_IsUtf8 t u in rw (k, p) (ap Some (ap Num (sym (append-nil t)) ∙ h.1))
number_last limit (LevelOfList xs ∷ ls) t place v u [] [] e k h = absurd (no_more_items _ h.0 h.1 h.2)
number_last limit (LevelOfMap ps name ∷ ls) t place v u [] [] e k h = absurd (no_more_pairs _ h.0 h.1 h.2)
number_last limit levels t place v u [] (x ∷ rest) e k h = cc e
number_last limit levels t place v u (x ∷ more) rest e k h = cc e

last_is : (limit : ℕ) (levels : List Unclosed) (hand : Hand) (v : Json) → IsState levels hand → Finishes limit levels hand [] v → at_last_in levels hand ≡ Some v
last_is limit levels value v is h = absurd (no_value _ h.0 h.1 h.2)
last_is limit [] first_item v is h = absurd h
last_is limit (LevelOfMap ps name ∷ ls) first_item v is h = absurd h
last_is limit (LevelOfList xs ∷ ls) first_item v is h = absurd (no_items _ h.0 h.1 h.2)
last_is limit [] first_name v is h = absurd h
last_is limit (LevelOfList xs ∷ ls) first_name v is h = absurd h
last_is limit (LevelOfMap ps name ∷ ls) first_name v is h = absurd (no_pairs _ h.0 h.1 h.2)
last_is limit [] next_name v is h = absurd h
last_is limit (LevelOfList xs ∷ ls) next_name v is h = absurd h
last_is limit (LevelOfMap ps name ∷ ls) next_name v is h = absurd (no_pair _ h.0 h.1 h.2 h.3)
last_is limit levels colon v is h = absurd (no_colon h.0 h.3)
last_is limit [] behind v is h = absurd h
last_is limit (LevelOfList xs ∷ ls) behind v is h = absurd (no_more_items _ h.0 h.1 h.2)
last_is limit (LevelOfMap ps name ∷ ls) behind v is h = absurd (no_more_pairs _ h.0 h.1 h.2)
last_is limit [] (done x) v is h = ap Some h.1
last_is limit (l ∷ ls) (done x) v is h = absurd h
last_is limit levels (word x []) v is h = absurd h
last_is limit levels (word x (w ∷ ws)) v is h = let e = h.1 in cc e
last_is limit levels (number t place) v is h = number_last limit levels t place v is h.0 h.1 h.2 h.3 h.4
last_is limit levels (text role t part) v is h = absurd (no_part part h.0 h.1 h.2)

none_is : {A : Type 0} (x : A) → None ≡ Some x → ⊥
none_is x e = cc e

last_finishes : (limit : ℕ) (levels : List Unclosed) (hand : Hand) (v : Json) → IsState levels hand → at_last_in levels hand ≡ Some v → Finishes limit levels hand [] v
last_finishes limit [] (done x) v is e = let f : x ≡ v = cc e in (tt, f)
last_finishes limit [] (number t place) v is e = by (ends place) refl e
  where
    by : (p : Bool) → ends place ≡ p → cond p (numeral t) None ≡ Some v → OfNumber limit [] t place [] v
    by true f g =
        let p = is_utf8-from_IsUtf8 t is in
        let k : Some (Num t) ≡ Some v = sym (rw p refl) ∙ g in
        let m : Num t ≡ v = cc k in
        ([], [], refl, f, (tt, ap Num (append-nil t) ∙ m))
    by false f g = absurd (none_is v g)
last_finishes limit (l ∷ ls) hand v is e = absurd (none_is v e)
last_finishes limit [] value v is e = absurd (none_is v e)
last_finishes limit [] first_item v is e = absurd (none_is v e)
last_finishes limit [] first_name v is e = absurd (none_is v e)
last_finishes limit [] next_name v is e = absurd (none_is v e)
last_finishes limit [] colon v is e = absurd (none_is v e)
last_finishes limit [] behind v is e = absurd (none_is v e)
last_finishes limit [] (word x left) v is e = absurd (none_is v e)
last_finishes limit [] (text role t part) v is e = absurd (none_is v e)

-- what the machine has at the end is the value of the text, and the only one
pub text_last : (bytes : List ℕ) (s : MachineState) (v : Json) → run 127 start bytes ≡ Ok s → at_last s ≡ Some v → text_of bytes v
text_last bytes s v e f =
    let seen = sees bytes s e in
    subst (λ x. text_of x v) (append-nil bytes) ((seen.same [] v).1 (last_finishes 127 s.levels s.hand v seen.is f))

pub last_text : (bytes : List ℕ) (s : MachineState) (v : Json) → run 127 start bytes ≡ Ok s → text_of bytes v → at_last s ≡ Some v
last_text bytes s v e h =
    let seen = sees bytes s e in
    last_is 127 s.levels s.hand v seen.is ((seen.same [] v).0 (subst (λ x. text_of x v) (sym (append-nil bytes)) h))
