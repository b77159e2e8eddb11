-- The text of each kind of value, and of a list and of an object, member by member.
use Rattle.std.proofs.Common.{◌≡◌, ℕ, suc, ◌+◌, ◌<◌, Bool, List, [], ◌∷◌, ◌++◌, length, get_or, map, refl, sym, ap, ◌∙◌, append_assoc, drop, drop-cons, add-one, arith}
use Rattle.json_value.specs.declared.Json.{Json, Null, Bool as JsonOfBool, Num, Str, List as JsonOfList, Map as JsonOfMap}
use Rattle.json_value.specs.declared.Json.TheOpen.{Json-F}
use Rattle.json_value.specs.declared.Json.TheFolds.{fold-roll-Json}
use Rattle.json_text.specs.StringTexts.{quoted}
use Rattle.json_text.specs.Layout.{text_at, text_step, bool_text, indent, newline, block, item_lines, member_lines, member_text, list_text, object_text}

pub text_at-Null : (n : ℕ) → text_at Null n ≡ 110 ∷ 117 ∷ 108 ∷ 108 ∷ []
unfolding Rattle.json_value.specs.declared.Json.TheViews.roll-Json denote.Hole.Carrier.roll
text_at-Null n = ap (λ f. f n) (fold-roll-Json (ℕ → List ℕ) text_step Json-F.Null)

pub text_at-Bool : (truth : Bool) (n : ℕ) → text_at (JsonOfBool truth) n ≡ bool_text truth
unfolding Rattle.json_value.specs.declared.Json.TheViews.roll-Json denote.Hole.Carrier.roll
text_at-Bool truth n = ap (λ f. f n) (fold-roll-Json (ℕ → List ℕ) text_step (Json-F.Bool truth))

pub text_at-Num : (numeral : List ℕ) (n : ℕ) → text_at (Num numeral) n ≡ numeral
unfolding Rattle.json_value.specs.declared.Json.TheViews.roll-Json denote.Hole.Carrier.roll
text_at-Num numeral n = ap (λ f. f n) (fold-roll-Json (ℕ → List ℕ) text_step (Json-F.Num numeral))

pub text_at-Str : (text : List ℕ) (n : ℕ) → text_at (Str text) n ≡ quoted text
unfolding Rattle.json_value.specs.declared.Json.TheViews.roll-Json denote.Hole.Carrier.roll
text_at-Str text n = ap (λ f. f n) (fold-roll-Json (ℕ → List ℕ) text_step (Json-F.Str text))

item_texts : (n : ℕ) (items : List Json) → map (λ item. item n) (map text_at items) ≡ map (λ item. text_at item n) items
item_texts n [] = refl
item_texts n (item ∷ items) = ap (λ texts. text_at item n ∷ texts) (item_texts n items)

pub text_at-List : (items : List Json) (n : ℕ) → text_at (JsonOfList items) n ≡ list_text n items
unfolding Rattle.json_value.specs.declared.Json.TheViews.roll-Json denote.Hole.Carrier.roll
text_at-List items n = ap (λ f. f n) (fold-roll-Json (ℕ → List ℕ) text_step (Json-F.List items)) ∙ ap (block 91 93 n) (item_texts (n + 1) items)

member_texts : (n : ℕ) (members : List (List ℕ × Json))
    → map (λ (member : List ℕ × (ℕ → List ℕ)). member_text member.0 (member.1 n)) (map (λ (member : List ℕ × Json). (member.0, text_at member.1)) members)
    ≡ map (λ (member : List ℕ × Json). member_text member.0 (text_at member.1 n)) members
member_texts n [] = refl
member_texts n (member ∷ members) = ap (λ texts. member_text member.0 (text_at member.1 n) ∷ texts) (member_texts n members)

pub text_at-Map : (members : List (List ℕ × Json)) (n : ℕ) → text_at (JsonOfMap members) n ≡ object_text n members
unfolding Rattle.json_value.specs.declared.Json.TheViews.roll-Json denote.Hole.Carrier.roll
text_at-Map members n = ap (λ f. f n) (fold-roll-Json (ℕ → List ℕ) text_step (Json-F.Map members)) ∙ ap (block 123 125 n) (member_texts (n + 1) members)

pub item_lines-next : (lead : List ℕ) (head n : ℕ) (items : List Json) (i : ℕ) (d : Json) → lead ≡ head ∷ 10 ∷ [] → i < length items
    → item_lines head n (drop i items) ≡ (lead ++ indent n) ++ (text_at (get_or items i d) n ++ item_lines 44 n (drop (i + 1) items))
item_lines-next lead head n items i d is h = rw (is, add-one, drop-cons items i d) refl

pub member_lines-next : (lead : List ℕ) (head n : ℕ) (members : List (List ℕ × Json)) (i : ℕ) (d : List ℕ × Json) → lead ≡ head ∷ 10 ∷ [] → i < length members
    → member_lines head n (drop i members)
    ≡ (lead ++ indent n) ++ ((quoted (get_or members i d).0 ++ (58 ∷ 32 ∷ [])) ++ (text_at (get_or members i d).1 n ++ member_lines 44 n (drop (i + 1) members)))
member_lines-next lead head n members i d is h =
    let name = quoted (get_or members i d).0 in
    let text = text_at (get_or members i d).1 n in
    rw (is, add-one, drop-cons members i d)
    (ap (λ r. head ∷ 10 ∷ (indent n ++ r)) (append_assoc name (58 ∷ 32 ∷ text) (member_lines 44 n (drop (suc i) members))
    ∙ sym (append_assoc name (58 ∷ 32 ∷ []) (text ++ member_lines 44 n (drop (suc i) members)))))

-- a list that isn't empty: its lines, and the closing bracket on a line of its own
pub list_text-lines : (n : ℕ) (items : List Json) → 0 < length items → list_text n items ≡ item_lines 91 (n + 1) items ++ (newline n ++ 93 ∷ [])
list_text-lines n [] h = absurd (omega arith)
list_text-lines n (item ∷ items) h = refl

pub object_text-lines : (n : ℕ) (members : List (List ℕ × Json)) → 0 < length members → object_text n members ≡ member_lines 123 (n + 1) members ++ (newline n ++ 125 ∷ [])
object_text-lines n [] h = absurd (omega arith)
object_text-lines n (member ∷ members) h = refl
