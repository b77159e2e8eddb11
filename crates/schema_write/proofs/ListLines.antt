-- The layout of lists and of objects of media, line by line.
use Rattle.std.proofs.Common.{◌≡◌, ℕ, zero, suc, ◌+◌, ◌<◌, List, [], ◌∷◌, ◌++◌, Some, slice_get, length, get_or, map, refl, ap, sym, ◌∙◌, append_assoc, drop, drop-cons, add-one, arith}
use Rattle.json_value.specs.declared.Json.{Json}
use Rattle.json_text.specs.StringTexts.{quoted}
use Rattle.json_text.specs.Layout.{text_at, indent, item_lines, list_text, member_lines}

-- the next line of a list whose items are known in JSON
pub items-next : {X : Type 0} (f : X → Json) (lead : List ℕ) (head n : ℕ) (xs : List X) (i : ℕ)
    (d : X) → lead ≡ head ∷ 10 ∷ [] → i < length xs
    → item_lines head n (map f (drop i xs))
    ≡ (lead ++ indent n) ++ (text_at (f (get_or xs i d)) n
    ++ item_lines 44 n (map f (drop (i + 1) xs)))
items-next f lead head n xs i d is h = rw (is, add-one, drop-cons xs i d) refl

-- the same of members
pub members-next : {X : Type 0} (f : X → Json) (lead : List ℕ) (head n : ℕ) (xs : List (List ℕ × X))
    (i : ℕ) (d : List ℕ × X) → lead ≡ head ∷ 10 ∷ [] → i < length xs
    → member_lines head n (map (λ (x : List ℕ × X). (x.0, f x.1)) (drop i xs))
    ≡ (lead ++ indent n) ++ ((quoted (get_or xs i d).0 ++ (58 ∷ 32 ∷ []))
    ++ (text_at (f (get_or xs i d).1) n
    ++ member_lines 44 n (map (λ (x : List ℕ × X). (x.0, f x.1)) (drop (i + 1) xs))))
members-next {X} f lead head n xs i d is h =
    let name = quoted (get_or xs i d).0 in
    let text = text_at (f (get_or xs i d).1) n in
    let more = member_lines 44 n (map (λ (x : List ℕ × X). (x.0, f x.1)) (drop (suc i) xs)) in
    rw (is, add-one, drop-cons xs i d)
    (ap (λ r. head ∷ 10 ∷ (indent n ++ r))
    (append_assoc name (58 ∷ 32 ∷ text) more
    ∙ sym (append_assoc name (58 ∷ 32 ∷ []) (text ++ more))))

-- as many as before
pub some_mapped : {X Y : Type 0} (f : X → Y) (xs : List X) → 0 < length xs → 0 < length (map f xs)
some_mapped f [] h = absurd (omega (arith, h))
some_mapped f (x ∷ xs) h = omega arith

-- the text of no items
pub none_listed : {X : Type 0} (f : X → Json) (n : ℕ) (xs : List X) → length xs ≡ 0
    → list_text n (map f xs) ≡ 91 ∷ 93 ∷ []
none_listed f n [] h = refl
none_listed f n (x ∷ xs) h = absurd (omega (arith, h))

-- the next child
pub children-next : {X : Type 0} (f : X → Json) (lead : List ℕ) (head n : ℕ) (xs : List X) (i : ℕ)
    (x : X) → lead ≡ head ∷ 10 ∷ [] → slice_get xs i ≡ Some x
    → item_lines head n (map f (drop i xs))
    ≡ (lead ++ indent n) ++ (text_at (f x) n ++ item_lines 44 n (map f (drop (i + 1) xs)))
children-next f lead head n [] zero x is h = absurd (cc h)
children-next f lead head n [] (suc i) x is h = absurd (cc h)
children-next f lead head n (y ∷ xs) zero x is h = let e : y ≡ x = cc h in rw (is, e) refl
children-next f lead head n (y ∷ xs) (suc i) x is h = rw (add-one (suc i))
    (children-next f lead head n xs i x is h ∙ rw (add-one i) refl)
