-- What is kept of the items on either side of one, by the pieces.
use Rattle.std.proofs.Common.{◌≡◌, ℕ, ◌<◌, ◌+◌, ◌-◌, ◌≤◌, ◌^◌, max, zero, suc, List, [], ◌∷◌, ◌++◌}
use Rattle.std.proofs.Common.{Option, refl, ap, sym, ◌∙◌, length, map, take, drop, get_or, arith}
use Rattle.std.proofs.Common.{length-append, append_assoc}
use Rattle.std.proofs.lemmas.List.{take-append-drop, take-append-le, drop-append-le}
use Rattle.std.proofs.Math.Seq.{drop-append-add, take-append-add}
use Rattle.otio_model.specs.declared.compositions.ItemOf.{ItemOf}
use Rattle.otio_model.specs.declared.compositions.Listed.{Listed}
use Rattle.otio_model.specs.declared.lists.Piece.{Piece}
use Rattle.otio_model.specs.declared.piece_summary.Kept.{Kept}
use Rattle.otio_model.specs.Counts.{count}
use Rattle.otio_model.specs.Kept.{joined, kept_of}
use Rattle.otio_model.specs.Lengths.{length_of, lengths}
use Rattle.otio_model.specs.Pieces.{all_items, AllPieces, IsSpot}
use Rattle.otio_model.specs.Sums.{greatest}
use Rattle.otio_model.specs.Trees.{listed}
use Rattle.otio_model.proofs.Adding.{lengths-listed}
use Rattle.otio_model.proofs.KeptLemmas.{greatest-append, kept-append, taken_all}
use Rattle.otio_model.proofs.LengthLimits.{longest_enough}

-- the items before one are those of the pieces before its own, and the first of its own
front_of : (ps : List Piece) (k off : ℕ) (d : Piece) → k < length ps
    → off ≤ length (get_or ps k d).items.items
    → take (length (all_items (take k ps)) + off) (all_items ps)
    ≡ all_items (take k ps) ++ take off (get_or ps k d).items.items
front_of [] k off d h o = absurd (omega arith)
front_of (p ∷ ps) zero off d h o =
    ap (λ n. take n (p.items.items ++ all_items ps)) (omega arith)
    ∙ take-append-le off p.items.items (all_items ps) o
front_of (p ∷ ps) (suc k) off d h o =
    let xs = all_items (take k ps) in
    ap (λ n. take n (p.items.items ++ all_items ps))
    (omega (arith, length-append p.items.items xs))
    ∙ take-append-add p.items.items (all_items ps) (length xs + off)
    ∙ ap (λ l. p.items.items ++ l) (front_of ps k off d (omega arith) o)
    ∙ sym (append_assoc p.items.items xs (take off (get_or ps k d).items.items))

-- and those after so many are the last of its own, and those of the pieces after it
back_of : (ps : List Piece) (k off : ℕ) (d : Piece) → k < length ps
    → off ≤ length (get_or ps k d).items.items
    → drop (length (all_items (take k ps)) + off) (all_items ps)
    ≡ drop off (get_or ps k d).items.items ++ all_items (drop (suc k) ps)
back_of [] k off d h o = absurd (omega arith)
back_of (p ∷ ps) zero off d h o =
    ap (λ n. drop n (p.items.items ++ all_items ps)) (omega arith)
    ∙ drop-append-le off p.items.items (all_items ps) o
back_of (p ∷ ps) (suc k) off d h o =
    let xs = all_items (take k ps) in
    ap (λ n. drop n (p.items.items ++ all_items ps))
    (omega (arith, length-append p.items.items xs))
    ∙ drop-append-add p.items.items (all_items ps) (length xs + off)
    ∙ back_of ps k off d (omega arith) o

-- all that is left of a list after so many
rest_whole : {A : Type 0} (k : ℕ) (xs : List A) → take (length xs - k) (drop k xs) ≡ drop k xs
rest_whole zero xs = taken_all xs (length xs - 0) (omega arith)
rest_whole (suc k) [] = taken_all [] (0 - suc k) (omega arith)
rest_whole (suc k) (x ∷ xs) =
    ap (λ n. take n (drop k xs)) (omega arith) ∙ rest_whole k xs

-- the pieces before one, and those after it, are pieces
pub all_taken : (k : ℕ) (ps : List Piece) → AllPieces ps → AllPieces (take k ps)
all_taken zero ps a = tt
all_taken (suc k) [] a = tt
all_taken (suc k) (p ∷ ps) a = (a.0, all_taken k ps a.1)

pub all_dropped : (k : ℕ) (ps : List Piece) → AllPieces ps → AllPieces (drop k ps)
all_dropped zero ps a = a
all_dropped (suc k) [] a = tt
all_dropped (suc k) (p ∷ ps) a = all_dropped k ps a.1

-- what is kept of the items before one
pub kept_front : {ps : List Piece} {index k off : ℕ} {own : List (ItemOf Listed)} {a b c : Kept}
    (p : Piece) → IsSpot ps index k off → own ≡ (get_or ps k p).items.items
    → a ≡ kept_of (all_items (take k ps)) → b ≡ kept_of (take off own) → c ≡ joined a b
    → c ≡ kept_of (take index (all_items ps))
kept_front {ps = ps} {index = index} {k = k} {off = off} {own = own} {a = a} p s same ea eb ec =
    ec ∙ ap (joined a) eb ∙ ap (λ z. joined z (kept_of (take off own))) ea
    ∙ sym (kept-append (all_items (take k ps)) (take off own))
    ∙ ap (λ l. kept_of (all_items (take k ps) ++ take off l)) same
    ∙ ap kept_of (sym (front_of ps k off p s.within (omega (arith, s.inside p))))
    ∙ ap (λ n. kept_of (take n (all_items ps))) s.before

-- what is kept of the items after it
pub kept_back : {ps : List Piece} {index k off : ℕ} {own : List (ItemOf Listed)} {a b c : Kept}
    (p : Piece) → IsSpot ps index k off → own ≡ (get_or ps k p).items.items
    → a ≡ kept_of (take (length own - (off + 1)) (drop (off + 1) own))
    → b ≡ kept_of (all_items (take (length ps - (k + 1)) (drop (k + 1) ps)))
    → c ≡ joined a b → c ≡ kept_of (drop (index + 1) (all_items ps))
kept_back {ps = ps} {index = index} {k = k} {off = off} {own = own} {a = a} p s same ea eb ec =
    let rest = all_items (drop (suc k) ps) in
    let next : k + 1 ≡ suc k = omega arith in
    let behind = eb ∙ ap (λ l. kept_of (all_items l)) (rest_whole (k + 1) ps
    ∙ ap (λ n. drop n ps) next) in
    ec ∙ ap (joined a) behind
    ∙ ap (λ z. joined z (kept_of rest)) (ea ∙ ap kept_of (rest_whole (off + 1) own))
    ∙ sym (kept-append (drop (off + 1) own) rest)
    ∙ ap (λ l. kept_of (drop (off + 1) l ++ rest)) same
    ∙ ap kept_of (sym (back_of ps k (off + 1) p s.within (omega (arith, s.inside p))))
    ∙ ap (λ n. kept_of (drop n (all_items ps))) (omega (arith, s.before))

-- the greatest of some lengths is no greater than that of all
greatest_part : (ns : List (Option ℕ)) (i : ℕ) → greatest (take i ns) ≤ greatest ns
greatest_part ns i =
    omega (
      arith,
      greatest-append (take i ns) (drop i ns),
      ap greatest (take-append-drop i ns),
    )

greatest_rest : (ns : List (Option ℕ)) (i : ℕ) → greatest (drop i ns) ≤ greatest ns
greatest_rest ns i =
    omega (
      arith,
      greatest-append (take i ns) (drop i ns),
      ap greatest (take-append-drop i ns),
    )

-- lengths of some items are some of their lengths
lengths_taken : (f : ItemOf Listed → Option ℕ) (i : ℕ) (xs : List (ItemOf Listed))
    → map f (take i xs) ≡ take i (map f xs)
lengths_taken f zero xs = refl
lengths_taken f (suc i) [] = refl
lengths_taken f (suc i) (x ∷ xs) = ap (λ l. f x ∷ l) (lengths_taken f i xs)

lengths_dropped : (f : ItemOf Listed → Option ℕ) (i : ℕ) (xs : List (ItemOf Listed))
    → map f (drop i xs) ≡ drop i (map f xs)
lengths_dropped f zero xs = refl
lengths_dropped f (suc i) [] = refl
lengths_dropped f (suc i) (x ∷ xs) = lengths_dropped f i xs

-- the greatest lengths on both sides, as children show them
pub longest_sides : (ps : List Piece) (index : ℕ) {l : Listed} {a b : Kept} {n : ℕ}
    → count l < 2 ^ 32 → listed (all_items ps) ≡ l → a ≡ kept_of (take index (all_items ps))
    → b ≡ kept_of (drop (index + 1) (all_items ps)) → n ≡ max a.lengths.longest b.lengths.longest
    → n ≡ max (greatest (take index (lengths l))) (greatest (drop (index + 1) (lengths l)))
longest_sides ps index {l = l} few view ea eb e =
    let xs = all_items ps in
    let all : map length_of xs ≡ lengths l = sym (lengths-listed xs) ∙ ap lengths view in
    omega (
      arith,
      e,
      longest_enough l few,
      greatest_part (lengths l) index,
      greatest_rest (lengths l) (index + 1),
      ap (λ (k : Kept). k.lengths.longest) ea,
      ap (λ (k : Kept). k.lengths.longest) eb,
      ap greatest (lengths_taken length_of index xs ∙ ap (take index) all),
      ap greatest (lengths_dropped length_of (index + 1) xs ∙ ap (drop (index + 1)) all),
    )
