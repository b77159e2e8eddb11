-- Where no pair is known yet, and where none is left.
use Rattle.std.proofs.Common.{◌≡◌, ◌∙◌, sym, ap, refl, ℕ, suc, ◌+◌, ◌<◌, ◌≤◌, cond, true, false}
use Rattle.std.proofs.Common.{List, [], ◌∷◌, ◌++◌, length, drop, get_or, append-nil, drop-cons}
use Rattle.std.proofs.Common.{add-one, arith}
use Rattle.std.specs.Str.{bytes_eq}
use Rattle.std.specs.BTreeMap.{BTreeMap, IsEmpty, btree_map_len}
use Rattle.std.proofs.lemmas.List.{drop_all}
use Rattle.sequences.specs.Known.{Knows}
use Rattle.sequences.specs.Pairs.{names_of, put_all}
use Rattle.sequences.specs.Places.{place_of, places_in}
use denote.Ref.{Bor}

pub places-end : {X : Type 0} (ps : List (List ℕ × X)) (found all : List ℕ)
    (known : List (List ℕ)) (i : ℕ) → length ps ≤ i
    → found ++ places_in known (names_of (drop i ps)) ≡ all → found ≡ all
places-end ps found all known i past e = sym (append-nil found)
    ∙ ap (λ xs. found ++ places_in known (names_of xs)) (sym (drop_all i ps past)) ∙ e

pub placed-end : {X : Type 0} (kept rest all : List (List ℕ × X)) (n : ℕ) → n ≡ length rest
    → n ≡ 0 → put_all kept rest ≡ all → kept ≡ all
placed-end kept [] all n long none e = e
placed-end kept (p ∷ ps) all n long none e = absurd (omega (arith, long, none))

pub none_known : (known : BTreeMap (Bor (List ℕ)) ℕ) → IsEmpty known → btree_map_len known ≡ 0
    → Knows known []
none_known known e n = record { place = λ name. rw e refl; count = n }

-- what is left of the pairs from one on
left : {X : Type 0} (ps : List (List ℕ × X)) (i : ℕ) (x : List ℕ × X) → i < length ps
    → x ≡ get_or ps i x → drop i ps ≡ x ∷ drop (i + 1) ps
left ps i x h q = drop-cons ps i x h ∙ ap (λ y. y ∷ drop (suc i) ps) (sym q)
    ∙ ap (λ k. x ∷ drop k ps) (sym (add-one i))

pub place-here : {X : Type 0} (n : List ℕ) (ps : List (List ℕ × X)) (i : ℕ) (x : List ℕ × X)
    (all : ℕ) → i < length ps → x ≡ get_or ps i x → bytes_eq n x.0 ≡ true
    → i + place_of n (names_of (drop i ps)) ≡ all → i ≡ all
place-here n ps i x all h q same e =
    let at = ap (λ xs. place_of n (names_of xs)) (left ps i x h q) in
    let none = ap (λ t. cond t 0 (suc (place_of n (names_of (drop (i + 1) ps))))) same in
    omega (arith, e, at, none)

pub place-behind : {X : Type 0} (n : List ℕ) (ps : List (List ℕ × X)) (i : ℕ) (x : List ℕ × X)
    (all : ℕ) → i < length ps → x ≡ get_or ps i x → bytes_eq n x.0 ≡ false
    → i + place_of n (names_of (drop i ps)) ≡ all
    → i + 1 + place_of n (names_of (drop (i + 1) ps)) ≡ all
place-behind n ps i x all h q other e =
    let at = ap (λ xs. place_of n (names_of xs)) (left ps i x h q) in
    let more = ap (λ t. cond t 0 (suc (place_of n (names_of (drop (i + 1) ps))))) other in
    omega (arith, e, at, more)

pub place-end : {X : Type 0} (n : List ℕ) (ps : List (List ℕ × X)) (i all : ℕ) → length ps ≤ i
    → i ≤ length ps → i + place_of n (names_of (drop i ps)) ≡ all → length ps ≡ all
place-end n ps i all past within e =
    omega (arith, past, within, e, ap (λ xs. place_of n (names_of xs)) (drop_all i ps past))
