-- There is one flattened timeline.
use Rattle.std.proofs.Common.{◌≡◌, ◌≢◌, sym, subst, ap, ◌∙◌, ℕ, ℤ, pos, ◌≤ℤ◌, ◌<ℤ◌, Bool, Option, List, [], ◌∷◌, arith}
use Rattle.std.proofs.lemmas.Int.{ints, by_lt_z}
use Rattle.otio_model.specs.declared.compositions.ItemOf.{ItemOf}
use Rattle.otio_model.specs.declared.compositions.Listed.{Listed}
use Rattle.otio_model.specs.declared.timelines.Timeline.{Timeline}
use Rattle.otio_model.specs.Timelines.{bare}
use Rattle.edits.specs.After.{rate_of}
use Rattle.flat.specs.Roots.{roots, with_roots}
use Rattle.flat.specs.Pieces.{Giver, giver, longest, Piece, AreLongest, no_more, one_more, piece_items}
use Rattle.flat.specs.Flattened.{flat_track, put_flat, AreFlat, IsFlattened, unchanged, changed}
use Rattle.coord.proofs.Members.{same_some}

same_end : (g : ℤ → Option Giver) (end at to po : ℤ) (p q : Option Giver) → at <ℤ to → to ≤ℤ end → ((w : ℤ) → at ≤ℤ w → w <ℤ to → g w ≡ p) → (to <ℤ end → g to ≢ p)
    → at <ℤ po → po ≤ℤ end → ((w : ℤ) → at ≤ℤ w → w <ℤ po → g w ≡ q) → p ≡ q → po ≤ℤ to
same_end g end at to po p q h k f d i j e same = by_lt_z to po
    (λ m. absurd (d (omega (arith, ints)) (e to (omega (arith, ints)) m ∙ sym same)))
    (λ m. m)

pub one_list : (g : ℤ → Option Giver) (end at : ℤ) (l m : List Piece) → AreLongest g end at l → AreLongest g end at m → l ≡ m
one_list g end _ _ m (no_more at l e f) b = f ∙ sym (of m b)
  where
    of : (m : List Piece) → AreLongest g end at m → m ≡ []
    of _ (no_more at m x y) = y
    of _ (one_more at to p rest m h k same other more y) = absurd (omega (arith, ints, e, h, k))
one_list g end _ _ m (one_more at to p rest l h k same other more f) b = f ∙ of m b (λ q. one_list g end to rest q more)
  where
    of : (m : List Piece) → AreLongest g end at m → ((q : List Piece) → AreLongest g end to q → rest ≡ q) → Path (List Piece) (record { from = at; to = to; of = p } ∷ rest) m
    of _ (no_more at m x y) next = absurd (omega (arith, ints, x, h, k))
    of _ (one_more at po q last m i j each others after y) next =
        let given : p ≡ q = sym (same at (omega (arith, ints)) h) ∙ each at (omega (arith, ints)) i in
        let low = same_end g end at to po p q h k same other i j each given in
        let high = same_end g end at po to q p i j each others h k same (sym given) in
        let is : to ≡ po = omega (arith, ints) in
        let tail : rest ≡ last = next last (subst (λ z. AreLongest g end z last) (sym is) after) in
        (λ n. record { from = at; to = is n; of = given n } ∷ tail n) ∙ sym y

items_one : (t : Timeline) (kind : List ℕ) (a b : List (ItemOf Listed)) → AreFlat t kind a → AreFlat t kind b → a ≡ b
items_one t kind a b x y =
    let same = one_list (giver 0 kind (roots t)) (longest kind (roots t)) (pos 0) x.pieces y.pieces x.are y.are in
    same_some a b (sym x.made ∙ ap (piece_items (rate_of t)) same ∙ y.made)

pub flattened_one : (t r q : Timeline) (kind : List ℕ) (keep : Bool) → IsFlattened t kind keep r → IsFlattened t kind keep q → bare r ≡ bare q
flattened_one t r q kind keep (unchanged e f) (unchanged g h) = f ∙ sym h
flattened_one t r q kind keep (unchanged e f) (changed items g a h) = absurd (cc (sym e ∙ g))
flattened_one t r q kind keep (changed items e a f) (unchanged g h) = absurd (cc (sym g ∙ e))
flattened_one t r q kind keep (changed items e a f) (changed other g b h) =
    f ∙ ap (λ l. bare (with_roots (put_flat keep kind (flat_track kind l) (roots t)) t)) (items_one t kind items other a b) ∙ sym h
