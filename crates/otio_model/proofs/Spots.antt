-- The place of an item in pieces.
use Rattle.std.proofs.Common.{◌≡◌, ℕ, ◌<◌, ◌+◌, zero, suc, List, [], ◌∷◌, ◌++◌, Some, refl, ap, sym}
use Rattle.std.proofs.Common.{◌∙◌, length, take, get_or, subst, arith, length-append}
use Rattle.std.proofs.Common.{Vec, Global}
use Rattle.std.specs.Prelude.{slice_get, slice_set, IsSomeAnd}
use Rattle.otio_model.specs.declared.compositions.ItemOf.{ItemOf}
use Rattle.otio_model.specs.declared.compositions.Listed.{Listed}
use Rattle.otio_model.specs.declared.lists.Piece.{Piece}
use Rattle.otio_model.specs.declared.piece_summary.Kept.{Kept}
use Rattle.otio_model.specs.Pieces.{all_items, AreChildren, AllPieces, IsPiece, AllFull, ArePieces}
use Rattle.otio_model.specs.Pieces.{IsNumbered, IsSpot}
use Rattle.otio_model.specs.Kept.{kept_of}
use Rattle.otio_model.specs.Edits.{list_at}
use Rattle.otio_model.specs.Trees.{listed}
use Rattle.otio_model.proofs.KeptLemmas.{at_get}
use Rattle.otio_model.proofs.Ways.{Way, get_at, way}

pub get_front : {A : Type 0} (a b : List A) (i : ℕ) → i < length a
    → slice_get (a ++ b) i ≡ slice_get a i
get_front [] b i h = absurd (omega arith)
get_front (x ∷ a) b zero h = refl
get_front (x ∷ a) b (suc i) h = get_front a b i (omega arith)

pub get_past : {A : Type 0} (a b : List A) (i : ℕ)
    → slice_get (a ++ b) (length a + i) ≡ slice_get b i
get_past [] b i = let e : 0 + i ≡ i = omega arith in ap (slice_get b) e
get_past (x ∷ a) b i = let e : suc (length a) + i ≡ suc (length a + i) = omega arith in
    rw e (get_past a b i)

set_front : {A : Type 0} (a b : List A) (i : ℕ) (y : A) → i < length a
    → slice_set (a ++ b) i y ≡ slice_set a i y ++ b
set_front [] b i y h = absurd (omega arith)
set_front (x ∷ a) b zero y h = refl
set_front (x ∷ a) b (suc i) y h = ap (λ l. x ∷ l) (set_front a b i y (omega arith))

set_past : {A : Type 0} (a b : List A) (i : ℕ) (y : A)
    → slice_set (a ++ b) (length a + i) y ≡ a ++ slice_set b i y
set_past [] b i y = let e : 0 + i ≡ i = omega arith in ap (λ k. slice_set b k y) e
set_past (x ∷ a) b i y = let e : suc (length a) + i ≡ suc (length a + i) = omega arith in
    rw e (ap (λ l. x ∷ l) (set_past a b i y))

-- how far into the pieces an item of a piece lies
pub spot_index : (ps : List Piece) (k off : ℕ) → ℕ
spot_index ps k off = length (all_items (take k ps)) + off

first_spot : (p : Piece) (ps : List Piece) (k off : ℕ)
    → length (all_items (take (suc k) (p ∷ ps))) + off
    ≡ length p.items.items + (length (all_items (take k ps)) + off)
first_spot p ps k off = omega (arith, length-append p.items.items (all_items (take k ps)))

pub get_spot : (ps : List Piece) (k off : ℕ) (d : Piece) (x : ItemOf Listed) → k < length ps
    → slice_get (get_or ps k d).items.items off ≡ Some x → off < length (get_or ps k d).items.items
    → slice_get (all_items ps) (length (all_items (take k ps)) + off) ≡ Some x
get_spot [] k off d x h e n = absurd (omega arith)
get_spot (p ∷ ps) zero off d x h e n = let z : 0 + off ≡ off = omega arith in
    ap (slice_get (p.items.items ++ all_items ps)) z ∙ get_front p.items.items (all_items ps) off n
    ∙ e
get_spot (p ∷ ps) (suc k) off d x h e n =
    ap (slice_get (p.items.items ++ all_items ps)) (first_spot p ps k off)
    ∙ get_past p.items.items (all_items ps) (length (all_items (take k ps)) + off)
    ∙ get_spot ps k off d x (omega arith) e n

set_spot : (ps : List Piece) (k off : ℕ) (d q : Piece) (y : ItemOf Listed) → k < length ps
    → q.items.items ≡ slice_set (get_or ps k d).items.items off y
    → off < length (get_or ps k d).items.items
    → all_items (slice_set ps k q)
    ≡ slice_set (all_items ps) (length (all_items (take k ps)) + off) y
set_spot [] k off d q y h e n = absurd (omega arith)
set_spot (p ∷ ps) zero off d q y h e n = let z : 0 + off ≡ off = omega arith in
    ap (λ l. l ++ all_items ps) e ∙ sym (set_front p.items.items (all_items ps) off y n)
    ∙ ap (λ i. slice_set (p.items.items ++ all_items ps) i y) (sym z)
set_spot (p ∷ ps) (suc k) off d q y h e n =
    ap (λ l. p.items.items ++ l) (set_spot ps k off d q y (omega arith) e n)
    ∙ sym (set_past p.items.items (all_items ps) (length (all_items (take k ps)) + off) y)
    ∙ ap (λ i. slice_set (p.items.items ++ all_items ps) i y) (sym (first_spot p ps k off))

pub spot_get : (ps : List Piece) (index k off : ℕ) (p : Piece) (x : ItemOf Listed)
    → IsSpot ps index k off → p ≡ get_or ps k p → x ≡ get_or p.items.items off x
    → slice_get (all_items ps) index ≡ Some x
spot_get ps index k off p x s e f =
    let same : p.items.items ≡ (get_or ps k p).items.items = ap (λ (q : Piece). q.items.items) e in
    let inside : off < length p.items.items = omega (arith, s.inside p, ap length same) in
    ap (slice_get (all_items ps)) (sym s.before)
    ∙ get_spot ps k off p x s.within (ap (λ l. slice_get l off) (sym same)
    ∙ get_at p.items.items off x inside f) (s.inside p)

pub spot_set : (ps : List Piece) (index k off : ℕ) (p q : Piece) (y : ItemOf Listed)
    → IsSpot ps index k off → p ≡ get_or ps k p → q.items.items ≡ slice_set p.items.items off y
    → all_items (slice_set ps k q) ≡ slice_set (all_items ps) index y
spot_set ps index k off p q y s e f =
    let same : p.items.items ≡ (get_or ps k p).items.items = ap (λ (q : Piece). q.items.items) e in
    set_spot ps k off p q y s.within (f ∙ ap (λ l. slice_set l off y) same) (s.inside p)
    ∙ ap (λ i. slice_set (all_items ps) i y) s.before

all-set : (ps : List Piece) (k : ℕ) (q : Piece) → AllPieces ps → IsPiece q
    → AllPieces (slice_set ps k q)
all-set [] zero q a h = tt
all-set [] (suc k) q a h = tt
all-set (p ∷ ps) zero q a h = (h, a.1)
all-set (p ∷ ps) (suc k) q a h = (a.0, all-set ps k q a.1 h)

full-set : (ps : List Piece) (k : ℕ) (d q : Piece) → k < length ps → AllFull ps
    → length q.items.items ≡ length (get_or ps k d).items.items → AllFull (slice_set ps k q)
full-set [] k d q h a e = absurd (omega arith)
full-set (p ∷ ps) zero d q h a e = (omega (arith, e, a.0), a.1)
full-set (p ∷ ps) (suc k) d q h a e = (a.0, full-set ps k d q (omega arith) a.1 e)

length-set : {A : Type 0} (xs : List A) (i : ℕ) (y : A) → length (slice_set xs i y) ≡ length xs
length-set [] zero y = refl
length-set [] (suc i) y = refl
length-set (x ∷ xs) zero y = refl
length-set (x ∷ xs) (suc i) y = ap suc (length-set xs i y)

-- pieces with one item changed, its piece being mended
pub pieces_set : (ps : List Piece) (index k off : ℕ) (p q : Piece) (y : ItemOf Listed)
    → IsSpot ps index k off → p ≡ get_or ps k p → q.items.items ≡ slice_set p.items.items off y
    → q.kept ≡ kept_of q.items.items → ArePieces ps → ArePieces (slice_set ps k q)
pieces_set ps index k off p q y s e f keeps a =
    let same : length p.items.items ≡ length (get_or ps k p).items.items =
    ap (λ (q : Piece). length q.items.items) e in
    let long : length q.items.items ≡ length p.items.items = ap length f
    ∙ length-set p.items.items off y in
    let is : IsPiece p = subst IsPiece (sym e) (at_get ps k p s.within a.all) in
    record {
      all = all-set ps k q a.all
          (record {
            keeps = keeps;
            some = omega (arith, is.some, long);
            small =
                omega (arith, is.small, long);
          });
      full = λ h. full-set ps k p q s.within (a.full (omega (arith, h, length-set ps k q)))
          (omega (arith, long, same));
    }

pub spot_long : (ps : List Piece) (index k off : ℕ) (p q : Piece) (y : ItemOf Listed)
    → IsSpot ps index k off → p ≡ get_or ps k p → q.items.items ≡ slice_set p.items.items off y
    → length (all_items (slice_set ps k q)) ≡ length (all_items ps)
spot_long ps index k off p q y s e f =
    ap length (spot_set ps index k off p q y s e f) ∙ length-set (all_items ps) index y

-- children with one item changed, its piece and all being mended and numbered anew
pub children_set : (ps qs : List Piece) (index k off n : ℕ) (p q : Piece) (y : ItemOf Listed)
    (old new : Kept) → IsSpot ps index k off → p ≡ get_or ps k p
    → q.items.items ≡ slice_set p.items.items off y → q.kept ≡ kept_of q.items.items
    → IsNumbered (slice_set ps k q) qs
    → AreChildren ps n old → new ≡ kept_of (all_items qs)
    → AreChildren qs n new
children_set ps qs index k off n p q y old new s e f keeps r a h = record {
  pieces = r.pieces (pieces_set ps index k off p q y s e f keeps a.pieces);
  numbered = r.numbered;
  counted = a.counted ∙ sym (ap length r.items ∙ spot_long ps index k off p q y s e f);
  keeps = h;
}

-- a place in pieces that were lent is one in the pieces themselves
pub spot_lent : {ps seen : List Piece} {index k off : ℕ} → seen ≡ ps → IsSpot seen index k off
    → IsSpot ps index k off
spot_lent {index = index} {k = k} {off = off} e s = subst (λ l. IsSpot l index k off) e s

-- the way that begins at the item of a place in pieces
pub spot_way : {ps seen : List Piece} {all place : List ℕ} {index k off : ℕ} {view : Listed}
    {p : Piece} {x : ItemOf Listed} {Q : Listed → Type 0} → seen ≡ ps → IsSpot seen index k off
    → p ≡ get_or ps k p → x ≡ get_or p.items.items off x → listed (all_items ps) ≡ view
    → all ≡ index ∷ place → IsSomeAnd (list_at all view) Q
    → Way all index place view (all_items ps) x Q
spot_way {ps = ps} {all = all} {place = place} {index = index} {k = k} {off = off} {view = view}
    {p = p} {x = x} {Q = Q} e s f g is_view is h =
    way all index place view (all_items ps) x Q is_view is h
    (spot_get ps index k off p x (spot_lent e s) f g)

-- a piece of which one item was changed, and which was mended
pub record Mended (p q : Piece) (off : ℕ) (y : ItemOf Listed) : Type 0 where
  pub same : q.items.items ≡ slice_set p.items.items off y
  pub keeps : q.kept ≡ kept_of q.items.items

pub mended : {q : Piece} {set : Vec (ItemOf Listed) Global} (p : Piece) (off : ℕ)
    (y : ItemOf Listed) → set.items ≡ slice_set p.items.items off y → q.items ≡ set
    → q.kept ≡ kept_of set.items → Mended p q off y
mended {q = q} {set = set} p off y s e k =
    let same : q.items.items ≡ set.items = ap (λ (v : Vec (ItemOf Listed) Global). v.items) e in
    record { same = same ∙ s; keeps = k ∙ ap (λ l. kept_of l) (sym same) }
