-- Pieces that know what stands before them.
use Rattle.std.proofs.Common.{◌≡◌, ℕ, zero, suc, ◌+◌, ◌-◌, ◌<◌, ◌≤◌, List, [], ◌∷◌, ◌++◌, refl, ap}
use Rattle.std.proofs.Common.{sym, ◌∙◌, length, take, get_or, arith, length-append}
use Rattle.std.specs.Prelude.{slice_set}
use Rattle.std.proofs.lemmas.List.{take_more}
use Rattle.otio_model.specs.declared.lists.Piece.{Piece}
use Rattle.otio_model.specs.declared.piece_numbers.PieceStart.{PieceStart}
use Rattle.otio_model.specs.Pieces.{all_items, AllFull, AllPieces, AreNumbered, ArePieces, front}
use Rattle.otio_model.specs.Pieces.{IsBetween, IsSpot, numbered_to, start_past, start_past_all}
use Rattle.otio_model.proofs.Cuts.{length_more, same_default}
use Rattle.otio_model.proofs.KeptLemmas.{taken_all}

-- what stands before a piece
start_at : (ps : List Piece) (s : PieceStart) (i : ℕ) (d : Piece) → i < length ps
    → AreNumbered s ps → (get_or ps i d).start ≡ start_past_all s (take i ps)
start_at [] s i d h a = absurd (omega arith)
start_at (p ∷ ps) s zero d h a = a.0
start_at (p ∷ ps) s (suc i) d h a = start_at ps (start_past s p) i d (omega arith) a.1

pub past_items : (ps : List Piece) (s : PieceStart)
    → (start_past_all s ps).items ≡ s.items + length (all_items ps)
past_items [] s = omega arith
past_items (p ∷ ps) s =
    omega (arith, past_items ps (start_past s p), length-append p.items.items (all_items ps))

-- how many items stand before a piece
pub items_at : (ps : List Piece) (i : ℕ) (p : Piece) → i < length ps → p ≡ get_or ps i p
    → AreNumbered front ps → p.start.items ≡ length (all_items (take i ps))
items_at ps i p h e a =
    omega (
      arith,
      ap (λ (x : Piece). x.start.items) e,
      ap (λ (s : PieceStart). s.items) (start_at ps front i p h a),
      past_items (take i ps) front,
    )

-- how long they are together, as the pieces keep it
pub ticks_at : (ps : List Piece) (i : ℕ) (p : Piece) → i < length ps → p ≡ get_or ps i p
    → AreNumbered front ps → p.start.ticks ≡ (start_past_all front (take i ps)).ticks
ticks_at ps i p h e a = ap (λ (x : Piece). x.start.ticks) e
    ∙ ap (λ (s : PieceStart). s.ticks) (start_at ps front i p h a)

past_last : (ps : List Piece) (s : PieceStart) (p : Piece)
    → start_past_all s (ps ++ p ∷ []) ≡ start_past (start_past_all s ps) p
past_last [] s p = refl
past_last (q ∷ ps) s p = past_last ps (start_past s q) p

-- one more piece is numbered
numbered_set : (ps : List Piece) (i : ℕ) (s : PieceStart) (d q : Piece) → i < length ps
    → q ≡ record (get_or (numbered_to i s ps) i d) { start = start_past_all s (take i ps) }
    → slice_set (numbered_to i s ps) i q ≡ numbered_to (suc i) s ps
numbered_set [] i s d q h e = absurd (omega arith)
numbered_set (p ∷ ps) zero s d q h e = ap (λ x. x ∷ ps) e
numbered_set (p ∷ ps) (suc i) s d q h e =
    ap (λ l. record p { start = s } ∷ l) (numbered_set ps i (start_past s p) d q (omega arith) e)

renumbered : (p r : Piece) (s t : PieceStart) (q : Piece) → q ≡ record p { start = s } → p ≡ r
    → s ≡ t → q ≡ record r { start = t }
renumbered p r s t q g e h =
    let f : Piece → Piece = λ x. record x { start = s } in
    let k : PieceStart → Piece = λ x. record r { start = x } in
    g ∙ ap f e ∙ ap k h

pub numbered_next : (ps qs : List Piece) (i : ℕ) (before : PieceStart) (p q : Piece)
    → i < length ps → qs ≡ numbered_to i front ps → p ≡ get_or qs i p
    → before ≡ start_past_all front (take i ps) → q ≡ record p { start = before }
    → slice_set qs i q ≡ numbered_to (i + 1) front ps
numbered_next ps qs i before p q h e f b g =
    let s : i + 1 ≡ suc i = omega arith in
    let same : p ≡ get_or (numbered_to i front ps) i p = f ∙ ap (λ l. get_or l i p) e in
    ap (λ l. slice_set l i q) e
    ∙ numbered_set ps i front p q h (renumbered p _ before _ q g same b)
    ∙ ap (λ k. numbered_to k front ps) (sym s)

pub numbered_long : (ps : List Piece) (i : ℕ) (s : PieceStart)
    → length (numbered_to i s ps) ≡ length ps
numbered_long ps zero s = refl
numbered_long [] (suc i) s = refl
numbered_long (p ∷ ps) (suc i) s = ap suc (numbered_long ps i (start_past s p))

-- numbering changes no item
pub numbered_items : (ps : List Piece) (i : ℕ) (s : PieceStart)
    → all_items (numbered_to i s ps) ≡ all_items ps
numbered_items ps zero s = refl
numbered_items [] (suc i) s = refl
numbered_items (p ∷ ps) (suc i) s =
    ap (λ l. p.items.items ++ l) (numbered_items ps i (start_past s p))

numbered_all : (ps : List Piece) (i : ℕ) (s : PieceStart) → AllPieces ps
    → AllPieces (numbered_to i s ps)
numbered_all ps zero s a = a
numbered_all [] (suc i) s a = tt
numbered_all (p ∷ ps) (suc i) s a = (
  record { keeps = a.0.keeps; some = a.0.some; small = a.0.small },
  numbered_all ps i (start_past s p) a.1,
)

numbered_full : (ps : List Piece) (i : ℕ) (s : PieceStart) → AllFull ps → AllFull (numbered_to i s ps)
numbered_full ps zero s a = a
numbered_full [] (suc i) s a = tt
numbered_full (p ∷ ps) (suc i) s a = (a.0, numbered_full ps i (start_past s p) a.1)

-- nor what pieces they are
pub numbered_pieces : (ps : List Piece) (i : ℕ) (s : PieceStart) → ArePieces ps
    → ArePieces (numbered_to i s ps)
numbered_pieces ps i s a =
    record {
      all = numbered_all ps i s a.all;
      full =
          λ h. numbered_full ps i s (a.full (omega (arith, h, numbered_long ps i s)));
    }

-- and then all are numbered
pub are_numbered : (ps : List Piece) (s : PieceStart) → AreNumbered s (numbered_to (length ps) s ps)
are_numbered [] s = tt
are_numbered (p ∷ ps) s = (refl, are_numbered ps (start_past s p))

-- the element that is read before it is numbered
pub numbered_get : (ps : List Piece) (i : ℕ) (s : PieceStart) (d : Piece) → i < length ps
    → get_or (numbered_to i s ps) i d ≡ get_or ps i d
numbered_get [] i s d h = absurd (omega arith)
numbered_get (p ∷ ps) zero s d h = refl
numbered_get (p ∷ ps) (suc i) s d h = numbered_get ps i (start_past s p) d (omega arith)

-- the bounds at first, and when they are next to each other
pub between_all : (ps : List Piece) (index : ℕ) → index < length (all_items ps)
    → IsBetween ps index 0 (length ps)
between_all [] index h = absurd (omega (arith, h))
between_all (p ∷ ps) index h =
    record {
      order = omega arith;
      within = omega arith;
      below = omega arith;
      above =
          omega (
            arith,
            h,
            ap (λ l. length (all_items l))
                (taken_all (p ∷ ps) (length (p ∷ ps)) (omega arith)),
          );
    }

pub spot_between : {ps : List Piece} {index low high before : ℕ} → IsBetween ps index low high
    → high ≤ low + 1 → before ≡ length (all_items (take low ps))
    → IsSpot ps index low (index - before)
spot_between {ps = ps} {low = low} {high = high} b h e =
    let low_in : low < length ps = omega (arith, b.order, b.within) in
    let next : high ≡ low + 1 = omega (arith, b.order, h) in
    record {
      within = low_in;
      before = omega (arith, e, b.below);
      inside = λ d. omega (
        arith,
        e,
        b.below,
        b.above,
        ap (λ k. length (all_items (take k ps))) next,
        length_more ps low (get_or ps low d) low_in (same_default ps low d (get_or ps low d) low_in),
      );
    }

-- what is known of the piece that is numbered next
pub record Read (ps : List Piece) (i : ℕ) (p : Piece) : Type 0 where
  pub there : i < length ps
  pub more : length (all_items (take (i + 1) ps))
      ≡ length (all_items (take i ps)) + length p.items.items
  pub past : start_past_all front (take (i + 1) ps)
      ≡ start_past (start_past_all front (take i ps)) p

pub numbered_read : (ps qs : List Piece) (i : ℕ) (p : Piece) → i < length ps
    → qs ≡ numbered_to i front ps → p ≡ get_or qs i p → Read ps i p
numbered_read ps qs i p h e f =
    let same : p ≡ get_or ps i p = f ∙ ap (λ l. get_or l i p) e ∙ numbered_get ps i front p h in
    record {
      there = h;
      more = length_more ps i p h same;
      past = ap (start_past_all front) (take_more ps i p h
          ∙ ap (λ y. take i ps ++ y ∷ []) (sym same)) ∙ past_last (take i ps) front p;
    }
