-- Pieces with the same items.
use Rattle.std.proofs.Common.{◌≡◌, ℕ, suc, ◌+◌, ◌<◌, List, [], ◌∷◌, ◌++◌, take, length, get_or}
use Rattle.std.proofs.Common.{refl, ap, ap₂, sym, ◌∙◌, arith, subst}
use Rattle.std.proofs.lemmas.List.{take_more}
use Rattle.otio_model.specs.declared.lists.Piece.{Piece}
use Rattle.otio_model.specs.Pieces.{all_items, AllPieces, AllFull, AreNumbered, ArePieces}
use Rattle.otio_model.specs.Pieces.{start_past}
use Rattle.otio_model.specs.declared.piece_summary.Kept.{Kept}
use Rattle.otio_model.specs.declared.piece_numbers.PieceStart.{PieceStart}
use Rattle.otio_model.specs.Kept.{kept_of}
use Rattle.otio_model.specs.Sums.{capped}

-- the same items and sums piece by piece,
abbrev pub AreCopies : List Piece → List Piece → Type 0
AreCopies [] [] = Unit {0}
AreCopies [] (q ∷ qs) = ⊥
AreCopies (p ∷ ps) [] = ⊥
AreCopies (p ∷ ps) (q ∷ qs) =
    (p.items.items ≡ q.items.items) × (p.kept ≡ q.kept) × (p.start ≡ q.start) × AreCopies ps qs

copies-last : (ps qs : List Piece) (p q : Piece) → AreCopies ps qs → p.items.items ≡ q.items.items
    → p.kept ≡ q.kept → p.start ≡ q.start → AreCopies (ps ++ p ∷ []) (qs ++ q ∷ [])
copies-last [] [] p q c e k r = (e, k, r, tt)
copies-last [] (y ∷ qs) p q c e k r = absurd c
copies-last (x ∷ ps) [] p q c e k r = absurd c
copies-last (x ∷ ps) (y ∷ qs) p q c e k r = (c.0, c.1, c.2, copies-last ps qs p q c.3 e k r)

pub copies_more : (old new qs : List Piece) (i : ℕ) (p q : Piece) → new ≡ old ++ p ∷ []
    → i < length qs → q ≡ get_or qs i q → AreCopies old (take i qs) → p.items.items ≡ q.items.items
    → p.kept ≡ q.kept → p.start ≡ q.start
    → AreCopies new (take (i + 1) qs)
copies_more old new qs i p q n h e c s k r =
    subst (λ l. AreCopies l (take (i + 1) qs)) (sym n)
    (subst (λ l. AreCopies (old ++ p ∷ []) l)
    (sym (take_more qs i q h ∙ ap (λ y. take i qs ++ y ∷ []) (sym e)))
    (copies-last old (take i qs) p q c s k r))

pub copies_items : (ps qs : List Piece) → AreCopies ps qs → all_items ps ≡ all_items qs
copies_items [] [] c = refl
copies_items [] (q ∷ qs) c = absurd c
copies_items (p ∷ ps) [] c = absurd c
copies_items (p ∷ ps) (q ∷ qs) c = ap₂ (λ a b. a ++ b) c.0 (copies_items ps qs c.3)

copies_long : (ps qs : List Piece) → AreCopies ps qs → length ps ≡ length qs
copies_long [] [] c = refl
copies_long [] (q ∷ qs) c = absurd c
copies_long (p ∷ ps) [] c = absurd c
copies_long (p ∷ ps) (q ∷ qs) c = ap suc (copies_long ps qs c.3)

copies_all : (ps qs : List Piece) → AreCopies ps qs → AllPieces qs → AllPieces ps
copies_all [] [] c a = tt
copies_all [] (q ∷ qs) c a = absurd c
copies_all (p ∷ ps) [] c a = absurd c
copies_all (p ∷ ps) (q ∷ qs) c a = (
  record {
    keeps = c.1 ∙ a.0.keeps ∙ ap (λ l. kept_of l) (sym c.0);
    some =
        omega (arith, ap length c.0, a.0.some);
    small = omega (arith, ap length c.0, a.0.small);
  },
  copies_all ps qs c.3 a.1,
)

copies_full : (ps qs : List Piece) → AreCopies ps qs → AllFull qs → AllFull ps
copies_full [] [] c a = tt
copies_full [] (q ∷ qs) c a = absurd c
copies_full (p ∷ ps) [] c a = absurd c
copies_full (p ∷ ps) (q ∷ qs) c a = (omega (arith, ap length c.0, a.0), copies_full ps qs c.3 a.1)

pub copies_are : (ps qs : List Piece) → AreCopies ps qs → ArePieces qs → ArePieces ps
copies_are ps qs c a =
    record {
      all = copies_all ps qs c a.all;
      full =
          λ h. copies_full ps qs c (a.full (omega (arith, h, copies_long ps qs c)));
    }

pub copies_numbered : (ps qs : List Piece) (s : PieceStart) → AreCopies ps qs → AreNumbered s qs
    → AreNumbered s ps
copies_numbered [] [] s c a = tt
copies_numbered [] (q ∷ qs) s c a = absurd c
copies_numbered (p ∷ ps) [] s c a = absurd c
copies_numbered (p ∷ ps) (q ∷ qs) s c a =
    let behind : ℕ → Kept → PieceStart = λ n k. record {
      items = s.items + n;
      ticks = capped (s.ticks + k.lengths.ticks);
    } in
    let same : start_past s p ≡ start_past s q = ap₂ behind (ap length c.0) c.1 in (
      c.2 ∙ a.0,
      subst (λ t. AreNumbered t ps) (sym same)
          (copies_numbered ps qs (start_past s q) c.3 a.1),
    )
