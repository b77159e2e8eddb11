-- What may stand before and after an item whose edges move. Only looks are known here.
use Rattle.std.proofs.Common.{◌≡◌, refl, sym, ap, ◌∙◌, ℤ, pos, ◌+ℤ◌, ◌-ℤ◌, ◌≤ℤ◌, List, [], ◌∷◌, arith}
use Rattle.std.proofs.lemmas.Int.{ints}
use Rattle.coord.specs.Looks.{Show, Look, from_end, blank, list_shows, total}
use Rattle.edits.specs.Splices.{empty, AreGood, IsItem}
use Rattle.coord.proofs.LookSteps.{item_hit}
use Rattle.edits_law.proofs.Splice.{IsLater, AreClear}
use Rattle.edits_law.proofs.Seams.{seam_before, items_later, items_good, items_behind}
use Rattle.edits_law.proofs.Shaped.{longer, longer_item, shifted, shifted_item, same_to, same_from}
use Rattle.edits_law.proofs.Rolls.{Heads, Tails}

pub empty_item : (n : ℤ) → pos 0 ≤ℤ n → IsItem (empty n)
empty_item n h = record { whole = h; item = refl }

-- an item whose tail moves
pub head_item : (l : List Look) (y : Look) (h : ℤ) → AreGood l → IsItem y → pos 0 ≤ℤ (y.length +ℤ h) → Heads l (y ∷ []) (longer y h ∷ []) h (from_end y)
head_item l y h g i k = record {
  old = (i, tt);
  new = (longer_item y h k, tt);
  long = omega (arith, ints);
  same = λ r s w a b m n. same_to l y (longer y h) r s w g i (longer_item y h k) (λ u. refl) a b (omega (arith, ints)) (omega (arith, ints));
  moved = λ r u z m n. item_hit (longer y h) r u z (omega (arith, ints)) ∙ ap y.shows (omega (arith, ints));
}

-- one that goes, as nothing is left of it
pub head_gone : (l : List Look) (y : Look) (h : ℤ) (c : ℤ → Show) → AreGood l → IsItem y → AreClear (total l) (total l) l → (y.length +ℤ h) ≡ pos 0 → Heads l (y ∷ []) [] h c
head_gone l y h c g i k e = let len = i.whole in record {
  old = (i, tt);
  new = tt;
  long = omega (arith, ints);
  same = λ r s w a b m n. seam_before l (y ∷ r) s w g k (items_later (y ∷ []) r (i, tt) a) b (omega (arith, ints));
  moved = λ r u z m n. absurd (omega (arith, ints));
}

-- a gap that comes
pub head_new : (l : List Look) (h : ℤ) → AreGood l → AreClear (total l) (total l) l → pos 0 ≤ℤ h → Heads l [] (empty h ∷ []) h blank
head_new l h g k e = record {
  old = tt;
  new = (empty_item h e, tt);
  long = omega (arith, ints);
  same = λ r s w a b m n. seam_before l r (empty h ∷ s) w g k a (items_later (empty h ∷ []) s (empty_item h e, tt) b) (omega (arith, ints));
  moved = λ r u z m n. item_hit (empty h) r u z (omega (arith, ints));
}

-- nothing
pub head_none : (l : List Look) (h : ℤ) (c : ℤ → Show) → AreGood l → AreClear (total l) (total l) l → h ≡ pos 0 → Heads l [] [] h c
head_none l h c g k e = record {
  old = tt;
  new = tt;
  long = omega (arith, ints);
  same = λ r s w a b m n. seam_before l r s w g k a b (omega (arith, ints));
  moved = λ r u z m n. absurd (omega (arith, ints));
}

-- an item whose head moves
pub tail_item : (z : Look) (r : List Look) (t : ℤ) → AreGood r → IsItem z → pos 0 ≤ℤ (z.length -ℤ t) → Tails (z ∷ r) (shifted z t (pos 0) ∷ r) t z.shows
tail_item z r t g i k = let len = i.whole in record {
  good = ((items_good (z ∷ []) (i, tt)).0, g);
  good_new = ((items_good (shifted z t (pos 0) ∷ []) (shifted_item z t (pos 0) (omega (arith, ints)), tt)).0, g);
  same = λ v h m. same_from z r t v i h m;
  moved = λ u h m. item_hit (shifted z t (pos 0)) r u h (omega (arith, ints));
}

-- one that goes
pub tail_gone : (z : Look) (r : List Look) (t : ℤ) (c : ℤ → Show) → AreGood r → IsItem z → IsLater r → (z.length -ℤ t) ≡ pos 0 → Tails (z ∷ r) r t c
tail_gone z r t c g i u e = let len = i.whole in record {
  good = ((items_good (z ∷ []) (i, tt)).0, g);
  good_new = g;
  same = λ v h m. ap (list_shows r) (omega (arith, ints)) ∙ sym (items_behind (z ∷ []) r v (i, tt) u (omega (arith, ints)));
  moved = λ v h m. absurd (omega (arith, ints));
}

-- a gap that comes
pub tail_new : (r : List Look) (t : ℤ) → AreGood r → IsLater r → t ≤ℤ pos 0 → Tails r (empty (pos 0 -ℤ t) ∷ r) t blank
tail_new r t g u e = let k : pos 0 ≤ℤ (pos 0 -ℤ t) = omega (arith, ints) in record {
  good = g;
  good_new = ((items_good (empty (pos 0 -ℤ t) ∷ []) (empty_item (pos 0 -ℤ t) k, tt)).0, g);
  same = λ v h m. items_behind (empty (pos 0 -ℤ t) ∷ []) r (v -ℤ t) (empty_item (pos 0 -ℤ t) k, tt) u (omega (arith, ints)) ∙ ap (list_shows r) (omega (arith, ints));
  moved = λ v h m. item_hit (empty (pos 0 -ℤ t)) r v h (omega (arith, ints));
}

-- nothing
pub tail_none : (r : List Look) (t : ℤ) (c : ℤ → Show) → AreGood r → t ≡ pos 0 → Tails r r t c
tail_none r t c g e = record {
  good = g;
  good_new = g;
  same = λ v h m. ap (list_shows r) (omega (arith, ints));
  moved = λ v h m. absurd (omega (arith, ints));
}

-- the list's end, which moves on
pub tail_end : (t : ℤ) (c : ℤ → Show) → pos 0 ≤ℤ t → Tails [] [] t c
tail_end t c e = record {
  good = tt;
  good_new = tt;
  same = λ v h m. refl;
  moved = λ v h m. absurd (omega (arith, ints));
}
