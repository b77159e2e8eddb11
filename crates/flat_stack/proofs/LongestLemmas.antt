-- The longest stretches, put together from any.
use mathlib.Core.Path.{Path}
use Rattle.std.proofs.Common.{◌≡◌, refl, sym, subst, ap, ap₂, ◌∙◌, ℤ, pos, ◌≤ℤ◌, ◌<ℤ◌, Bool, false, Option, Some, None, List, [], ◌∷◌, ◌++◌, map, arith}
use Rattle.std.specs.Prelude.{IsTrue}
use Rattle.std.proofs.lemmas.Int.{ints}
use Rattle.otio_model.specs.declared.compositions.ItemOf.{ItemOf}
use Rattle.otio_model.specs.declared.compositions.Listed.{Listed}
use Rattle.coord.proofs.Members.{next}
use Rattle.flat.specs.Pieces.{Giver, Piece, AreLongest}
use Rattle.flat.specs.Built.{Leaves, IsOne}
use Rattle.flat_law.proofs.Built.{leaves_all, leaves_rest, leaves_none, one_grows}
use Rattle.flat_stack.specs.declared.stretches.Given.{Given}
use Rattle.flat_stack.specs.declared.stretches.Stretch.{Stretch}
use Rattle.flat_stack.specs.declared.same_clips.Part.{Part}
use Rattle.flat_stack.specs.Runs.{giver_of, given_of, AreRuns, piece_of}

-- so far the stretches are put together, and the last one may go on
pub record IsGrown (l : List (ItemOf Listed)) (g : ℤ → Option Giver) (end : ℤ) (parts : List Part)
    (part : Part) (rest : List Stretch) : Type 0 where
  pub leaves : Leaves g end (map (piece_of l) parts) part.from
  pub long : part.from <ℤ part.to
  pub low : part.to ≤ℤ end
  pub one : IsOne g part.from part.to (given_of l part.given)
  pub left : AreRuns l g end part.to rest

first_grown : (l : List (ItemOf Listed)) (g : ℤ → Option Giver) (end : ℤ) (s : Stretch)
    (runs rest : List Stretch) → runs ≡ s ∷ rest → AreRuns l g end (pos 0) runs
    → IsGrown l g end [] (record { from = pos 0; to = s.to; given = s.given }) rest
first_grown l g end s runs rest e r =
    let a : AreRuns l g end (pos 0) (s ∷ rest) = subst (AreRuns l g end (pos 0)) e r in
    record { leaves = leaves_all g end; long = a.0; low = a.1; one = a.2; left = a.3 }

pub grown_first : (l : List (ItemOf Listed)) (g : ℤ → Option Giver) (end to : ℤ) (s : Stretch)
    (runs rest : List Stretch) (parts : List Part) → parts ≡ [] → to ≡ s.to → runs ≡ s ∷ rest
    → AreRuns l g end (pos 0) runs
    → IsGrown l g end parts (record { from = pos 0; to = to; given = s.given }) rest
grown_first l g end to s runs rest parts n k e r =
    subst (λ m. IsGrown l g end m (record { from = pos 0; to = to; given = s.given }) rest) (sym n)
    (subst (λ z. IsGrown l g end [] (record { from = pos 0; to = z; given = s.given }) rest) (sym k)
    (first_grown l g end s runs rest e r))

-- one that is given alike
pub grown_more : (l : List (ItemOf Listed)) (g : ℤ → Option Giver) (end : ℤ) (parts : List Part)
    (part new : Part) (s : Stretch) (rest more : List Stretch) → IsGrown l g end parts part rest
    → rest ≡ s ∷ more → s.given ≡ part.given
    → new ≡ record { from = part.from; to = s.to; given = part.given }
    → IsGrown l g end parts new more
grown_more l g end parts part new s rest more w e f n =
    let a : AreRuns l g end part.to (s ∷ more) = subst (AreRuns l g end part.to) e w.left in
    subst (λ p. IsGrown l g end parts p more) (sym n) (record {
      leaves = w.leaves;
      long = let k = w.long in omega (arith, ints, k, a.0);
      low = a.1;
      one = one_grows g part.from part.to s.to (given_of l part.given) w.one
          (subst (λ z. IsOne g part.to s.to (given_of l z)) f a.2);
      left = a.3;
    })

-- what tells two clips apart tells their givers apart
given_back : (l : List (ItemOf Listed)) (o p : Option Given) → given_of l o ≡ given_of l p → o ≡ p
given_back l None None e = refl
given_back l None (Some y) e = absurd (cc e)
given_back l (Some x) None e = absurd (cc e)
given_back l (Some x) (Some y) e =
    let f : Path Giver (giver_of l x) (giver_of l y) = same (giver_of l x) (giver_of l y) e in
    ap Some (λ i. record {
      track = ap (λ (q : Giver). q.track) f i;
      child = ap (λ (q : Giver). q.child) f i;
      start = ap (λ (q : Giver). q.start) f i;
    })
  where
    same : (a b : Giver) → Some a ≡ Some b → a ≡ b
    same a b h = cc h

map_last : {A B : Type 0} (f : A → B) (l : List A) (x : A) → map f (l ++ x ∷ []) ≡ map f l ++ f x ∷ []
map_last f [] x = refl
map_last f (y ∷ l) x = ap (λ m. f y ∷ m) (map_last f l x)

-- one that isn't
pub grown_next : (l : List (ItemOf Listed)) (g : ℤ → Option Giver) (end : ℤ) (parts new : List Part)
    (part next : Part) (s : Stretch) (rest more : List Stretch) → IsGrown l g end parts part rest
    → rest ≡ s ∷ more → (s.given ≡ part.given → ⊥) → new ≡ parts ++ part ∷ []
    → next ≡ record { from = part.to; to = s.to; given = s.given } → IsGrown l g end new next more
grown_next l g end parts new part next s rest more w e f n m =
    let a : AreRuns l g end part.to (s ∷ more) = subst (AreRuns l g end part.to) e w.left in
    let here : g part.to ≡ given_of l s.given = a.2 part.to (omega (arith, ints)) a.0 in
    subst (λ p. IsGrown l g end new p more) (sym m) (record {
      leaves = subst (λ z. Leaves g end z part.to) (sym (ap (map (piece_of l)) n ∙ map_last (piece_of l) parts part))
          (leaves_rest g end part.from part.to (given_of l part.given) (map (piece_of l) parts) w.leaves w.long w.low w.one
          (λ k z. f (given_back l s.given part.given (sym here ∙ z))));
      long = a.0;
      low = a.1;
      one = a.2;
      left = a.3;
    })

pub grown_all : (l : List (ItemOf Listed)) (g : ℤ → Option Giver) (end : ℤ) (parts new : List Part)
    (part : Part) (rest : List Stretch) → IsGrown l g end parts part rest → rest ≡ []
    → new ≡ parts ++ part ∷ [] → AreLongest g end (pos 0) (map (piece_of l) new)
grown_all l g end parts new part rest w e n =
    let done : part.to ≡ end = subst (AreRuns l g end part.to) e w.left in
    leaves_none g end part.to (map (piece_of l) new)
    (subst (λ z. Leaves g end z part.to) (sym (ap (map (piece_of l)) n ∙ map_last (piece_of l) parts part))
    (leaves_rest g end part.from part.to (given_of l part.given) (map (piece_of l) parts) w.leaves w.long w.low w.one
    (λ k z. absurd (omega (arith, ints, k, done))))) done

pub grown_none : (l : List (ItemOf Listed)) (g : ℤ → Option Giver) (end : ℤ) (runs : List Stretch)
    (parts : List Part) → runs ≡ [] → parts ≡ [] → AreRuns l g end (pos 0) runs
    → AreLongest g end (pos 0) (map (piece_of l) parts)
grown_none l g end runs parts e f r =
    let done : pos 0 ≡ end = subst (AreRuns l g end (pos 0)) e r in
    subst (AreLongest g end (pos 0)) (sym (ap (map (piece_of l)) f))
    (Rattle.flat.specs.Pieces.no_more (pos 0) [] done refl)

-- ---- tests

pub no_of : {P : Type 0} (b : Bool) → (P → IsTrue b) → b ≡ false → P → ⊥
no_of b f e p = absurd (cc (sym e ∙ f p))

-- ---- the loop over the stretches

pub with_same : (l : List (ItemOf Listed)) (g : ℤ → Option Giver) (end to : ℤ)
    (parts new_parts : List Part) (part new : Part) (s : Stretch) (rest more : List Stretch)
    → IsGrown l g end parts part rest → rest ≡ s ∷ more → s.given ≡ part.given → to ≡ s.to
    → new ≡ record { from = part.from; to = to; given = part.given } → new_parts ≡ parts
    → IsGrown l g end new_parts new more
with_same l g end to parts new_parts part new s rest more w e f k n m =
    subst (λ z. IsGrown l g end z new more) (sym m)
    (grown_more l g end parts part new s rest more w e f
    (n ∙ ap (λ z. record { from = part.from; to = z; given = part.given }) k))

pub with_next : (l : List (ItemOf Listed)) (g : ℤ → Option Giver) (end from to : ℤ)
    (parts new : List Part) (part next : Part) (s : Stretch) (rest more : List Stretch)
    → IsGrown l g end parts part rest → rest ≡ s ∷ more → (s.given ≡ part.given → ⊥)
    → new ≡ parts ++ part ∷ [] → from ≡ part.to → to ≡ s.to
    → next ≡ record { from = from; to = to; given = s.given } → IsGrown l g end new next more
with_next l g end from to parts new part next s rest more w e f n j k m =
    grown_next l g end parts new part next s rest more w e f n
    (m ∙ ap₂ (λ y z. record { from = y; to = z; given = s.given }) j k)
