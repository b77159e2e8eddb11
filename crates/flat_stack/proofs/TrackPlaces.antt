-- Where a flat track goes.
use Rattle.std.proofs.Common.{◌≡◌, refl, sym, ap, ap₂, ◌∙◌, ℕ, zero, suc, ◌+◌, true, false, Some, List, [], ◌∷◌, ◌++◌, take, drop, append_assoc, arith}
use Rattle.std.specs.Prelude.{slice_get, filter, not}
use Rattle.std.proofs.lemmas.List.{append-nil}
use Rattle.otio_model.specs.declared.compositions.ItemOf.{ItemOf}
use Rattle.otio_model.specs.declared.compositions.Listed.{Listed}
use Rattle.flat.specs.Roots.{is_of}
use Rattle.flat.specs.Flattened.{has_kind, in_place}
use Rattle.coord.proofs.Members.{same_some}
use Rattle.flat_stack.specs.Placed.{IsFirstOf}
use Rattle.flat_stack.proofs.CopyLemmas.{taken_more}
use Rattle.std.proofs.lemmas.Bool.{or_from, or_parts}

-- ---- one child more

no_kind_more : (kind : List ℕ) (l : List (ItemOf Listed)) (x : ItemOf Listed) → has_kind kind l ≡ false
    → is_of kind x ≡ false → has_kind kind (l ++ x ∷ []) ≡ false
no_kind_more kind [] x e f = or_from (is_of kind x) false f refl
no_kind_more kind (y ∷ l) x e f =
    let n = or_parts (is_of kind y) (has_kind kind l) e in
    or_from (is_of kind y) (has_kind kind (l ++ x ∷ [])) n.0 (no_kind_more kind l x n.1 f)

-- ---- the first track of a kind

pub none_next : (kind : List ℕ) (l : List (ItemOf Listed)) (i : ℕ) (x : ItemOf Listed)
    → has_kind kind (take i l) ≡ false → slice_get l i ≡ Some x → is_of kind x ≡ false
    → has_kind kind (take (i + 1) l) ≡ false
none_next kind l i x e there f = ap (has_kind kind) (taken_more l i x there) ∙ no_kind_more kind (take i l) x e f

-- ---- the others

abbrev pub others : List ℕ → List (ItemOf Listed) → List (ItemOf Listed)
others kind l = filter (λ x. not (is_of kind x)) l

-- so far the others are copied
abbrev pub AreOthers : List ℕ → List (ItemOf Listed) → List (ItemOf Listed) → List (ItemOf Listed)
    → List (ItemOf Listed) → Type 0
AreOthers kind from old all rest =
    old ++ filter (λ x. not (is_of kind x)) from ≡ all ++ filter (λ x. not (is_of kind x)) rest

pub others_kept : (kind : List ℕ) (from old all new rest more : List (ItemOf Listed))
    (x : ItemOf Listed) → AreOthers kind from old all rest → rest ≡ x ∷ more → is_of kind x ≡ false
    → new ≡ all ++ x ∷ [] → AreOthers kind from old new more
others_kept kind from old all new rest more x a e f n =
    a ∙ ap (λ m. all ++ others kind m) e ∙ ap (λ m. all ++ m) (kept more)
    ∙ sym (append_assoc all (x ∷ []) (others kind more)) ∙ ap (λ m. m ++ others kind more) (sym n)
  where
    kept : (l : List (ItemOf Listed)) → others kind (x ∷ l) ≡ x ∷ others kind l
    kept l = rw f refl

pub others_less : (kind : List ℕ) (from old all new rest more : List (ItemOf Listed))
    (x : ItemOf Listed) → AreOthers kind from old all rest → rest ≡ x ∷ more → is_of kind x ≡ true
    → new ≡ all → AreOthers kind from old new more
others_less kind from old all new rest more x a e f n =
    a ∙ ap (λ m. all ++ others kind m) e ∙ ap (λ m. all ++ m) (gone more)
    ∙ ap (λ m. m ++ others kind more) (sym n)
  where
    gone : (l : List (ItemOf Listed)) → others kind (x ∷ l) ≡ others kind l
    gone l = rw f refl

pub others_all : (kind : List ℕ) (from old all rest : List (ItemOf Listed))
    → AreOthers kind from old all rest → rest ≡ []
    → all ≡ old ++ filter (λ x. not (is_of kind x)) from
others_all kind from old all rest a e =
    sym (a ∙ ap (λ m. all ++ others kind m) e ∙ append-nil all)

-- ---- in place of the first

place_is : (kind : List ℕ) (flat : ItemOf Listed) (l : List (ItemOf Listed)) (i : ℕ)
    (x : ItemOf Listed) → slice_get l i ≡ Some x → is_of kind x ≡ true
    → has_kind kind (take i l) ≡ false
    → in_place kind flat l ≡ take i l ++ flat ∷ others kind (drop (suc i) l)
place_is kind flat [] zero x e f g = absurd (cc e)
place_is kind flat [] (suc i) x e f g = absurd (cc e)
place_is kind flat (y ∷ l) zero x e f g =
    let h : is_of kind y ≡ true = ap (is_of kind) (same_some y x e) ∙ f in rw h refl
place_is kind flat (y ∷ l) (suc i) x e f g =
    let n = or_parts (is_of kind y) (has_kind kind (take i l)) g in
    let h = n.0 in
    rw h (ap (λ m. y ∷ m) (place_is kind flat l i x e f n.1))

pub placed : (kind : List ℕ) (flat : ItemOf Listed) (l before all : List (ItemOf Listed))
    (i : ℕ) → IsFirstOf kind l i → before ≡ take i l ++ flat ∷ []
    → all ≡ before ++ filter (λ x. not (is_of kind x)) (drop (i + 1) l)
    → all ≡ in_place kind flat l
placed kind flat l before all i h e g =
    g ∙ ap (λ m. m ++ others kind (drop (i + 1) l)) e
    ∙ append_assoc (take i l) (flat ∷ []) (others kind (drop (i + 1) l))
    ∙ ap (λ n. take i l ++ flat ∷ others kind (drop n l)) (let k : i + 1 ≡ suc i = omega arith in k)
    ∙ sym (place_is kind flat l i h.item h.there h.of h.before)

-- ---- one copy more

pub front_more : (l front new : List (ItemOf Listed)) (i : ℕ) (x y : ItemOf Listed)
    → front ≡ take i l → slice_get l i ≡ Some x → y ≡ x → new ≡ front ++ y ∷ []
    → new ≡ take (i + 1) l
front_more l front new i x y e there same n =
    n ∙ ap₂ (λ m z. m ++ z ∷ []) e same ∙ sym (taken_more l i x there)
