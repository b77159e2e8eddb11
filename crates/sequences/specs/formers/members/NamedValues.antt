-- `NamedValues` as a type that may hold the type that holds it.
use mathlib.Core.Path.{◌≡◌, refl, sym, ap, subst}
use mathlib.Core.List.{List, [], ◌∷◌, map}
use Prim.Native.Nat.{ℕ}
use mathlib.Core.Former.{Former, this, const, pair, list, via}
use base.Stored.{code_map, coded×, coded_list, coded_ℕ, gcons}
use denote.RattleType.{RattleType}
use denote.HoleLaws.{Alike}
use denote.HolePlaces.{Recodes, struct_places, laid, stays}
use denote.Hole.Fix.{over}
use denote.Struct.Tuple.{tuple_type, Tuple}
use denote.Param.Weighed.{Weighed, w_list, w_pair, w_const}
use denote.Model.Placed.{view_places}
use Rattle.std.specs.formers.vec.Vec as vec
use Rattle.std.specs.declared.alloc.Global.{Global}
use Rattle.std.specs.contracts.alloc.Global as heap
use Rattle.std.specs.contracts.impls.GlobalAllocator.TheImpl.{ghosts}
use Rattle.sequences.specs.Pairs.{names_of, AreDistinct, AreDistinct-prop}
use Rattle.sequences.specs.contracts.texts.Text as text
use Rattle.sequences.specs.declared.members.NamedValues.TheInside.{Inside}
use Rattle.sequences.specs.declared.members.NamedValues.TheView.{view, invariant}
use Rattle.sequences.specs.contracts.members.NamedValues as C
use Rattle.sequences.specs.contracts.members.NamedValues.TheInside as I

-- a name, as its UTF-8 bytes
abbrev pub Name : Type 0
Name = List ℕ

-- a pair of a name and a value
abbrev pub entry : Former {0} → Former {0}
entry g = pair (const Name) g

-- a pair with its value replaced
abbrev pub on_value : {X Y : Type 0} → (X → Y) → Name × X → Name × Y
on_value h p = (p.0, h p.1)

-- what named values hold: a list of pairs
abbrev pub the_former : Former {0} → Former {0}
the_former g = list (entry g)

-- named values weigh what their values weigh
abbrev pub the_weighed : {g : Former {0}} → Weighed g → Weighed (the_former g)
the_weighed w = w_list (w_pair (w_const Name) w)

-- no pairs
pub the_empty : List (Name × ⊥)
the_empty = []

-- the fields: one `Vec` of the pairs
abbrev of_pairs : Former {0}
of_pairs = via (vec.the_former (entry this) Global) Inside (λ X a. a.pairs)
    (λ X v. record { pairs = v }) (λ X a. refl) (λ X v. refl)

-- the names stay where the values are replaced
names_kept : {X Y : Type 0} (h : X → Y) (ps : List (Name × X))
    → names_of (map (on_value h) ps) ≡ names_of ps
names_kept h [] = refl
names_kept h (p ∷ ps) = ap (λ l. p.0 ∷ l) (names_kept h ps)

-- a pair of a text and a value, as Rust has it
abbrev pair_row : RattleType → RattleType
pair_row R = Tuple (text.the_row ∷ R ∷ [])

module _ (R S : RattleType) (h : R.Denot → S.Denot) where
  -- values of two types that are alike have pairs that are alike
  pair_places : Alike R S h → Alike (pair_row R) (pair_row S) (on_value h)
  pair_places a = struct_places (tuple_type (text.the_row ∷ R ∷ []))
      (tuple_type (text.the_row ∷ S ∷ [])) (λ n. n, (h, tt)) _ (λ d. refl) refl
      (stays text.the_row, (laid R S h a, tt))

  -- and named values that are alike
  pub the_places : Alike R S h
      → Alike (C.the_row R) (C.the_row S) ((the_former this).map R.Denot S.Denot h)
  the_places a = view_places of_pairs (the_former this) view (λ X Y k u. refl) (λ X u. refl)
      R.Denot S.Denot h (C.the_row R).coded (C.the_row S).coded
      (invariant R.Denot) (invariant S.Denot) (λ u. AreDistinct-prop _) (λ u. AreDistinct-prop _)
      (λ u. subst AreDistinct (sym (names_kept h u.pairs.items)))
      (λ u. subst AreDistinct (names_kept h u.pairs.items))
      (over (I.the_row R)) (over (I.the_row S))
      (struct_places (I.the_type R) (I.the_type S) (vec.mapped (on_value h), tt) _ (λ d. refl)
      refl (
        laid _ _ _ (vec.the_places heap.the_row ghosts (pair_row R) (pair_row S) (on_value h)
            (pair_places a)),
        tt,
      ))

  -- the code of named values is that of their names and values
  pub the_codes_placed : Recodes R S h
      → Recodes (C.the_row R) (C.the_row S) ((the_former this).map R.Denot S.Denot h)
  the_codes_placed e d = sym (code_map (coded× (coded_list coded_ℕ) R.coded).code
      (coded× (coded_list coded_ℕ) S.coded).code (on_value h)
      (λ x i. gcons ((coded_list coded_ℕ).code x.0) (sym (e x.1) i)) d)
