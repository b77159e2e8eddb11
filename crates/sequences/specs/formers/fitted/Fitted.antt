-- `Fitted` as a type that may hold the type that holds it.
use mathlib.Core.Path.{◌≡◌, refl, sym}
use mathlib.Core.Logic.{inl, inr}
use mathlib.Core.List.{List, [], map}
use mathlib.Core.Former.{Former, this, const, pair, or, list, via, children}
use base.Stored.{code_map, gnil}
use base.Fml.{ftrue}
use denote.RattleType.{RattleType}
use denote.Memory.{part_of}
use denote.RawPtr.{Ptr}
use denote.Sharing.{nothing}
use denote.HoleLaws.{Alike}
use denote.HolePlaces.{Recodes, struct_places, enum_places, eachs, laid, one_value}
use denote.Hole.Carrier.{listed, list-listed}
use denote.Hole.Fix.{over}
use denote.Param.Weighed.{Weighed, w_list}
use denote.Model.Placed.{held, view_places}
use Rattle.std.specs.formers.vec.Vec as vec
use Rattle.std.specs.contracts.vec.Vec as V
use Rattle.std.specs.declared.boxed.Box.{Box}
use Rattle.std.specs.contracts.boxed.Box as box
use Rattle.std.specs.declared.alloc.Global.{Global}
use Rattle.std.specs.contracts.alloc.Global as heap
use Rattle.std.specs.contracts.impls.GlobalAllocator.TheImpl.{ghosts}
use Rattle.sequences.specs.Rows.{members}
use Rattle.sequences.specs.declared.rows.Row.{Row}
use Rattle.sequences.specs.declared.rows.Row.TheVariants.{Nothing, One, Many}
use Rattle.sequences.specs.contracts.rows.Row as row
use Rattle.sequences.specs.declared.fitted.Fitted.TheInside.{Inside}
use Rattle.sequences.specs.declared.fitted.Fitted.TheView.{view, invariant}
use Rattle.sequences.specs.contracts.fitted.Fitted as C
use Rattle.sequences.specs.contracts.fitted.Fitted.TheInside as I

-- what a fitted list holds: a list
abbrev pub the_former : Former {0} → Former {0}
the_former g = list g

-- a fitted list weighs what its members weigh
abbrev pub the_weighed : {g : Former {0}} → Weighed g → Weighed (the_former g)
the_weighed w = w_list w

-- the list with no members
pub the_empty : List ⊥
the_empty = []

-- the members are the value itself
abbrev pub the_items : (X : Type 0) → List X → List X
the_items X d = d

-- the members are what the list has
pub the_items_listed : (X : Type 0) (d : List X)
    → listed _ (children (the_former this) X d) ≡ the_items X d
the_items_listed X d = list-listed X d

-- where a box lies
abbrev Place : Type 0
Place = Ptr × Global

-- a box at a place
abbrev box_at : {X : Type 0} → Place → X → Box X Global
box_at p x = record { ptr = p.0; alloc = p.1; value = x }

-- a box with its value replaced
abbrev on_value : {X Y : Type 0} → (X → Y) → Box X Global → Box Y Global
on_value h b = record { ptr = b.ptr; alloc = b.alloc; value = h b.value }

-- what a row holds: nothing, a value in a box, or a `Vec` in a box
abbrev held_in_row : Former {0}
held_in_row = or (const (Unit {0})) (or (pair (const Place) this)
    (pair (const Place) (vec.the_former this Global)))

module _ {X : Type 0} where
  abbrev split : Row X → held_in_row.Of X
  split Nothing = inl tt
  split (One b) = inr (inl ((b.ptr, b.alloc), b.value))
  split (Many b) = inr (inr ((b.ptr, b.alloc), b.value))

  abbrev join : held_in_row.Of X → Row X
  join (inl u) = Nothing
  join (inr (inl p)) = One (box_at p.0 p.1)
  join (inr (inr p)) = Many (box_at p.0 p.1)

  join-split : (r : Row X) → join (split r) ≡ r
  join-split Nothing = refl
  join-split (One b) = refl
  join-split (Many b) = refl

  split-join : (p : held_in_row.Of X) → split (join p) ≡ p
  split-join (inl u) = refl
  split-join (inr (inl p)) = refl
  split-join (inr (inr p)) = refl

-- the rows
abbrev rows : Former {0}
rows = via held_in_row Row (λ X. split) (λ X. join) (λ X. join-split) (λ X. split-join)

-- the fields: one row of the members
abbrev of_row : Former {0}
of_row = via rows Inside (λ X a. a.row) (λ X r. record { row = r }) (λ X a. refl) (λ X r. refl)

-- the members of a row are what it holds
keeps : (X : Type 0) (r : Row X) → held (list this) X (members r) ≡ held rows X r
keeps X Nothing = refl
keeps X (One b) = refl
keeps X (Many b) = refl

-- the members of a row with each replaced
natural : (X Y : Type 0) (h : X → Y) (r : Row X) → members (rows.map X Y h r) ≡ map h (members r)
natural X Y h Nothing = refl
natural X Y h (One b) = refl
natural X Y h (Many b) = refl

-- a box, as Rust has it
abbrev box_of : RattleType → RattleType
box_of R = box.the_row R heap.the_row ghosts

-- a list in memory of its own, as Rust has it
abbrev vec_of : RattleType → RattleType
vec_of R = V.the_row R heap.the_row ghosts

module _ (R S : RattleType) (h : R.Denot → S.Denot) where
  -- values of two types that are alike have boxes that are alike
  box_places : Alike R S h → Alike (box_of R) (box_of S) (on_value h)
  unfolding part_of
  box_places a = record {
    mir_same = λ i. (box_of (one_value R (a.mir_same i) (λ _. ftrue) (λ _ _. nothing) gnil)).mir;
    own_same = λ b i. (box_of (one_value R (a.mir_same i) (a.own_same b.value i)
        (a.shr_same b.value i) gnil)).own_val (on_value (λ _. tt) b);
    shr_same = λ b i. (box_of (one_value R (a.mir_same i) (a.own_same b.value i)
        (a.shr_same b.value i) gnil)).shr_at (on_value (λ _. tt) b);
  }

module _ (R S : RattleType) (h : R.Denot → S.Denot) where
  -- the variants of a row with each member replaced
  variant : (r : Row R.Denot) → (row.enum S).as_values (rows.map R.Denot S.Denot h r)
      ≡ eachs (row.enum R).parts (row.enum S).parts
      (tt, ((on_value h, tt), ((on_value (vec.mapped h), tt), tt)))
      ((row.enum R).as_values r)
  variant Nothing = refl
  variant (One b) = refl
  variant (Many b) = refl

  -- members of two types that are alike have rows that are alike
  row_places : Alike R S h → Alike (row.the_row R) (row.the_row S) (rows.map R.Denot S.Denot h)
  row_places a = enum_places (row.enum R) (row.enum S)
      (tt, ((on_value h, tt), ((on_value (vec.mapped h), tt), tt)))
      (rows.map R.Denot S.Denot h) variant refl (
        tt,
        (
          (laid _ _ _ (box_places R S h a), tt),
          (
            (
              laid _ _ _ (box_places (vec_of R) (vec_of S) (vec.mapped h)
                  (vec.the_places heap.the_row ghosts R S h a)),
              tt,
            ),
            tt,
          ),
        ),
      )

  -- and fitted lists that are alike
  pub the_places : Alike R S h
      → Alike (C.the_row R) (C.the_row S) ((the_former this).map R.Denot S.Denot h)
  the_places a = view_places of_row (list this) view (λ X Y k u. natural X Y k u.row)
      (λ X u. keeps X u.row)
      R.Denot S.Denot h (C.the_row R).coded (C.the_row S).coded
      (invariant R.Denot) (invariant S.Denot) (λ u p q. refl) (λ u p q. refl)
      (λ u e. tt) (λ u e. tt)
      (over (I.the_row R)) (over (I.the_row S))
      (struct_places (I.the_type R) (I.the_type S) (rows.map R.Denot S.Denot h, tt) _ (λ d. refl)
      refl (laid _ _ _ (row_places a), tt))

  -- the code of a fitted list is that of its members
  pub the_codes_placed : Recodes R S h
      → Recodes (C.the_row R) (C.the_row S) ((the_former this).map R.Denot S.Denot h)
  the_codes_placed e d = sym (code_map R.coded.code S.coded.code h (λ x. sym (e x)) d)
