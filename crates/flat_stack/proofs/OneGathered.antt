-- Timelines become one in one way.
use Rattle.std.proofs.Common.{◌≡◌, ◌≢◌, refl, sym, ap, subst, ◌∙◌, ℕ, zero, suc, Bool, true, false, List, [], ◌∷◌, Option, Some, None, map, ◌++◌, arith}
use Rattle.std.specs.Prelude.{flat_map}
use Rattle.otio_model.specs.declared.timelines.Timeline.{Timeline}
use Rattle.otio_model.specs.Timelines.{bare}
use Rattle.otio_model.specs.Counts.{count}
use Rattle.coord.proofs.OneFault.{same_fault, no_fault_of}
use Rattle.coord.proofs.SpareLemmas.{faultless_bare, fault_bare}
use Rattle.edits.specs.After.{rate_of}
use Rattle.command_words.specs.declared.tools.Joining.{Joining}
use Rattle.command_words.specs.declared.tools.Joining.TheVariants.{Concat, Stack}
use Rattle.flat.specs.declared.faults.FlatAt.{FlatAt}
use Rattle.flat.specs.declared.faults.FlatFault.{FlatFault}
use Rattle.flat.specs.declared.faults.FlatFault.TheVariants as F
use Rattle.flat.specs.Answers.{Joins, joins, JoinNames, JoinRefused, AreFree, Names}
use Rattle.flat.specs.Blocked.{IsFree, IsFirst}
use Rattle.flat.specs.Joined.{IsJoined, JoinBlocks, joined_tracks, slots}
use Rattle.flat.specs.Piled.{IsPiled}
use Rattle.flat.specs.Roots.{roots, with_roots}
use Rattle.flat_law.proofs.Firsts.{first_join}
use Rattle.coord.proofs.Members.{same_some}
use Rattle.flat_stack.specs.declared.step_faults.ToolFault.{ToolFault}
use Rattle.flat_stack.specs.declared.step_faults.ToolFault.TheVariants.{At, Unsound}
use Rattle.flat_stack.specs.Gathered.{IsFew, IsMany, IsConcat, IsConcatFault, unjoined, many, IsChecked, IsCheckFault, Piles, IsStack, IsStackFault, IsGathered, IsUngathered}
use Rattle.flat_stack.proofs.OneStep.{IsSure, then_sure, names_placed, placed_same, placed_never}

-- the timelines without their spare memory
abbrev pub bares : List Timeline → List Timeline
bares l = map bare l

-- ---- equal inputs

first_same : (t u : Timeline) (l m : List Timeline) → bare t ∷ bares l ≡ bare u ∷ bares m
    → bare t ≡ bare u
first_same t u l m e = cc e

rest_same : (t u : Timeline) (l m : List Timeline) → bare t ∷ bares l ≡ bare u ∷ bares m
    → bares l ≡ bares m
rest_same t u l m e = cc e

roots_same : (l m : List Timeline) → bares l ≡ bares m → map roots l ≡ map roots m
roots_same [] [] e = refl
roots_same [] (u ∷ m) e = absurd (cc e)
roots_same (t ∷ l) [] e = absurd (cc e)
roots_same (t ∷ l) (u ∷ m) e =
    ap (λ x. x ∷ map roots l) (ap roots (first_same t u l m e))
    ∙ ap (λ x. roots u ∷ x) (roots_same l m (rest_same t u l m e))

flat_same : (l m : List Timeline) → bares l ≡ bares m → flat_map roots l ≡ flat_map roots m
flat_same [] [] e = refl
flat_same [] (u ∷ m) e = absurd (cc e)
flat_same (t ∷ l) [] e = absurd (cc e)
flat_same (t ∷ l) (u ∷ m) e =
    ap (λ x. x ++ flat_map roots l) (ap roots (first_same t u l m e))
    ∙ ap (λ x. roots u ++ x) (flat_same l m (rest_same t u l m e))

-- ---- joined

joined_one : (t u r q : Timeline) (l m : List Timeline) → bare t ∷ bares l ≡ bare u ∷ bares m
    → IsJoined t l r → IsJoined u m q → bare r ≡ bare q
joined_one t u r q l m e x y =
    let first = first_same t u l m e in
    let more = roots_same l m (rest_same t u l m e) in
    let tracks : x.tracks ≡ y.tracks = same_some x.tracks y.tracks (sym x.are
    ∙ ap (λ (z : Timeline).
    joined_tracks (rate_of z) (roots z) (map roots l) (slots [] (roots z ∷ map roots l))) first
    ∙ ap (λ k. joined_tracks (rate_of u) (roots u) k (slots [] (roots u ∷ k))) more
    ∙ y.are) in
    x.is ∙ ap (λ k. bare (with_roots k t)) tracks
    ∙ ap (λ (z : Timeline). bare (with_roots y.tracks z)) first ∙ sym y.is

joins_one : (a b : List Timeline) (r q : Timeline) → bares a ≡ bares b → Joins a r → Joins b q
    → bare r ≡ bare q
joins_one a b r q e (joins t l _ _ h f x) (joins u m _ _ k g y) =
    joined_one t u r q l m (ap bares (sym h) ∙ e ∙ ap bares k) x y

-- the inputs from one on can't be joined, and can
free_never : (s : Bool) (a b : List Timeline) (i : ℕ) (f : FlatFault) → bares a ≡ bares b
    → f ≢ F.Memory → AreFree s a → JoinNames s b i f → ⊥
free_never s a [] i f e n x y = y
free_never s [] (u ∷ m) i f e n x y = absurd (cc e)
free_never s (t ∷ []) (u ∷ []) zero f e n x y =
    placed_never (JoinBlocks s true (roots u)) f
    (subst (λ (z : Timeline). IsFree (JoinBlocks s true (roots z))) (first_same t u [] [] e) x)
    (names_placed (JoinBlocks s true (roots u)) f n y)
free_never s (t ∷ []) (u ∷ []) (suc i) f e n x y = y
free_never s (t ∷ []) (u ∷ (v ∷ m)) i f e n x y =
    absurd (cc (rest_same t u [] (v ∷ m) e))
free_never s (t ∷ (w ∷ l)) (u ∷ []) i f e n x y =
    absurd (cc (rest_same t u (w ∷ l) [] e))
free_never s (t ∷ (w ∷ l)) (u ∷ (v ∷ m)) zero f e n x y =
    placed_never (JoinBlocks s false (roots u)) f
    (subst (λ (z : Timeline). IsFree (JoinBlocks s false (roots z)))
    (first_same t u (w ∷ l) (v ∷ m) e) x.0)
    (names_placed (JoinBlocks s false (roots u)) f n y)
free_never s (t ∷ (w ∷ l)) (u ∷ (v ∷ m)) (suc i) f e n x y =
    free_never false (w ∷ l) (v ∷ m) i f (rest_same t u (w ∷ l) (v ∷ m) e) n x.1 y.1

first_fault : (s l : Bool) (t u : Timeline) (f g : FlatFault) → bare t ≡ bare u → f ≢ F.Memory
    → g ≢ F.Memory → Names (JoinBlocks s l (roots t)) f → Names (JoinBlocks s l (roots u)) g
    → f ≡ g
first_fault s l t u f g e n m x y =
    let p = names_placed (JoinBlocks s l (roots t)) f n x in
    let q = names_placed (JoinBlocks s l (roots u)) g m y in
    let there : IsFirst (JoinBlocks s l (roots u)) p.place p.cause =
    subst (λ (z : Timeline). IsFirst (JoinBlocks s l (roots z)) p.place p.cause) e p.first in
    placed_same f g p.place q.place p.cause q.cause p.is q.is
    (first_join s l (roots u) p.place q.place p.cause q.cause there q.first)

free_named : (s l : Bool) (t u : Timeline) (f : FlatFault) → bare t ≡ bare u → f ≢ F.Memory
    → IsFree (JoinBlocks s l (roots t)) → Names (JoinBlocks s l (roots u)) f → ⊥
free_named s l t u f e n x y =
    placed_never (JoinBlocks s l (roots u)) f
    (subst (λ (z : Timeline). IsFree (JoinBlocks s l (roots z))) e x)
    (names_placed (JoinBlocks s l (roots u)) f n y)

abbrev IsSame : ℕ → ℕ → FlatFault → FlatFault → Type 0
IsSame i j f g = (i ≡ j) × (f ≡ g)

names_one : (s : Bool) (a b : List Timeline) (i j : ℕ) (f g : FlatFault) → bares a ≡ bares b
    → f ≢ F.Memory → g ≢ F.Memory → JoinNames s a i f → JoinNames s b j g → IsSame i j f g
names_one s [] b i j f g e n m x y = absurd x
names_one s (t ∷ l) [] i j f g e n m x y = absurd y
names_one s (t ∷ []) (u ∷ []) zero zero f g e n m x y =
    (refl, first_fault s true t u f g (first_same t u [] [] e) n m x y)
names_one s (t ∷ []) (u ∷ []) (suc i) j f g e n m x y = absurd x
names_one s (t ∷ []) (u ∷ []) zero (suc j) f g e n m x y = absurd y
names_one s (t ∷ []) (u ∷ (v ∷ k)) i j f g e n m x y =
    absurd (cc (rest_same t u [] (v ∷ k) e))
names_one s (t ∷ (w ∷ l)) (u ∷ []) i j f g e n m x y =
    absurd (cc (rest_same t u (w ∷ l) [] e))
names_one s (t ∷ (w ∷ l)) (u ∷ (v ∷ k)) zero zero f g e n m x y =
    (refl, first_fault s false t u f g (first_same t u (w ∷ l) (v ∷ k) e) n m x y)
names_one s (t ∷ (w ∷ l)) (u ∷ (v ∷ k)) zero (suc j) f g e n m x y =
    absurd (free_named s false u t f (sym (first_same t u (w ∷ l) (v ∷ k) e)) n y.0 x)
names_one s (t ∷ (w ∷ l)) (u ∷ (v ∷ k)) (suc i) zero f g e n m x y =
    absurd (free_named s false t u g (first_same t u (w ∷ l) (v ∷ k) e) m x.0 y)
names_one s (t ∷ (w ∷ l)) (u ∷ (v ∷ k)) (suc i) (suc j) f g e n m x y =
    let rest = names_one false (w ∷ l) (v ∷ k) i j f g (rest_same t u (w ∷ l) (v ∷ k) e) n m
    x.1 y.1 in
    (ap (λ z. suc z) rest.0, rest.1)

named : (l : List Timeline) (i : ℕ) (f : FlatFault) → f ≢ F.Memory
    → JoinRefused l (record { input = i; fault = f }) → JoinNames true l i f
named l i (F.Nested place) n h = h
named l i (F.Transition place) n h = h
named l i (F.Phase place) n h = h
named l i F.Range n h = absurd h
named l i F.Memory n h = absurd (n refl)

join_names : (l : List Timeline) (why : FlatAt) → why.fault ≢ F.Memory → JoinRefused l why
    → JoinNames true l why.input why.fault
join_names l why n h = named l why.input why.fault n h

-- ---- one after another

many_few : (r q : Timeline) → bare r ≡ bare q → IsFew r → IsMany q → ⊥
many_few r q e x y = omega (arith, x, y, ap (λ (z : Timeline). count z.tracks.children) e)

refused_never : (a b : List Timeline) (r : Timeline) (why : FlatAt) → bares a ≡ bares b
    → Joins a r → why.fault ≢ F.Memory → JoinRefused b why → ⊥
refused_never a b r why e (joins t l _ _ h free x) n y =
    free_never true a b why.input why.fault e n free (join_names b why n y)

concat_never : (a b : List Timeline) (r : Timeline) (f : ToolFault) → bares a ≡ bares b
    → IsConcat a r → IsConcatFault b f → ⊥
concat_never a b r f e x (unjoined why n h k) = refused_never a b r why e x.0 n h
concat_never a b r f e x (many q h k m) = many_few r q (joins_one a b r q e x.0 h) x.1 k

at_same : (i j : ℕ) (f g : FlatFault) → IsSame i j f g → At i f ≡ At j g
at_same i j f g e = ap (λ z. At z f) e.0 ∙ ap (At j) e.1

concat_fault : (a b : List Timeline) (f g : ToolFault) → bares a ≡ bares b → IsConcatFault a f
    → IsConcatFault b g → f ≡ g
concat_fault a b f g e (unjoined why n h k) (unjoined also m x y) =
    k ∙ at_same why.input also.input why.fault also.fault
    (names_one true a b why.input also.input why.fault also.fault e n m (join_names a why n h)
    (join_names b also m x)) ∙ sym y
concat_fault a b f g e (unjoined why n h k) (many q x y z) =
    absurd (refused_never b a q why (sym e) x n h)
concat_fault a b f g e (many q x y z) (unjoined why n h k) =
    absurd (refused_never a b q why e x n h)
concat_fault a b f g e (many r h k m) (many q x y z) = m ∙ sym z

pub concat_sure : IsSure bares IsConcat IsConcatFault
concat_sure = record {
  one = λ a b r q e x y. joins_one a b r q e x.0 y.0;
  never = concat_never;
  fault = concat_fault;
}

pub check_sure : IsSure bare IsChecked IsCheckFault
check_sure = record {
  one = λ t u r q e x y. x.0 ∙ e ∙ sym y.0;
  never = λ t u r f e x y. no_fault_of u y.0 (faultless_bare t u e x.1) y.2;
  fault = λ t u f g e x y.
      x.3 ∙ ap Unsound (same_fault t x.0 y.0 x.1 y.1 x.2 (fault_bare u t y.0 (sym e) y.2))
      ∙ sym y.3;
}

-- ---- above each other

piled_one : (t u r q : Timeline) (l m : List Timeline) → bare t ∷ bares l ≡ bare u ∷ bares m
    → IsPiled t l r → IsPiled u m q → bare r ≡ bare q
piled_one t u r q l m e x y =
    x ∙ ap (λ (z : Timeline). bare (with_roots (roots z ++ flat_map roots l) z))
    (first_same t u l m e)
    ∙ ap (λ k. bare (with_roots (roots u ++ k) u)) (flat_same l m (rest_same t u l m e)) ∙ sym y

piles_one : (a b : List Timeline) (r q : Timeline) → bares a ≡ bares b → Piles a r → Piles b q
    → bare r ≡ bare q
piles_one a b r q e x y =
    piled_one x.0 y.0 r q x.1 y.1 (ap bares (sym x.2) ∙ e ∙ ap bares y.2) x.3 y.3

stack_sure : IsSure bares IsStack IsStackFault
stack_sure = record {
  one = λ a b r q e x y. piles_one a b r q e x.0 y.0;
  never = λ a b r f e x y. many_few r y.0 (piles_one a b r y.0 e x.0 y.1) x.1 y.2;
  fault = λ a b f g e x y. x.3 ∙ sym y.3;
}

-- ---- as one

same_one : (r q : Timeline) → bare r ∷ [] ≡ bare q ∷ [] → bare r ≡ bare q
same_one r q e = cc e

alone_sure : IsSure bares (IsGathered None) (IsUngathered None)
alone_sure = record {
  one = λ a b r q e x y. same_one r q (sym x ∙ e ∙ y);
  never = λ a b r f e x y. y;
  fault = λ a b f g e x y. absurd x;
}

pub gathered_sure : (joining : Option Joining)
    → IsSure bares (IsGathered joining) (IsUngathered joining)
gathered_sure None = alone_sure
gathered_sure (Some Concat) =
    then_sure bares IsConcat IsConcatFault IsChecked IsCheckFault concat_sure check_sure
gathered_sure (Some Stack) = stack_sure
