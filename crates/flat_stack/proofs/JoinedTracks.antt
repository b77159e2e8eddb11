-- What inputs give to a joined track.
use Rattle.std.proofs.Common.{◌≡◌, refl, sym, subst, ap, ◌∙◌, ℕ, zero, suc, ◌+◌, ◌<◌, ◌≤◌, ◌^◌, ℤ, pos, ◌≤ℤ◌, ◌<ℤ◌, Bool, true, false, cond, Option, Some, None, List, [], ◌∷◌, ◌++◌, length, drop, append_assoc, arith}
use Rattle.std.specs.Prelude.{slice_get, nat_lt, not, option_map}
use Rattle.std.proofs.lemmas.Bool.Decides.{nat_tests}
use Rattle.std.proofs.lemmas.List.{append-nil}
use Rattle.tick_time.specs.declared.rates.Rate.{Rate}
use Rattle.otio_model.specs.declared.compositions.ItemOf.{ItemOf}
use Rattle.otio_model.specs.declared.compositions.ItemOf.TheVariants.{Clip, Gap, Transition, Stack, Track}
use Rattle.otio_model.specs.declared.compositions.Listed.{Listed}
use Rattle.otio_model.specs.Counts.{count}
use Rattle.otio_model.specs.Edits.{deeper}
use Rattle.otio_model.specs.Trees.{children_of, is_track, items_of}
use Rattle.coord.proofs.Members.{child_few, next, none_left, same_some}
use Rattle.edits.specs.Children.{Child, all_made, made, new_gap, with_first}
use Rattle.edits.specs.Cuts.{olds}
use Rattle.flat.specs.Joined.{Slot, joined_with, own_items, pad, track_of}
use Rattle.flat.specs.Roots.{is_empty, items_in}
use Rattle.flat_law.proofs.Fit.{kth_at}
use Rattle.pieces.specs.Short.{AreCuttable}
use Rattle.pieces.proofs.Inner.{root_faultless, inner_few, inner_cuttable}
use Rattle.flat_stack.specs.declared.inputs.Part.{Part}
use Rattle.flat_stack.specs.Inputs.{IsPreparedInput, IsAdded, given, list_of, pad_behind, piece, children_from, track_from, tracks_from, with_front}
use Rattle.limits.proofs.IntegerTests.{below-int_lt, above-int_lt}

-- ---- the children of an input's track

-- few, and each without a fault
pub record AreOwn (c : Listed) : Type 0 where
  pub few : count c < 2 ^ 32
  pub cuttable : AreCuttable (items_of c)

pub own_known : (p : Part) (kind : List ℕ) (k : ℕ) (x : ItemOf Listed) (c : Listed) → IsPreparedInput p
    → Some x ≡ track_of kind k (list_of p) → children_of x ≡ Some c → AreOwn c
own_known p kind k x c known e f =
    let at = kth_at kind (list_of p) k x (sym e) in
    let few = child_few p.input.now.tracks.children at.0 x at.1 known.few in
    let sound = root_faultless p.input.now.tracks.children at.0 x known.faultless at.1 in
    record { few = inner_few x c f few; cuttable = inner_cuttable x c f sound few }

-- ---- a gap

pub no_pad : (r : Rate) (n : ℤ) (old new : List (ItemOf Listed)) → n ≤ℤ pos 0 → new ≡ old
    → IsAdded r (pad n) old new
no_pad r n old new h e = record {
  items = [];
  are = ap (λ b. all_made r (cond b (new_gap n ∷ []) [])) (above-int_lt (pos 0) n h);
  is = e ∙ sym (append-nil old);
}

pub one_pad : (r : Rate) (n : ℤ) (old new : List (ItemOf Listed)) (x : ItemOf Listed)
    → pos 0 <ℤ n → made r (new_gap n) ≡ Some x → new ≡ old ++ x ∷ [] → IsAdded r (pad n) old new
one_pad r n old new x h m e = record {
  items = x ∷ [];
  are = ap (λ b. all_made r (cond b (new_gap n ∷ []) [])) (below-int_lt (pos 0) n h)
      ∙ ap (λ o. with_first o (Some [])) m;
  is = e;
}

-- ---- lists of children that are made

pub made_front : (r : Rate) (a b : List Child) (l : List (ItemOf Listed)) → all_made r a ≡ Some l
    → all_made r (a ++ b) ≡ with_front l (all_made r b)
made_front r [] b l e = same (all_made r b) ∙ ap (λ z. with_front z (all_made r b)) (none l e)
  where
    none : (l : List (ItemOf Listed)) → Some [] ≡ Some l → [] ≡ l
    none l f = cc f

    same : (o : Option (List (ItemOf Listed))) → o ≡ with_front [] o
    same None = refl
    same (Some l) = refl
made_front r (c ∷ a) b l e = of (made r c) (all_made r a) (λ m f. made_front r a b m f) e
  where
    of : (o : Option (ItemOf Listed)) (q : Option (List (ItemOf Listed)))
        → ((m : List (ItemOf Listed)) → q ≡ Some m → all_made r (a ++ b) ≡ with_front m (all_made r b))
        → with_first o q ≡ Some l
        → with_first o (all_made r (a ++ b)) ≡ with_front l (all_made r b)
    of None q f g = absurd (cc g)
    of (Some x) None f g = absurd (cc g)
    of (Some x) (Some m) f g =
        let is : x ∷ m ≡ l = cc g in
        ap (with_first (Some x)) (f m refl) ∙ one x m (all_made r b)
        ∙ ap (λ z. with_front z (all_made r b)) is
      where
        one : (x : ItemOf Listed) (m : List (ItemOf Listed)) (o : Option (List (ItemOf Listed)))
            → with_first (Some x) (with_front m o) ≡ with_front (x ∷ m) o
        one x m None = refl
        one x m (Some n) = refl

pub made_olds : (r : Rate) (l : List (ItemOf Listed)) → all_made r (olds l) ≡ Some l
made_olds r [] = refl
made_olds r (x ∷ l) = ap (with_first (Some x)) (made_olds r l)

put_piece : (r : Rate) (s : Slot) (p : Part) (more : Bool) (old mid new : List (ItemOf Listed))
    → mid ≡ old ++ given s p → IsAdded r (cond more (pad_behind s p) []) mid new
    → IsAdded r (piece s p more) old new
put_piece r s p more old mid new e a = record {
  items = given s p ++ a.items;
  are = made_front r (olds (given s p)) (cond more (pad_behind s p) []) (given s p) (made_olds r (given s p))
      ∙ ap (with_front (given s p)) a.are;
  is = a.is ∙ ap (λ z. z ++ a.items) e ∙ append_assoc old (given s p) a.items;
}

lt_is : (n m : ℕ) → n < m → nat_lt n m ≡ true
lt_is n m h = grind (arith, nat_tests)

lt_not : (n m : ℕ) → m ≤ n → nat_lt n m ≡ false
lt_not n m h = grind (arith, nat_tests)

none_added : (r : Rate) (l : List (ItemOf Listed)) → IsAdded r [] l l
none_added r l = record { items = []; are = refl; is = sym (append-nil l) }

pub put_more : (r : Rate) (s : Slot) (p q : Part) (n m : ℕ) (old mid new : List (ItemOf Listed))
    → Some p ≡ Some q → n < m → mid ≡ old ++ given s p → IsAdded r (pad_behind s p) mid new
    → IsAdded r (piece s q (nat_lt n m)) old new
put_more r s p q n m old mid new same h e a =
    subst (λ b. IsAdded r (piece s q b) old new) (sym (lt_is n m h))
    (subst (λ (z : Part). IsAdded r (piece s z true) old new) (same_some p q same)
    (put_piece r s p true old mid new e a))

pub put_last : (r : Rate) (s : Slot) (p q : Part) (n m : ℕ) (old mid : List (ItemOf Listed))
    → Some p ≡ Some q → m ≤ n → mid ≡ old ++ given s p
    → IsAdded r (piece s q (nat_lt n m)) old mid
put_last r s p q n m old mid same h e =
    subst (λ b. IsAdded r (piece s q b) old mid) (sym (lt_not n m h))
    (subst (λ (z : Part). IsAdded r (piece s z false) old mid) (same_some p q same)
    (put_piece r s p false old mid mid e (none_added r mid)))

less_is : (n : ℕ) (ps : List Part) → nat_lt n (length ps) ≡ not (is_empty (drop n ps))
less_is zero [] = refl
less_is zero (p ∷ ps) = grind (arith, nat_tests)
less_is (suc n) [] = grind (arith, nat_tests)
less_is (suc n) (p ∷ ps) = less_suc n (length ps) ∙ less_is n ps
  where
    less_suc : (a b : ℕ) → nat_lt (suc a) (suc b) ≡ nat_lt a b
    less_suc a b = grind (arith, nat_tests)

pub more_is : (i : ℕ) (ps : List Part) → nat_lt (i + 1) (length ps) ≡ not (is_empty (drop (i + 1) ps))
more_is i ps = less_is (i + 1) ps

-- ---- the loop over inputs

abbrev pub AreItems : Rate → Slot → List Part → List (ItemOf Listed) → ℕ → Type 0
AreItems r s ps done i = all_made r (children_from s ps)
    ≡ with_front done (all_made r (children_from s (drop i ps)))

front_none : (o : Option (List (ItemOf Listed))) → o ≡ with_front [] o
front_none None = refl
front_none (Some l) = refl

front_twice : (a b : List (ItemOf Listed)) (o : Option (List (ItemOf Listed)))
    → with_front a (with_front b o) ≡ with_front (a ++ b) o
front_twice a b None = refl
front_twice a b (Some l) = ap Some (sym (append_assoc a b l))

pub items_first : (r : Rate) (s : Slot) (ps : List Part) (done : List (ItemOf Listed)) → done ≡ []
    → AreItems r s ps done 0
items_first r s ps done e =
    front_none (all_made r (children_from s ps))
    ∙ ap (λ z. with_front z (all_made r (children_from s ps))) (sym e)

pub items_more : (r : Rate) (s : Slot) (ps : List Part) (done new : List (ItemOf Listed)) (i : ℕ)
    (p : Part) → AreItems r s ps done i → slice_get ps i ≡ Some p
    → IsAdded r (piece s p (nat_lt (i + 1) (length ps))) done new → AreItems r s ps new (i + 1)
items_more r s ps done new i p a e n =
    let rest = drop (i + 1) ps in
    a ∙ ap (λ z. with_front done (all_made r (children_from s z))) (next ps i p e)
    ∙ ap (with_front done) (made_front r (piece s p (not (is_empty rest))) (children_from s rest) n.items
    (ap (λ b. all_made r (piece s p b)) (sym (more_is i ps)) ∙ n.are))
    ∙ front_twice done n.items (all_made r (children_from s rest))
    ∙ ap (λ z. with_front z (all_made r (children_from s rest))) (sym n.is)

-- inputs that give nothing are passed over
pub items_past : (r : Rate) (s : Slot) (ps : List Part) (done : List (ItemOf Listed)) (i j : ℕ)
    → AreItems r s ps done i → children_from s (drop i ps) ≡ children_from s (drop j ps)
    → AreItems r s ps done j
items_past r s ps done i j a e = a ∙ ap (λ z. with_front done (all_made r z)) e

pub items_end : (r : Rate) (s : Slot) (ps : List Part) (done : List (ItemOf Listed)) (i : ℕ)
    → AreItems r s ps done i → length ps ≤ i → all_made r (children_from s ps) ≡ Some done
items_end r s ps done i a h =
    a ∙ ap (λ z. with_front done (all_made r (children_from s z))) (none_left ps i h)
    ∙ ap Some (append-nil done)

-- ---- the loop over slots

abbrev pub AreTracks : Rate → List Part → List Slot → List (ItemOf Listed) → List Slot → Type 0
AreTracks r ps ss done rest = tracks_from r ps ss ≡ with_front done (tracks_from r ps rest)

pub tracks_first : (r : Rate) (ps : List Part) (ss : List Slot) (done : List (ItemOf Listed))
    → done ≡ [] → AreTracks r ps ss done ss
tracks_first r ps ss done e =
    front_none (tracks_from r ps ss) ∙ ap (λ z. with_front z (tracks_from r ps ss)) (sym e)

pub tracks_more : (r : Rate) (ps : List Part) (ss rest more : List Slot) (done new : List (ItemOf Listed))
    (s : Slot) (x : ItemOf Listed) → AreTracks r ps ss done rest → rest ≡ s ∷ more
    → track_from r ps s ≡ Some x → new ≡ done ++ x ∷ [] → AreTracks r ps ss new more
tracks_more r ps ss rest more done new s x a e f n =
    a ∙ ap (λ z. with_front done (tracks_from r ps z)) e
    ∙ ap (λ o. with_front done (with_first o (tracks_from r ps more))) f
    ∙ one (tracks_from r ps more)
    ∙ ap (λ z. with_front z (tracks_from r ps more)) (sym n)
  where
    one : (o : Option (List (ItemOf Listed)))
        → with_front done (with_first (Some x) o) ≡ with_front (done ++ x ∷ []) o
    one None = refl
    one (Some m) = ap Some (sym (append_assoc done (x ∷ []) m))

pub tracks_end : (r : Rate) (ps : List Part) (ss rest : List Slot) (done : List (ItemOf Listed))
    → AreTracks r ps ss done rest → rest ≡ [] → tracks_from r ps ss ≡ Some done
tracks_end r ps ss rest done a e =
    a ∙ ap (λ z. with_front done (tracks_from r ps z)) e ∙ ap Some (append-nil done)

-- ---- the track itself

-- a track with other children is joined as itself
pub track_bare : (x y : ItemOf Listed) (c : Listed) (m : List (ItemOf Listed)) → is_track x ≡ true
    → y ≡ deeper (λ l. c) x → joined_with y m ≡ joined_with x m
track_bare (Clip x) y c m h f = absurd (cc h)
track_bare (Gap x) y c m h f = absurd (cc h)
track_bare (Transition x) y c m h f = absurd (cc h)
track_bare (Stack x) y c m h f = absurd (cc h)
track_bare (Track x) y c m h f = ap (λ z. joined_with z m) f

pub other_bare : (x y : ItemOf Listed) (m : List (ItemOf Listed)) → y ≡ x
    → joined_with y m ≡ joined_with x m
other_bare x y m e = ap (λ z. joined_with z m) e

pub planned_is : (o : Option (List (ItemOf Listed))) (first track : ItemOf Listed)
    (l : List (ItemOf Listed)) → o ≡ Some l
    → ((m : List (ItemOf Listed)) → joined_with track m ≡ joined_with first m)
    → option_map (joined_with first) o ≡ Some (joined_with track l)
planned_is o first track l e f = ap (option_map (joined_with first)) e ∙ ap Some (sym (f l))

-- an item that gives its children has them
pub own_in : (x : ItemOf Listed) (c : Listed) → children_of x ≡ Some c
    → items_of c ≡ own_items (Some x) → items_in x ≡ own_items (Some x)
own_in (Clip x) c e h = absurd (cc e)
own_in (Gap x) c e h = absurd (cc e)
own_in (Transition x) c e h = absurd (cc e)
own_in (Stack x) c e h = none x.enabled []
  where
    none : (b : Bool) (l : List (ItemOf Listed)) → l ≡ cond b l l
    none true l = refl
    none false l = refl
own_in (Track x) c e h = ap items_of (same_some x.children c e) ∙ h
