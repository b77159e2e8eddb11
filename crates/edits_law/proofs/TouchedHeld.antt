-- Where an item is met, the touched children are those round it.
use Rattle.std.proofs.Common.{◌≡◌, refl, ap, ap₂, ◌∙◌, ◌≤◌, ℤ, pos, ◌+ℤ◌, ◌-ℤ◌, ◌≤ℤ◌, ◌||◌, Bool, true, false, List, [], ◌∷◌, ◌++◌, length, arith, length-append}
use Rattle.std.specs.Prelude.{int_le, is_some}
use Rattle.std.proofs.lemmas.Int.{ints}
use Rattle.otio_model.specs.declared.compositions.ItemOf.{ItemOf}
use Rattle.otio_model.specs.declared.compositions.Listed.{Listed}
use Rattle.otio_model.specs.Trees.{is_transition}
use Rattle.coord.specs.Sights.{overlap_of}
use Rattle.edits.specs.Splices.{is_stripped}
use Rattle.edits.specs.Children.{Child, ticks}
use Rattle.edits.specs.Cuts.{olds}
use Rattle.edits.specs.Edges.{added, last_changed, first_changed, last_item}
use Rattle.edits.specs.Narrow.{is_met, any_met, ahead, onward, up_to_met, touched}
use Rattle.edits_law.proofs.Splice.{cases}
use Rattle.edits_law.proofs.Parted.{le_yes}
use Rattle.edits_law.proofs.NarrowEdges.{added_split}

or_true : (t : Bool) → (t || true) ≡ true
or_true true = refl
or_true false = refl

-- an item that begins in the zone or ends in it is met
met_item : (x : ItemOf Listed) (a b : ℤ) → pos 0 ≤ℤ b → a ≤ℤ ticks x → is_met x a b ≡ true
met_item x a b h k =
    let e : int_le (pos 0) b ≡ true = le_yes (pos 0) b h in
    let f : int_le a (ticks x) ≡ true = le_yes a (ticks x) k in
    rw (e, f) (or_true (is_stripped a b (overlap_of x)))

ahead_held : (l : List (ItemOf Listed)) (x : ItemOf Listed) (r : List (ItemOf Listed)) (a b : ℤ) → added l ≤ℤ b → a ≤ℤ (added l +ℤ ticks x) → ahead (l ++ (x ∷ r)) a b ≡ ahead l a b
ahead_held [] x r a b h k = let e = met_item x a b (omega (arith, ints)) (omega (arith, ints)) in rw e refl
ahead_held (y ∷ l) x r a b h k = cases (is_met y a b) (λ s. rw s refl) (λ s. rw s (ap (λ m. y ∷ m) (ahead_held l x r (a -ℤ ticks y) (b -ℤ ticks y) (omega (arith, ints)) (omega (arith, ints)))))

onward_held : (l : List (ItemOf Listed)) (x : ItemOf Listed) (r : List (ItemOf Listed)) (a b : ℤ) → added l ≤ℤ b → a ≤ℤ (added l +ℤ ticks x) → onward (l ++ (x ∷ r)) a b ≡ onward l a b ++ (x ∷ r)
onward_held [] x r a b h k = let e = met_item x a b (omega (arith, ints)) (omega (arith, ints)) in rw e refl
onward_held (y ∷ l) x r a b h k = cases (is_met y a b) (λ s. rw s refl) (λ s. rw s (onward_held l x r (a -ℤ ticks y) (b -ℤ ticks y) (omega (arith, ints)) (omega (arith, ints))))

any_held : (l : List (ItemOf Listed)) (x : ItemOf Listed) (r : List (ItemOf Listed)) (a b : ℤ) → added l ≤ℤ b → a ≤ℤ (added l +ℤ ticks x) → any_met (l ++ (x ∷ r)) a b ≡ true
any_held [] x r a b h k = let e = met_item x a b (omega (arith, ints)) (omega (arith, ints)) in rw e refl
any_held (y ∷ l) x r a b h k = let e = any_held l x r (a -ℤ ticks y) (b -ℤ ticks y) (omega (arith, ints)) (omega (arith, ints)) in rw e (or_true (is_met y a b))

up_held : (l : List (ItemOf Listed)) (x : ItemOf Listed) (r : List (ItemOf Listed)) (a b c d : ℤ) → added l ≤ℤ b → a ≤ℤ (added l +ℤ ticks x) → c ≡ ((a -ℤ added l) -ℤ ticks x) → d ≡ ((b -ℤ added l) -ℤ ticks x)
    → up_to_met (l ++ (x ∷ r)) a b ≡ l ++ (x ∷ up_to_met r c d)
up_held [] x r a b c d h k e f =
    let s = any_held [] x r a b h k in
    let p : a -ℤ ticks x ≡ c = omega (arith, ints) in
    let q : b -ℤ ticks x ≡ d = omega (arith, ints) in
    rw s (ap₂ (λ u v. x ∷ up_to_met r u v) p q)
up_held (y ∷ l) x r a b c d h k e f =
    let s = any_held (y ∷ l) x r a b h k in
    rw s (ap (λ m. y ∷ m) (up_held l x r (a -ℤ ticks y) (b -ℤ ticks y) c d (omega (arith, ints)) (omega (arith, ints)) (omega (arith, ints)) (omega (arith, ints))))

-- the touched children: some before the item, the item, and some after it
pub touched_held : (l : List (ItemOf Listed)) (x : ItemOf Listed) (r : List (ItemOf Listed)) (a b : ℤ) → added l ≤ℤ b → a ≤ℤ (added l +ℤ ticks x)
    → touched (l ++ (x ∷ r)) a b ≡ onward l a b ++ (x ∷ up_to_met r (a -ℤ (added l +ℤ ticks x)) (b -ℤ (added l +ℤ ticks x)))
touched_held l x r a b h k =
    let s = added_split l a b in
    ap₂ (λ m n. up_to_met m (a -ℤ added n) (b -ℤ added n)) (onward_held l x r a b h k) (ahead_held l x r a b h k)
    ∙ up_held (onward l a b) x r (a -ℤ added (ahead l a b)) (b -ℤ added (ahead l a b)) (a -ℤ (added l +ℤ ticks x)) (b -ℤ (added l +ℤ ticks x)) (omega (arith, ints, s)) (omega (arith, ints, s)) (omega (arith, ints, s)) (omega (arith, ints, s))

pub ahead_is : (l : List (ItemOf Listed)) (x : ItemOf Listed) (r : List (ItemOf Listed)) (a b : ℤ) → added l ≤ℤ b → a ≤ℤ (added l +ℤ ticks x) → ahead (l ++ (x ∷ r)) a b ≡ ahead l a b
ahead_is = ahead_held

-- ---- how many come in their place

olds_long : (l : List (ItemOf Listed)) → length (olds l) ≡ length l
olds_long [] = refl
olds_long (x ∷ l) = omega (arith, olds_long l)

pub last_few : (f : ItemOf Listed → List Child) (l : List (ItemOf Listed)) → ((x : ItemOf Listed) → length (f x) ≤ 1) → length (last_changed f l) ≤ length l
last_few f [] g = omega arith
last_few f (x ∷ l) g = cases (is_some (last_item l) || is_transition x)
    (λ s. rw s (omega (arith, last_few f l g)))
    (λ s. let h = g x in let k = olds_long l in let n = length-append (f x) (olds l) in rw s (omega (arith, h, k, n)))

pub first_few : (f : ItemOf Listed → List Child) (l : List (ItemOf Listed)) → ((x : ItemOf Listed) → length (f x) ≤ 1) → length (first_changed f l) ≤ length l
first_few f [] g = omega arith
first_few f (x ∷ l) g = cases (is_transition x)
    (λ s. rw s (omega (arith, first_few f l g)))
    (λ s. let h = g x in let k = olds_long l in let n = length-append (f x) (olds l) in rw s (omega (arith, h, k, n)))
