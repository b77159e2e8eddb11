-- Each of the five edits of lists: its tests, and what it puts between two instants.
use Rattle.std.proofs.Common.{◌≡◌, refl, sym, ap, ◌∙◌, ℕ, ◌≤◌, ℤ, pos, ◌+ℤ◌, ◌*ℤ◌, Bool, true, false, not, cond, List, [], ◌∷◌, Option, Some, None, length, arith}
use Rattle.std.specs.Prelude.{option_map}
use Rattle.std.proofs.lemmas.Int.{ints}
use Rattle.tick_time.specs.declared.rates.Rate.{Rate}
use Rattle.otio_model.specs.declared.compositions.ItemOf.{ItemOf}
use Rattle.otio_model.specs.declared.compositions.Listed.{Listed}
use Rattle.otio_model.specs.declared.timelines.Timeline.{Timeline}
use Rattle.otio_model.specs.declared.edit_types.Edit.{Edit}
use Rattle.otio_model.specs.declared.edit_types.Edit.TheVariants as A
use Rattle.otio_model.specs.declared.edit_types.EditFault.{EditFault}
use Rattle.otio_model.specs.declared.edit_types.EditFault.TheVariants as F
use Rattle.otio_model.specs.declared.edit_types.FillMode.{FillMode}
use Rattle.otio_model.specs.declared.edit_types.RemoveMode.{RemoveMode}
use Rattle.otio_model.specs.declared.edit_types.RemoveMode.TheVariants as R
use Rattle.edits.specs.Children.{Child, Old, all_made, child_ticks, ticks}
use Rattle.edits.specs.Cuts.{olds, put_between, strip}
use Rattle.edits_law.specs.Editable.{IsEditItem}
use Rattle.edits.specs.After.{at_of, frame_of, list_of, place_of, rate_of}
use Rattle.edits.specs.Edges.{Held, Zone, held_at, end, is_zero, item_zone, start}
use Rattle.edits.specs.Edits.{at_held, edited, filled, filling, removed}
use Rattle.edits.specs.Narrow.{touched}
use Rattle.edits.specs.Refusals.{cuts_filling, early_fault, long, pin_fault, test}
use Rattle.edits.specs.Zones.{touches}
use Rattle.edit_plans.specs.Filled.{is_wrong}
use Rattle.edit_ops.specs.Answered.{put_edit}
use Rattle.edit_ops.specs.Begun.{IsBegun, IsHolding}
use Rattle.edit_ops.specs.Zoned.{IsZoned, cuts_then, in_place, in_place_ticks, misfit, phase_by}
use Rattle.edit_ops.proofs.Tests.{begun_tests, fill_tests}
use Rattle.edit_ops.proofs.Zoning.{zoned_as}

cuts_same : (t : Timeline) (e : Edit) (a b c d : ℤ) → c ≡ a → d ≡ b
    → cuts_then t e a b ≡ cuts_then t e c d
cuts_same t e a b c d f g =
    ap (λ z. cuts_then t e z b) (sym f) ∙ ap (λ z. cuts_then t e c z) (sym g)

one_more : (n : ℤ) → n ≡ n +ℤ pos 0
one_more n = omega (arith, ints)

-- an edit of a held item, and what it touches
by_held : (l : List (ItemOf Listed)) (w : ℤ) (h : Held) (g : Held → List Child)
    → held_at l w ≡ Some h → at_held l w g ≡ g h
by_held l w h g e = ap (λ (o : Option Held). elim o [ None ↦ olds l | Some k ↦ g k ]) e

by_zone : (l : List (ItemOf Listed)) (w : ℤ) (h : Held) (g : Held → Zone) → held_at l w ≡ Some h
    → (elim (option_map g (held_at l w)) [ None ↦ 0 | Some z ↦ length (touched l z.from z.to) ])
    ≡ length (touched l (g h).from (g h).to)
by_zone l w h g e =
    ap (λ (o : Option Held). elim (option_map g o)
    [ None ↦ 0 | Some z ↦ length (touched l z.from z.to) ]) e

-- ---- overwrite

abbrev pub overwrite_tests : Timeline → Edit → ItemOf Listed → ℤ → ℤ → Option EditFault
overwrite_tests t e x a b = test (is_zero (ticks x)) F.Empty (cuts_then t e a b)

overwrite_early : (t : Timeline) (p : List ℕ) (at : ℤ) (x : ItemOf Listed) (r : Rate) (w : ℤ)
    → IsBegun t p at r w → early_fault t (A.Overwrite p at x)
    ≡ overwrite_tests t (A.Overwrite p at x) x (at *ℤ frame_of t) ((at *ℤ frame_of t) +ℤ ticks x)
overwrite_early t p at x r w k = begun_tests t (A.Overwrite p at x) p at r w _ refl refl k refl

overwrite_empty : (t : Timeline) (p : List ℕ) (at : ℤ) (x : ItemOf Listed) (r : Rate) (w : ℤ)
    (b : Bool) → IsBegun t p at r w → b ≡ is_zero (ticks x) → b ≡ true
    → early_fault t (A.Overwrite p at x) ≡ Some F.Empty
overwrite_empty t p at x r w b k f g =
    overwrite_early t p at x r w k
    ∙ ap (λ z. test z F.Empty (cuts_then t (A.Overwrite p at x) (at *ℤ frame_of t)
    ((at *ℤ frame_of t) +ℤ ticks x))) (sym f ∙ g)

overwrite_zone : (t : Timeline) (p : List ℕ) (at : ℤ) (x : ItemOf Listed) (r : Rate)
    (w a n to : ℤ) (b : Bool) (put : List (ItemOf Listed)) → IsEditItem x → IsBegun t p at r w
    → b ≡ is_zero (ticks x) → b ≡ false → a ≡ w → n ≡ ticks x → to ≡ w +ℤ ticks x → put ≡ x ∷ []
    → IsZoned t (A.Overwrite p at x) p a to (Old x ∷ []) put n
    (cuts_then t (A.Overwrite p at x) a to)
overwrite_zone t p at x r w a n to b put j k f g q e h i =
    let from : a ≡ at *ℤ frame_of t = q ∙ k.stands in
    let end : to ≡ (at *ℤ frame_of t) +ℤ ticks x = h ∙ ap (λ z. z +ℤ ticks x) k.stands in
    zoned_as t (A.Overwrite p at x) p (at *ℤ frame_of t) ((at *ℤ frame_of t) +ℤ ticks x) a to
    (ticks x) n (Old x ∷ []) (x ∷ []) put _ _ (record {
      there = refl;
      item = j;
      tests = overwrite_early t p at x r w k
          ∙ ap (λ z. test z F.Empty (cuts_then t (A.Overwrite p at x) (at *ℤ frame_of t)
          ((at *ℤ frame_of t) +ℤ ticks x))) (sym f ∙ g);
      edited = refl;
      made = refl;
      few = omega arith;
      long = one_more (ticks x);
      touches = refl;
    }) from end e i (cuts_same t (A.Overwrite p at x) _ _ a to from end)

-- ---- insert

insert_early : (t : Timeline) (p : List ℕ) (at : ℤ) (x : ItemOf Listed) (r : Rate) (w : ℤ)
    → IsBegun t p at r w → early_fault t (A.Insert p at x)
    ≡ overwrite_tests t (A.Insert p at x) x (at *ℤ frame_of t) (at *ℤ frame_of t)
insert_early t p at x r w k = begun_tests t (A.Insert p at x) p at r w _ refl refl k refl

insert_empty : (t : Timeline) (p : List ℕ) (at : ℤ) (x : ItemOf Listed) (r : Rate) (w : ℤ)
    (b : Bool) → IsBegun t p at r w → b ≡ is_zero (ticks x) → b ≡ true
    → early_fault t (A.Insert p at x) ≡ Some F.Empty
insert_empty t p at x r w b k f g =
    insert_early t p at x r w k
    ∙ ap (λ z. test z F.Empty (cuts_then t (A.Insert p at x) (at *ℤ frame_of t)
    (at *ℤ frame_of t))) (sym f ∙ g)

insert_zone : (t : Timeline) (p : List ℕ) (at : ℤ) (x : ItemOf Listed) (r : Rate)
    (w a n to : ℤ) (b : Bool) (put : List (ItemOf Listed)) → IsEditItem x → IsBegun t p at r w
    → b ≡ is_zero (ticks x) → b ≡ false → a ≡ w → n ≡ ticks x → to ≡ w → put ≡ x ∷ []
    → IsZoned t (A.Insert p at x) p a to (Old x ∷ []) put n (cuts_then t (A.Insert p at x) a to)
insert_zone t p at x r w a n to b put j k f g q e h i =
    let from : a ≡ at *ℤ frame_of t = q ∙ k.stands in
    let end : to ≡ at *ℤ frame_of t = h ∙ k.stands in
    zoned_as t (A.Insert p at x) p (at *ℤ frame_of t) (at *ℤ frame_of t) a to
    (ticks x) n (Old x ∷ []) (x ∷ []) put _ _ (record {
      there = refl;
      item = j;
      tests = insert_early t p at x r w k
          ∙ ap (λ z. test z F.Empty (cuts_then t (A.Insert p at x) (at *ℤ frame_of t)
          (at *ℤ frame_of t))) (sym f ∙ g);
      edited = refl;
      made = refl;
      few = omega arith;
      long = one_more (ticks x);
      touches = refl;
    }) from end e i (cuts_same t (A.Insert p at x) _ _ a to from end)

-- ---- both

pub put_place : (over : Bool) (p : List ℕ) (at : ℤ) (x : ItemOf Listed)
    → place_of (put_edit over p at x) ≡ p
put_place true p at x = refl
put_place false p at x = refl

pub put_frame : (over : Bool) (p : List ℕ) (at : ℤ) (x : ItemOf Listed)
    → at_of (put_edit over p at x) ≡ at
put_frame true p at x = refl
put_frame false p at x = refl

pub put_empty : (over : Bool) (t : Timeline) (p : List ℕ) (at : ℤ) (x : ItemOf Listed) (r : Rate)
    (w : ℤ) (b : Bool) → IsBegun t p at r w → b ≡ is_zero (ticks x) → b ≡ true
    → early_fault t (put_edit over p at x) ≡ Some F.Empty
put_empty true t p at x r w b k f g = overwrite_empty t p at x r w b k f g
put_empty false t p at x r w b k f g = insert_empty t p at x r w b k f g

pub put_zoned : (over : Bool) (t : Timeline) (p : List ℕ) (at : ℤ) (x : ItemOf Listed) (r : Rate)
    (w a n to : ℤ) (b : Bool) (put : List (ItemOf Listed)) → IsEditItem x → IsBegun t p at r w
    → b ≡ is_zero (ticks x) → b ≡ false → a ≡ w → n ≡ ticks x
    → to ≡ w +ℤ cond over (ticks x) (pos 0) → put ≡ x ∷ []
    → IsZoned t (put_edit over p at x) p a to (Old x ∷ []) put n
    (cuts_then t (put_edit over p at x) a to)
put_zoned true t p at x r w a n to b put j k f g q e h i =
    overwrite_zone t p at x r w a n to b put j k f g q e h i
put_zoned false t p at x r w a n to b put j k f g q e h i =
    insert_zone t p at x r w a n to b put j k f g q e (h ∙ sym (one_more w)) i

-- ---- slice

pub slice_held : (t : Timeline) (p : List ℕ) (at : ℤ) (r : Rate) (w a to k : ℤ)
    (put : List (ItemOf Listed)) (from n : ℤ) (gap : Bool) → IsBegun t p at r w
    → IsHolding (list_of t (A.Slice p at)) w from n gap → a ≡ w → to ≡ w
    → k ≡ pos 0 → put ≡ [] → IsZoned t (A.Slice p at) p a to [] put k
    (cuts_then t (A.Slice p at) a to)
slice_held t p at r w a to k put from n gap b h f g e i =
    let first : a ≡ at *ℤ frame_of t = f ∙ b.stands in
    let last : to ≡ at *ℤ frame_of t = g ∙ b.stands in
    zoned_as t (A.Slice p at) p (at *ℤ frame_of t) (at *ℤ frame_of t) a to
    (pos 0) k [] [] put _ _ (record {
      there = refl;
      item = tt;
      tests = begun_tests t (A.Slice p at) p at r w (Some h.held) refl refl b h.there;
      edited = refl;
      made = refl;
      few = omega arith;
      long = refl;
      touches = refl;
    }) first last e i (cuts_same t (A.Slice p at) _ _ a to first last)

-- ---- remove

in_place_long : (mode : RemoveMode) (n : ℤ) → in_place_ticks mode n ≡ long (in_place mode n)
in_place_long R.Gap n = one_more n
in_place_long R.Close n = refl

-- what an edit at a held item makes, and what it touches
remove_edited : (t : Timeline) (p : List ℕ) (at : ℤ) (mode : RemoveMode) (h : Held)
    → held_at (list_of t (A.Remove p at mode)) (at *ℤ frame_of t) ≡ Some h
    → edited (frame_of t) (A.Remove p at mode) (list_of t (A.Remove p at mode))
    ≡ put_between (strip (list_of t (A.Remove p at mode)) (start h) (end h)) (start h)
    (in_place mode (ticks h.item)) (end h)
remove_edited t p at R.Gap h m =
    by_held (list_of t (A.Remove p at R.Gap)) (at *ℤ frame_of t) h
    (removed R.Gap (list_of t (A.Remove p at R.Gap))) m
remove_edited t p at R.Close h m =
    by_held (list_of t (A.Remove p at R.Close)) (at *ℤ frame_of t) h
    (removed R.Close (list_of t (A.Remove p at R.Close))) m

remove_touches : (t : Timeline) (p : List ℕ) (at : ℤ) (mode : RemoveMode) (h : Held)
    → held_at (list_of t (A.Remove p at mode)) (at *ℤ frame_of t) ≡ Some h
    → touches (frame_of t) (A.Remove p at mode) (list_of t (A.Remove p at mode))
    ≡ length (touched (list_of t (A.Remove p at mode)) (start h) (end h))
remove_touches t p at mode h m =
    by_zone (list_of t (A.Remove p at mode)) (at *ℤ frame_of t) h item_zone m

pub remove_zone : (t : Timeline) (p : List ℕ) (at : ℤ) (mode : RemoveMode) (r : Rate)
    (w a n c m to k : ℤ) (gap : Bool) (put : List (ItemOf Listed)) → IsBegun t p at r w
    → IsHolding (list_of t (A.Remove p at mode)) w a n gap → c ≡ a → m ≡ n → to ≡ a +ℤ n
    → k ≡ in_place_ticks mode n → all_made r (in_place mode m) ≡ Some put → length put ≤ 1
    → IsZoned t (A.Remove p at mode) p c to (in_place mode n) put k
    (pin_fault t (A.Remove p at mode))
remove_zone t p at mode r w a n c m to k gap put b i q v e f g few =
    let h = i.held in
    let l = list_of t (A.Remove p at mode) in
    let there : held_at l (at *ℤ frame_of t) ≡ Some h =
    ap (held_at l) (sym b.stands) ∙ i.there in
    let last : to ≡ end h =
    e ∙ ap (λ z. z +ℤ n) i.starts ∙ ap (λ z. start h +ℤ z) i.length in
    let made : all_made (rate_of t) (in_place mode n) ≡ Some put =
    ap (λ y. all_made y (in_place mode n)) (sym b.counts)
    ∙ ap (λ y. all_made r (in_place mode y)) (sym v) ∙ g in
    zoned_as t (A.Remove p at mode) p (start h) (end h) c to
    (in_place_ticks mode n) k (in_place mode n) put put _ _ (record {
      there = refl;
      item = tt;
      tests = begun_tests t (A.Remove p at mode) p at r w (Some h) refl refl b i.there;
      edited = remove_edited t p at mode h there
          ∙ ap (λ z. put_between (strip l (start h) (end h)) (start h) (in_place mode z) (end h))
          (sym i.length);
      made = made;
      few = few;
      long = in_place_long mode n;
      touches = remove_touches t p at mode h there;
    }) (q ∙ i.starts) last f refl refl

-- ---- fill

-- the tests of a fill in a gap of so many ticks
abbrev pub fill_rest : Timeline → List ℕ → ℤ → FillMode → ItemOf Listed → Bool → ℤ → ℤ → ℤ
    → Option EditFault
fill_rest t p at mode x gap n a b =
    test (not gap) F.NotGap (test (is_zero (ticks x)) F.Empty
    (misfit mode x n (cuts_then t (A.Fill p at mode x) a b)))

fill_early : (t : Timeline) (p : List ℕ) (at : ℤ) (mode : FillMode) (x : ItemOf Listed)
    (r : Rate) (w a n to : ℤ) (gap : Bool) → IsBegun t p at r w
    → IsHolding (list_of t (A.Fill p at mode x)) w a n gap
    → to ≡ a +ℤ child_ticks (filling mode x n)
    → early_fault t (A.Fill p at mode x) ≡ fill_rest t p at mode x gap n a to
fill_early t p at mode x r w a n to gap b i e =
    let h = i.held in
    let l = list_of t (A.Fill p at mode x) in
    let there : held_at l (at *ℤ frame_of t) ≡ Some h =
    ap (held_at l) (sym b.stands) ∙ i.there in
    let last : to ≡ start h +ℤ child_ticks (filling mode x (ticks h.item)) =
    e ∙ ap (λ z. z +ℤ child_ticks (filling mode x n)) i.starts
    ∙ ap (λ z. start h +ℤ child_ticks (filling mode x z)) i.length in
    begun_tests t (A.Fill p at mode x) p at r w (Some h) refl refl b i.there
    ∙ fill_tests t p at mode x h there
    ∙ ap (λ z. fill_rest t p at mode x z (ticks h.item) (start h)
    (start h +ℤ child_ticks (filling mode x (ticks h.item)))) (sym i.empty)
    ∙ ap (λ z. fill_rest t p at mode x gap z (start h)
    (start h +ℤ child_ticks (filling mode x (ticks h.item)))) (sym i.length)
    ∙ ap (λ z. fill_rest t p at mode x gap n z
    (start h +ℤ child_ticks (filling mode x (ticks h.item)))) (sym i.starts)
    ∙ ap (fill_rest t p at mode x gap n a) (sym last)

-- what holds the instant is no gap
pub fill_other : (t : Timeline) (p : List ℕ) (at : ℤ) (mode : FillMode) (x : ItemOf Listed)
    (r : Rate) (w a n : ℤ) (gap : Bool) → IsBegun t p at r w
    → IsHolding (list_of t (A.Fill p at mode x)) w a n gap → gap ≡ false
    → early_fault t (A.Fill p at mode x) ≡ Some F.NotGap
fill_other t p at mode x r w a n gap b i g =
    fill_early t p at mode x r w a n (a +ℤ child_ticks (filling mode x n)) gap b i refl
    ∙ ap (λ z. fill_rest t p at mode x z n a (a +ℤ child_ticks (filling mode x n))) g

-- the item has no length
pub fill_empty : (t : Timeline) (p : List ℕ) (at : ℤ) (mode : FillMode) (x : ItemOf Listed)
    (r : Rate) (w a n : ℤ) (z : Bool) → IsBegun t p at r w
    → IsHolding (list_of t (A.Fill p at mode x)) w a n true → z ≡ is_zero (ticks x) → z ≡ true
    → early_fault t (A.Fill p at mode x) ≡ Some F.Empty
fill_empty t p at mode x r w a n z b i f h =
    fill_early t p at mode x r w a n (a +ℤ child_ticks (filling mode x n)) true b i refl
    ∙ ap (λ q. test q F.Empty (misfit mode x n (cuts_then t (A.Fill p at mode x) a
    (a +ℤ child_ticks (filling mode x n))))) (sym f ∙ h)

-- what is left of them where there is a gap, and an item of some length
fill_left : (t : Timeline) (p : List ℕ) (at : ℤ) (mode : FillMode) (x : ItemOf Listed)
    (r : Rate) (w a n to : ℤ) (z : Bool) → IsBegun t p at r w
    → IsHolding (list_of t (A.Fill p at mode x)) w a n true → z ≡ is_zero (ticks x) → z ≡ false
    → to ≡ a +ℤ child_ticks (filling mode x n)
    → early_fault t (A.Fill p at mode x) ≡ misfit mode x n (cuts_then t (A.Fill p at mode x) a to)
fill_left t p at mode x r w a n to z b i f h k =
    fill_early t p at mode x r w a n to true b i k
    ∙ ap (λ q. test q F.Empty (misfit mode x n (cuts_then t (A.Fill p at mode x) a to)))
    (sym f ∙ h)

-- a fault of the misfit is one whatever follows
misfit_first : (s w : Bool) (fault want : EditFault) (o : Option EditFault)
    → (fault ≡ want → ⊥)
    → test s F.Speed (phase_by w (Some want)) ≡ Some fault
    → test s F.Speed (phase_by w o) ≡ Some fault
misfit_first true w fault want o n e = e
misfit_first false false fault want o n e = e
misfit_first false true fault want o n e = absurd (n (sym (cc e)))

pub fill_misfit : (t : Timeline) (p : List ℕ) (at : ℤ) (mode : FillMode) (x : ItemOf Listed)
    (r : Rate) (w a n m : ℤ) (z : Bool) (fault : EditFault) → IsBegun t p at r w
    → IsHolding (list_of t (A.Fill p at mode x)) w a n true → z ≡ is_zero (ticks x) → z ≡ false
    → m ≡ n → (fault ≡ F.Memory → ⊥) → misfit mode x m (Some F.Memory) ≡ Some fault
    → early_fault t (A.Fill p at mode x) ≡ Some fault
fill_misfit t p at mode x r w a n m z fault b i f h v k j =
    fill_left t p at mode x r w a n (a +ℤ child_ticks (filling mode x n)) z b i f h refl
    ∙ misfit_first (is_wrong mode x n) (cuts_filling mode x n) fault F.Memory
    (cuts_then t (A.Fill p at mode x) a (a +ℤ child_ticks (filling mode x n))) k
    (ap (λ y. misfit mode x y (Some F.Memory)) (sym v) ∙ j)

fill_edited : (t : Timeline) (p : List ℕ) (at : ℤ) (mode : FillMode) (x : ItemOf Listed) (h : Held)
    → held_at (list_of t (A.Fill p at mode x)) (at *ℤ frame_of t) ≡ Some h
    → edited (frame_of t) (A.Fill p at mode x) (list_of t (A.Fill p at mode x))
    ≡ put_between (strip (list_of t (A.Fill p at mode x)) (start h)
    (start h +ℤ child_ticks (filling mode x (ticks h.item)))) (start h)
    (filling mode x (ticks h.item) ∷ [])
    (start h +ℤ child_ticks (filling mode x (ticks h.item)))
fill_edited t p at mode x h m =
    by_held (list_of t (A.Fill p at mode x)) (at *ℤ frame_of t) h
    (filled mode x (list_of t (A.Fill p at mode x))) m

fill_touches : (t : Timeline) (p : List ℕ) (at : ℤ) (mode : FillMode) (x : ItemOf Listed)
    (h : Held) → held_at (list_of t (A.Fill p at mode x)) (at *ℤ frame_of t) ≡ Some h
    → touches (frame_of t) (A.Fill p at mode x) (list_of t (A.Fill p at mode x))
    ≡ length (touched (list_of t (A.Fill p at mode x)) (start h)
    (start h +ℤ child_ticks (filling mode x (ticks h.item))))
fill_touches t p at mode x h m =
    by_zone (list_of t (A.Fill p at mode x)) (at *ℤ frame_of t) h
    (λ (k : Held). record {
      from = start k;
      to = start k +ℤ child_ticks (filling mode x (ticks k.item));
    }) m

-- the misfit's tests are passed
fits_then : (s w : Bool) (o : Option EditFault) → s ≡ false → w ≡ true
    → test s F.Speed (phase_by w o) ≡ o
fits_then s w o e f = rw (e, f) refl

pub fill_zone : (t : Timeline) (p : List ℕ) (at : ℤ) (mode : FillMode) (x : ItemOf Listed)
    (r : Rate) (w a n c m k to : ℤ) (z : Bool) (put : List (ItemOf Listed)) → IsEditItem x
    → IsBegun t p at r w → IsHolding (list_of t (A.Fill p at mode x)) w a n true
    → z ≡ is_zero (ticks x) → z ≡ false → c ≡ a → m ≡ n → k ≡ child_ticks (filling mode x m)
    → to ≡ a +ℤ k → is_wrong mode x m ≡ false → cuts_filling mode x m ≡ true
    → all_made r (filling mode x m ∷ []) ≡ Some put → length put ≡ 1
    → IsZoned t (A.Fill p at mode x) p c to (filling mode x n ∷ []) put k
    (cuts_then t (A.Fill p at mode x) c to)
fill_zone t p at mode x r w a n c m k to z put own b i f h q v j g s u made few =
    let held = i.held in
    let l = list_of t (A.Fill p at mode x) in
    let there : held_at l (at *ℤ frame_of t) ≡ Some held =
    ap (held_at l) (sym b.stands) ∙ i.there in
    let long : k ≡ child_ticks (filling mode x n) =
    j ∙ ap (λ y. child_ticks (filling mode x y)) v in
    let last : to ≡ a +ℤ child_ticks (filling mode x n) = g ∙ ap (λ y. a +ℤ y) long in
    let ends : to ≡ start held +ℤ child_ticks (filling mode x (ticks held.item)) =
    last ∙ ap (λ y. y +ℤ child_ticks (filling mode x n)) i.starts
    ∙ ap (λ y. start held +ℤ child_ticks (filling mode x y)) i.length in
    zoned_as t (A.Fill p at mode x) p (start held)
    (start held +ℤ child_ticks (filling mode x (ticks held.item))) c to
    (child_ticks (filling mode x n)) k (filling mode x n ∷ []) put put
    (cuts_then t (A.Fill p at mode x) a to) (cuts_then t (A.Fill p at mode x) c to) (record {
      there = refl;
      item = own;
      tests = fill_left t p at mode x r w a n to z b i f h last
          ∙ fits_then (is_wrong mode x n) (cuts_filling mode x n) _
          (ap (is_wrong mode x) (sym v) ∙ s) (ap (cuts_filling mode x) (sym v) ∙ u);
      edited = fill_edited t p at mode x held there
          ∙ ap (λ y. put_between (strip l (start held)
          (start held +ℤ child_ticks (filling mode x (ticks held.item)))) (start held)
          (filling mode x y ∷ [])
          (start held +ℤ child_ticks (filling mode x (ticks held.item)))) (sym i.length);
      made = ap (λ y. all_made y (filling mode x n ∷ [])) (sym b.counts)
          ∙ ap (λ y. all_made r (filling mode x y ∷ [])) (sym v) ∙ made;
      few = omega (arith, few);
      long = one_more (child_ticks (filling mode x n));
      touches = fill_touches t p at mode x held there;
    }) (q ∙ i.starts) ends long refl (ap (λ y. cuts_then t (A.Fill p at mode x) y to) (sym q))
