-- Parts of writable lists, and what children make.
use Rattle.std.proofs.Common.{◌≡◌, subst, ℤ, pos, ◌-ℤ◌, Some, List, [], ◌∷◌, ◌++◌}
use Rattle.std.proofs.lemmas.Int.{by_lt_z}
use Rattle.tick_time.specs.declared.rates.Rate.{Rate}
use Rattle.otio_model.specs.declared.compositions.ItemOf.{ItemOf}
use Rattle.otio_model.specs.declared.compositions.Listed.{Listed}
use Rattle.otio_model.specs.Lengths.{trimmed_start}
use Rattle.coord.specs.Sights.{overlap_of}
use Rattle.coord.specs.Speeds.{media_at, speed_of}
use Rattle.edits.specs.Splices.{is_stripped}
use Rattle.edits.specs.Children.{Child, all_made, ticks}
use Rattle.edits.specs.Cuts.{back, olds, strip}
use Rattle.edits_law.proofs.Splice.{cases}
use Rattle.edits_law.proofs.Parted.{lt_yes, le_yes}
use Rattle.edits_law.proofs.Apart.{le_not, lt_not}
use Rattle.edits_law.proofs.MadeParts.{made_none, made_parts}
use Rattle.writable_law.proofs.WritableChildren.{AreWritable, AreWritableChildren}
use Rattle.writable_law.proofs.WritableChildren.{old_writable, ranged_writable}

pub join : (l m : List Child) → AreWritableChildren l → AreWritableChildren m
    → AreWritableChildren (l ++ m)
join [] m a b = b
join (c ∷ l) m a b = (a.0, join l m a.1 b)

pub all_olds : (l : List (ItemOf Listed)) → AreWritable l → AreWritableChildren (olds l)
all_olds [] r = tt
all_olds (x ∷ l) r = (old_writable x r.0, all_olds l r.1)

pub stripped : (l : List (ItemOf Listed)) (a b : ℤ) → AreWritable l → AreWritable (strip l a b)
stripped [] a b r = tt
stripped (x ∷ l) a b r = cases (is_stripped a b (overlap_of x))
    (λ s. rw s (stripped l a b r.1))
    (λ s. rw s (r.0, stripped l (a -ℤ ticks x) (b -ℤ ticks x) r.1))

pub back_is : (l : List (ItemOf Listed)) (t : ℤ) → AreWritable l → AreWritableChildren (back l t)
back_is [] t r = tt
back_is (x ∷ l) t r = by_lt_z (pos 0) t
    (λ h. let e = lt_yes (pos 0) t h in by_lt_z t (ticks x)
    (λ k. let f = le_not (ticks x) t k in
    rw (e, f) (
      ranged_writable x (media_at (trimmed_start x) (speed_of x) t) (ticks x -ℤ t) r.0,
      all_olds l r.1,
    ))
    (λ k. let f = le_yes (ticks x) t k in rw (e, f) (back_is l (t -ℤ ticks x) r.1)))
    (λ h. let e = lt_not (pos 0) t h in rw e (old_writable x r.0, all_olds l r.1))

pub made_are : (r : Rate) (l : List Child) (m : List (ItemOf Listed)) → all_made r l ≡ Some m
    → AreWritableChildren l → AreWritable m
made_are r [] m e k = subst AreWritable (made_none r m e) tt
made_are r (c ∷ l) m e k =
    let d = made_parts r c l m e in
    subst AreWritable d.all
    (k.0 r d.first d.first_is, made_are r l d.others d.others_are k.1)
