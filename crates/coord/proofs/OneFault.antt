-- A timeline has one fault at most, and a sound one none.
use Rattle.std.proofs.Common.{◌≡◌, refl, ap, ◌∙◌, List, ℕ}
use Rattle.std.specs.Prelude.{◌≢◌}
use Rattle.otio_model.specs.declared.timelines.Timeline.{Timeline}
use Rattle.coord.specs.declared.faults.ItemFault.{ItemFault}
use Rattle.coord.specs.declared.faults.ItemFault.TheVariants.{NoLength, Speed, Long}
use Rattle.coord.specs.declared.faults.CoordFault.{CoordFault}
use Rattle.coord.specs.declared.faults.CoordFault.TheVariants as F
use Rattle.coord.specs.Soundness.{IsFaultless, IsFaultOf, HasFirst, fault_at}
use Rattle.coord.proofs.Order.{one_first}

-- two first faults of items are one
both : (t : Timeline) (p q : List ℕ) (f g : ItemFault) → HasFirst t p f → HasFirst t q g → fault_at p f ≡ fault_at q g
both t p q f g a b =
    let e = one_first t.tracks.children p q f g a.1 b.1 in
    ap (λ (r : List ℕ). fault_at r f) e.0 ∙ ap (fault_at q) e.1

-- two faults of a timeline that aren't want of memory are one
pub same_fault : (t : Timeline) (f g : CoordFault) → f ≢ F.Memory → g ≢ F.Memory → IsFaultOf t f → IsFaultOf t g → f ≡ g
same_fault t F.StartOffFrame F.StartOffFrame n m a b = refl
same_fault t F.StartOffFrame (F.NoLength q) n m a b = absurd (a b.0)
same_fault t F.StartOffFrame (F.Speed q) n m a b = absurd (a b.0)
same_fault t F.StartOffFrame (F.Long q) n m a b = absurd (a b.0)
same_fault t (F.NoLength p) F.StartOffFrame n m a b = absurd (b a.0)
same_fault t (F.NoLength p) (F.NoLength q) n m a b = both t p q NoLength NoLength a b
same_fault t (F.NoLength p) (F.Speed q) n m a b = both t p q NoLength Speed a b
same_fault t (F.NoLength p) (F.Long q) n m a b = both t p q NoLength Long a b
same_fault t (F.Speed p) F.StartOffFrame n m a b = absurd (b a.0)
same_fault t (F.Speed p) (F.NoLength q) n m a b = both t p q Speed NoLength a b
same_fault t (F.Speed p) (F.Speed q) n m a b = both t p q Speed Speed a b
same_fault t (F.Speed p) (F.Long q) n m a b = both t p q Speed Long a b
same_fault t (F.Long p) F.StartOffFrame n m a b = absurd (b a.0)
same_fault t (F.Long p) (F.NoLength q) n m a b = both t p q Long NoLength a b
same_fault t (F.Long p) (F.Speed q) n m a b = both t p q Long Speed a b
same_fault t (F.Long p) (F.Long q) n m a b = both t p q Long Long a b
same_fault t F.Memory g n m a b = absurd (n refl)
same_fault t F.StartOffFrame F.Memory n m a b = absurd (m refl)
same_fault t (F.NoLength p) F.Memory n m a b = absurd (m refl)
same_fault t (F.Speed p) F.Memory n m a b = absurd (m refl)
same_fault t (F.Long p) F.Memory n m a b = absurd (m refl)

-- no item of a sound timeline has a fault
no_first : (t : Timeline) (p : List ℕ) (f : ItemFault) → IsFaultless t → HasFirst t p f → ⊥
no_first t p f s a = cc (a.1.has, s.items p a.1.item a.1.there)

-- a sound timeline has no fault
pub no_fault_of : (t : Timeline) (f : CoordFault) → IsFaultless t → IsFaultOf t f → ⊥
no_fault_of t F.StartOffFrame s a = a s.start
no_fault_of t (F.NoLength p) s a = no_first t p NoLength s a
no_fault_of t (F.Speed p) s a = no_first t p Speed s a
no_fault_of t (F.Long p) s a = no_first t p Long s a
no_fault_of t F.Memory s a = a.1 s.items
