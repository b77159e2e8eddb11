-- A piled timeline shows each child as before.
use Rattle.std.proofs.Common.{◌≡◌, refl, ap, ◌∙◌, ℕ, zero, suc, ◌-◌, ℤ, Bool, true, false, Option, cond, List, [], ◌∷◌, ◌++◌, length, arith}
use Rattle.std.specs.Prelude.{nat_lt, slice_get, flat_map}
use Rattle.otio_model.specs.declared.compositions.ItemOf.{ItemOf}
use Rattle.otio_model.specs.declared.compositions.Listed.{Listed}
use Rattle.otio_model.specs.declared.timelines.Timeline.{Timeline}
use Rattle.coord.specs.Looks.{FrameRate}
use Rattle.coord.specs.Programs.{shown_by, at_by}
use Rattle.flat.specs.Roots.{roots}
use Rattle.flat.specs.Piled.{IsPiled, piled_shows}
use Rattle.flat_law.proofs.Flat.{at_root}
use Rattle.std.proofs.lemmas.List.{append-nil}

-- an index into a list in two parts
at_join : (l r : List (ItemOf Listed)) (k : ℕ) → slice_get (l ++ r) k ≡ cond (nat_lt k (length l)) (slice_get l k) (slice_get r (k - length l))
at_join [] r k = let f : nat_lt k 0 ≡ false = grind arith in rw f (ap (slice_get r) (let e : k ≡ k - 0 = omega arith in e))
at_join (x ∷ l) r zero = let f : nat_lt 0 (suc (length l)) ≡ true = grind arith in rw f refl
at_join (x ∷ l) r (suc k) =
    at_join l r k
    ∙ ap (λ b. cond b (slice_get l k) (slice_get r (k - length l))) (let e : nat_lt k (length l) ≡ nat_lt (suc k) (length (x ∷ l)) = grind arith in e)
    ∙ ap (λ n. cond (nat_lt (suc k) (length (x ∷ l))) (slice_get l k) (slice_get r n)) (let e : k - length l ≡ suc k - length (x ∷ l) = omega arith in e)

shown_cond : (rate_kept : FrameRate → FrameRate) (b : Bool) (x y : Option (ItemOf Listed)) (u : ℤ) → shown_by rate_kept (cond b x y) u ≡ cond b (shown_by rate_kept x u) (shown_by rate_kept y u)
shown_cond rate_kept true x y u = refl
shown_cond rate_kept false x y u = refl

each_shows : (rate_kept : FrameRate → FrameRate) (t : Timeline) (more : List Timeline) (k : ℕ) (u : ℤ) → shown_by rate_kept (slice_get (roots t ++ flat_map roots more) k) u ≡ piled_shows rate_kept t more k u
each_shows rate_kept t [] k u = ap (λ l. shown_by rate_kept (slice_get l k) u) (append-nil (roots t))
each_shows rate_kept t (m ∷ more) k u =
    ap (λ o. shown_by rate_kept o u) (at_join (roots t) (roots m ++ flat_map roots more) k)
    ∙ shown_cond rate_kept (nat_lt k (length (roots t))) (slice_get (roots t) k) (slice_get (roots m ++ flat_map roots more) (k - length (roots t))) u
    ∙ ap (cond (nat_lt k (length (roots t))) (at_by rate_kept t k u)) (each_shows rate_kept m more (k - length (roots t)) u)

pub piled : (t r : Timeline) (more : List Timeline) (rate_kept : FrameRate → FrameRate) (k : ℕ) (u : ℤ) → IsPiled t more r → at_by rate_kept r k u ≡ piled_shows rate_kept t more k u
piled t r more rate_kept k u e = at_root rate_kept t r (roots t ++ flat_map roots more) k u e ∙ each_shows rate_kept t more k u
