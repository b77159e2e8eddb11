-- What is said first.
use Rattle.std.proofs.Common.{◌≡◌, refl, sym, ap, ◌∙◌, ℕ, List, [], ◌∷◌, ◌++◌, Option, Some, None}
use Rattle.edl_frames.specs.declared.reasons.Why.{Why}
use Rattle.edl_frames.specs.Carried.{Examined, first_said}
use Rattle.edl_law.proofs.ListShows.{nothing_first}

-- of a place nothing is said
pub skipped : (p : Examined) (ps : List Examined) → p.1 ≡ None
    → first_said (p ∷ ps) ≡ first_said ps
skipped p ps e =
    ap (λ o. elim o [ None ↦ first_said ps | Some why ↦ Some (p.0, why) ]) e

-- of a place something is said
pub said_here : (p : Examined) (ps : List Examined) (why : Why) → p.1 ≡ Some why
    → first_said (p ∷ ps) ≡ Some (p.0, why)
said_here p ps why e =
    ap (λ o. elim o [ None ↦ first_said ps | Some why ↦ Some (p.0, why) ]) e

-- behind places of which nothing is said
pub said_behind : (ps qs : List Examined) → first_said ps ≡ None
    → first_said (ps ++ qs) ≡ first_said qs
said_behind [] qs e = refl
said_behind (p ∷ ps) qs e =
    let n = nothing_first p ps e in skipped p (ps ++ qs) n.0 ∙ said_behind ps qs n.1

-- before others
pub said_before : (ps qs : List Examined) (said : List ℕ × Why) → first_said ps ≡ Some said
    → first_said (ps ++ qs) ≡ Some said
said_before [] qs said e = absurd (cc e)
said_before (p ∷ ps) qs said e = by p.1 refl (said_before ps qs said)
  where
    by : (o : Option Why) → p.1 ≡ o
        → (first_said ps ≡ Some said → first_said (ps ++ qs) ≡ Some said)
        → first_said (p ∷ (ps ++ qs)) ≡ Some said
    by None f more = skipped p (ps ++ qs) f ∙ more (sym (skipped p ps f) ∙ e)
    by (Some why) f more = said_here p (ps ++ qs) why f ∙ sym (said_here p ps why f) ∙ e
