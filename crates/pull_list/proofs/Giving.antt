-- Runs that are given as spans of their groups, one after another.
use Rattle.std.proofs.Common.{◌≡◌, refl, sym, ap, subst, ℕ, ◌+◌, ◌<◌, List, [], ◌∷◌, ◌++◌, length, get_or, drop}
use Rattle.pull_list.specs.Pulled.{Stretch, stretch_of, stretches_of}
use Rattle.pull_list.specs.Runs.{Each, IsRun, IsWithin, further}
use Rattle.pull_list.specs.Stretches.{AreStretches, IsKnown, IsStretchOf}
use Rattle.pull_list.specs.Used.{ClipGroup}
use Rattle.pull_list.specs.declared.runs.Run.{Run}
use Rattle.pull_list.specs.declared.spans.PullSpan.{PullSpan}
use Rattle.std.proofs.lemmas.List.{drop_more}

-- these were given, and the rest are still to come
pub record IsGiving (groups : List ClipGroup) (runs : List Run) (spans : List PullSpan) (rest : List Run)
    : Type 0 where
  pub goes : (more : List Stretch) → AreStretches groups rest more
      → AreStretches groups runs (stretches_of spans ++ more)
  pub are_runs : Each IsRun rest
  pub known : Each (IsKnown groups) rest
  pub within : Each (IsWithin further) rest

pub giving_starts : (groups : List ClipGroup) (runs : List Run) (spans : List PullSpan) → spans ≡ []
    → Each IsRun runs → Each (IsKnown groups) runs → Each (IsWithin further) runs
    → IsGiving groups runs spans runs
giving_starts groups runs spans e are known within =
    subst (λ s. IsGiving groups runs s runs) (sym e) (record {
      goes = λ more h. h;
      are_runs = are;
      known = known;
      within = within;
    })

one_more : (spans : List PullSpan) (s : PullSpan) (more : List Stretch)
    → stretches_of spans ++ stretch_of s ∷ more ≡ stretches_of (spans ++ s ∷ []) ++ more
one_more [] s more = refl
one_more (x ∷ spans) s more = ap (λ l. stretch_of x ∷ l) (one_more spans s more)

no_more : (ss : List Stretch) → ss ++ [] ≡ ss
no_more [] = refl
no_more (s ∷ ss) = ap (λ l. s ∷ l) (no_more ss)

giving_next : (groups : List ClipGroup) (runs : List Run) (spans : List PullSpan) (rest : List Run)
    (r : Run) (s : PullSpan) → IsGiving groups runs spans (r ∷ rest)
    → IsStretchOf groups r (stretch_of s) → IsGiving groups runs (spans ++ s ∷ []) rest
giving_next groups runs spans rest r s g is = record {
  goes = λ more h. subst (AreStretches groups runs) (one_more spans s more)
      (g.goes (stretch_of s ∷ more) (is, h));
  are_runs = g.are_runs.1;
  known = g.known.1;
  within = g.within.1;
}

pub giving_at : (groups : List ClipGroup) (runs : List Run) (spans more : List PullSpan) (i : ℕ)
    (d : Run) (s : PullSpan) → i < length runs → IsGiving groups runs spans (drop i runs)
    → IsStretchOf groups (get_or runs i d) (stretch_of s) → more ≡ spans ++ s ∷ []
    → IsGiving groups runs more (drop (i + 1) runs)
giving_at groups runs spans more i d s lt g is e =
    subst (λ x. IsGiving groups runs x (drop (i + 1) runs)) (sym e)
    (giving_next groups runs spans (drop (i + 1) runs) (get_or runs i d) s
    (subst (IsGiving groups runs spans) (drop_more runs i d lt) g) is)

pub run_at : (groups : List ClipGroup) (runs : List Run) (spans : List PullSpan) (i : ℕ) (d : Run)
    → i < length runs → IsGiving groups runs spans (drop i runs) → IsRun (get_or runs i d)
run_at groups runs spans i d lt g = (subst (Each IsRun) (drop_more runs i d lt) g.are_runs).0

pub known_at : (groups : List ClipGroup) (runs : List Run) (spans : List PullSpan) (i : ℕ) (d : Run)
    → i < length runs → IsGiving groups runs spans (drop i runs) → IsKnown groups (get_or runs i d)
known_at groups runs spans i d lt g =
    (subst (Each (IsKnown groups)) (drop_more runs i d lt) g.known).0

pub within_at : (groups : List ClipGroup) (runs : List Run) (spans : List PullSpan) (i : ℕ) (d : Run)
    → i < length runs → IsGiving groups runs spans (drop i runs)
    → IsWithin further (get_or runs i d)
within_at groups runs spans i d lt g =
    (subst (Each (IsWithin further)) (drop_more runs i d lt) g.within).0

pub giving_ends : (groups : List ClipGroup) (runs : List Run) (spans : List PullSpan) (rest : List Run)
    → rest ≡ [] → IsGiving groups runs spans rest → AreStretches groups runs (stretches_of spans)
giving_ends groups runs spans rest e g =
    subst (AreStretches groups runs) (no_more (stretches_of spans))
    (g.goes [] (subst (λ l. AreStretches groups l []) (sym e) tt))
