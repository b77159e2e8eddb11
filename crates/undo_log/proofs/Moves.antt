-- A patch and the one that undoes it turn two neighbours into each other.
use Rattle.std.proofs.Common.{◌≡◌, List, [], ◌∷◌, ◌++◌, Some, ap, sym, ◌∙◌, subst}
use Rattle.std.specs.Prelude.{reverse}
use Rattle.std.proofs.lemmas.List.{reverse-append}
use Rattle.otio_model.specs.declared.patches.Patch.{Patch}
use Rattle.otio_model.specs.declared.timelines.Timeline.{Timeline}
use Rattle.otio_model.specs.Patches.{IsFit, applied, undoing}
use Rattle.otio_model.specs.Timelines.{bare}
use Rattle.otio_model.proofs.UndoLemmas.{undone_fits, undone_same}
use Rattle.undo_log.specs.Histories.{History, unspared}
use Rattle.undo_log.specs.States.{AreFit, CrossesOver, IsKept, State, moved, run, state_of}

-- a patch fits a timeline whatever memory it has to spare
pub fit_bare : (p : Patch) (t : Timeline) → IsFit p t → IsFit p (bare t)
fit_bare p t f = record { track = f.track; within = f.within }

pub fit_whole : (p : Patch) (t : Timeline) → IsFit p (bare t) → IsFit p t
fit_whole p t f = record { track = f.track; within = f.within }

-- what is known of two neighbours, of the patch between them and of the one that undoes it
pub record Turned (p r : Patch) (b c : Timeline) (ps qs : List Patch) : Type 0 where
  pub fits : AreFit c (r ∷ qs)
  pub runs : run c (r ∷ qs) ≡ b ∷ run b qs
  pub left : AreFit c ps
  pub goes : run c ps ≡ run (applied p b) ps

pub turn : (p r : Patch) (b c : Timeline) (ps qs : List Patch) → IsFit p b → c ≡ applied p b
    → r ≡ undoing p b → AreFit (applied p b) ps → AreFit b qs → Turned p r b c ps qs
turn p r b c ps qs f e u g h =
    let same : applied r c ≡ b = ap (λ x. applied r x) e ∙ ap (λ q. applied q (applied p b)) u
    ∙ undone_same p b f in
    let fit : IsFit r c =
    subst (λ x. IsFit r x) (sym e)
    (subst (λ q. IsFit q (applied p b)) (sym u) (undone_fits p b f)) in
    record {
      fits = (fit, subst (λ x. AreFit x qs) (sym same) h);
      runs = ap (λ x. x ∷ run x qs) same;
      left = subst (λ x. AreFit x ps) (sym e) g;
      goes = ap (λ x. run x ps) e;
    }

-- the last of a list is the first of the list from its end
pub reverse_last : (zs : List Patch) (p : Patch) → reverse (zs ++ p ∷ []) ≡ p ∷ reverse zs
reverse_last zs p = reverse-append zs (p ∷ [])

-- the first of the patches that a history shows is the last of the vector
pub first_kept : {shown xs : List Patch} (zs : List Patch) (p : Patch) → reverse xs ≡ shown → xs ≡ zs ++ p ∷ []
    → shown ≡ p ∷ reverse zs
first_kept zs p e f = sym e ∙ ap reverse f ∙ reverse_last zs p

abbrev pub state_by : (b : List Timeline) (n : Timeline) (a : List Timeline) → State
state_by b n a = record { before = b; now = n; after = a }

-- what is known once the last patch of one side was applied, and the one that undoes it was put on
-- the other side
pub record Went (t u : Timeline) (xs zs ys ws : List Patch) : Type 0 where
  pub left : AreFit (bare u) (reverse zs)
  pub fits : AreFit (bare u) (reverse ws)
  pub moves : moved (run (bare t) (reverse xs)) (bare t) (run (bare t) (reverse ys))
      ≡ Some (record {
        before = run (bare u) (reverse zs);
        now = bare u;
        after = run (bare u) (reverse ws);
      })

pub went : {r : Patch} {xs zs ys ws : List Patch} (t u : Timeline) (p : Patch) → xs ≡ zs ++ p ∷ []
    → ws ≡ ys ++ r ∷ [] → AreFit (bare t) (reverse xs) → AreFit (bare t) (reverse ys)
    → bare u ≡ applied p (bare t) → r ≡ undoing p t → Went t u xs zs ys ws
went {r = r} {xs = xs} {zs = zs} {ys = ys} {ws = ws} t u p e f g h k i =
    let b = bare t in
    let first : reverse xs ≡ p ∷ reverse zs = ap reverse e ∙ reverse_last zs p in
    let last : reverse ws ≡ r ∷ reverse ys = ap reverse f ∙ reverse_last ys r in
    let fit : AreFit b (p ∷ reverse zs) = subst (AreFit b) first g in
    let w : Turned p r b (bare u) (reverse zs) (reverse ys) =
    turn p r b (bare u) (reverse zs) (reverse ys) fit.0 k i fit.1 h in
    record {
      left = w.left;
      fits = subst (AreFit (bare u)) (sym last) w.fits;
      moves =
          ap (λ l. moved (run b l) b (run b (reverse ys))) first
          ∙ ap (λ l. Some (state_by l (applied p b) (b ∷ run b (reverse ys)))) (sym w.goes)
          ∙ ap (λ n. Some (state_by (run (bare u) (reverse zs)) n (b ∷ run b (reverse ys)))) (sym k)
          ∙ ap (λ l. Some (state_by (run (bare u) (reverse zs)) (bare u) l)) (sym w.runs
          ∙ ap (run (bare u)) (sym last));
    }

-- the same where a patch that wasn't kept was applied, and what stood behind was dropped
pub record Added (t u : Timeline) (p : Patch) (xs ws : List Patch) : Type 0 where
  pub fits : AreFit (bare u) (reverse ws)
  pub state : state_by (run (bare u) (reverse ws)) (bare u) []
      ≡ state_by (bare t ∷ run (bare t) (reverse xs)) (applied p (bare t)) []

pub added : {t : Timeline} {p r : Patch} {xs ws : List Patch} (u : Timeline) → ws ≡ xs ++ r ∷ [] → IsFit p t
    → AreFit (bare t) (reverse xs) → bare u ≡ applied p (bare t) → r ≡ undoing p t
    → Added t u p xs ws
added {t = t} {p = p} {r = r} {xs = xs} {ws = ws} u f g h k i =
    let b = bare t in
    let last : reverse ws ≡ r ∷ reverse xs = ap reverse f ∙ reverse_last xs r in
    let w : Turned p r b (bare u) [] (reverse xs) =
    turn p r b (bare u) [] (reverse xs) (fit_bare p t g) k i tt h in
    record {
      fits = subst (AreFit (bare u)) (sym last) w.fits;
      state = ap (λ l. state_by l (bare u) []) (ap (run (bare u)) last ∙ w.runs)
          ∙ ap (λ n. state_by (b ∷ run b (reverse xs)) n []) k;
    }

-- room that was made changes neither what is kept nor the state
pub kept_on : (h k : History) (a b : Timeline) → unspared k ≡ unspared h → bare b ≡ bare a
    → IsKept h a → IsKept k b
kept_on h k a b e f w = record {
  past = subst (λ (g : History). AreFit (bare b) g.past) (sym e)
      (subst (λ t. AreFit t h.past) (sym f) w.past);
  future = subst (λ (g : History). AreFit (bare b) g.future) (sym e)
      (subst (λ t. AreFit t h.future) (sym f) w.future);
}

pub state_on : (h k : History) (a b : Timeline) → unspared k ≡ unspared h → bare b ≡ bare a
    → state_of k b ≡ state_of h a
state_on h k a b e f =
    ap (λ (g : History). state_by (run (bare b) g.past) (bare b) (run (bare b) g.future)) e
    ∙ ap (λ t. state_by (run t h.past) t (run t h.future)) f

-- the last patch of one vector was applied, and the one that undoes it was put behind the other's
pub crossed : {shown other : List Patch} {xs ws : List Patch} (zs ys : List Patch) (r : Patch) (t : Timeline)
    (p : Patch) → xs ≡ zs ++ p ∷ [] → ws ≡ ys ++ r ∷ [] → reverse xs ≡ shown → reverse ys ≡ other
    → r ≡ undoing p t → CrossesOver t shown other (reverse zs) (reverse ws)
crossed zs ys r t p e f g h i = record {
  patch = p;
  taken = first_kept zs p g e;
  undoes = ap reverse f ∙ reverse_last ys r ∙ ap (λ q. q ∷ reverse ys) i
      ∙ ap (λ l. undoing p t ∷ l) h;
}
