-- What a change, an undo and a redo do to a log of edits and to its state.
use Rattle.std.proofs.Common.{◌≡◌, refl, sym, ap, subst, ◌∙◌, ℕ, ◌+◌, ◌≤◌, ◌<◌, ◌^◌, List, [], ◌∷◌, Option, Some, None, length, take, drop, arith}
use Rattle.std.specs.Prelude.{IsSomeAnd}
use Rattle.std.proofs.lemmas.List.{length-take}
use Rattle.limits.specs.Limits.{most_items}
use Rattle.otio_model.specs.declared.compositions.ItemOf.{ItemOf}
use Rattle.otio_model.specs.declared.compositions.Listed.{Listed}
use Rattle.otio_model.specs.declared.edit_types.Edit.{Edit}
use Rattle.otio_model.specs.declared.patches.Patch.{Patch}
use Rattle.otio_model.specs.declared.timelines.Timeline.{Timeline}
use Rattle.otio_model.specs.Counts.{count}
use Rattle.otio_model.specs.Patches.{IsFit, applied, comes, goes, put_back, target, undoing, undoing_list}
use Rattle.otio_model.specs.Timelines.{bare}
use Rattle.otio_model.specs.Trees.{items_of}
use Rattle.otio_model.specs.declared.patches.Put.{Put}
use Rattle.otio_model.specs.declared.patches.Put.TheVariants.{Items, Ranges}
use Rattle.otio_model.proofs.Retiming.{sources_length}
use Rattle.otio_model.proofs.UndoLemmas.{undone_same}
use Rattle.coord.proofs.SpareLemmas.{sound_bare}
use Rattle.undo_log.specs.Histories.{History, unspared}
use Rattle.undo_log.specs.States.{AreFit, CrossesOver, IsKept, State, back, committed, forth, moved, run, state_of, turned, turned_some}
use Rattle.undo_log.proofs.Moves.{fit_bare, kept_on, state_on}
use Rattle.edit_plans.specs.Planned.{IsPlan}
use Rattle.edit_script.specs.declared.commands.Act.{Act}
use Rattle.edit_script.specs.declared.commands.Act.TheVariants as A
use Rattle.media_rows.specs.Rows.{MediaRows}
use Rattle.edit_script.specs.Keeping.{AreEditable, HoldsEdits, IsEditable, IsEditableState}
use Rattle.edit_script.specs.EditHistories.{AreRedoingEach, AreUndoingEach, EditHistory, HoldsEach, IsNarrowFor, KeepsEach, brings_back, makes, takes_back}
use Rattle.edit_script.specs.Plans.{IsPlanOf}
use Rattle.edit_script.specs.Runs.{edits, redoes, undoes}
use Rattle.edit_script.specs.Steps.{IsDone, IsReady, IsSame}
use Rattle.edit_script.proofs.Bares.{accepted_bare, applied_bare}
use Rattle.edit_script.proofs.EachEdit.{edits-chosen, edits-some}

-- ---- room that was made

each-on : (h k : History) (a b : Timeline) (own : EditHistory) → unspared k ≡ unspared h
    → bare b ≡ bare a → HoldsEach own h a → HoldsEach own k b
each-on h k a b own e f w = record {
  past = subst (λ (g : History). AreUndoingEach (bare b) own.made g.past) (sym e)
      (subst (λ t. AreUndoingEach t own.made h.past) (sym f) w.past);
  future = subst (λ (g : History). AreRedoingEach (bare b) own.undone g.future) (sym e)
      (subst (λ t. AreRedoingEach t own.undone h.future) (sym f) w.future);
}

-- what an act keeps of known edits it keeps of some
holds-by_each : (media : MediaRows) (act : Act) (h k : History) (t u : Timeline)
    → KeepsEach media act h t k u → HoldsEdits h t → HoldsEdits k u
holds-by_each media act h k t u f w =
    let old = edits-chosen h t w in
    let new = f old.0 old.1 in
    edits-some new.0 k u new.2

ready_on : (h k : History) (a b : Timeline) → unspared k ≡ unspared h → bare b ≡ bare a
    → IsReady h a → IsReady k b
ready_on h k a b e f w = record {
  kept = kept_on h k a b e f w.kept;
  editable = subst IsEditableState (sym (state_on h k a b e f)) w.editable;
}

pub roomier : (h k : History) (a b : Timeline) → unspared k ≡ unspared h → bare b ≡ bare a
    → IsReady h a → IsSame h a k b
roomier h k a b e f w = record {
  ready = ready_on h k a b e f w;
  state = state_on h k a b e f;
  holds = λ (w : HoldsEdits h a).
      let old = edits-chosen h a w in
      edits-some old.0 k b (each-on h k a b old.0 e f old.1);
  each = λ own w. each-on h k a b own e f w;
}

-- ---- how many children the patch that undoes another one has

record Sizes (p q : Patch) : Type 0 where
  puts : comes q.put ≤ goes p.put
  takes : goes q.put ≡ comes p.put

taken_few : (n : ℕ) (l : List (ItemOf Listed)) → length (take n l) ≤ n
taken_few n l = omega (arith, length-take n l)

put_sizes : (at : ℕ) (q : Put) (xs : List (ItemOf Listed)) → at + goes q ≤ length xs
    → (comes (put_back at q xs) ≤ goes q) × (goes (put_back at q xs) ≡ comes q)
put_sizes at (Items count items) xs h = (taken_few count (drop at xs), refl)
put_sizes at (Ranges rs) xs h =
    let long = sources_length at (length rs) xs h in (omega (arith, long), long)

sizes : (p : Patch) (b : Timeline) → IsFit p b → Sizes p (undoing p b)
sizes p b f = by (target p b) f.within
  where
    by : (o : Option Listed) → IsSomeAnd o (λ l. p.at + goes p.put ≤ length (items_of l))
        → Sizes p (elim o as (λ _. Patch) [ None ↦ p | Some l ↦ undoing_list p l ])
    by None h = absurd h
    by (Some l) h = let s = put_sizes p.at p.put (items_of l) h in
        record { puts = s.0; takes = s.1 }

-- ---- the state

few_of : (n : ℕ) → (most_items < n → ⊥) → n < 2 ^ 32
few_of n h = omega (arith, h)

planned_editable : (t : Timeline) (e : Edit) (p : Patch) → IsPlan t e p
    → IsEditable (applied p (bare t))
planned_editable t e p i = subst IsEditable (sym (applied_bare p t)) (record {
  sound = sound_bare (applied p t) (bare (applied p t)) refl i.sound;
  few = few_of (count (applied p t).tracks.children)
      (λ h. i.after.few (applied p t, i.after.made, h));
})

committed_editable : (t : Timeline) (e : Edit) (p : Patch) (s : State) → IsPlan t e p
    → s.now ≡ bare t → IsEditableState s → IsEditableState (committed p s)
committed_editable t e p s i f w = record {
  before = (w.now, w.before);
  now = subst (λ x. IsEditable (applied p x)) (sym f) (planned_editable t e p i);
  after = tt;
}

-- ---- a change that is planned

narrow_of : (t : Timeline) (e : Edit) (p : Patch) → IsPlan t e p
    → IsNarrowFor e (bare t) (applied p (bare t)) (comes (undoing p (bare t)).put)
    (goes (undoing p (bare t)).put)
narrow_of t e p i =
    let n = sizes p (bare t) (fit_bare p t i.fit) in
    record {
      after = accepted_bare t e p i.after;
      to_undo = omega (arith, n.puts, i.few_out);
      to_redo = omega (arith, n.takes, i.few_in);
    }

-- the patch that undoes it stands first
first_undoing : (b : Timeline) (p : Patch) (e : Edit) (es : List Edit) (ps : List Patch)
    → IsFit p b → IsNarrowFor e b (applied p b) (comes (undoing p b).put) (goes (undoing p b).put)
    → AreUndoingEach b es ps → AreUndoingEach (applied p b) (e ∷ es) (undoing p b ∷ ps)
first_undoing b p e es ps f n w =
    let same = undone_same p b f in (
      subst (λ a. IsNarrowFor e a (applied p b) (comes (undoing p b).put) (goes (undoing p b).put))
          (sym same) n,
      subst (λ a. AreUndoingEach a es ps) (sym same) w,
    )

first_redoing : (b : Timeline) (p : Patch) (e : Edit) (es : List Edit) (ps : List Patch)
    → IsFit p b → IsNarrowFor e (applied p b) b (goes (undoing p b).put) (comes (undoing p b).put)
    → AreRedoingEach b es ps → AreRedoingEach (applied p b) (e ∷ es) (undoing p b ∷ ps)
first_redoing b p e es ps f n w =
    let same = undone_same p b f in (
      subst (λ a. IsNarrowFor e (applied p b) a (goes (undoing p b).put) (comes (undoing p b).put))
          (sym same) n,
      subst (λ a. AreRedoingEach a es ps) (sym same) w,
    )

-- the asked edit and its patch join those of the log
changed-each : (media : MediaRows) (act : Act) (h k : History) (t u : Timeline) (p : Patch)
    → bare u ≡ applied p (bare t) → k.past ≡ undoing p (bare t) ∷ h.past → k.future ≡ []
    → IsPlanOf media act t p → KeepsEach media act h t k u
changed-each media act h k t u p now past future i old w = (
  record { made = i.edit ∷ old.made; undone = [] },
  makes i.edit (record { listed = i.asks.listed; near = i.asks.near; edit = i.asks.edit }) refl,
  record {
    past = subst (AreUndoingEach (bare u) (i.edit ∷ old.made)) (sym past)
        (subst (λ x. AreUndoingEach x (i.edit ∷ old.made) (undoing p (bare t) ∷ h.past)) (sym now)
        (first_undoing (bare t) p i.edit old.made h.past (fit_bare p t i.plan.fit)
        (narrow_of t i.edit p i.plan) w.past));
    future = subst (AreRedoingEach (bare u) []) (sym future) tt;
  },
)

pub changed : (media : MediaRows) (act : Act) (h g k : History) (t s u : Timeline) (p : Patch)
    → IsReady h t → unspared g ≡ unspared h → bare s ≡ bare t → IsKept k u
    → state_of k u ≡ committed p (state_of g s) → k.past ≡ undoing p s ∷ g.past → k.future ≡ []
    → IsPlanOf media act t p → IsDone media act h t k u
changed media act h g k t s u p w e f kept state past future i =
    let b = bare t in
    let is : state_of k u ≡ committed p (state_of h t) =
    state ∙ ap (committed p) (state_on h g t s e f) in
    let now : bare u ≡ applied p b = ap (λ (x : State). x.now) is in
    let older : g.past ≡ h.past = ap (λ (x : History). x.past) e in
    let pasts : k.past ≡ undoing p b ∷ h.past =
    past ∙ ap (λ x. undoing p x ∷ g.past) f ∙ ap (λ l. undoing p b ∷ l) older in
    let each = changed-each media act h k t u p now pasts future i in
    record {
      ready = record {
        kept = kept;
        editable = subst IsEditableState (sym is)
            (committed_editable t i.edit p (state_of h t) i.plan refl w.editable);
      };
      takes = edits i.edit (applied p b)
          (record { listed = i.asks.listed; near = i.asks.near; edit = i.asks.edit })
          (accepted_bare t i.edit p i.plan.after) is;
      holds = holds-by_each media act h k t u each;
      each = each;
    }

-- ---- undo and redo

moved_editable : (l : List Timeline) (n : Timeline) (r : List Timeline) (s : State)
    → AreEditable l → IsEditable n → AreEditable r → moved l n r ≡ Some s → IsEditableState s
moved_editable [] n r s a b c e = absurd (let g : None ≡ Some s = e in cc g)
moved_editable (x ∷ l) n r s a b c e =
    let g : record { before = l; now = x; after = n ∷ r } ≡ s = cc e in
    subst IsEditableState g (record { before = a.1; now = a.0; after = (b, c) })

back_editable : (s r : State) → IsEditableState s → back s ≡ Some r → IsEditableState r
back_editable s r w e = moved_editable s.before s.now s.after r w.before w.now w.after e

turned_editable : (s : State) → IsEditableState s → IsEditableState (turned s)
turned_editable s w = record { before = w.after; now = w.now; after = w.before }

forth_editable : (s r : State) → IsEditableState s → forth s ≡ Some r → IsEditableState r
forth_editable s r w e = by (back (turned s)) refl e
  where
    by : (o : Option State) → back (turned s) ≡ o → turned_some o ≡ Some r → IsEditableState r
    by None f g = absurd (let x : None ≡ Some r = g in cc x)
    by (Some q) f g =
        let x : turned q ≡ r = cc g in
        subst IsEditableState x
        (turned_editable q (back_editable (turned s) q (turned_editable s w) f))

-- of an undo and a redo: the patch that crossed over, and the timeline that it gave
record Crossed (b c : Timeline) (from to left kept : List Patch) : Type 0 where
  patch : Patch
  taken : from ≡ patch ∷ left
  undoes : kept ≡ undoing patch b ∷ to
  fits : IsFit patch b
  gives : c ≡ applied patch b

first_given : (b : Timeline) (p : Patch) (from left : List Patch) (to : List Timeline) (r : State)
    → from ≡ p ∷ left → moved (run b from) b to ≡ Some r → r.now ≡ applied p b
first_given b p from left to r e f =
    let g : Some (record { before = run (applied p b) left; now = applied p b; after = b ∷ to })
    ≡ Some r =
    ap (λ l. moved (run b l) b to) (sym e) ∙ f in
    let h : record { before = run (applied p b) left; now = applied p b; after = b ∷ to } ≡ r =
    cc g in
    ap (λ (x : State). x.now) (sym h)

crossed_by : (b c : Timeline) (from to left kept : List Patch) (ts : List Timeline) (r : State)
    (t : Timeline) → bare t ≡ b → CrossesOver t from to left kept → AreFit b from
    → moved (run b from) b ts ≡ Some r → r.now ≡ c → Crossed b c from to left kept
crossed_by b c from to left kept ts r t same x fits goes now = record {
  patch = x.patch;
  taken = x.taken;
  undoes = x.undoes ∙ ap (λ a. undoing x.patch a ∷ to) same;
  fits = (subst (AreFit b) x.taken fits).0;
  gives = sym now ∙ first_given b x.patch from left ts r x.taken goes;
}

-- an edit that was made and is undone, or that was undone and is made again
record Crossing (c : Timeline) (Goes Comes : Timeline → List Edit → List Patch → Type 0)
    (from to : List Edit) (left kept : List Patch) : Type 0 where
  edit : Edit
  others : List Edit
  first : from ≡ edit ∷ others
  goes : Goes c others left
  comes : Comes c (edit ∷ to) kept

undone-crosses : (b c : Timeline) (made undone : List Edit) (from to left kept : List Patch)
    → Crossed b c from to left kept → AreUndoingEach b made from → AreRedoingEach b undone to
    → Crossing c AreUndoingEach AreRedoingEach made undone left kept
undone-crosses b c made undone from to left kept x past future =
    by made (subst (AreUndoingEach b made) x.taken past)
  where
    by : (es : List Edit) → AreUndoingEach b es (x.patch ∷ left)
        → Crossing c AreUndoingEach AreRedoingEach es undone left kept
    by [] w = absurd w
    by (e ∷ es) w =
        let p = x.patch in
        let n = sizes p b x.fits in
        let narrow : IsNarrowFor e (applied p b) b (goes (undoing p b).put) (comes (undoing p b).put) =
        record {
          after = w.0.after;
          to_undo = omega (arith, n.takes, w.0.to_undo);
          to_redo = omega (arith, n.puts, w.0.to_redo);
        } in
        record {
          edit = e;
          others = es;
          first = refl;
          goes = subst (λ a. AreUndoingEach a es left) (sym x.gives) w.1;
          comes = subst (λ a. AreRedoingEach a (e ∷ undone) kept) (sym x.gives)
              (subst (AreRedoingEach (applied p b) (e ∷ undone)) (sym x.undoes)
              (first_redoing b p e undone to x.fits narrow future));
        }

redone-crosses : (b c : Timeline) (made undone : List Edit) (from to left kept : List Patch)
    → Crossed b c from to left kept → AreRedoingEach b undone from → AreUndoingEach b made to
    → Crossing c AreRedoingEach AreUndoingEach undone made left kept
redone-crosses b c made undone from to left kept x future past =
    by undone (subst (AreRedoingEach b undone) x.taken future)
  where
    by : (es : List Edit) → AreRedoingEach b es (x.patch ∷ left)
        → Crossing c AreRedoingEach AreUndoingEach es made left kept
    by [] w = absurd w
    by (e ∷ es) w =
        let p = x.patch in
        let n = sizes p b x.fits in
        let narrow : IsNarrowFor e b (applied p b) (comes (undoing p b).put) (goes (undoing p b).put) =
        record {
          after = w.0.after;
          to_undo = omega (arith, n.puts, w.0.to_undo);
          to_redo = omega (arith, n.takes, w.0.to_redo);
        } in
        record {
          edit = e;
          others = es;
          first = refl;
          goes = subst (λ a. AreRedoingEach a es left) (sym x.gives) w.1;
          comes = subst (λ a. AreUndoingEach a (e ∷ made) kept) (sym x.gives)
              (subst (AreUndoingEach (applied p b) (e ∷ made)) (sym x.undoes)
              (first_undoing b p e made to x.fits narrow past));
        }

-- what a move forward is, seen from the end
turned_moves : (o : Option State) (r : State) → turned_some o ≡ Some r → o ≡ Some (turned r)
turned_moves None r e = absurd (let x : None ≡ Some r = e in cc x)
turned_moves (Some q) r e = let x : turned q ≡ r = cc e in ap (λ y. Some (turned y)) x

pub undone : (media : MediaRows) (h g k : History) (t s u : Timeline) → IsReady h t
    → unspared g ≡ unspared h → bare s ≡ bare t → IsKept k u
    → back (state_of g s) ≡ Some (state_of k u)
    → CrossesOver s g.past g.future k.past k.future → IsDone media A.Undo h t k u
undone media h g k t s u w e f kept goes x =
    let r = ready_on h g t s e f w in
    let is : back (state_of h t) ≡ Some (state_of k u) =
    ap back (sym (state_on h g t s e f)) ∙ goes in
    let crossed = crossed_by (bare s) (bare u) g.past g.future k.past k.future
    (run (bare s) g.future) (state_of k u) s refl x r.kept.past goes refl in
    let each : KeepsEach media A.Undo h t k u = λ old d.
    let d' = each-on h g t s old e f d in
    let m = undone-crosses (bare s) (bare u) old.made old.undone g.past g.future k.past k.future
    crossed d'.past d'.future in (
      record { made = m.others; undone = m.edit ∷ old.undone },
      takes_back m.edit m.others refl m.first refl,
      record { past = m.goes; future = m.comes },
    ) in
    record {
      ready = record {
        kept = kept;
        editable = back_editable (state_of g s) (state_of k u) r.editable goes;
      };
      takes = undoes refl is;
      holds = holds-by_each media A.Undo h k t u each;
      each = each;
    }

pub redone : (media : MediaRows) (h g k : History) (t s u : Timeline) → IsReady h t
    → unspared g ≡ unspared h → bare s ≡ bare t → IsKept k u
    → forth (state_of g s) ≡ Some (state_of k u)
    → CrossesOver s g.future g.past k.future k.past → IsDone media A.Redo h t k u
redone media h g k t s u w e f kept goes x =
    let r = ready_on h g t s e f w in
    let is : forth (state_of h t) ≡ Some (state_of k u) =
    ap forth (sym (state_on h g t s e f)) ∙ goes in
    let turned_goes = turned_moves (back (turned (state_of g s))) (state_of k u) goes in
    let crossed = crossed_by (bare s) (bare u) g.future g.past k.future k.past
    (run (bare s) g.past) (turned (state_of k u)) s refl x r.kept.future turned_goes refl in
    let each : KeepsEach media A.Redo h t k u = λ old d.
    let d' = each-on h g t s old e f d in
    let m = redone-crosses (bare s) (bare u) old.made old.undone g.future g.past k.future k.past
    crossed d'.future d'.past in (
      record { made = m.edit ∷ old.made; undone = m.others },
      brings_back m.edit m.others refl m.first refl,
      record { past = m.comes; future = m.goes },
    ) in
    record {
      ready = record {
        kept = kept;
        editable = forth_editable (state_of g s) (state_of k u) r.editable goes;
      };
      takes = redoes refl is;
      holds = holds-by_each media A.Redo h k t u each;
      each = each;
    }
