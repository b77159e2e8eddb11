-- A timeline that is written as a list has one answer.
use Rattle.std.proofs.Common.{◌≡◌, ℕ, Bool, true, false, Option, None, List, sym, ap, ap₂, subst, ◌∙◌}
use Rattle.otio_model.specs.declared.timelines.Timeline.{Timeline}
use Rattle.otio_model.specs.Timelines.{bare}
use Rattle.coord.proofs.OneFault.{same_fault, no_fault_of}
use Rattle.coord.proofs.SpareLemmas.{faultless_bare, fault_bare}
use Rattle.edl_list.specs.declared.list.EventList.{EventList}
use Rattle.edl_text.specs.Spelling.{spelling}
use Rattle.media_rows.specs.Rows.{MediaRows}
use Rattle.edl_frames.specs.Carried.{not_carried, IsListOf, IsNotCarried}
use Rattle.edl_frames.specs.declared.reasons.NotCarried.{NotCarried}
use Rattle.edl_frames.specs.declared.reasons.NotCarried.TheVariants as carried
use Rattle.edl_frames.specs.Homes.{AreHomesBy, HasList}
use Rattle.edl_law.proofs.OneList.{one_list}
use Rattle.edl_law.proofs.OneReason.{one_reason, no_reason}
use Rattle.note_text.specs.Found.{AreNotesOf}
use Rattle.note_text.specs.NotedSpelling.{noted_spelling}
use Rattle.note_text.specs.declared.notes.Note.{Note}
use Rattle.note_law.proofs.FoundOnce.{one_notes}
use Rattle.source_files.specs.Faults.{coord_fault_text, not_carried_text}
use Rattle.otio_tools.specs.Forms.{Answer, done, refused}
use Rattle.otio_tools.specs.Carried.{AnswersCarried, NotSound, Left, Carried, IsTextOf}

-- what is said of a timeline doesn't depend on the memory that it keeps to spare
not_carried_bare : (t u : Timeline) (media : MediaRows) (drop wide : Bool) → bare t ≡ bare u
    → not_carried t media drop wide ≡ not_carried u media drop wide
not_carried_bare t u media drop wide e =
    ap (λ (x : Timeline). not_carried x media drop wide) e

to_bare : (t : Timeline) (media : MediaRows) (drop wide : Bool) (list : EventList)
    → IsListOf t media drop wide list → IsListOf (bare t) media drop wide list
to_bare t media drop wide list i = record {
  title = i.title;
  rate = i.rate;
  mode = i.mode;
  events = i.events;
  order = i.order;
  numbered = i.numbered;
}

of_bare : (t : Timeline) (media : MediaRows) (drop wide : Bool) (list : EventList)
    → IsListOf (bare t) media drop wide list → IsListOf t media drop wide list
of_bare t media drop wide list i = record {
  title = i.title;
  rate = i.rate;
  mode = i.mode;
  events = i.events;
  order = i.order;
  numbered = i.numbered;
}

list_bare : (t u : Timeline) (media : MediaRows) (drop wide : Bool) (list : EventList)
    → bare t ≡ bare u → IsListOf u media drop wide list → IsListOf t media drop wide list
list_bare t u media drop wide list e i =
    of_bare t media drop wide list
    (subst (λ (x : Timeline). IsListOf x media drop wide list) (sym e)
    (to_bare u media drop wide list i))

homes_to_bare : (t : Timeline) (media : MediaRows) (drop wide : Bool) (list : EventList)
    (homes : List (List ℕ)) → AreHomesBy t media drop wide list.events homes
    → AreHomesBy (bare t) media drop wide list.events homes
homes_to_bare t media drop wide list homes h = record { each = h.each; on = h.on }

homes_of_bare : (t : Timeline) (media : MediaRows) (drop wide : Bool) (list : EventList)
    (homes : List (List ℕ)) → AreHomesBy (bare t) media drop wide list.events homes
    → AreHomesBy t media drop wide list.events homes
homes_of_bare t media drop wide list homes h = record { each = h.each; on = h.on }

fault_of_bare : (t u : Timeline) (media : MediaRows) (drop wide : Bool) (f : NotCarried)
    → bare t ≡ bare u → IsNotCarried u media drop wide f → IsNotCarried t media drop wide f
fault_of_bare t u media drop wide (carried.At p v) e is = not_carried_bare t u media drop wide e
    ∙ is
fault_of_bare t u media drop wide carried.Memory e is = tt

-- nor do its notes
notes_to_bare : (t : Timeline) (list : EventList) (notes : List Note) → AreNotesOf t list notes
    → AreNotesOf (bare t) list notes
notes_to_bare t list notes i = record {
  homes = i.homes;
  are_homes = λ media drop wide none is.
      homes_to_bare t media drop wide list i.homes
      (i.are_homes media drop wide none (of_bare t media drop wide list is));
  are = i.are;
}

notes_of_bare : (t : Timeline) (list : EventList) (notes : List Note)
    → AreNotesOf (bare t) list notes → AreNotesOf t list notes
notes_of_bare t list notes i = record {
  homes = i.homes;
  are_homes = λ media drop wide none is.
      homes_of_bare t media drop wide list i.homes
      (i.are_homes media drop wide none (to_bare t media drop wide list is));
  are = i.are;
}

notes_bare : (t u : Timeline) (list : EventList) (notes : List Note) → bare t ≡ bare u
    → AreNotesOf u list notes → AreNotesOf t list notes
notes_bare t u list notes e i =
    notes_of_bare t list notes
    (subst (λ (x : Timeline). AreNotesOf x list notes) (sym e) (notes_to_bare u list notes i))

-- the list of a timeline is that of its events
pub has_list : (t : Timeline) (media : MediaRows) (drop wide : Bool) (list : EventList)
    → not_carried t media drop wide ≡ None → IsListOf t media drop wide list → HasList t list
has_list t media drop wide list none is =
    record { media = media; drop = drop; wide = wide; carried = none; is = is }

-- a timeline's list has one text, with notes or without
text_once : (notes drop wide : Bool) (media : MediaRows) (t u : Timeline) (l k : EventList)
    (v o : List ℕ) → bare t ≡ bare u → not_carried t media drop wide ≡ None
    → IsListOf t media drop wide l → l ≡ k → IsTextOf notes t drop wide l v
    → IsTextOf notes u drop wide k o → v ≡ o
text_once false drop wide media t u l k v o same none is one p q =
    p ∙ ap (λ (x : EventList). spelling x drop wide) one ∙ sym q
text_once true drop wide media t u l k v o same none is one p q =
    let found = notes_bare t u l q.0 same (subst (λ x. AreNotesOf u x q.0) (sym one) q.1) in
    let notes = one_notes t l p.0 q.0 (has_list t media drop wide l none is) p.1 found in
    p.3 ∙ ap₂ (λ (x : EventList) (n : List Note). noted_spelling x n drop wide) one notes ∙ sym q.3

-- a timeline that is written as a list has at most one answer, whatever memory it has to spare
pub carried_once : (notes drop wide : Bool) (name : List ℕ) (media : MediaRows)
    (target : Option (List ℕ)) (t u : Timeline) (a b : Answer) → bare t ≡ bare u
    → AnswersCarried notes drop wide name media target t a
    → AnswersCarried notes drop wide name media target u b → a ≡ b
carried_once notes drop wide name media target t u a b same (NotSound f n p e) (NotSound g m q h) =
    e ∙ ap (λ fault. refused name (coord_fault_text fault))
    (same_fault t f g n m p (fault_bare u t g (sym same) q)) ∙ sym h
carried_once notes drop wide name media target t u a b same (NotSound f n p e) (Left s g m q h) =
    absurd (no_fault_of t f (faultless_bare u t (sym same) s) p)
carried_once notes drop wide name media target t u a b same (NotSound f n p e) (Carried s c l i x
    v w h) =
    absurd (no_fault_of t f (faultless_bare u t (sym same) s) p)
carried_once notes drop wide name media target t u a b same (Left s f n p e) (NotSound g m q h) =
    absurd (no_fault_of u g (faultless_bare t u same s) q)
carried_once notes drop wide name media target t u a b same (Left s f n p e) (Left r g m q h) =
    e ∙ ap (λ fault. refused name (not_carried_text fault))
    (one_reason t media drop wide f g p (fault_of_bare t u media drop wide g same q) n m) ∙ sym h
carried_once notes drop wide name media target t u a b same (Left s f n p e) (Carried r c l i x v
    w h) =
    absurd (no_reason t media drop wide f p n
    (not_carried_bare t u media drop wide same ∙ c))
carried_once notes drop wide name media target t u a b same (Carried s c l i x v w e) (NotSound g
    m q h) =
    absurd (no_fault_of u g (faultless_bare t u same s) q)
carried_once notes drop wide name media target t u a b same (Carried s c l i x v w e) (Left r g m
    q h) =
    absurd (no_reason u media drop wide g q m
    (sym (not_carried_bare t u media drop wide same) ∙ c))
carried_once notes drop wide name media target t u a b same (Carried s c l i x v w e)
    (Carried r d k j y o q h) =
    let one = one_list t media drop wide l k i (list_bare t u media drop wide k same j) in
    e ∙ ap (done target) (text_once notes drop wide media t u l k v o same c i one w q) ∙ sym h
