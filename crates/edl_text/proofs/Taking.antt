-- What is kept when a line is taken that is no event line.
use Rattle.std.proofs.Common.{◌≡◌, ℕ, ◌==◌, Bool, true, false, List, [], ◌∷◌, length, Option, Some, None, is_some, unwrap_or, refl, sym, ap, subst, ◌∙◌, arith}
use Rattle.std.specs.Str.{IsUtf8, is_utf8}
use Rattle.std.proofs.lemmas.Str.{is_utf8-from_IsUtf8, IsUtf8-from_is_utf8}
use Rattle.std.proofs.lemmas.Bool.Decides.{nat_tests}
use Rattle.tick_time.specs.declared.rates.Rate.{Rate}
use Rattle.edl_text.specs.Statements.{Statement, Title, FromName, ToName}
use Rattle.edl_list.specs.declared.list.Event.{Event}
use Rattle.edl_text.specs.declared.faults.EdlFault.TheVariants.{Form}
use Rattle.edl_text.specs.declared.open_event.Pending.{Pending}
use Rattle.edl_text.specs.declared.list_so_far.Said.{Said}
use Rattle.edl_text.specs.Past.{Block, line_behind, mode_in, title_in, first_mode_in, blocks_in}
use Rattle.edl_text.specs.Lines.{fault_behind, title_fault, note_fault}
use Rattle.edl_text.specs.StateSaid.{Hold, Stands, StandsAtNext, named_from, named_to}
use Rattle.edl_text.proofs.Noting.{hold_plain, hold_from, hold_to, title_plain}

-- all is as it was but the latest event line
pub record KeepsRest (old new : Said) (o : Option Pending) : Type 0 where
  pub counted : new.rate ≡ old.rate
  pub line : new.line ≡ old.line
  pub title : new.title ≡ old.title
  pub drop : new.drop ≡ old.drop
  pub first : new.first_drop ≡ old.first_drop
  pub events : new.events.items ≡ old.events.items
  pub pending : new.pending ≡ o

pub noted_more : (rate : Rate) (past : List Statement) (said : Statement) (old new : Said) (o : Option Pending) → StandsAtNext rate past old → KeepsRest old new o
    → title_in (said ∷ past) ≡ title_in past → mode_in (said ∷ past) ≡ mode_in past → first_mode_in (said ∷ past) ≡ first_mode_in past
    → Hold rate o old.events.items (blocks_in (said ∷ past)) → Stands rate (said ∷ past) new
noted_more rate past said old new o h k t m f lines = record {
  line = k.line ∙ h.line;
  holds = record {
    counted = k.counted ∙ h.holds.counted;
    title = k.title ∙ h.holds.title ∙ sym t;
    drop = k.drop ∙ h.holds.drop ∙ sym m;
    first = k.first ∙ h.holds.first ∙ sym f;
    lines = subst (λ e. Hold rate new.pending e (blocks_in (said ∷ past))) (sym k.events) (subst (λ p. Hold rate p old.events.items (blocks_in (said ∷ past))) (sym k.pending) lines);
  };
}

-- where there is a latest event line, a note has no fault
pub no_note_fault : (rate : Rate) (p : Pending) (events : List Event) (blocks : List Block) (n : ℕ) → Hold rate (Some p) events blocks → note_fault n blocks ≡ None
no_note_fault rate p events [] n h = absurd h
no_note_fault rate p events (block ∷ before) n h = let e : (length (block ∷ before) == 0) ≡ false = grind (arith, nat_tests) in rw e refl

pub held : (rate : Rate) (past : List Statement) (old : Said) (p : Pending) → StandsAtNext rate past old → Some p ≡ old.pending → Hold rate (Some p) old.events.items (blocks_in past)
held rate past old p h e = subst (λ o. Hold rate o old.events.items (blocks_in past)) (sym e) h.holds.lines

pub took_from : (rate : Rate) (past : List Statement) (name : List ℕ) (old new : Said) (p q : Pending) → StandsAtNext rate past old → Some p ≡ old.pending → q ≡ named_from name p → KeepsRest old new (Some q)
    → (fault_behind rate past (FromName name) ≡ None) × Stands rate (FromName name ∷ past) new
took_from rate past name old new p q h e f k =
    let lines = held rate past old p h e in (
      no_note_fault rate p old.events.items (blocks_in past) (line_behind past) lines,
      noted_more rate past (FromName name) old new (Some q) h k refl refl refl
          (subst (λ r. Hold rate (Some r) old.events.items (blocks_in (FromName name ∷ past))) (sym f) (hold_from rate name p old.events.items (blocks_in past) lines)),
    )

pub took_to : (rate : Rate) (past : List Statement) (name : List ℕ) (old new : Said) (p q : Pending) → StandsAtNext rate past old → Some p ≡ old.pending → q ≡ named_to name p → KeepsRest old new (Some q)
    → (fault_behind rate past (ToName name) ≡ None) × Stands rate (ToName name ∷ past) new
took_to rate past name old new p q h e f k =
    let lines = held rate past old p h e in (
      no_note_fault rate p old.events.items (blocks_in past) (line_behind past) lines,
      noted_more rate past (ToName name) old new (Some q) h k refl refl refl
          (subst (λ r. Hold rate (Some r) old.events.items (blocks_in (ToName name ∷ past))) (sym f) (hold_to rate name p old.events.items (blocks_in past) lines)),
    )

-- the first title
first_title : (title : List ℕ) (o p : Option (List ℕ)) (n : ℕ) → o ≡ None → o ≡ p → IsUtf8 title → title_fault n title p ≡ None
first_title title o None n e f h = rw (is_utf8-from_IsUtf8 title h) refl
first_title title o (Some t) n e f h = let g : None ≡ Some t = sym e ∙ f in cc g

pub took_title : (rate : Rate) (past : List Statement) (title : List ℕ) (old new : Said) → StandsAtNext rate past old → old.title ≡ None → IsUtf8 title
    → new ≡ record old { title = Some title } → (fault_behind rate past (Title title) ≡ None) × Stands rate (Title title ∷ past) new
took_title rate past title old new h e u k =
    let is : None ≡ title_in past = sym e ∙ h.holds.title in
    let now : Some title ≡ title_in (Title title ∷ past) = ap (λ o. Some (unwrap_or o title)) is in
    let lines = hold_plain rate old.pending old.events.items (blocks_in past) (Title title) (title_plain title) h.holds.lines in
    let there : Stands rate (Title title ∷ past) (record old { title = Some title }) = record {
      line = h.line;
      holds = record { counted = h.holds.counted; title = now; drop = h.holds.drop; first = h.holds.first; lines = lines };
    } in (
      first_title title old.title (title_in past) (line_behind past) e h.holds.title u,
      subst (Stands rate (Title title ∷ past)) (sym k) there,
    )

no_title : (title : List ℕ) (t : Bool) → is_utf8 title ≡ t → (IsUtf8 title → ⊥) → t ≡ false
no_title title true e h = absurd (h (IsUtf8-from_is_utf8 title e))
no_title title false e h = refl

title_wrong : (title : List ℕ) (o p : Option (List ℕ)) (n m : ℕ) → o ≡ None → o ≡ p → n ≡ m → (IsUtf8 title → ⊥) → title_fault m title p ≡ Some (Form n)
title_wrong title o None n m e f g h = rw (no_title title (is_utf8 title) refl h, g) refl
title_wrong title o (Some t) n m e f g h = let x : None ≡ Some t = sym e ∙ f in cc x

pub title_refused : (rate : Rate) (past : List Statement) (title : List ℕ) (old : Said) → StandsAtNext rate past old → old.title ≡ None → (IsUtf8 title → ⊥)
    → fault_behind rate past (Title title) ≡ Some (Form old.line)
title_refused rate past title old h e u = title_wrong title old.title (title_in past) old.line (line_behind past) e h.holds.title h.line u

pub is_none_of : (o : Option (List ℕ)) → is_some o ≡ false → o ≡ None
is_none_of None e = refl
is_none_of (Some t) e = cc e
