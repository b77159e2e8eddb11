-- The latest event line when a line behind it says no speed.
use Rattle.std.proofs.Common.{◌≡◌, ℕ, Bool, true, false, cond, nat_lt, List, [], ◌∷◌, Option, Some, None, is_some, refl, sym, ap, ◌∙◌}
use Rattle.tick_time.specs.declared.rates.Rate.{Rate}
use Rattle.edl_text.specs.Statements.{Statement, Nothing, Title, Mode, FromName, ToName}
use Rattle.edl_list.specs.declared.list.Event.{Event}
use Rattle.edl_list.specs.declared.list.Reel.{Reel}
use Rattle.edl_list.specs.declared.list.Side.{Side}
use Rattle.edl_text.specs.declared.open_event.Pending.{Pending}
use Rattle.edl_text.specs.Past.{Block, noted}
use Rattle.edl_text.specs.Sides.{duration, from_name, to_name, speeds_of, reel_at, incoming, outgoing, from_side}
use Rattle.edl_text.specs.StateSaid.{IsPending, Hold, with_name, named_by, named_from, named_to}

-- the block with one more note
abbrev pub with_note : Statement → Block → Block
with_note said block = record block { notes = said ∷ block.notes }

-- the latest event line with other sides
pub rebuilt : (rate : Rate) (p : Pending) (said : Statement) (block : Block) (before : List Block) (to : Side) (from : Option Side) → IsPending rate p block before
    → to ≡ incoming rate (with_note said block) before → from ≡ from_side rate (with_note said block) before → IsPending rate (record p { to = to; from = from }) (with_note said block) before
rebuilt rate p said block before to from h e f = record {
  line = h.line;
  number = h.number;
  channels = h.channels;
  kind = h.kind;
  source_in = h.source_in;
  source_out = h.source_out;
  record_in = h.record_in;
  record_out = h.record_out;
  to = e;
  from = f;
}

-- what is said neither names a side nor gives one a speed
pub record IsPlain (said : Statement) (notes : List Statement) : Type 0 where
  pub from : from_name (said ∷ notes) ≡ from_name notes
  pub to : to_name (said ∷ notes) ≡ to_name notes
  pub speeds : (reel : Reel) → speeds_of reel (said ∷ notes) ≡ speeds_of reel notes

incoming_plain : (rate : Rate) (said : Statement) (block : Block) (before : List Block) → IsPlain said block.notes → incoming rate (with_note said block) before ≡ incoming rate block before
incoming_plain rate said block [] h = rw (h.from, h.speeds (reel_at block)) refl
incoming_plain rate said block (a ∷ bs) h = rw (h.from, h.to, h.speeds (reel_at block)) refl

from_plain : (rate : Rate) (said : Statement) (block : Block) (before : List Block) → IsPlain said block.notes → from_side rate (with_note said block) before ≡ from_side rate block before
from_plain rate said block [] h = refl
from_plain rate said block (a ∷ bs) h = rw (h.from, h.speeds (reel_at a)) refl

pending_plain : (rate : Rate) (p : Pending) (said : Statement) (block : Block) (before : List Block) → IsPlain said block.notes → IsPending rate p block before
    → IsPending rate p (with_note said block) before
pending_plain rate p said block before plain h =
    rebuilt rate p said block before p.to p.from h (h.to ∙ sym (incoming_plain rate said block before plain)) (h.from ∙ sym (from_plain rate said block before plain))

pub hold_plain : (rate : Rate) (o : Option Pending) (events : List Event) (blocks : List Block) (said : Statement) → ((notes : List Statement) → IsPlain said notes) → Hold rate o events blocks
    → Hold rate o events (noted said blocks)
hold_plain rate None events [] said plain h = h
hold_plain rate None events (block ∷ before) said plain h = h
hold_plain rate (Some p) events [] said plain h = h
hold_plain rate (Some p) events (block ∷ before) said plain h = (pending_plain rate p said block before (plain block.notes) h.0, h.1)

pub nothing_plain : (notes : List Statement) → IsPlain Nothing notes
nothing_plain notes = record { from = refl; to = refl; speeds = λ reel. refl }

pub title_plain : (title : List ℕ) (notes : List Statement) → IsPlain (Title title) notes
title_plain title notes = record { from = refl; to = refl; speeds = λ reel. refl }

pub mode_plain : (drop : Bool) (notes : List Statement) → IsPlain (Mode drop) notes
mode_plain drop notes = record { from = refl; to = refl; speeds = λ reel. refl }

from_empty : (notes : List Statement) → IsPlain (FromName []) notes
from_empty notes = record { from = refl; to = refl; speeds = λ reel. refl }

to_empty : (notes : List Statement) → IsPlain (ToName []) notes
to_empty notes = record { from = refl; to = refl; speeds = λ reel. refl }

-- a name of the clip that the event comes from, where the outgoing side is known
named_pair : (rate : Rate) (b : ℕ) (bs : List ℕ) (p : Pending) (block a : Block) (others : List Block) → IsPending rate p block (a ∷ others) → (t : Bool) → nat_lt 0 (duration block.says.kind) ≡ t
    → (o : Option Side) → p.from ≡ o → cond t (Some (outgoing rate block a)) None ≡ o
    → IsPending rate (named_by (b ∷ bs) o p) (with_note (FromName (b ∷ bs)) block) (a ∷ others)
named_pair rate b bs p block a others h false e None f g =
    rebuilt rate p (FromName (b ∷ bs)) block (a ∷ others) (with_name (b ∷ bs) p.to) p.from h (rw e (ap (with_name (b ∷ bs)) h.to)) (rw e f)
named_pair rate b bs p block a others h false e (Some side) f g = cc g
named_pair rate b bs p block a others h true e None f g = cc g
named_pair rate b bs p block a others h true e (Some side) f g =
    let same : side ≡ outgoing rate block a = cc g in
    rebuilt rate p (FromName (b ∷ bs)) block (a ∷ others) p.to (Some (with_name (b ∷ bs) side)) h (rw e (rw e at h.to)) (rw e (ap (λ s. Some (with_name (b ∷ bs) s)) same))

named_alone : (rate : Rate) (b : ℕ) (bs : List ℕ) (p : Pending) (block : Block) → IsPending rate p block [] → (o : Option Side) → p.from ≡ o
    → IsPending rate (named_by (b ∷ bs) o p) (with_note (FromName (b ∷ bs)) block) []
named_alone rate b bs p block h None f = rebuilt rate p (FromName (b ∷ bs)) block [] (with_name (b ∷ bs) p.to) p.from h (ap (with_name (b ∷ bs)) h.to) f
named_alone rate b bs p block h (Some side) f = let g : Some side ≡ None = sym f ∙ h.from in cc g

named_is : (rate : Rate) (b : ℕ) (bs : List ℕ) (p : Pending) (block : Block) (before : List Block) → IsPending rate p block before
    → IsPending rate (named_by (b ∷ bs) p.from p) (with_note (FromName (b ∷ bs)) block) before
named_is rate b bs p block [] h = named_alone rate b bs p block h p.from refl
named_is rate b bs p block (a ∷ others) h =
    named_pair rate b bs p block a others h (nat_lt 0 (duration block.says.kind)) refl p.from refl (sym h.from)

pub hold_from : (rate : Rate) (name : List ℕ) (p : Pending) (events : List Event) (blocks : List Block) → Hold rate (Some p) events blocks
    → Hold rate (Some (named_from name p)) events (noted (FromName name) blocks)
hold_from rate name p events [] h = h
hold_from rate [] p events (block ∷ before) h = (pending_plain rate p (FromName []) block before (from_empty block.notes) h.0, h.1)
hold_from rate (b ∷ bs) p events (block ∷ before) h = (named_is rate b bs p block before h.0, h.1)

-- a name of the clip that the event goes to
named_to_pair : (rate : Rate) (b : ℕ) (bs : List ℕ) (p : Pending) (block a : Block) (others : List Block) → IsPending rate p block (a ∷ others) → (t : Bool) → nat_lt 0 (duration block.says.kind) ≡ t
    → (o : Option Side) → p.from ≡ o → cond t (Some (outgoing rate block a)) None ≡ o
    → IsPending rate (cond (is_some o) (record p { to = with_name (b ∷ bs) p.to }) p) (with_note (ToName (b ∷ bs)) block) (a ∷ others)
named_to_pair rate b bs p block a others h false e None f g = rebuilt rate p (ToName (b ∷ bs)) block (a ∷ others) p.to p.from h (rw e (rw e at h.to)) (rw e f)
named_to_pair rate b bs p block a others h false e (Some side) f g = cc g
named_to_pair rate b bs p block a others h true e None f g = cc g
named_to_pair rate b bs p block a others h true e (Some side) f g =
    rebuilt rate p (ToName (b ∷ bs)) block (a ∷ others) (with_name (b ∷ bs) p.to) p.from h (rw e (ap (with_name (b ∷ bs)) h.to)) (rw e (f ∙ sym g))

named_to_alone : (rate : Rate) (b : ℕ) (bs : List ℕ) (p : Pending) (block : Block) → IsPending rate p block [] → (o : Option Side) → p.from ≡ o
    → IsPending rate (cond (is_some o) (record p { to = with_name (b ∷ bs) p.to }) p) (with_note (ToName (b ∷ bs)) block) []
named_to_alone rate b bs p block h None f = rebuilt rate p (ToName (b ∷ bs)) block [] p.to p.from h h.to f
named_to_alone rate b bs p block h (Some side) f = let g : Some side ≡ None = sym f ∙ h.from in cc g

named_to_is : (rate : Rate) (b : ℕ) (bs : List ℕ) (p : Pending) (block : Block) (before : List Block) → IsPending rate p block before
    → IsPending rate (named_to (b ∷ bs) p) (with_note (ToName (b ∷ bs)) block) before
named_to_is rate b bs p block [] h = named_to_alone rate b bs p block h p.from refl
named_to_is rate b bs p block (a ∷ others) h = named_to_pair rate b bs p block a others h (nat_lt 0 (duration block.says.kind)) refl p.from refl (sym h.from)

pub hold_to : (rate : Rate) (name : List ℕ) (p : Pending) (events : List Event) (blocks : List Block) → Hold rate (Some p) events blocks
    → Hold rate (Some (named_to name p)) events (noted (ToName name) blocks)
hold_to rate name p events [] h = h
hold_to rate [] p events (block ∷ before) h = (pending_plain rate p (ToName []) block before (to_empty block.notes) h.0, h.1)
hold_to rate (b ∷ bs) p events (block ∷ before) h = (named_to_is rate b bs p block before h.0, h.1)
