-- Bytes handed over one after another, and what a flush at the end sends.
use Rattle.std.proofs.Common.{◌≡◌, ℕ, Bool, true, false, List, [], ◌++◌, Some, None, Result, Ok, Err, refl, sym, ap, subst, ◌∙◌, append_assoc, append-nil, arith}
use Rattle.std.specs.declared.option.Option.{Option}
use Rattle.dev_io.specs.Known.{KnownOut}
use Rattle.dev_io.specs.Calls.{Tells, Adds, AddsPrefix, SendsAll}
use Rattle.dev_io.specs.Causes.{HasCause}
use Rattle.dev_io.specs.Buffer.{Standing, SendsFront, Puts, Flushes}
use Rattle.dev_io.proofs.SendingLemmas.{adds_nothing, adds_more, prefix_more}

-- a prefix of some bytes is one of more bytes
prefix_first : (a b : Option KnownOut) (held x y : List ℕ) → Tells (AddsPrefix (held ++ x)) a b → Tells (AddsPrefix (held ++ (x ++ y))) a b
prefix_first None b held x y p = tt
prefix_first (Some a) None held x y p = absurd p
prefix_first (Some a) (Some b) held x y p = (
  p.0,
  p.1 ++ y,
  sym (append_assoc held x y) ∙ ap (λ l. l ++ y) p.2 ∙ append_assoc p.0 p.1 y,
  p.3,
)

-- the front of more bytes, where a front of the first was sent and the rest of them is held
more_of : (held x y front kept : List ℕ) → held ++ x ≡ front ++ kept → held ++ (x ++ y) ≡ front ++ (kept ++ y)
more_of held x y front kept e = sym (append_assoc held x y) ∙ ap (λ l. l ++ y) e ∙ append_assoc front kept y

prefix_second : (a b c : Option KnownOut) (held x y kept : List ℕ) → Tells (SendsFront (held ++ x) kept) a b → Tells (AddsPrefix (kept ++ y)) b c → Tells (AddsPrefix (held ++ (x ++ y))) a c
prefix_second None b c held x y kept p q = tt
prefix_second (Some a) None c held x y kept p q = absurd p
prefix_second (Some a) (Some b) None held x y kept p q = absurd q
prefix_second (Some a) (Some b) (Some c) held x y kept p q = (
  p.0 ++ q.0,
  q.1,
  more_of held x y p.0 kept p.1 ∙ ap (λ l. p.0 ++ l) q.2 ∙ sym (append_assoc p.0 q.0 q.1),
  adds_more (Some a) (Some b) (Some c) p.0 q.0 p.2 q.3,
)

front_second : (a b c : Option KnownOut) (held x y kept left : List ℕ) → Tells (SendsFront (held ++ x) kept) a b → Tells (SendsFront (kept ++ y) left) b c → Tells (SendsFront (held ++ (x ++ y)) left) a c
front_second None b c held x y kept left p q = tt
front_second (Some a) None c held x y kept left p q = absurd p
front_second (Some a) (Some b) None held x y kept left p q = absurd q
front_second (Some a) (Some b) (Some c) held x y kept left p q = (
  p.0 ++ q.0,
  more_of held x y p.0 kept p.1 ∙ ap (λ l. p.0 ++ l) q.1 ∙ sym (append_assoc p.0 q.0 left),
  adds_more (Some a) (Some b) (Some c) p.0 q.0 p.2 q.2,
)

-- a standing by its parts
abbrev pub at : Option KnownOut → ℕ → List ℕ → Bool → Standing
at k n h f = record { known = k; faults = n; held = h; failed = f }

then_parts : (k l m : Option KnownOut) (d e f : ℕ) (g h i : List ℕ) (r s t : Bool) (x y : List ℕ)
    → Puts (at k d g r) (at l e h s) x → Puts (at l e h s) (at m f i t) y → Puts (at k d g r) (at m f i t) (x ++ y)
then_parts k l m d e f g h i true s t x y p q = record { later = omega (arith, p.later, q.later); goes = (subst (λ b. Puts b (at m f i t) y) p.goes q).goes }
then_parts k l m d e f g h i false true t x y p q =
    let first : Puts (at k d g false) (at l e h true) (x ++ y) = record { later = p.later; goes = (p.goes.0, prefix_first k l g x y p.goes.1) } in
    subst (λ b. Puts (at k d g false) b (x ++ y)) (sym q.goes) first
then_parts k l m d e f g h i false false true x y p q =
    record { later = omega (arith, p.later, q.later); goes = (omega (arith, p.later, q.goes.0), prefix_second k l m g x y h p.goes q.goes.1) }
then_parts k l m d e f g h i false false false x y p q =
    record { later = omega (arith, p.later, q.later); goes = front_second k l m g x y h i p.goes q.goes }

-- these bytes, and then those
pub puts_then : {a b c : Standing} {x y : List ℕ} → Puts a b x → Puts b c y → Puts a c (x ++ y)
puts_then {a} {b} {c} {x} {y} p q = then_parts a.known b.known c.known a.faults b.faults c.faults a.held b.held c.held a.failed b.failed c.failed x y p q

-- the same bytes, spelled otherwise
pub puts_as : {a b : Standing} {x : List ℕ} (y : List ℕ) → Puts a b x → x ≡ y → Puts a b y
puts_as {a} {b} y p e = subst (Puts a b) e p

front_none : (k : Option KnownOut) (held : List ℕ) → Tells (SendsFront (held ++ []) held) k k
front_none None held = tt
front_none (Some k) held = ([], append-nil held, adds_nothing (Some k))

none_parts : (k : Option KnownOut) (n : ℕ) (h : List ℕ) (f : Bool) → Puts (at k n h f) (at k n h f) []
none_parts k n h true = record { later = omega arith; goes = refl }
none_parts k n h false = record { later = omega arith; goes = front_none k h }

-- no bytes
pub puts_none : (a : Standing) → Puts a a []
puts_none a = none_parts a.known a.faults a.held a.failed

adds_front : (a b : Option KnownOut) (held : List ℕ) → Tells (Adds held) a b → Tells (SendsFront (held ++ []) []) a b
adds_front None b held p = tt
adds_front (Some a) None held p = absurd p
adds_front (Some a) (Some b) held p = (held, refl, p)

sent_parts : {T E : Type 0} (k l : Option KnownOut) (d e : ℕ) (h : List ℕ) (u : T) → Flushes {T = T} {E = E} (at k d h false) (at l e [] false) (Ok u) → Puts (at k d h false) (at l e [] false) []
sent_parts k l d e h u p = record { later = p.later; goes = adds_front k l h p.goes }

sent_from : {T E : Type 0} (k l : Option KnownOut) (d e : ℕ) (g h : List ℕ) (f s : Bool) (u : T) → f ≡ false → s ≡ false → h ≡ [] → Flushes {T = T} {E = E} (at k d g f) (at l e h s) (Ok u) → Puts (at k d g f) (at l e h s) []
sent_from {T} {E} k l d e g h f s u first sound none p =
    let plain = subst (λ x. Flushes {T = T} {E = E} (at k d g false) (at l e [] x) (Ok u)) sound (subst (λ x. Flushes {T = T} {E = E} (at k d g false) (at l e x s) (Ok u)) none (subst (λ x. Flushes {T = T} {E = E} (at k d g x) (at l e h s) (Ok u)) first p)) in
    let shown = sent_parts {T = T} {E = E} k l d e g u plain in
    subst (λ x. Puts (at k d g x) (at l e h s) []) (sym first) (subst (λ x. Puts (at k d g false) (at l e x s) []) (sym none) (subst (λ x. Puts (at k d g false) (at l e [] x) []) (sym sound) shown))

-- no bytes, where what was held is sent
pub flush_puts : {T E : Type 0} {a b : Standing} {u : T} → a.failed ≡ false → b.failed ≡ false → b.held ≡ [] → Flushes {T = T} {E = E} a b (Ok u) → Puts a b []
flush_puts {T} {E} {a} {b} {u} first sound none p =
    sent_from {T = T} {E = E} a.known b.known a.faults b.faults a.held b.held a.failed b.failed u first sound none p

-- all of the text was sent, where a flush behind it answers that it was
all_told : (a b c : Option KnownOut) (text held : List ℕ) → Tells (SendsFront text held) a b → Tells (Adds held) b c → Tells (Adds text) a c
all_told None b c text held p q = tt
all_told (Some a) None c text held p q = absurd p
all_told (Some a) (Some b) None text held p q = absurd q
all_told (Some a) (Some b) (Some c) text held p q = subst (λ l. Adds l a c) (sym p.1) (adds_more (Some a) (Some b) (Some c) p.0 held p.2 q)

front_told : (a b c : Option KnownOut) (text held : List ℕ) → Tells (SendsFront text held) a b → Tells (AddsPrefix held) b c → Tells (AddsPrefix text) a c
front_told None b c text held p q = tt
front_told (Some a) None c text held p q = absurd p
front_told (Some a) (Some b) None text held p q = absurd q
front_told (Some a) (Some b) (Some c) text held p q = prefix_more (Some a) (Some b) (Some c) p.0 q.0 q.1 text (p.1 ∙ ap (λ l. p.0 ++ l) q.2) p.2 (q.0, [], sym (append-nil q.0), q.3)

told_parts : {T E : Type 0} (k l m : Option KnownOut) (d e f : ℕ) (h i : List ℕ) (s t : Bool) (r : Result T E) (text : List ℕ)
    → Puts (at k d [] false) (at l e h s) text → Flushes (at l e h s) (at m f i t) r → Tells (SendsAll text r) k m
told_parts k l m d e f h i true t (Ok u) text p q = absurd q.goes
told_parts k l m d e f h i true t (Err w) text p q = subst (λ x. Tells (AddsPrefix text) k x) (sym q.goes.0) p.goes.1
told_parts k l m d e f h i false t (Ok u) text p q = all_told k l m text h p.goes q.goes
told_parts k l m d e f h i false t (Err w) text p q = front_told k l m text h p.goes q.goes.1

cause_parts : {T E : Type 0} (k l m : Option KnownOut) (d e f : ℕ) (h i : List ℕ) (s t : Bool) (r : Result T E) (text : List ℕ)
    → Puts (at k d [] false) (at l e h s) text → Flushes (at l e h s) (at m f i t) r → HasCause d f r
cause_parts k l m d e f h i s t (Ok u) text p q = record { later = omega (arith, p.later, q.later); failed = tt }
cause_parts k l m d e f h i true t (Err w) text p q = record { later = omega (arith, p.later, q.later); failed = omega (arith, p.goes.0, q.goes.1) }
cause_parts k l m d e f h i false t (Err w) text p q = record { later = omega (arith, p.later, q.later); failed = omega (arith, p.later, q.goes.0) }

-- from an empty buffer
pub from_empty : {a b : Standing} {text : List ℕ} → a.held ≡ [] → a.failed ≡ false → Puts a b text → Puts (at a.known a.faults [] false) b text
from_empty {a} {b} {text} none sound p = subst (λ f. Puts (at a.known a.faults [] f) b text) sound (subst (λ h. Puts (at a.known a.faults h a.failed) b text) none p)

-- what a flush has sent of all that was handed over to an empty buffer
pub flush_told : {T E : Type 0} {a b c : Standing} {r : Result T E} {text : List ℕ} → a.held ≡ [] → a.failed ≡ false → Puts a b text → Flushes b c r → Tells (SendsAll text r) a.known c.known
flush_told {T} {E} {a} {b} {c} {r} {text} none sound p q =
    told_parts a.known b.known c.known a.faults b.faults c.faults b.held c.held b.failed c.failed r text (from_empty none sound p) q

-- where it answers that a write failed, the count of faults rose
pub flush_cause : {T E : Type 0} {a b c : Standing} {r : Result T E} {text : List ℕ} → a.held ≡ [] → a.failed ≡ false → Puts a b text → Flushes b c r → HasCause a.faults c.faults r
flush_cause {T} {E} {a} {b} {c} {r} {text} none sound p q =
    cause_parts a.known b.known c.known a.faults b.faults c.faults b.held c.held b.failed c.failed r text (from_empty none sound p) q
