-- Loops that hand a text over part by part.
use Rattle.std.proofs.Common.{◌≡◌, ℕ, List, [], ◌++◌, subst}
use Rattle.dev_io.specs.Buffer.{Standing, Puts}
use Rattle.dev_io.proofs.BufferLemmas.{puts_none, puts_then}

-- If what is left is handed over from here on, the whole text was.
pub record Leaves (start now : Standing) (text rest : List ℕ) : Type 0 where
  pub ends : (end : Standing) → Puts now end rest → Puts start end text

pub leaves_all : (a : Standing) (text : List ℕ) → Leaves a a text text
leaves_all a text = record { ends = λ e p. p }

pub leaves_then : {a b c : Standing} {text part rest : List ℕ} → Leaves a b text (part ++ rest)
    → Puts b c part
    → Leaves a c text rest
leaves_then l p = record { ends = λ e q. l.ends e (puts_then p q) }

-- what is left, spelled otherwise
pub leaves_as : {a b : Standing} {text x y : List ℕ} → x ≡ y → Leaves a b text x → Leaves a b text y
leaves_as {a} {b} {text} e l = subst (Leaves a b text) e l

-- where nothing is left, the whole text was handed over
pub leaves_end : {a b : Standing} {text : List ℕ} → Leaves a b text [] → Puts a b text
leaves_end {a} {b} l = l.ends b (puts_none b)
