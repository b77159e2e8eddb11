-- What a read does to known bytes that an interrupted read before it kept.
use Rattle.std.proofs.Common.{◌≡◌, ℕ, List, ◌++◌, Option, Result, None, Some, Ok, Err, take, subst}
use Rattle.std.specs.Io.KnownBytes.{ReadConsumes, Keeps, Consumes}
use Rattle.std.proofs.KnownBytes.{Keeps-trans}

-- bytes that are kept and then consumed are consumed
pub Keeps-consumes : (a b c : Option (List ℕ)) (bs : List ℕ) → Keeps a b → Consumes b c bs → Consumes a c bs
Keeps-consumes None b c bs kept read = tt
Keeps-consumes (Some x) None c bs kept read = absurd kept
Keeps-consumes (Some x) (Some y) None bs kept read = absurd read
Keeps-consumes (Some x) (Some y) (Some z) bs kept read = subst (λ l. l ≡ bs ++ z) kept read

-- a read after reads that kept the bytes is a read of them
pub Keeps-reads : {E : Type 0} (a b c : Option (List ℕ)) (read : Result ℕ E) (buf : List ℕ) → Keeps a b → ReadConsumes b c read buf → ReadConsumes a c read buf
Keeps-reads a b c (Ok n) buf kept read = (Keeps-consumes a b c (take n buf) kept read.0, read.1)
Keeps-reads a b c (Err e) buf kept read = Keeps-trans a b c kept read
