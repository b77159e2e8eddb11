use Rattle.std.proofs.Common.{◌≡◌, take, fold}
use Rattle.sequences.specs.Hashes.{hash_step}
use Rattle.sequences.proofs.merging.hash_of.Given as goal

abbrev pub invariant-loop-byte : goal.invariant-loop-byte
invariant-loop-byte l = l.hash ≡ fold hash_step 0xCBF29CE484222325 (take l.byte-index l.bytes)
