-- What is known of the system's files and streams: how many calls have failed, what the calls of
-- the files gave, and what a stream took.
use Rattle.std.specs.Prelude.{ℕ, List}
use Rattle.dev_io.specs.Known.{KnownOut}
use Rattle.dev_io.specs.Handed.{Handed}
use Rattle.dev_io.specs.declared.real.RealFiles.{RealFiles}
use Rattle.dev_io.specs.declared.real.RealOut.{RealOut}

abbrev pub file_faults : {R S F I : Type 0} → RealFiles R S F I → ℕ
file_faults files = files.faults

-- what each call of the files gave so far, in their order
abbrev pub file_calls : {R S F I : Type 0} → RealFiles R S F I → List Handed
file_calls files = files.kept.past.handed

abbrev pub out_faults : {R P S F : Type 0} → RealOut R P S F → ℕ
out_faults out = out.faults

-- where a stream was directed, and the bytes that it took
abbrev pub out_taken : {R P S F : Type 0} → RealOut R P S F → KnownOut
out_taken out = out.kept.past.taken
