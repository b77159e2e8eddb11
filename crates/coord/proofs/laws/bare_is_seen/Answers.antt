use Rattle.coord.proofs.SpareLemmas.{program_bare, rate_bare, start_bare, faultless_bare, sound_bare, fault_bare}
use Rattle.coord.proofs.laws.bare_is_seen.Goals as goal

pub returns : goal.returns
returns c = record {
  programs = program_bare;
  rate = rate_bare;
  start = start_bare;
  faultless = faultless_bare;
  sound = sound_bare;
  faults = fault_bare;
}
