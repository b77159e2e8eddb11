-- How far a reader has come in a piece.
use Rattle.std.proofs.Common.{◌≡◌, ℕ, ◌+◌, ◌≤◌, List, ◌++◌, length}
use Rattle.limits.specs.Limits.{most_bytes}
use Rattle.tick_time.specs.declared.rates.Rate.{Rate}
use Rattle.edl_text.specs.declared.reader.EdlReader.{EdlReader}
use Rattle.edl_text.specs.Reader.{HasRead}

pub record Went (piece rest : List ℕ) (old new : EdlReader) : Type 0 where
  pub front : List ℕ
  pub split : piece ≡ front ++ rest
  pub room : new.taken + length rest ≤ most_bytes
  pub read : (rate : Rate) (bytes : List ℕ) → HasRead rate bytes old → HasRead rate (bytes ++ front) new
