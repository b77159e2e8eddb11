-- What code keeps of rows, as plain data.
use Rattle.std.specs.Prelude.{◌≡◌, ℕ, pos, List}
use Rattle.tick_time.specs.declared.rates.Rate.{Rate}
use Rattle.ale_text.specs.Lines.{Taking, Takes}
use Rattle.ale_text.specs.declared.rows.Take.{Take}
use Rattle.ale_text.specs.declared.sections.Columns.{Columns}

-- these frames of a tape
pub record IsTake (take : Take) (taking : Taking) : Type 0 where
  pub tape : take.tape.now ≡ taking.tape
  pub start : take.start ≡ pos taking.start
  pub end : take.end ≡ pos taking.end

-- the row counts, and names these frames
pub record HasTaken (rate : Rate) (columns : Columns) (row : List ℕ) (take : Take) : Type 0 where
  pub taking : Taking
  pub is : IsTake take taking
  pub takes : Takes rate columns row taking
