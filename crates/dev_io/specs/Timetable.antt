-- Which calls of a device in memory fail, how much one takes, and how many have failed.
use Rattle.std.specs.Prelude.{ℕ, ◌+◌, ◌-◌, ◌^◌, Bool, true, false, List, [], min, Contains, if◌then◌else◌}
use Rattle.dev_io.specs.declared.files.Opened.{Opened}
use Rattle.dev_io.specs.declared.files.Opened.TheVariants.{Found, Absent, Failed}
use Rattle.dev_io.specs.declared.schedule.Schedule.{Schedule}

pub record Timetable : Type 0 where
  -- the numbers of the calls that fail
  pub failing : List ℕ
  -- the number of the next call, from 1 on
  pub next_call : ℕ
  -- how many bytes a call takes at most
  pub most : ℕ
  -- how many calls have failed
  pub faults : ℕ

-- one more, which stays at the greatest value of 64 bits
abbrev pub raised : ℕ → ℕ
raised count = min (count + 1) (2 ^ 64 - 1)

-- one more where a call failed
abbrev pub raised_if : Bool → ℕ → ℕ
raised_if failed count = if failed then raised count else count

-- no call fails, and none takes less than there is
abbrev pub fresh_timetable : Timetable
fresh_timetable = record { failing = []; next_call = 1; most = 2 ^ 64 - 1; faults = 0 }

-- the next call is one of those that fail
abbrev pub IsDue : Timetable → Type 0
IsDue t = Contains t.failing t.next_call

-- after a call that failed or did not
abbrev pub after_call : Bool → Timetable → Timetable
after_call failed t = record t {
  next_call = raised t.next_call;
  faults = raised_if failed t.faults;
}

abbrev pub timetable_of : Schedule → Timetable
timetable_of s = record {
  failing = s.failing.items;
  next_call = raised s.calls;
  most = s.most;
  faults = s.faults;
}

-- whether opening failed
abbrev pub is_failed : Opened → Bool
is_failed Found = false
is_failed Absent = false
is_failed Failed = true
