-- How a ghost field keeps what the calls of a device gave and took.
use Rattle.std.specs.Prelude.{◌≡◌, ◌==◌, ℕ, cond, List, [], refl}
use Rattle.std.specs.declared.option.Option.{Option}
use Rattle.std.specs.Coded.{Coded, code_by, coded×, coded_ℕ, coded_list, coded_option}
use Rattle.dev_io.specs.Known.{KnownOut}
use Rattle.dev_io.specs.Handed.{Handed, Found, Missing, Unopened, Gave, Broke}
use Rattle.dev_io.specs.Past.{Past}

-- a number of the case, and its text
abbrev Parts : Type 0
Parts = ℕ × List ℕ

abbrev to_parts : Handed → Parts
to_parts (Found name) = (0, name)
to_parts (Missing name) = (1, name)
to_parts (Unopened name) = (2, name)
to_parts (Gave bytes) = (3, bytes)
to_parts Broke = (4, [])

abbrev from_parts : Parts → Handed
from_parts p = cond (p.0 == 0) (Found p.1) (cond (p.0 == 1) (Missing p.1)
    (cond (p.0 == 2) (Unopened p.1) (cond (p.0 == 3) (Gave p.1) Broke)))

pub from_to : (h : Handed) → from_parts (to_parts h) ≡ h
from_to (Found name) = refl
from_to (Missing name) = refl
from_to (Unopened name) = refl
from_to (Gave bytes) = refl
from_to Broke = refl

abbrev handed_code : Coded Handed
handed_code = code_by Parts (coded× coded_ℕ (coded_list coded_ℕ)) to_parts from_parts from_to

abbrev known_code : Coded KnownOut
known_code = code_by (Option (List ℕ) × List ℕ)
    (coded× (coded_option (coded_list coded_ℕ)) (coded_list coded_ℕ))
    (λ k. (k.target, k.sent)) (λ p. record { target = p.0; sent = p.1 }) (λ _. refl)

abbrev pub past_code : Coded Past
past_code = code_by (List Handed × KnownOut) (coded× (coded_list handed_code) known_code)
    (λ past. (past.handed, past.taken)) (λ p. record { handed = p.0; taken = p.1 }) (λ _. refl)
