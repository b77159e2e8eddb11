-- A log as the patches on both sides of its position.
use Rattle.std.specs.Prelude.{ℕ, List, refl}
use Rattle.std.specs.Coded.{Coded, code_by, coded×, coded_list, coded_ℕ}
use Rattle.otio_model.specs.contracts.patches.Patch as patch_row
use Rattle.otio_model.specs.declared.patches.Patch.{Patch}

-- the patches that undo the changes before the position, the latest first; those that do again the
-- changes behind it, the next first; and for how many more there is room on either side
pub record History : Type 0 where
  pub past : List Patch
  pub future : List Patch
  pub past_room : ℕ
  pub future_room : ℕ

-- its lists and numbers, as a code
abbrev pub history_code : Coded History
history_code =
    code_by (List Patch × (List Patch × (ℕ × ℕ)))
    (coded× (coded_list patch_row.the_row.coded)
    (coded× (coded_list patch_row.the_row.coded) (coded× coded_ℕ coded_ℕ)))
    (λ h. (h.past, (h.future, (h.past_room, h.future_room))))
    (λ p. record { past = p.0; future = p.1.0; past_room = p.1.1.0; future_room = p.1.1.1 })
    (λ _. refl)

-- the history, its room set aside
abbrev pub unspared : History → History
unspared h = record h { past_room = 0; future_room = 0 }
