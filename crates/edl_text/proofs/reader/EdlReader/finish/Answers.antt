use Rattle.std.proofs.Common.{◌<◌, ◌≤◌, ◌-◌, ◌^◌, length, arith}
use Rattle.limits.specs.Limits.{most_bytes}
use Rattle.edl_text.proofs.Finishing.{all_sound, all_said, last_refused, list_refused, list_given}
use Rattle.edl_text.proofs.FormedLists.{formed_list}
use Rattle.edl_text.proofs.reader.EdlReader.finish.Goals as goal

pub returns-in-Err-clause-fault : goal.returns-in-Err-clause-fault
returns-in-Err-clause-fault c = λ rate bytes h.
    let small : length bytes ≤ most_bytes = omega (arith, h.taken, c.args.self.within) in
    let few : length h.past < 2 ^ 32 - 1 = omega (arith, h.few, small) in
    last_refused rate bytes c.as_slice.result.now c.args.self c.in-Err.fault h small c.as_slice.ensures.value (c.in-Err.ensures rate h.past few h.stands)

pub returns-in-Ok-list-clause-list : goal.returns-in-Ok-list-clause-list
returns-in-Ok-list-clause-list c = λ rate bytes h.
    let small : length bytes ≤ most_bytes = omega (arith, h.taken, c.args.self.within) in
    let few : length h.past < 2 ^ 32 - 1 = omega (arith, h.few, small) in
    let taken = c.in-Ok.ensures rate h.past few h.stands in
    let sound = all_sound rate bytes c.as_slice.result.now c.args.self taken.0 h c.as_slice.ensures.value taken.1 in
    list_given rate bytes _ c.in-Ok-list.list small sound (c.in-Ok-list.ensures rate _ (all_said rate bytes _ sound) taken.2)

pub returns-clause-fault : goal.returns-clause-fault
returns-clause-fault c = λ rate bytes h.
    let small : length bytes ≤ most_bytes = omega (arith, h.taken, c.args.self.within) in
    let few : length h.past < 2 ^ 32 - 1 = omega (arith, h.few, small) in
    let taken = c.in-Ok.ensures rate h.past few h.stands in
    let sound = all_sound rate bytes c.as_slice.result.now c.args.self taken.0 h c.as_slice.ensures.value taken.1 in
    list_refused rate bytes _ c.in-Err-list.fault small sound (c.in-Err-list.ensures rate _ (all_said rate bytes _ sound) taken.2)

pub returns-in-Ok-list-clause-well_formed : goal.returns-in-Ok-list-clause-well_formed
returns-in-Ok-list-clause-well_formed c = λ rate bytes h.
    let small : length bytes ≤ most_bytes = omega (arith, h.taken, c.args.self.within) in
    let few : length h.past < 2 ^ 32 - 1 = omega (arith, h.few, small) in
    let taken = c.in-Ok.ensures rate h.past few h.stands in
    let sound = all_sound rate bytes c.as_slice.result.now c.args.self taken.0 h c.as_slice.ensures.value taken.1 in
    let said = all_said rate bytes _ sound in
    let gives = c.in-Ok-list.ensures rate _ said taken.2 in
    formed_list rate _ c.in-Ok-list.list said gives.1 gives.2
