use Rattle.std.proofs.Common.{Some, None}
use Rattle.schema_up.proofs.MemberLemmas.{taken_value, taken_rest, taken_gone}
use Rattle.schema_up.proofs.upgraded_objects.take_named.Goals as goal

pub returns-in-Some-clause-value : goal.returns-in-Some-clause-value
returns-in-Some-clause-value c =
    taken_value c.args.name.now c.args.members.now c.place_of-place.result (Some (c.in-Some.field-0-0, c.in-Some.value)) c.place_of-place.ensures.place c.in-Some.ensures.taken

pub returns-in-Some-clause-rest : goal.returns-in-Some-clause-rest
returns-in-Some-clause-rest c = taken_rest c.args.name.now c.args.members.now c.place_of-place.result c.take.new.self c.place_of-place.ensures.place c.in-Some.ensures.rest

pub returns-in-Some-clause-gone : goal.returns-in-Some-clause-gone
returns-in-Some-clause-gone c =
    taken_gone c.args.name.now c.args.members.now c.place_of-place.result c.take.new.self c.place_of-place.ensures.place c.in-Some.ensures.rest c.place_of-place.ensures.distinct

pub returns-clause-value : goal.returns-clause-value
returns-clause-value c = taken_value c.args.name.now c.args.members.now c.place_of-place.result None c.place_of-place.ensures.place c.in-None.ensures.taken

pub returns-clause-rest : goal.returns-clause-rest
returns-clause-rest c = taken_rest c.args.name.now c.args.members.now c.place_of-place.result c.take.new.self c.place_of-place.ensures.place c.in-None.ensures.rest

pub returns-clause-gone : goal.returns-clause-gone
returns-clause-gone c =
    taken_gone c.args.name.now c.args.members.now c.place_of-place.result c.take.new.self c.place_of-place.ensures.place c.in-None.ensures.rest c.place_of-place.ensures.distinct
