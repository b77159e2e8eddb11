use Rattle.std.proofs.Common.{map, refl}
use Rattle.std.proofs.lemmas.Bool.{false≢true}
use Rattle.std.specs.Option.{option_map}
use Rattle.command_words.specs.Asked.{OtherNames}
use Rattle.command_words.specs.Given.{given_by}
use Rattle.command_words.proofs.Asking.{without_media, read_twice}
use Rattle.command_words.proofs.requests.request_in.Goals as goal

pub returns-in_default-media_of : goal.returns-in_default-media_of
returns-in_default-media_of c = without_media c.args.verb c.in-Some.command c.in-Some.name.now _
    c.in-Some.ensures c.in_default-media_of.ensures

pub returns-then-not-is_read_once : goal.returns-then-not-is_read_once
returns-then-not-is_read_once c =
    let others : OtherNames = record {
      more = map (λ s. s.now) c.args.line.more.items;
      script = option_map (λ s. s.now) c.script_of-script.result;
      media = option_map (λ s. s.now) c.in-Some-media_of.media;
    } in
    read_twice c.args.verb c.in-Some.command c.in-Some.name.now others (given_by c.args.line)
    c.in-Some.ensures refl c.script_of-script.ensures c.in-Some-media_of.ensures
    (λ once. absurd (false≢true (c.if-not-is_read_once.ensures.1 once)))
