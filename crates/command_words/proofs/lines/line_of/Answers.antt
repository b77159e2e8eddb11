use Rattle.std.proofs.Common.{List, map, string_bytes, ap, sym, subst, ◌∙◌}
use Rattle.clap.specs.Kinds.{HasKind}
use Rattle.clap.specs.Words.{Text, fault_of, is_simple, is_simple_and_free, matches_of}
use Rattle.command_words.specs.Given.{given_in}
use Rattle.command_words.proofs.Reading.{gives_nothing, readers_are_free, readers_are_simple}
use Rattle.command_words.proofs.lines.line_of.Goals as goal

pub returns-in-Ok-line_in : goal.returns-in-Ok-line_in
returns-in-Ok-line_in c =
    let words : List Text = map string_bytes c.args.words.now in
    let app = c.in-Ok.ensures in
    let parsed = c.in-Ok-try_get_matches_from.ensures in
    let verb = c.args.verb in
    let rows = (parsed.matches (ap is_simple app ∙ readers_are_simple verb)).0 in record {
      taken = ap (λ a. fault_of a words) (sym app)
          ∙ parsed.kinds (ap is_simple_and_free app ∙ readers_are_free verb);
      is = c.in-Ok-line_in.ensures ∙ ap given_in rows
          ∙ ap (λ a. given_in (matches_of a words)) app;
    }

pub returns : goal.returns
returns c =
    let words : List Text = map string_bytes c.args.words.now in
    let app = c.in-Ok.ensures in
    let verb = c.args.verb in
    let error = c.in-Err.error in
    let kinds = c.in-Err.ensures.kinds
    (ap is_simple_and_free app ∙ readers_are_free verb) in
    gives_nothing verb words c.fault_of.result error
    (subst (λ a. HasKind (fault_of a words) error) app kinds) c.fault_of.ensures
