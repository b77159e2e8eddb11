use Rattle.std.proofs.Common.{◌∙◌, ap}
use Rattle.edit_script.specs.Items.{clip_with}
use Rattle.edit_script.proofs.Puts.{clip_is}
use Rattle.edit_script.proofs.items.clip_of.Goals as goal

pub returns : goal.returns
returns c = λ rate start length shows.
    let media = c.in_ok-media_of.ensures in
    record {
      shown = c.args.shown;
      shows = shows;
      available = media.0;
      listed = media.1;
      is =
          clip_is c.args.name.now _ _ c.args.shown c.in_ok-media_of.field-0 _ _ _ _ _
          c.new.ensures (c.in_ok-name.ensures ∙ c.as_str.ensures) c.new-2.ensures c.new-3.ensures
          c.in_ok-media_references.ensures c.in_ok-key.ensures c.new-4.ensures
          ∙ ap (clip_with c.args.name.now c.args.shown) media.2;
    }
