use Rattle.std.proofs.Common.{All, ap, sym, subst, ◌∙◌, map}
use Rattle.media_list.proofs.LookUps.{reel_of, url_of, reels_more, urls_more, apart_more}
use Rattle.std.proofs.lemmas.List.Elements.{All-push}
use Rattle.media_rows.specs.Rows.{AreRows, IsRowInRange}
use Rattle.media_list.proofs.table.Table.push.Goals as goal

pub returns-clause-indexed : goal.returns-clause-indexed
returns-clause-indexed c =
    let old = c.args.self.now in
    let row = c.args.row in
    let items = c.in_ok-push.ensures.items in
    record {
      reels = reels_more c.in_ok-reel.reel old.reels.keys _ old.rows.items row
          c.requires.indexed.reels c.requires.fresh.0
          (c.in_ok-reel.ensures.ok ∙ c.as_str.ensures) c.in_ok-insert.ensures.keys
          ∙ ap (map reel_of) (sym items);
      urls = urls_more c.in_ok-url.url old.urls.keys _ old.rows.items row c.requires.indexed.urls
          c.requires.fresh.1
          (c.in_ok-url.ensures.ok ∙ c.as_str-2.ensures) c.in_ok-insert-2.ensures.keys
          ∙ ap (map url_of) (sym items);
      apart = subst AreRows (sym items) (apart_more old.rows.items row c.requires.indexed.apart
          c.requires.fresh);
      ranges = subst (All IsRowInRange) (sym items)
          (All-push IsRowInRange old.rows.items row c.requires.indexed.ranges c.requires.range);
    }
