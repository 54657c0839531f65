use Rattle.std.proofs.Common.{◌+◌, ◌-◌, ◌∙◌, ap, arith, drop}
use Rattle.trace_lines.proofs.Feeds.{IsSearched, feed_found, feed_nowhere}
use Rattle.trace_lines.proofs.line_cursor.LineCursor.before_feed.Goals as goal

pub returns-in-Some : goal.returns-in-Some
returns-in-Some c =
    let self = c.args.self.now in
    let searched : IsSearched self.bytes.items self.at self.searched c.rest_of.result.now =
    record {
      rest_is = c.rest_of.ensures ∙ ap (drop (self.at + self.searched)) c.deref.ensures.value;
      inside = omega (arith, self.inside, self.bytes.ok.0);
      clear = self.clear;
    } in
    feed_found c.in-Some.place searched (rw c.in-Some.is at c.memchr.ensures)

pub returns-in-None : goal.returns-in-None
returns-in-None c =
    let self = c.args.self.now in
    let searched : IsSearched self.bytes.items self.at self.searched c.rest_of.result.now =
    record {
      rest_is = c.rest_of.ensures ∙ ap (drop (self.at + self.searched)) c.deref.ensures.value;
      inside = omega (arith, self.inside, self.bytes.ok.0);
      clear = self.clear;
    } in
    feed_nowhere (c.len.result - self.at) searched (omega (arith, self.inside, self.bytes.ok.0))
    (rw c.in-None.is at c.memchr.ensures)
