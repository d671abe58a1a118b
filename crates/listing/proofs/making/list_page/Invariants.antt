use Rattle.std.proofs.Common.{◌≡◌, ◌-◌, ◌++◌, length, take, vec_items}
use Rattle.source_lexer.specs.Lone.{tokens_of}
use Rattle.source_lexer.specs.Reader.{pos_of}
use Rattle.source_lexer.proofs.Readings.{left}
use Rattle.listing.specs.Listed.{all_listed}
use Rattle.listing.proofs.making.list_page.Given as goal

-- what was listed and what is left are the page's tokens, the text is the page's front, and the position is the reader's
abbrev pub invariant-loop-token : goal.invariant-loop-token
invariant-loop-token g l = record {
  tokens : vec_items l.listing.tokens ++ all_listed l.page (left (g.N.NameSet.knows l.names) l.page (pos_of l.reader)) ≡ all_listed l.page (tokens_of (g.N.NameSet.knows l.names) l.page);
  text : vec_items l.listing.text ≡ take (pos_of l.reader) l.page;
  page : l.position.page.now ≡ l.page;
  place : l.position.place ≡ pos_of l.reader;
}

abbrev pub decreases-loop-token : goal.decreases-loop-token
decreases-loop-token g l = length l.page - pos_of l.reader
