use Rattle.std.proofs.Common.{◌≡◌, ◌-◌, ◌++◌, length, vec_items}
use Rattle.source_lexer.specs.Lone.{tokens_of}
use Rattle.source_lexer.specs.Reader.{pos_of}
use Rattle.source_lexer.proofs.Readings.{left}
use Rattle.source_lexer.proofs.lone.collect.Given as goal

-- what was read and what is left are the page's tokens
abbrev pub invariant-loop-token : goal.invariant-loop-token
invariant-loop-token g l =
    vec_items l.tokens ++ left (g.N.NameSet.knows l.names) l.page (pos_of l.reader) ≡ tokens_of (g.N.NameSet.knows l.names) l.page

abbrev pub decreases-loop-token : goal.decreases-loop-token
decreases-loop-token g l = length l.page - pos_of l.reader
