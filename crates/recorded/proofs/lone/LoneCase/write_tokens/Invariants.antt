use Rattle.std.proofs.Common.{◌-◌, length}
use Rattle.source_lexer.specs.Reader.{pos_of}
use Rattle.recorded.proofs.lone.LoneCase.write_tokens.Given as goal

abbrev pub decreases-loop-token : goal.decreases-loop-token
decreases-loop-token g l = length l.page - pos_of l.reader
