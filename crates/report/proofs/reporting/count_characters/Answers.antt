use Rattle.report.proofs.Counted.{characters}
use Rattle.report.proofs.reporting.count_characters.Goals as goal

pub returns : goal.returns
returns c utf8 = characters _ _ utf8 c.count_members.ensures
