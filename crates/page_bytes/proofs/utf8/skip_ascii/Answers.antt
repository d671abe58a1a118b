use Rattle.page_bytes.proofs.Faults.{skips}
use Rattle.page_bytes.proofs.utf8.skip_ascii.Goals as goal

pub returns-in-Start : goal.returns-in-Start
returns-in-Start c = skips c.args.bytes.now c.run_end.result c.args.state c.in-Start.is c.run_end.ensures.longest
