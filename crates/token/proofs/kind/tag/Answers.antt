use Rattle.std.proofs.Common.{ap, ◌∙◌}
use Rattle.token.specs.Kinds.{kind_of}
use Rattle.token.proofs.Numbered.{numbered, tagged}
use Rattle.token.proofs.kind.tag.Goals as goal

pub returns : goal.returns
returns c =
    record { is = tagged c.args.kind; own = ap kind_of (tagged c.args.kind) ∙ numbered c.args.kind }
