use Rattle.std.proofs.Common.{arith, rules}
use Rattle.std.proofs.Math.Seq.{take-add}
use Rattle.std.proofs.lemmas.Grind.{common_steps}
use Rattle.source_lexer.specs.Lone.{start_of}
use Rattle.source_lexer.proofs.Given.{ended_at}
use Rattle.source_lexer.proofs.Readings.{given-left, ended-left}
use Rattle.listing.proofs.making.list_page.Goals as goal

pub loop-token-preserved : goal.loop-token-preserved
loop-token-preserved g c =
    let page = c.args.page.now in
    let t = c.in-Some.token in
    let told = c.in-Some.ensures in
    record {
      tokens = grind (arith, common_steps, given-left _ page _ _ t told.token told.pos, c.in_ok-add.ensures.tokens);
      text = grind (arith, common_steps, take-add (start_of t) t.len page, told.bytes, c.in_ok-add.ensures.text);
      page = search rules;
      place = omega (arith, told.bytes);
    }

pub returns-clause-tokens : goal.returns-clause-tokens
returns-clause-tokens g c =
    grind (arith, common_steps, ended-left _ c.args.page.now _ c.in_default.ensures.token)

pub returns-clause-text : goal.returns-clause-text
returns-clause-text g c short = grind (arith, common_steps, ended_at _ c.args.page.now _ c.in_default.ensures.token short)
