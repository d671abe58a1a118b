use Rattle.std.proofs.Common.{vec_items}
use Rattle.std.proofs.lemmas.Result.{IfOk-weaker}
use Rattle.source_lexer.proofs.Paged.{pages-read}
use Rattle.source_lexer.proofs.Readings.{whole-page, lone-finer}
use Rattle.source_lexer.proofs.lone.read_page.Goals as goal

pub returns : goal.returns
returns g c =
    let page = c.args.page.now in
    let known = g.N.NameSet.knows c.args.names.now in
    record {
      tokens = c.collect.ensures;
      text = IfOk-weaker c.collect.result _ _ (λ tokens all short. whole-page known page (vec_items tokens) all short) c.collect.ensures;
      naming = λ poor inside. lone-finer poor known inside page;
      worked = pages-read;
    }
