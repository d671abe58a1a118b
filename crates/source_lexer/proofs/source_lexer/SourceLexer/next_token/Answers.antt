use Rattle.source_lexer.specs.Reader.{pos_of}
use Rattle.source_lexer.proofs.Given.{lines, entities, callouts-given, attributes, directives, whole, given-in-page}
use Rattle.source_lexer.proofs.Names.{more-names}
use Rattle.source_lexer.proofs.source_lexer.SourceLexer.next_token.Goals as goal

pub returns : goal.returns
returns g c =
    let page = c.args.page.now in
    let p = pos_of c.args.self.now in
    let known = g.N.NameSet.knows c.args.names.now in
    let given = c.read.result in
    let token = c.read.ensures.token in
    let pos = c.read.ensures.pos in
    record {
      token = token;
      pos = pos;
      bytes = given-in-page known page p _ given pos token;
      whole = whole known page p _ pos;
      names = λ poor more on. more-names poor known more page p on;
      lines = lines known page p given token;
      entities = entities known page p given token;
      callouts = callouts-given known page p given token;
      references = attributes known page p given token;
      directives = directives known page p given token;
    }
