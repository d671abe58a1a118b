use Rattle.std.proofs.Common.{ltb, length, sym, ap, ◌∙◌, arith}
use Rattle.std.proofs.lemmas.Bool.{cond-true, lt-ltb}
use Rattle.words.specs.Word.{word_from, word_token}
use Rattle.words.proofs.Stops.{word-by-stop}
use Rattle.words.proofs.words.word.Goals as goal

pub returns : goal.returns
unfolding word_token
returns g c =
    let page = c.args.cursor.now.page.now in
    let p = c.args.cursor.now.pos in
    let known = g.N.NameSet.knows c.args.names.now in
    c.token.ensures ∙ word-by-stop known page p _ ∙ ap (word_from known page p) c.run_end-end.ensures.is
    ∙ sym (cond-true (ltb p (length page)) _ _ (lt-ltb p (length page) (omega arith)))
