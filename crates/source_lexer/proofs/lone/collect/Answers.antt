use Rattle.std.proofs.Common.{[], ◌∷◌, ◌++◌, vec_items, sym, ap, ◌∙◌}
use Rattle.std.proofs.lemmas.List.{append-nil, append_assoc}
use Rattle.source_lexer.specs.Reader.{pos_of}
use Rattle.source_lexer.proofs.Readings.{left, given-left, ended-left}
use Rattle.source_lexer.proofs.lone.collect.Goals as goal

pub loop-token-preserved : goal.loop-token-preserved
loop-token-preserved g c =
    let page = c.args.page.now in
    let known = g.N.NameSet.knows c.args.names.now in
    let items = vec_items c.loop-token.tokens in
    let q = pos_of c.next_token.new.self in
    ap (λ ts. ts ++ left known page q) c.in_ok-push.ensures.items
    ∙ append_assoc items (c.in-Some.token ∷ []) (left known page q)
    ∙ ap (λ ts. items ++ ts) (sym (given-left known page (pos_of c.loop-token.reader) q c.in-Some.token c.in-Some.ensures.token c.in-Some.ensures.pos))
    ∙ c.loop-token.invariant

pub returns : goal.returns
returns g c =
    let page = c.args.page.now in
    let known = g.N.NameSet.knows c.args.names.now in
    let items = vec_items c.loop-token.tokens in
    sym (append-nil items) ∙ ap (λ ts. items ++ ts) (sym (ended-left known page (pos_of c.loop-token.reader) c.in_default.ensures.token)) ∙ c.loop-token.invariant
