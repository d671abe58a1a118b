use Rattle.std.proofs.Common.{◌≡◌, ℕ, ◌<◌, ◌≤◌, Bool, ltb, List, [], ◌∷◌, length, get_or, Option, sym, refl, ap, ◌∙◌, subst, arith}
use Rattle.std.proofs.lemmas.Bool.{cond-true, lt-ltb}
use Rattle.token.specs.Tokens.{Token, first_of}
use Rattle.words.specs.Word.{word_token}
use Rattle.source_lexer.specs.Chosen.{by_rule, rule_of}
use Rattle.source_lexer.specs.Token.{token_at}
use Rattle.source_lexer.specs.declared.rule.Rule.{Rule}
use Rattle.source_lexer.proofs.Chosen.{token-by-rule}
use Rattle.source_lexer.proofs.Progress.{progress}
use Rattle.source_lexer.proofs.start.Start.token_at.Goals as goal

record Here (known : List ℕ → Bool) (page : List ℕ) (p : ℕ) (t : Token) : Type 0 where
  is : t ≡ token_at known page p
  onward : p < t.1
  within : t.1 ≤ length page

module _ (known : List ℕ → Bool) (page : List ℕ) (p : ℕ) (on : p < length page) (byte : get_or page p 0 < 256) where
  -- the token by its rule, or else the word: it has a byte at least and ends within the page
  here : (l : Rule) (o : Option Token) (t : Token) → l ≡ rule_of (get_or page p 0) → o ≡ by_rule l page p → t ≡ first_of (o ∷ []) (word_token known page p) → Here known page p t
  here l o t chosen ruled is =
      let same =
      is ∙ ap (λ (u : Option Token). first_of (u ∷ []) (word_token known page p)) ruled
      ∙ token-by-rule known page p l on chosen byte in
      let within = subst (λ (u : Token). (p < u.1) × (u.1 ≤ length page)) (sym same) (progress known page p on) in
      record { is = same; onward = within.0; within = within.1 }

pub returns-in-Some : goal.returns-in-Some
returns-in-Some g c =
    let s = c.args.self.now in
    let known = g.N.NameSet.knows c.args.names.now in
    let t = here known s.page.now s.pos s.inside (omega arith) _ _ _ (c.rule_of.ensures ∙ ap rule_of c.byte.ensures) c.in-Some.ensures refl in
    record { is = t.is; onward = t.onward; within = t.within }

pub returns-in-None : goal.returns-in-None
returns-in-None g c =
    let s = c.args.self.now in
    let known = g.N.NameSet.knows c.args.names.now in
    let word = (rw c.cursor.ensures at c.word.ensures) ∙ cond-true (ltb s.pos (length s.page.now)) _ _ (lt-ltb s.pos (length s.page.now) s.inside) in
    let t = here known s.page.now s.pos s.inside (omega arith) _ _ _ (c.rule_of.ensures ∙ ap rule_of c.byte.ensures) c.in-None.ensures word in
    record { is = t.is; onward = t.onward; within = t.within }
