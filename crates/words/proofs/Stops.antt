-- What stands behind a word's stem rules out the special cases of another stop. Assumes nothing.
use Rattle.std.proofs.Common.{◌≡◌, ℕ, Bool, true, false, cond, not, ◌&&◌, List, [], ◌∷◌, Some, None, codes, Option, sym, refl, ap, ◌∙◌}
use Rattle.std.proofs.lemmas.Bool.{and_left, and_right, cond-false}
use Rattle.marks.specs.Places.{is_at, text_at, part}
use Rattle.token.specs.Tokens.{Token, first_of}
use Rattle.words.specs.Stops.{by_stop}
use Rattle.marks.specs.Term.{opens_term}
use Rattle.words.specs.Word.{among, directive_names, directive_follows, directive_token, colon_token, mail_token, word_from}
use Rattle.token.specs.declared.kind.TokenKind.TheVariants.{Word}
use Rattle.words.proofs.Firsts.{skip}
use Rattle.marks.proofs.Spells.{inside, not_at}

last_none : (a b m : Option Token) (t : Token) → m ≡ None → first_of (a ∷ b ∷ []) t ≡ first_of (a ∷ b ∷ m ∷ []) t
last_none (Some u) b m t h = refl
last_none None (Some u) m t h = refl
last_none None None m t h = sym (ap (λ o. first_of (o ∷ []) t) h)

module _ (known : List ℕ → Bool) (page : List ℕ) (p q : ℕ) where
  no-directive : is_at page q 58 ≡ false → directive_token page p q ≡ None
  no-directive h =
      cond-false (among directive_names (part page p q) && directive_follows page p q) _ None
      (and_right (among directive_names (part page p q)) (directive_follows page p q) (and_left (text_at (codes "::") page q) _ (and_left (is_at page q 58) _ h)))

  no-colon : is_at page q 58 ≡ false → colon_token known page p q ≡ None
  no-colon h = cond-false (is_at page q 58 && not (opens_term page q)) _ None (and_left (is_at page q 58) (not (opens_term page q)) h)

  no-mail : is_at page q 58 ≡ true → mail_token page q ≡ None
  no-mail h = cond-false (is_at page q 64) _ None (not_at page q 58 64 (inside page q 58 h).1 refl)

  by-colon : (v : Bool) → is_at page q 58 ≡ v → cond v (first_of (directive_token page p q ∷ colon_token known page p q ∷ []) (Word, q)) (first_of (mail_token page q ∷ []) (Word, q)) ≡ word_from known page p q
  by-colon true h = last_none (directive_token page p q) (colon_token known page p q) (mail_token page q) (Word, q) (no-mail h)
  by-colon false h =
      sym (skip (directive_token page p q) _ (Word, q) (no-directive h) ∙ skip (colon_token known page p q) _ (Word, q) (no-colon h))

  pub word-by-stop : by_stop known page p q ≡ word_from known page p q
  word-by-stop = by-colon (is_at page q 58) refl
