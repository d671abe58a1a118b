-- The word by what stands behind its stem: the special cases of a colon or of `@` alone. The rule itself is in `Word`; this is a
-- shorter way to the same token. Assumes nothing.
use Rattle.std.specs.Prelude.{ℕ, Bool, cond, List, [], ◌∷◌}
use Rattle.marks.specs.Places.{is_at}
use Rattle.token.specs.Tokens.{Token, first_of}
use Rattle.token.specs.declared.kind.TokenKind.TheVariants.{Word}
use Rattle.words.specs.Word.{directive_token, colon_token, mail_token}

-- the stem before a colon
abbrev pub before_colon : (List ℕ → Bool) → List ℕ → ℕ → ℕ → Token
before_colon known page p q = first_of (directive_token page p q ∷ colon_token known page p q ∷ []) (Word, q)

-- the stem before anything else
abbrev pub before_other : List ℕ → ℕ → Token
before_other page q = first_of (mail_token page q ∷ []) (Word, q)

abbrev pub by_stop : (List ℕ → Bool) → List ℕ → ℕ → ℕ → Token
by_stop known page p q = cond (is_at page q 58) (before_colon known page p q) (before_other page q)
