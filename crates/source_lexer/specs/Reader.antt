-- What the page reader gives, and where it stands then. Assumes nothing.
use Rattle.std.specs.Prelude.{◌≡◌, ℕ, ◌<◌, ◌≤◌, Bool, cond, ◌&&◌, List, length, Some, None, Option, nat_le, nat_lt}
use Rattle.token.specs.Places.{most, number_of_place}
use Rattle.token.specs.Tokens.{record_of}
use Rattle.token.specs.declared.kind.TokenKind.{TokenKind}
use Rattle.token.specs.declared.token_record.TokenRecord.{TokenRecord}
use Rattle.source_lexer.specs.Lone.{start_of, end_of}
use Rattle.source_lexer.specs.Token.{token_at}
use Rattle.source_lexer.specs.declared.source_lexer.SourceLexer.{SourceLexer}

-- the place that a reader stands at
abbrev pub pos_of : SourceLexer → ℕ
pos_of reader = number_of_place reader.pos

-- a byte is left to be read, of a page whose bytes all have a place of 32 bits
abbrev pub readable : List ℕ → ℕ → Bool
readable page p = nat_le (length page) most && nat_lt p (length page)

-- the token that is given at p, if one is
abbrev pub given_at : (List ℕ → Bool) → List ℕ → ℕ → Option TokenRecord
given_at known page p = cond (readable page p) (Some (record_of p (token_at known page p))) None

-- where the reader stands then
abbrev pub pos_after : (List ℕ → Bool) → List ℕ → ℕ → ℕ
pos_after known page p = cond (readable page p) (token_at known page p).1 p

-- a token that begins at p, has a byte at least, and ends within the page, where the reader stands now
pub record InPage (page : List ℕ) (p after : ℕ) (t : TokenRecord) : Type 0 where
  pub begins : start_of t ≡ p
  pub some : 0 < t.len
  pub within : end_of t ≤ length page
  pub behind : after ≡ end_of t

-- what is given at p is a token of this kind, up to e, exactly where such a stretch stands from p up to e; and no two such stretches
-- begin at p
pub record Exactly (kind : TokenKind) (Stretch : ℕ → Type 0) (p : ℕ) (given : Option TokenRecord) : Type 0 where
  pub stands : (e : ℕ) → given ≡ Some (record_of p (kind, e)) → Stretch e
  pub gives : (e : ℕ) → Stretch e → given ≡ Some (record_of p (kind, e))
  pub one : (e₁ e₂ : ℕ) → Stretch e₁ → Stretch e₂ → e₁ ≡ e₂
