-- Tokens: what a rule answers, and the record that is given out. Assumes nothing.
use Rattle.std.specs.Prelude.{ℕ, ◌-◌, List, [], ◌∷◌, Some, None, Option}
use Rattle.token.specs.Places.{place}
use Rattle.token.specs.declared.kind.TokenKind.{TokenKind}
use Rattle.token.specs.declared.token_record.TokenRecord.{TokenRecord}

-- the token that begins at a place: its kind and its end
abbrev pub Token : Type 0
Token = TokenKind × ℕ

-- a token of this kind, if it has an end
abbrev pub of : TokenKind → Option ℕ → Option Token
of k None = None
of k (Some e) = Some (k, e)

-- the first candidate that fits, or else the last token
abbrev pub first_of : List (Option Token) → Token → Token
first_of [] t = t
first_of (None ∷ os) t = first_of os t
first_of (Some u ∷ os) t = u

-- the record of a token that begins at a place
abbrev pub record_of : ℕ → Token → TokenRecord
record_of p t = record { kind = t.0; start = place p; len = t.1 - p }
