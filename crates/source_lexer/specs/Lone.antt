-- A lone reading: the token at the page's start, then the one at the end of each, to the page's end. Assumes nothing.
use Rattle.std.specs.Prelude.{◌≡◌, ℕ, zero, suc, ◌+◌, Bool, true, false, cond, List, [], ◌∷◌, ◌++◌, length, take, drop, nat_le, nat_lt}
use Rattle.std.specs.List.{flat_map}
use Rattle.token.specs.Places.{number_of_place, most}
use Rattle.token.specs.Tokens.{record_of}
use Rattle.token.specs.declared.kind.TokenKind.TheVariants.{MacroName}
use Rattle.token.specs.declared.token_record.TokenRecord.{TokenRecord}
use Rattle.source_lexer.specs.Token.{token_at}

-- at most n tokens from a place on
abbrev pub tokens_from : ℕ → (List ℕ → Bool) → List ℕ → ℕ → List TokenRecord
tokens_from zero known page p = []
tokens_from (suc n) known page p =
    cond (nat_lt p (length page)) (record_of p (token_at known page p) ∷ tokens_from n known page (token_at known page p).1) []

-- each token has a byte at least, so that a page has no more tokens than bytes
abbrev pub lone : (List ℕ → Bool) → List ℕ → List TokenRecord
lone known page = tokens_from (length page) known page 0

-- A place is a number of 32 bits, so that a page of more bytes has bytes without a place. Nothing of such a page is read.
abbrev pub tokens_of : (List ℕ → Bool) → List ℕ → List TokenRecord
tokens_of known page = cond (nat_le (length page) most) (lone known page) []

abbrev pub start_of : TokenRecord → ℕ
start_of t = number_of_place t.start

abbrev pub end_of : TokenRecord → ℕ
end_of t = start_of t + t.len

-- the bytes of a token
abbrev pub lexeme : List ℕ → TokenRecord → List ℕ
lexeme page t = take t.len (drop (start_of t) page)

-- the bytes of some tokens, one after the other
abbrev pub spelled : List ℕ → List TokenRecord → List ℕ
spelled page ts = flat_map (lexeme page) ts

-- each member of the first set is a member of the second
abbrev pub Within : (List ℕ → Bool) → (List ℕ → Bool) → Type 0
Within poor rich = (name : List ℕ) → poor name ≡ true → rich name ≡ true

-- The tokens of one page by a poorer and by a richer set of names. Every place where the richer begins a token, the poorer does; and
-- there the tokens are the same, or the richer has a MacroName, of a name that only it has, over two neighbours of the poorer.
pub data Finer (poor rich : List ℕ → Bool) (page : List ℕ) : List TokenRecord → List TokenRecord → Type 0 where
  none : Finer poor rich page [] []
  same : {t : TokenRecord} {ts us : List TokenRecord} → Finer poor rich page ts us → Finer poor rich page (t ∷ ts) (t ∷ us)
  joins : {a b m : TokenRecord} {ts us : List TokenRecord} (name : List ℕ) → m.kind ≡ MacroName → lexeme page m ≡ name ++ 58 ∷ [] → rich name ≡ true → poor name ≡ false → start_of m ≡ start_of a → end_of a ≡ start_of b → end_of m ≡ end_of b → Finer poor rich page ts us → Finer poor rich page (a ∷ b ∷ ts) (m ∷ us)
