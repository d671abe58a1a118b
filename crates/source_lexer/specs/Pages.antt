-- Pages with their tokens. Assumes nothing.
use Rattle.std.specs.Prelude.{◌≡◌, ℕ, Bool, false, List, [], ◌∷◌, ◌++◌, map, codes}
use Rattle.std.specs.Str.{bytes_eq}
use Rattle.token.specs.Tokens.{record_of}
use Rattle.token.specs.declared.kind.TokenKind.{TokenKind}
use Rattle.token.specs.declared.kind.TokenKind.TheVariants.{Ampersand, AttrRef, Backslash, Backtick, CalloutNumber, CloseBrace, CloseBracket, Colon, Dashes, DelimiterLine, Digits, Directive, Dots, Entity, GreaterThan, Hash, LessThan, MacroName, MaybeEmail, Newline, OpenBrace, OpenBracket, SemiColon, TermDelimiter, Whitespace, Word}
use Rattle.token.specs.declared.token_record.TokenRecord.{TokenRecord}
use Rattle.source_lexer.specs.Lone.{lone}

pub record Page : Type 0 where
  pub known : List ℕ → Bool
  pub bytes : List ℕ
  pub tokens : List TokenRecord

-- a token from s up to e
abbrev pub at : TokenKind → ℕ → ℕ → TokenRecord
at k s e = record_of s (k, e)

-- no plug-in name is known
abbrev pub bare : List ℕ → List TokenRecord → Page
bare bs ts = record { known = λ name. false; bytes = bs; tokens = ts }

-- one is
abbrev pub with-name : List ℕ → List ℕ → List TokenRecord → Page
with-name name bs ts = record { known = bytes_eq name; bytes = bs; tokens = ts }

abbrev pub pages : List Page
pages =
    bare (codes "----" ++ (10 ∷ [])) (at DelimiterLine 0 4 ∷ at Newline 4 5 ∷ []) ∷
    bare (codes "-----" ++ (10 ∷ [])) (at Dashes 0 5 ∷ at Newline 5 6 ∷ []) ∷
    bare (codes "=====") (at DelimiterLine 0 5 ∷ []) ∷
    bare (codes "````") (at Backtick 0 1 ∷ at Backtick 1 2 ∷ at Backtick 2 3 ∷ at Backtick 3 4 ∷ []) ∷
    bare (codes "<12x") (at LessThan 0 1 ∷ at Digits 1 3 ∷ at Word 3 4 ∷ []) ∷
    bare (codes "a::::: b") (at Word 0 1 ∷ at Colon 1 2 ∷ at TermDelimiter 2 6 ∷ at Whitespace 6 7 ∷ at Word 7 8 ∷ []) ∷
    bare (codes "&a;") (at Ampersand 0 1 ∷ at Word 1 2 ∷ at SemiColon 2 3 ∷ []) ∷
    bare (codes "{-}") (at OpenBrace 0 1 ∷ at Dashes 1 2 ∷ at CloseBrace 2 3 ∷ []) ∷
    bare (codes "a@b.co") (at MaybeEmail 0 6 ∷ []) ∷
    bare (codes "a@b.c") (at Word 0 3 ∷ at Dots 3 4 ∷ at Word 4 5 ∷ []) ∷
    bare (codes "myfootnote:[") (at Word 0 2 ∷ at MacroName 2 11 ∷ at OpenBracket 11 12 ∷ []) ∷
    with-name (codes "myfootnote") (codes "myfootnote:[") (at MacroName 0 11 ∷ at OpenBracket 11 12 ∷ []) ∷
    bare (codes "endif::[]") (at Directive 0 7 ∷ at OpenBracket 7 8 ∷ at CloseBracket 8 9 ∷ []) ∷ []

-- from the AsciiDoc documentation
abbrev pub documented : List Page
documented =
    bare (codes "--" ++ (10 ∷ []) ++ codes "a" ++ (10 ∷ []) ++ codes "--") (at DelimiterLine 0 2 ∷ at Newline 2 3 ∷ at Word 3 4 ∷ at Newline 4 5 ∷ at DelimiterLine 5 7 ∷ []) ∷
    bare (codes "======" ++ (10 ∷ []) ++ codes "====" ++ (10 ∷ [])) (at DelimiterLine 0 6 ∷ at Newline 6 7 ∷ at DelimiterLine 7 11 ∷ at Newline 11 12 ∷ []) ∷
    bare (codes "```ruby" ++ (10 ∷ [])) (at DelimiterLine 0 3 ∷ at Word 3 7 ∷ at Newline 7 8 ∷ []) ∷
    bare (codes "****" ++ (13 ∷ []) ++ (10 ∷ [])) (at DelimiterLine 0 4 ∷ at Newline 4 6 ∷ []) ∷
    bare (codes " ----" ++ (10 ∷ [])) (at Whitespace 0 1 ∷ at Dashes 1 5 ∷ at Newline 5 6 ∷ []) ∷
    bare (codes "{product-version}") (at AttrRef 0 17 ∷ []) ∷
    bare (codes "C{pp}") (at Word 0 1 ∷ at AttrRef 1 5 ∷ []) ∷
    bare (codes "{a-}") (at AttrRef 0 4 ∷ []) ∷
    bare (codes "\\{name}") (at Backslash 0 1 ∷ at OpenBrace 1 2 ∷ at Word 2 6 ∷ at CloseBrace 6 7 ∷ []) ∷
    bare (codes "{my name}") (at OpenBrace 0 1 ∷ at Word 1 3 ∷ at Whitespace 3 4 ∷ at Word 4 8 ∷ at CloseBrace 8 9 ∷ []) ∷
    bare (codes "# <1>") (at Hash 0 1 ∷ at Whitespace 1 2 ∷ at CalloutNumber 2 5 ∷ []) ∷
    bare (codes "<1> <2>") (at CalloutNumber 0 3 ∷ at Whitespace 3 4 ∷ at CalloutNumber 4 7 ∷ []) ∷
    bare (codes "<.> Text") (at CalloutNumber 0 3 ∷ at Whitespace 3 4 ∷ at Word 4 8 ∷ []) ∷
    bare (codes "<t/> <!--1-->") (at LessThan 0 1 ∷ at Word 1 3 ∷ at GreaterThan 3 4 ∷ at Whitespace 4 5 ∷ at CalloutNumber 5 13 ∷ []) ∷
    bare (codes "&sect;") (at Entity 0 6 ∷ []) ∷
    bare (codes "&#167;") (at Entity 0 6 ∷ []) ∷
    bare (codes "&#x00A7;") (at Entity 0 8 ∷ []) ∷
    bare (codes "&there4;") (at Entity 0 8 ∷ []) ∷
    bare (codes "\\&copy;") (at Backslash 0 1 ∷ at Ampersand 1 2 ∷ at Word 2 6 ∷ at SemiColon 6 7 ∷ []) ∷
    bare (codes "ifdef::foo[]" ++ (10 ∷ []) ++ codes "a" ++ (10 ∷ []) ++ codes "endif::[]") (at Directive 0 7 ∷ at Word 7 10 ∷ at OpenBracket 10 11 ∷ at CloseBracket 11 12 ∷ at Newline 12 13 ∷ at Word 13 14 ∷ at Newline 14 15 ∷ at Directive 15 22 ∷ at OpenBracket 22 23 ∷ at CloseBracket 23 24 ∷ []) ∷
    bare (codes "endif::theme[]") (at Directive 0 7 ∷ at Word 7 12 ∷ at OpenBracket 12 13 ∷ at CloseBracket 13 14 ∷ []) ∷ []

-- each page is read into its tokens
unfoldable pub PagesRead : Type 0
PagesRead = map (λ g. lone g.known g.bytes) (pages ++ documented) ≡ map (λ g. g.tokens) (pages ++ documented)
