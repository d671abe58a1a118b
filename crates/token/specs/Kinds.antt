-- The kinds of tokens, each with its number. Assumes nothing.
use Rattle.std.specs.Prelude.{ℕ, List, [], ◌∷◌, slice_index_or}
use Rattle.token.specs.declared.kind.TokenKind.{TokenKind}
use Rattle.token.specs.declared.kind.TokenKind.TheVariants.{Ampersand, AttrDef, AttrPassDbl, AttrRef, Backtick, Backslash, Bang, CalloutNumber, Caret, CloseBrace, CloseBracket, CloseParens, Colon, Comma, Dashes, DelimiterLine, Digits, Directive, Discard, DoubleQuote, Dots, Email, Entity, EqualSigns, Eof, ForwardSlashes, GreaterThan, Hash, LessThan, MacroName, MaybeEmail, Newline, NoBreakSpace, OpenBrace, OpenBracket, OpenParens, Percent, Pipe, Plus, PreprocPassthru, Punctuation, QuestionMark, SemiColon, SingleQuote, Star, TermDelimiter, Tilde, Underscore, UriScheme, Whitespace, Word}

-- a kind's number: its place in the list of kinds, from 0
abbrev pub number_of : TokenKind → ℕ
number_of Ampersand = 0
number_of AttrDef = 1
number_of AttrPassDbl = 2
number_of AttrRef = 3
number_of Backtick = 4
number_of Backslash = 5
number_of Bang = 6
number_of CalloutNumber = 7
number_of Caret = 8
number_of CloseBrace = 9
number_of CloseBracket = 10
number_of CloseParens = 11
number_of Colon = 12
number_of Comma = 13
number_of Dashes = 14
number_of DelimiterLine = 15
number_of Digits = 16
number_of Directive = 17
number_of Discard = 18
number_of DoubleQuote = 19
number_of Dots = 20
number_of Email = 21
number_of Entity = 22
number_of EqualSigns = 23
number_of Eof = 24
number_of ForwardSlashes = 25
number_of GreaterThan = 26
number_of Hash = 27
number_of LessThan = 28
number_of MacroName = 29
number_of MaybeEmail = 30
number_of Newline = 31
number_of NoBreakSpace = 32
number_of OpenBrace = 33
number_of OpenBracket = 34
number_of OpenParens = 35
number_of Percent = 36
number_of Pipe = 37
number_of Plus = 38
number_of PreprocPassthru = 39
number_of Punctuation = 40
number_of QuestionMark = 41
number_of SemiColon = 42
number_of SingleQuote = 43
number_of Star = 44
number_of TermDelimiter = 45
number_of Tilde = 46
number_of Underscore = 47
number_of UriScheme = 48
number_of Whitespace = 49
number_of Word = 50

-- the list of kinds
abbrev pub kinds : List TokenKind
kinds =
    Ampersand ∷ AttrDef ∷ AttrPassDbl ∷ AttrRef ∷ Backtick ∷ Backslash ∷ Bang ∷ CalloutNumber ∷ Caret ∷ CloseBrace ∷ CloseBracket ∷ CloseParens ∷ Colon ∷ Comma ∷ Dashes ∷ DelimiterLine ∷ Digits ∷ Directive ∷ Discard ∷ DoubleQuote ∷ Dots ∷ Email ∷ Entity ∷ EqualSigns ∷ Eof ∷ ForwardSlashes ∷ GreaterThan ∷ Hash ∷ LessThan ∷ MacroName ∷ MaybeEmail ∷ Newline ∷ NoBreakSpace ∷ OpenBrace ∷ OpenBracket ∷ OpenParens ∷ Percent ∷ Pipe ∷ Plus ∷ PreprocPassthru ∷ Punctuation ∷ QuestionMark ∷ SemiColon ∷ SingleQuote ∷ Star ∷ TermDelimiter ∷ Tilde ∷ Underscore ∷ UriScheme ∷ Whitespace ∷ Word ∷ []

-- the kind that has a number
unfoldable pub kind_of : ℕ → TokenKind
kind_of n = slice_index_or kinds n Word
