-- A kind has the number that it is listed under. Assumes nothing.
use denote.Enum.Declared.{tag_of}
use Rattle.std.proofs.Common.{◌≡◌, refl}
use Rattle.token.specs.contracts.kind.TokenKind.{the_type}
use Rattle.token.specs.Kinds.{number_of, kind_of}
use Rattle.token.specs.declared.kind.TokenKind.{TokenKind}
use Rattle.token.specs.declared.kind.TokenKind.TheVariants.{Ampersand, AttrDef, AttrPassDbl, AttrRef, Backtick, Backslash, Bang, CalloutNumber, Caret, CloseBrace, CloseBracket, CloseParens, Colon, Comma, Dashes, DelimiterLine, Digits, Directive, Discard, DoubleQuote, Dots, Email, Entity, EqualSigns, Eof, ForwardSlashes, GreaterThan, Hash, LessThan, MacroName, MaybeEmail, Newline, NoBreakSpace, OpenBrace, OpenBracket, OpenParens, Percent, Pipe, Plus, PreprocPassthru, Punctuation, QuestionMark, SemiColon, SingleQuote, Star, TermDelimiter, Tilde, Underscore, UriScheme, Whitespace, Word}

pub numbered : (k : TokenKind) → kind_of (number_of k) ≡ k
unfolding kind_of
numbered Ampersand = refl
numbered AttrDef = refl
numbered AttrPassDbl = refl
numbered AttrRef = refl
numbered Backtick = refl
numbered Backslash = refl
numbered Bang = refl
numbered CalloutNumber = refl
numbered Caret = refl
numbered CloseBrace = refl
numbered CloseBracket = refl
numbered CloseParens = refl
numbered Colon = refl
numbered Comma = refl
numbered Dashes = refl
numbered DelimiterLine = refl
numbered Digits = refl
numbered Directive = refl
numbered Discard = refl
numbered DoubleQuote = refl
numbered Dots = refl
numbered Email = refl
numbered Entity = refl
numbered EqualSigns = refl
numbered Eof = refl
numbered ForwardSlashes = refl
numbered GreaterThan = refl
numbered Hash = refl
numbered LessThan = refl
numbered MacroName = refl
numbered MaybeEmail = refl
numbered Newline = refl
numbered NoBreakSpace = refl
numbered OpenBrace = refl
numbered OpenBracket = refl
numbered OpenParens = refl
numbered Percent = refl
numbered Pipe = refl
numbered Plus = refl
numbered PreprocPassthru = refl
numbered Punctuation = refl
numbered QuestionMark = refl
numbered SemiColon = refl
numbered SingleQuote = refl
numbered Star = refl
numbered TermDelimiter = refl
numbered Tilde = refl
numbered Underscore = refl
numbered UriScheme = refl
numbered Whitespace = refl
numbered Word = refl

-- the code's tag is the number
pub tagged : (k : TokenKind) → tag_of the_type k ≡ number_of k
tagged Ampersand = refl
tagged AttrDef = refl
tagged AttrPassDbl = refl
tagged AttrRef = refl
tagged Backtick = refl
tagged Backslash = refl
tagged Bang = refl
tagged CalloutNumber = refl
tagged Caret = refl
tagged CloseBrace = refl
tagged CloseBracket = refl
tagged CloseParens = refl
tagged Colon = refl
tagged Comma = refl
tagged Dashes = refl
tagged DelimiterLine = refl
tagged Digits = refl
tagged Directive = refl
tagged Discard = refl
tagged DoubleQuote = refl
tagged Dots = refl
tagged Email = refl
tagged Entity = refl
tagged EqualSigns = refl
tagged Eof = refl
tagged ForwardSlashes = refl
tagged GreaterThan = refl
tagged Hash = refl
tagged LessThan = refl
tagged MacroName = refl
tagged MaybeEmail = refl
tagged Newline = refl
tagged NoBreakSpace = refl
tagged OpenBrace = refl
tagged OpenBracket = refl
tagged OpenParens = refl
tagged Percent = refl
tagged Pipe = refl
tagged Plus = refl
tagged PreprocPassthru = refl
tagged Punctuation = refl
tagged QuestionMark = refl
tagged SemiColon = refl
tagged SingleQuote = refl
tagged Star = refl
tagged TermDelimiter = refl
tagged Tilde = refl
tagged Underscore = refl
tagged UriScheme = refl
tagged Whitespace = refl
tagged Word = refl
