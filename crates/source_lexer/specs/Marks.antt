-- Runs of one mark, of blanks and of digits, and the marks of one byte. Assumes nothing.
use Rattle.std.specs.Prelude.{ℕ, ◌+◌, cond, List, Some, None, Option, ◌==◌, slice_index}
use Rattle.std.specs.Char.{is_ascii_digit}
use Rattle.page_bytes.specs.Classes.{blank}
use Rattle.page_bytes.specs.Runs.{run_end}
use Rattle.marks.specs.Places.{mark_run}
use Rattle.token.specs.Tokens.{Token}
use Rattle.token.specs.declared.kind.TokenKind.{TokenKind}
use Rattle.token.specs.declared.kind.TokenKind.TheVariants.{EqualSigns, Dashes, Dots, ForwardSlashes, OpenParens, CloseParens, Whitespace, Digits, Ampersand, LessThan, GreaterThan, Comma, Caret, Tilde, Underscore, Star, Bang, QuestionMark, Backtick, Plus, OpenBracket, CloseBracket, OpenBrace, CloseBrace, Hash, Percent, DoubleQuote, Pipe, SingleQuote, Backslash, Colon, SemiColon}

-- the marks that a token takes as many of as there are
abbrev pub repeated : ℕ → Option TokenKind
repeated b =
    cond (b == 61) (Some EqualSigns)
    (cond (b == 45) (Some Dashes)
    (cond (b == 46) (Some Dots)
    (cond (b == 47) (Some ForwardSlashes)
    (cond (b == 40) (Some OpenParens)
    (cond (b == 41) (Some CloseParens) None)))))

abbrev pub same_marks : Option TokenKind → List ℕ → ℕ → Option Token
same_marks None page p = None
same_marks (Some k) page p = Some (k, mark_run page p)

-- the longest run of blanks, of digits or of such a mark
abbrev pub run_token : List ℕ → ℕ → Option Token
run_token page p =
    cond (blank (slice_index page p)) (Some (Whitespace, run_end blank page p))
    (cond (is_ascii_digit (slice_index page p)) (Some (Digits, run_end is_ascii_digit page p))
    (same_marks (repeated (slice_index page p)) page p))

-- the marks of one byte
abbrev pub mark_kind : ℕ → Option TokenKind
mark_kind b =
    cond (b == 38) (Some Ampersand)
    (cond (b == 60) (Some LessThan)
    (cond (b == 62) (Some GreaterThan)
    (cond (b == 44) (Some Comma)
    (cond (b == 94) (Some Caret)
    (cond (b == 126) (Some Tilde)
    (cond (b == 95) (Some Underscore)
    (cond (b == 42) (Some Star)
    (cond (b == 33) (Some Bang)
    (cond (b == 63) (Some QuestionMark)
    (cond (b == 96) (Some Backtick)
    (cond (b == 43) (Some Plus)
    (cond (b == 91) (Some OpenBracket)
    (cond (b == 93) (Some CloseBracket)
    (cond (b == 123) (Some OpenBrace)
    (cond (b == 125) (Some CloseBrace)
    (cond (b == 35) (Some Hash)
    (cond (b == 37) (Some Percent)
    (cond (b == 34) (Some DoubleQuote)
    (cond (b == 124) (Some Pipe)
    (cond (b == 39) (Some SingleQuote)
    (cond (b == 92) (Some Backslash)
    (cond (b == 58) (Some Colon)
    (cond (b == 59) (Some SemiColon) None)))))))))))))))))))))))

abbrev pub one_byte : Option TokenKind → ℕ → Option Token
one_byte None p = None
one_byte (Some k) p = Some (k, p + 1)

-- a mark of one byte, whatever stands behind it
abbrev pub mark_token : List ℕ → ℕ → Option Token
mark_token page p = one_byte (mark_kind (slice_index page p)) p
