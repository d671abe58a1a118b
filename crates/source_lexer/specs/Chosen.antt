-- Which rule the first byte of a token chooses, and the token by that rule, if it is no word. What the token is stands in `Token`; this
-- is a shorter way to the same. Assumes nothing.
use Rattle.std.specs.Prelude.{ℕ, ◌+◌, ◌-◌, cond, ◌&&◌, List, [], ◌∷◌, Some, None, Option, ◌==◌, nat_eq, slice_index}
use Rattle.std.specs.Char.{is_ascii_digit}
use Rattle.std.specs.Int.{is_in_range}
use Rattle.page_bytes.specs.Classes.{blank}
use Rattle.page_bytes.specs.Runs.{run_end}
use Rattle.marks.specs.AttrRef.{attr_ref_end}
use Rattle.marks.specs.Callout.{callout_end}
use Rattle.marks.specs.Delimiter.{delimits, delimiter_end}
use Rattle.marks.specs.Entity.{entity_end}
use Rattle.token.specs.Tokens.{Token, of, first_of}
use Rattle.marks.specs.Newline.{newline_end}
use Rattle.marks.specs.Places.{line_start}
use Rattle.marks.specs.Term.{term_end}
use Rattle.marks.specs.Wide.{punctuation_end, pass_end}
use Rattle.source_lexer.specs.declared.rule.Rule.{Rule}
use Rattle.source_lexer.specs.declared.rule.Rule.TheVariants.{OnlyWord, Blanks, Number, LineFeed, CarriageReturn, Run, LineOrRun, LineOrMark, MaybeEntity, MaybeCallout, MaybeAttrRef, MaybeTerm, Mark, MaybePunctuation, MaybePass}
use Rattle.token.specs.declared.kind.TokenKind.{TokenKind}
use Rattle.token.specs.declared.kind.TokenKind.TheVariants.{Backslash, Backtick, Bang, Caret, CloseBrace, CloseBracket, CloseParens, Colon, Comma, Dashes, Dots, DoubleQuote, EqualSigns, ForwardSlashes, GreaterThan, Hash, OpenBracket, OpenParens, Percent, Pipe, Plus, QuestionMark, SemiColon, SingleQuote, Star, Tilde, Underscore, Whitespace, Digits, Newline, DelimiterLine, Entity, Ampersand, CalloutNumber, LessThan, AttrRef, OpenBrace, TermDelimiter, Punctuation, AttrPassDbl}

-- the rule that a first byte chooses
abbrev pub rule_of : ℕ → Rule
rule_of b =
    cond (b == 32) Blanks
    (cond (b == 9) Blanks
    (cond (is_in_range 11 12 b) Blanks
    (cond (is_ascii_digit b) Number
    (cond (b == 10) LineFeed
    (cond (b == 13) CarriageReturn
    (cond (b == 38) MaybeEntity
    (cond (b == 60) MaybeCallout
    (cond (b == 123) MaybeAttrRef
    (cond (b == 61) (LineOrRun EqualSigns)
    (cond (b == 45) (LineOrRun Dashes)
    (cond (b == 46) (LineOrRun Dots)
    (cond (b == 47) (LineOrRun ForwardSlashes)
    (cond (b == 40) (Run OpenParens)
    (cond (b == 41) (Run CloseParens)
    (cond (b == 62) (Mark GreaterThan)
    (cond (b == 44) (Mark Comma)
    (cond (b == 94) (Mark Caret)
    (cond (b == 126) (Mark Tilde)
    (cond (b == 95) (LineOrMark Underscore)
    (cond (b == 42) (LineOrMark Star)
    (cond (b == 33) (Mark Bang)
    (cond (b == 63) (Mark QuestionMark)
    (cond (b == 96) (LineOrMark Backtick)
    (cond (b == 43) (LineOrMark Plus)
    (cond (b == 91) (Mark OpenBracket)
    (cond (b == 93) (Mark CloseBracket)
    (cond (b == 125) (Mark CloseBrace)
    (cond (b == 35) (Mark Hash)
    (cond (b == 37) (Mark Percent)
    (cond (b == 34) (Mark DoubleQuote)
    (cond (b == 124) (Mark Pipe)
    (cond (b == 39) (Mark SingleQuote)
    (cond (b == 92) (Mark Backslash)
    (cond (b == 58) (MaybeTerm Colon)
    (cond (b == 59) (MaybeTerm SemiColon)
    (cond (b == 0xc2) MaybePunctuation
    (cond (is_in_range 0xe2 0xe3 b) MaybePunctuation
    (cond (b == 0xef) MaybePunctuation
    (cond (b == 27) MaybePass OnlyWord)))))))))))))))))))))))))))))))))))))))

-- the end of the run of the byte that stands there
abbrev pub same_end : List ℕ → ℕ → ℕ
same_end page p = run_end (λ b. nat_eq b (slice_index page p)) page (p + 1)

-- the longest run of the byte that stands there, as a delimiter line or else under this kind
abbrev pub line_or_run : TokenKind → List ℕ → ℕ → Token
line_or_run k page p =
    (cond (line_start page p && delimits page (slice_index page p) (same_end page p - p) (same_end page p)) DelimiterLine k, same_end page p)

-- the token that ends there, or else the byte that stands there, under this kind
abbrev pub or_mark : TokenKind → ℕ → Option Token → Token
or_mark k p o = first_of (o ∷ []) (k, p + 1)

-- the token of a rule, if it is no word
abbrev pub by_rule : Rule → List ℕ → ℕ → Option Token
by_rule OnlyWord page p = None
by_rule Blanks page p = Some (Whitespace, run_end blank page (p + 1))
by_rule Number page p = Some (Digits, run_end is_ascii_digit page (p + 1))
by_rule LineFeed page p = Some (Newline, p + 1)
by_rule CarriageReturn page p = of Newline (newline_end page p)
by_rule (Run k) page p = Some (k, same_end page p)
by_rule (LineOrRun k) page p = Some (line_or_run k page p)
by_rule (LineOrMark k) page p = Some (or_mark k p (of DelimiterLine (delimiter_end page p)))
by_rule MaybeEntity page p = Some (or_mark Ampersand p (of Entity (entity_end page p)))
by_rule MaybeCallout page p = Some (or_mark LessThan p (of CalloutNumber (callout_end page p)))
by_rule MaybeAttrRef page p = Some (or_mark OpenBrace p (of AttrRef (attr_ref_end page p)))
by_rule (MaybeTerm k) page p = Some (or_mark k p (of TermDelimiter (term_end page p)))
by_rule (Mark k) page p = Some (k, p + 1)
by_rule MaybePunctuation page p = of Punctuation (punctuation_end page p)
by_rule MaybePass page p = of AttrPassDbl (pass_end page p)
