-- The token at a place: the first candidate that fits, or else a word. Assumes nothing.
use Rattle.std.specs.Prelude.{ℕ, Bool, List, [], ◌∷◌, Option}
use Rattle.marks.specs.AttrRef.{attr_ref_end}
use Rattle.marks.specs.Callout.{callout_end}
use Rattle.marks.specs.Delimiter.{delimiter_end}
use Rattle.marks.specs.Entity.{entity_end}
use Rattle.token.specs.Tokens.{Token, of, first_of}
use Rattle.marks.specs.Newline.{newline_end}
use Rattle.source_lexer.specs.Marks.{run_token, mark_token}
use Rattle.marks.specs.Term.{term_end}
use Rattle.marks.specs.Wide.{punctuation_end, pass_end}
use Rattle.words.specs.Word.{word_token}
use Rattle.token.specs.declared.kind.TokenKind.TheVariants.{DelimiterLine, Newline, Entity, CalloutNumber, AttrRef, TermDelimiter, Punctuation, AttrPassDbl}

-- in their order: a delimiter line, a run, a line end, a character reference, a callout, an attribute reference, a term delimiter, a
-- mark of one byte, a mark past ASCII, a passed attribute
abbrev pub candidates : List ℕ → ℕ → List (Option Token)
candidates page p =
    of DelimiterLine (delimiter_end page p) ∷ run_token page p ∷ of Newline (newline_end page p) ∷ of Entity (entity_end page p) ∷ of CalloutNumber (callout_end page p) ∷ of AttrRef (attr_ref_end page p) ∷ of TermDelimiter (term_end page p) ∷ mark_token page p ∷ of Punctuation (punctuation_end page p) ∷ of AttrPassDbl (pass_end page p) ∷ []

-- the token that begins at p, with the plug-in names that are known: its kind and its end. Shut: what stands above goes by its laws
unfoldable pub token_at : (List ℕ → Bool) → List ℕ → ℕ → Token
token_at known page p = first_of (candidates page p) (word_token known page p)
