-- What holds of the token at every place. Assumes nothing.
use Rattle.std.specs.Prelude.{◌≡◌, ℕ, ◌-◌, ◌<◌, ◌≤◌, Bool, true, false, ◌⊎◌, List, length, IsUtf8}
use Rattle.std.specs.Str.{IsCharBoundary}
use Rattle.marks.specs.AttrRef.{AttrRefAt}
use Rattle.marks.specs.Callout.{CalloutAt}
use Rattle.marks.specs.Delimiter.{DelimiterAt}
use Rattle.words.specs.Directive.{DirectiveAt}
use Rattle.marks.specs.Entity.{EntityAt}
use Rattle.marks.specs.Places.{is_at, part}
use Rattle.source_lexer.specs.Token.{token_at}
use Rattle.token.specs.declared.kind.TokenKind.{TokenKind}
use Rattle.token.specs.declared.kind.TokenKind.TheVariants.{MacroName, DelimiterLine, Entity, CalloutNumber, AttrRef, Directive}

-- a token of the kind stands from p up to e exactly where such a stretch does
abbrev pub TokenIs : TokenKind → (List ℕ → ℕ → ℕ → Type 0) → Type 0
TokenIs k Stretch =
    (known : List ℕ → Bool) (page : List ℕ) (p e : ℕ) → p < length page → (token_at known page p ≡ (k, e) → Stretch page p e) × (Stretch page p e → token_at known page p ≡ (k, e))

pub record Told : Type 0 where
  pub delimiters : TokenIs DelimiterLine DelimiterAt
  pub references : TokenIs Entity EntityAt
  pub callouts : TokenIs CalloutNumber CalloutAt
  pub attributes : TokenIs AttrRef AttrRefAt
  pub directives : TokenIs Directive DirectiveAt

-- a token has a byte at least, and ends on the page
abbrev pub Progress : Type 0
Progress =
    (known : List ℕ → Bool) (page : List ℕ) (p : ℕ) → p < length page → (p < (token_at known page p).1) × ((token_at known page p).1 ≤ length page)

-- on a page of well-formed UTF-8 no token cuts a character
abbrev pub CutsCleanly : Type 0
CutsCleanly =
    (known : List ℕ → Bool) (page : List ℕ) (p : ℕ) → IsUtf8 page → p < length page → IsCharBoundary page p → IsCharBoundary page (token_at known page p).1

-- a name that only the richer set knows: the richer reading has it as one token, the poorer as two
pub record NewName (poor rich : List ℕ → Bool) (page : List ℕ) (p : ℕ) : Type 0 where
  pub end : ℕ
  pub richer : token_at rich page p ≡ (MacroName, end)
  pub known : rich (part page p (end - 1)) ≡ true
  pub unknown : poor (part page p (end - 1)) ≡ false
  pub poorer : (token_at poor page (token_at poor page p).1).1 ≡ end
  -- the poorer's first token ends before, and the name is followed by a colon
  pub two : (token_at poor page p).1 < end
  pub colon : is_at page (end - 1) 58 ≡ true

-- more names change a token only so
abbrev pub MoreNames : Type 0
MoreNames =
    (poor rich : List ℕ → Bool) → ((w : List ℕ) → poor w ≡ true → rich w ≡ true) → (page : List ℕ) (p : ℕ) → p < length page → (token_at poor page p ≡ token_at rich page p) ⊎ NewName poor rich page p
