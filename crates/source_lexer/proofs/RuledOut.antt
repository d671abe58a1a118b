-- Which candidates a first byte rules out, and the token by those that are left. Assumes nothing.
use Rattle.std.proofs.Common.{◌≡◌, ℕ, Bool, true, false, not, ◌&&◌, ◌||◌, eqb, List, [], ◌∷◌, get_or, Some, None, Option, sym, refl, ap, ◌∙◌, arith, is_none}
use Rattle.std.specs.Char.{is_ascii_digit}
use Rattle.std.proofs.lemmas.Bool.{and_parts, not-true, true≢false}
use Rattle.std.proofs.lemmas.Bool.Decides.{nat_tests}
use Rattle.page_bytes.specs.Classes.{blank}
use Rattle.token.specs.Tokens.{Token, of, first_of}
use Rattle.marks.specs.AttrRef.{braced_name}
use Rattle.marks.specs.Callout.{callouts}
use Rattle.marks.specs.Delimiter.{block_mark, delimits}
use Rattle.marks.specs.Entity.{references}
use Rattle.source_lexer.specs.Marks.{repeated, mark_kind}
use Rattle.marks.specs.Term.{term_marks}
use Rattle.source_lexer.specs.Token.{candidates, token_at}
use Rattle.marks.specs.Wide.{wide_marks, pass_mark}
use Rattle.words.specs.Word.{word_token}
use Rattle.source_lexer.specs.declared.rule.Rule.{Rule}
use Rattle.source_lexer.specs.declared.rule.Rule.TheVariants.{OnlyWord, Blanks, Number, LineFeed, CarriageReturn, Run, LineOrRun, LineOrMark, MaybeEntity, MaybeCallout, MaybeAttrRef, MaybeTerm, Mark, MaybePunctuation, MaybePass}
use Rattle.token.specs.declared.kind.TokenKind.{TokenKind}
use Rattle.token.specs.declared.kind.TokenKind.TheVariants.{DelimiterLine, Newline, Entity, CalloutNumber, AttrRef, TermDelimiter, Punctuation, AttrPassDbl}
use Rattle.source_lexer.proofs.Absent.{begins, no-delimiter, no_run, no-newline, no-entity, no-callout, no-attr-ref, no-term, no-mark, no-punctuation, no-pass}
use Rattle.marks.proofs.Spells.{exactly, apart, apart_from, leads}
use Rattle.words.proofs.Firsts.{skip}

-- The candidates that a byte rules out, in their order. Each test computes.

abbrev pub out : ℕ → List Bool
out b =
    not (block_mark b || eqb b 96)
    ∷ (not (blank b) && (not (is_ascii_digit b) && is_none (repeated b)))
    ∷ (not (eqb b 10) && not (eqb b 13))
    ∷ apart_from (exactly b ∷ []) references
    ∷ apart_from (exactly b ∷ []) callouts
    ∷ apart (exactly b ∷ []) (leads braced_name)
    ∷ not (begins b term_marks)
    ∷ is_none (mark_kind b)
    ∷ apart_from (exactly b ∷ []) wide_marks
    ∷ apart (exactly b ∷ []) (leads pass_mark)
    ∷ []

-- the candidates that are tried, in the same order
abbrev pub tries : Rule → List Bool
tries OnlyWord = []
tries Blanks = false ∷ true ∷ []
tries Number = false ∷ true ∷ []
tries LineFeed = false ∷ false ∷ true ∷ []
tries CarriageReturn = false ∷ false ∷ true ∷ []
tries (Run k) = false ∷ true ∷ []
tries (LineOrRun k) = true ∷ true ∷ []
tries (LineOrMark k) = true ∷ false ∷ false ∷ false ∷ false ∷ false ∷ false ∷ true ∷ []
tries MaybeEntity = false ∷ false ∷ false ∷ true ∷ false ∷ false ∷ false ∷ true ∷ []
tries MaybeCallout = false ∷ false ∷ false ∷ false ∷ true ∷ false ∷ false ∷ true ∷ []
tries MaybeAttrRef = false ∷ false ∷ false ∷ false ∷ false ∷ true ∷ false ∷ true ∷ []
tries (MaybeTerm k) = false ∷ false ∷ false ∷ false ∷ false ∷ false ∷ true ∷ true ∷ []
tries (Mark k) = false ∷ false ∷ false ∷ false ∷ false ∷ false ∷ false ∷ true ∷ []
tries MaybePunctuation = false ∷ false ∷ false ∷ false ∷ false ∷ false ∷ false ∷ false ∷ true ∷ []
tries MaybePass = false ∷ false ∷ false ∷ false ∷ false ∷ false ∷ false ∷ false ∷ false ∷ true ∷ []

-- what is not tried is ruled out
abbrev pub covers : List Bool → List Bool → Bool
covers ts [] = true
covers [] (x ∷ xs) = x && covers [] xs
covers (true ∷ ts) (x ∷ xs) = covers ts xs
covers (false ∷ ts) (x ∷ xs) = x && covers ts xs

-- a candidate that the byte rules out is none
abbrev Outs : List Bool → List (Option Token) → Type 0
Outs [] os = Unit {0}
Outs (x ∷ xs) [] = Unit {0}
Outs (x ∷ xs) (o ∷ os) = (x ≡ true → o ≡ None) × Outs xs os

abbrev pub pick : List Bool → List (Option Token) → List (Option Token)
pick ts [] = []
pick [] (o ∷ os) = []
pick (true ∷ ts) (o ∷ os) = o ∷ pick ts os
pick (false ∷ ts) (o ∷ os) = pick ts os

abbrev Short : List Bool → List (Option Token) → Type 0
Short [] [] = Unit {0}
Short [] (o ∷ os) = ⊥
Short (x ∷ xs) [] = Unit {0}
Short (x ∷ xs) (o ∷ os) = Short xs os

after : (o : Option Token) (os qs : List (Option Token)) (t : Token) → first_of os t ≡ first_of qs t → first_of (o ∷ os) t ≡ first_of (o ∷ qs) t
after None os qs t h = h
after (Some u) os qs t h = refl

none-picked : (os : List (Option Token)) → pick [] os ≡ []
none-picked [] = refl
none-picked (o ∷ os) = refl

-- so that only those that are tried count
picked : (ts xs : List Bool) (os : List (Option Token)) (t : Token) → Short xs os → Outs xs os → covers ts xs ≡ true → first_of os t ≡ first_of (pick ts os) t
picked ts [] [] t s o c = refl
picked ts [] (o ∷ os) t s n c = absurd s
picked ts (x ∷ xs) [] t s n c = refl
picked [] (x ∷ xs) (o ∷ os) t s n c =
    let ab = and_parts x (covers [] xs) c in
    skip o os t (n.0 ab.0) ∙ picked [] xs os t s n.1 ab.1 ∙ ap (λ qs. first_of qs t) (none-picked os)
picked (true ∷ ts) (x ∷ xs) (o ∷ os) t s n c = after o os (pick ts os) t (picked ts xs os t s n.1 c)
picked (false ∷ ts) (x ∷ xs) (o ∷ os) t s n c =
    let ab = and_parts x (covers ts xs) c in
    skip o os t (n.0 ab.0) ∙ picked ts xs os t s n.1 ab.1

is-none : (o : Option TokenKind) → is_none o ≡ true → o ≡ None
is-none None h = refl
is-none (Some k) h = absurd (true≢false (sym h))

no_line : (page : List ℕ) (b n e : ℕ) → not (block_mark b || eqb b 96) ≡ true → delimits page b n e ≡ false
no_line page b n e h = grind (arith, nat_tests)

module _ (page : List ℕ) (p b : ℕ) (here : get_or page p 0 ≡ b) where
  outs : Outs (out b) (candidates page p)
  outs = (
    λ h. ap (of DelimiterLine) (no-delimiter page p b here (λ n e. no_line page b n e h)),
    (
      λ h.
          let ab = and_parts (not (blank b)) _ h in
          let cd = and_parts (not (is_ascii_digit b)) (is_none (repeated b)) ab.1 in
          no_run page p b here (not-true (blank b) ab.0) (not-true (is_ascii_digit b) cd.0) (is-none (repeated b) cd.1),
      (
        λ h.
            let ab = and_parts (not (eqb b 10)) (not (eqb b 13)) h in
            ap (of Newline) (no-newline page p b here (not-true (eqb b 10) ab.0) (not-true (eqb b 13) ab.1)),
        (
          λ h. ap (of Entity) (no-entity page p b here h),
          (
            λ h. ap (of CalloutNumber) (no-callout page p b here h),
            (
              λ h. ap (of AttrRef) (no-attr-ref page p b here h),
              (
                λ h. ap (of TermDelimiter) (no-term page p b here (not-true (begins b term_marks) h)),
                (
                  λ h. no-mark page p b here (is-none (mark_kind b) h),
                  (
                    λ h. ap (of Punctuation) (no-punctuation page p b here h),
                    (λ h. ap (of AttrPassDbl) (no-pass page p b here h), tt),
                  ),
                ),
              ),
            ),
          ),
        ),
      ),
    ),
  )

-- the token is the first that fits of those that are tried, where the byte rules out the others
pub only : (known : List ℕ → Bool) (page : List ℕ) (p b : ℕ) → get_or page p 0 ≡ b → (ts : List Bool) → covers ts (out b) ≡ true → token_at known page p ≡ first_of (pick ts (candidates page p)) (word_token known page p)
unfolding token_at
only known page p b here ts c = picked ts (out b) (candidates page p) (word_token known page p) tt (outs page p b here) c

-- a byte that begins nothing but a word
abbrev pub plain : ℕ → Bool
plain b = covers [] (out b)

pub plain-token : (known : List ℕ → Bool) (page : List ℕ) (p b : ℕ) → get_or page p 0 ≡ b → plain b ≡ true → token_at known page p ≡ word_token known page p
plain-token known page p b here c = only known page p b here [] c
