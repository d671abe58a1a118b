-- A token of a kind that the documentation tells by a relation stands exactly where the relation has it. Assumes nothing.
use Rattle.std.proofs.Common.{◌≡◌, ℕ, ◌+◌, ◌<◌, Bool, true, false, cond, not, ◌&&◌, eqb, ◌⊎◌, List, [], ◌∷◌, length, get_or, Some, None, Option, sym, refl, ap, ◌∙◌, subst, inl, inr, ⊎_elim, arith}
use Rattle.std.specs.Char.{is_ascii_digit, is_ascii_whitespace}
use Rattle.std.proofs.lemmas.Bool.{and_parts, eqb-true, cond_both, both_ways, false≢true}
use Rattle.std.proofs.lemmas.Bool.Decides.{nat_tests}
use Rattle.page_bytes.specs.Classes.{blank, word_byte, stem_byte}
use Rattle.page_bytes.specs.Runs.{run_end}
use Rattle.page_bytes.proofs.RunLaws.{run_end-ge, run_end-le}
use Rattle.marks.specs.Places.{is_at, part}
use Rattle.marks.specs.Shape.{Shape, Spelt, SpeltBy}
use Rattle.token.specs.Tokens.{Token, of}
use Rattle.marks.specs.AttrRef.{AttrRefAt, braced_name, attr_ref_end}
use Rattle.marks.specs.Callout.{CalloutAt, callouts, callout_end}
use Rattle.marks.specs.Delimiter.{DelimiterAt, delimiter_end}
use Rattle.words.specs.Directive.{DirectiveAt}
use Rattle.marks.specs.Entity.{EntityAt, references, entity_end}
use Rattle.marks.specs.Newline.{newline_end}
use Rattle.source_lexer.specs.Marks.{repeated, same_marks, run_token, mark_kind, one_byte, mark_token}
use Rattle.marks.specs.Term.{opens_term, term_end}
use Rattle.marks.specs.Wide.{punctuation_end, pass_end}
use Rattle.words.specs.Word.{stem_end, among, directive_names, directive_follows, directive_token, scheme_end, macro_end, ending_start, colon_token, domain_end, domain_fits, mail_token, word_token}
use Rattle.source_lexer.specs.Token.{candidates, token_at}
use Rattle.source_lexer.specs.Laws.{Told}
use Rattle.token.specs.declared.kind.TokenKind.{TokenKind}
use Rattle.token.specs.declared.kind.TokenKind.TheVariants.{AttrDef, Discard, Email, NoBreakSpace, PreprocPassthru, Ampersand, AttrPassDbl, AttrRef, Backtick, Backslash, Bang, CalloutNumber, Caret, CloseBrace, CloseBracket, CloseParens, Colon, Comma, Dashes, DelimiterLine, Digits, Directive, DoubleQuote, Dots, Entity, Eof, EqualSigns, ForwardSlashes, GreaterThan, Hash, LessThan, MacroName, MaybeEmail, Newline, OpenBrace, OpenBracket, OpenParens, Percent, Pipe, Plus, Punctuation, QuestionMark, SemiColon, SingleQuote, Star, TermDelimiter, Tilde, Underscore, UriScheme, Whitespace, Word}
use Rattle.source_lexer.proofs.RuledOut.{tries, only}
use Rattle.source_lexer.specs.declared.rule.Rule.TheVariants.{MaybeEntity, MaybeCallout, MaybeAttrRef}
use Rattle.source_lexer.proofs.Directives.{directive-from, directive-token}
use Rattle.source_lexer.proofs.Ends.{Tokens, first-tokens, or-tokens, when-tokens}
use Rattle.marks.proofs.Exact.{attr-ref-exact, entity-exact, callout-exact}
use Rattle.marks.proofs.Lines.{delimiter-exact}
use Rattle.words.proofs.Firsts.{found}
use Rattle.marks.proofs.Spells.{Lead, exactly, like, leads, Leading, spelt-leading}

-- kinds whose tokens are stated by a relation of their own
abbrev pub told : TokenKind → Bool
told Ampersand = false
told AttrPassDbl = false
told AttrRef = true
told Backtick = false
told Backslash = false
told Bang = false
told CalloutNumber = true
told Caret = false
told CloseBrace = false
told CloseBracket = false
told CloseParens = false
told Colon = false
told Comma = false
told Dashes = false
told DelimiterLine = true
told Digits = false
told Directive = true
told DoubleQuote = false
told Dots = false
told Entity = true
told Eof = false
told EqualSigns = false
told ForwardSlashes = false
told GreaterThan = false
told Hash = false
told LessThan = false
told MacroName = false
told MaybeEmail = false
told Newline = false
told OpenBrace = false
told OpenBracket = false
told OpenParens = false
told Percent = false
told Pipe = false
told Plus = false
told Punctuation = false
told QuestionMark = false
told SemiColon = false
told SingleQuote = false
told Star = false
told TermDelimiter = false
told Tilde = false
told Underscore = false
told UriScheme = false
told Whitespace = false
told AttrDef = false
told Discard = false
told Email = false
told NoBreakSpace = false
told PreprocPassthru = false
told Word = false

-- the kinds of the other candidates

abbrev Untold : Token → Type 0
Untold t = told t.0 ≡ false

mark-untold : (b : ℕ) (k : TokenKind) → mark_kind b ≡ Some k → told k ≡ false
mark-untold b k h = grind (arith, nat_tests)

repeated-untold : (b : ℕ) (k : TokenKind) → repeated b ≡ Some k → told k ≡ false
repeated-untold b k h = grind (arith, nat_tests)

of-untold : (k : TokenKind) (o : Option ℕ) → told k ≡ false → Tokens Untold (of k o)
of-untold k None h = tt
of-untold k (Some e) h = h

module _ (page : List ℕ) (p : ℕ) where
  marks-untold : (k : Option TokenKind) → mark_kind (get_or page p 0) ≡ k → Tokens Untold (one_byte k p)
  marks-untold None h = tt
  marks-untold (Some k) h = mark-untold (get_or page p 0) k h

  same-untold : (k : Option TokenKind) → repeated (get_or page p 0) ≡ k → Tokens Untold (same_marks k page p)
  same-untold None h = tt
  same-untold (Some k) h = repeated-untold (get_or page p 0) k h

  runs-untold : Tokens Untold (run_token page p)
  runs-untold =
      cond_both (blank (get_or page p 0)) _ _ (Tokens Untold) (λ t. refl)
      (λ f. cond_both (is_ascii_digit (get_or page p 0)) _ _ (Tokens Untold) (λ t. refl) (λ g. same-untold (repeated (get_or page p 0)) refl))

-- from a token back to its relation

abbrev From : List ℕ → ℕ → TokenKind → ℕ → Type 0
From page p k e =
    (((k ≡ DelimiterLine) × (delimiter_end page p ≡ Some e)) ⊎ ((k ≡ Entity) × (entity_end page p ≡ Some e))) ⊎ (((k ≡ CalloutNumber) × (callout_end page p ≡ Some e)) ⊎ (((k ≡ AttrRef) × (attr_ref_end page p ≡ Some e)) ⊎ ((k ≡ Directive) × DirectiveAt page p e)))

module _ (known : List ℕ → Bool) (page : List ℕ) (p : ℕ) (on : p < length page) where
  abbrev Traced : Token → Type 0
  Traced t = (k : TokenKind) (e : ℕ) → told k ≡ true → t ≡ (k, e) → From page p k e

  untraced : (t : Token) → Untold t → Traced t
  untraced t u k e h same = absurd (both_ways (told k) (ap (λ x. told x.0) (sym same) ∙ u) h)

  untraced-all : (o : Option Token) → Tokens Untold o → Tokens Traced o
  untraced-all None u = tt
  untraced-all (Some t) u = untraced t u

  traced-of : (j : TokenKind) (o : Option ℕ) → ((e : ℕ) → o ≡ Some e → From page p j e) → Tokens Traced (of j o)
  traced-of j None h = tt
  traced-of j (Some x) h =
      λ k e _ same. subst (λ (t : Token). From page p t.0 t.1) same (h x refl)

  word-traced : Traced (word_token known page p)
  unfolding word_token
  word-traced =
      let q = stem_end page p in
      let from = run_end-ge stem_byte page (p + 1) in
      let to = run_end-le stem_byte page (p + 1) (omega arith) in
      first-tokens Traced (directive_token page p q ∷ colon_token known page p q ∷ mail_token page q ∷ []) (Word, q) (
        when-tokens Traced (among directive_names (part page p q) && directive_follows page p q) (Some (cond (is_ascii_whitespace (get_or page (q + 2) 0)) (Word, q) (Directive, q + 2)))
            (λ t. cond_both {A = Token} (is_ascii_whitespace (get_or page (q + 2) 0)) (Word, q) (Directive, q + 2) Traced (λ _. untraced (Word, q) refl)
            (λ w k e _ same. subst (λ (u : Token). From page p u.0 u.1) same (inr (inr (inr (refl, directive-from page p q (omega arith) to t w)))))),
        (
          untraced-all (colon_token known page p q)
              (when-tokens Untold (is_at page q 58 && not (opens_term page q)) _ (λ t. or-tokens Untold (of UriScheme (scheme_end page p q)) _ (of-untold UriScheme (scheme_end page p q) refl)
              (or-tokens Untold (of MacroName (macro_end known page p q)) _ (of-untold MacroName (macro_end known page p q) refl) (of-untold Word (ending_start page p q) refl)))),
          (
            untraced-all (mail_token page q)
                (when-tokens Untold (is_at page q 64) (Some (cond (domain_fits page q) (MaybeEmail, domain_end page q) (Word, run_end word_byte page (q + 1))))
                (λ t. cond_both {A = Token} (domain_fits page q) (MaybeEmail, domain_end page q) (Word, run_end word_byte page (q + 1)) Untold (λ _. refl) (λ _. refl))),
            tt,
          ),
        ),
      )
      (untraced (Word, q) refl)

  traced : Traced (token_at known page p)
  unfolding token_at
  traced =
      first-tokens Traced (candidates page p) (word_token known page p) (
        traced-of DelimiterLine (delimiter_end page p) (λ e h. inl (inl (refl, h))),
        (
          untraced-all (run_token page p) (runs-untold page p),
          (
            untraced-all (of Newline (newline_end page p)) (of-untold Newline (newline_end page p) refl),
            (
              traced-of Entity (entity_end page p) (λ e h. inl (inr (refl, h))),
              (
                traced-of CalloutNumber (callout_end page p) (λ e h. inr (inl (refl, h))),
                (
                  traced-of AttrRef (attr_ref_end page p) (λ e h. inr (inr (inl (refl, h)))),
                  (
                    untraced-all (of TermDelimiter (term_end page p)) (of-untold TermDelimiter (term_end page p) refl),
                    (
                      untraced-all (mark_token page p) (marks-untold page p (mark_kind (get_or page p 0)) refl),
                      (
                        untraced-all (of Punctuation (punctuation_end page p)) (of-untold Punctuation (punctuation_end page p) refl),
                        (untraced-all (of AttrPassDbl (pass_end page p)) (of-untold AttrPassDbl (pass_end page p) refl), tt),
                      ),
                    ),
                  ),
                ),
              ),
            ),
          ),
        ),
      )
      word-traced

-- the first byte of a spelt token

abbrev first_is : ℕ → List Lead → Bool
first_is m [] = false
first_is m (exactly b ∷ ls) = eqb b m
first_is m (like is ∷ ls) = false

abbrev all_first : ℕ → List Shape → Bool
all_first m [] = true
all_first m (s ∷ ss) = first_is m (leads s) && all_first m ss

spelt-first-is : (m : ℕ) (s : Shape) (page : List ℕ) (p e : ℕ) → first_is m (leads s) ≡ true → Spelt s page p e → get_or page p 0 ≡ m
spelt-first-is m s page p e f h = go (leads s) f (spelt-leading s page p e h)
  where
    go : (ls : List Lead) → first_is m ls ≡ true → Leading ls page p → get_or page p 0 ≡ m
    go [] f l = absurd (false≢true f)
    go (exactly b ∷ ls) f l = l.0 ∙ eqb-true b m f
    go (like is ∷ ls) f l = absurd (false≢true f)

by-first-is : (m : ℕ) (ss : List Shape) (page : List ℕ) (p e : ℕ) → all_first m ss ≡ true → SpeltBy ss page p e → get_or page p 0 ≡ m
by-first-is m [] page p e f h = absurd h
by-first-is m (s ∷ ss) page p e f h =
    let fs = and_parts (first_is m (leads s)) (all_first m ss) f in
    ⊎_elim (spelt-first-is m s page p e fs.0) (by-first-is m ss page p e fs.1) h

module _ (known : List ℕ → Bool) (page : List ℕ) (p e : ℕ) (on : p < length page) where
  delimiter-token : (token_at known page p ≡ (DelimiterLine, e) → DelimiterAt page p e) × (DelimiterAt page p e → token_at known page p ≡ (DelimiterLine, e))
  unfolding token_at
  delimiter-token = (
    λ h.
        ⊎_elim (⊎_elim (λ f. (delimiter-exact page p e).0 f.1) (λ f. cc)) (⊎_elim (λ f. cc) (⊎_elim (λ f. cc) (λ f. cc)))
        (traced known page p on DelimiterLine e refl h),
    λ r. found (of DelimiterLine (delimiter_end page p)) _ (word_token known page p) (DelimiterLine, e) (ap (of DelimiterLine) ((delimiter-exact page p e).1 r)),
  )

  entity-token : (token_at known page p ≡ (Entity, e) → EntityAt page p e) × (EntityAt page p e → token_at known page p ≡ (Entity, e))
  entity-token = (
    λ h.
        ⊎_elim (⊎_elim (λ f. cc) (λ f. (entity-exact page p e).0 f.1)) (⊎_elim (λ f. cc) (⊎_elim (λ f. cc) (λ f. cc)))
        (traced known page p on Entity e refl h),
    λ r.
        let here = by-first-is 38 references page p e refl r.1 in
        let t = word_token known page p in
        only known page p 38 here (tries MaybeEntity) refl
        ∙ found (of Entity (entity_end page p)) _ t (Entity, e) (ap (of Entity) ((entity-exact page p e).1 r)),
  )

  callout-token : (token_at known page p ≡ (CalloutNumber, e) → CalloutAt page p e) × (CalloutAt page p e → token_at known page p ≡ (CalloutNumber, e))
  callout-token = (
    λ h.
        ⊎_elim (⊎_elim (λ f. cc) (λ f. cc)) (⊎_elim (λ f. (callout-exact page p e).0 f.1) (⊎_elim (λ f. cc) (λ f. cc)))
        (traced known page p on CalloutNumber e refl h),
    λ r.
        let here = by-first-is 60 callouts page p e refl r in
        let t = word_token known page p in
        only known page p 60 here (tries MaybeCallout) refl
        ∙ found (of CalloutNumber (callout_end page p)) _ t (CalloutNumber, e) (ap (of CalloutNumber) ((callout-exact page p e).1 r)),
  )

  attr-ref-token : (token_at known page p ≡ (AttrRef, e) → AttrRefAt page p e) × (AttrRefAt page p e → token_at known page p ≡ (AttrRef, e))
  attr-ref-token = (
    λ h.
        ⊎_elim (⊎_elim (λ f. cc) (λ f. cc)) (⊎_elim (λ f. cc) (⊎_elim (λ f. (attr-ref-exact page p e).0 f.1) (λ f. cc)))
        (traced known page p on AttrRef e refl h),
    λ r.
        let here = spelt-first-is 123 braced_name page p e refl r.1 in
        let t = word_token known page p in
        only known page p 123 here (tries MaybeAttrRef) refl
        ∙ found (of AttrRef (attr_ref_end page p)) _ t (AttrRef, e) (ap (of AttrRef) ((attr-ref-exact page p e).1 r)),
  )

  directives : (token_at known page p ≡ (Directive, e) → DirectiveAt page p e) × (DirectiveAt page p e → token_at known page p ≡ (Directive, e))
  directives = (
    λ h.
        ⊎_elim (⊎_elim (λ f. cc) (λ f. cc)) (⊎_elim (λ f. cc) (⊎_elim (λ f. cc) (λ f. f.1)))
        (traced known page p on Directive e refl h),
    directive-token known page p e,
  )

pub told-tokens : Told
told-tokens =
    record { delimiters = delimiter-token; references = entity-token; callouts = callout-token; attributes = attr-ref-token; directives = directives }
