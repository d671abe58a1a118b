-- The token by its first byte is the first candidate that fits. Assumes nothing.
use Rattle.std.proofs.Common.{◌≡◌, ℕ, ◌+◌, ◌-◌, ◌<◌, Bool, true, false, cond, not, ◌&&◌, eqb, List, [], ◌∷◌, length, get_or, Some, None, Option, sym, refl, ap, ◌∙◌, arith}
use Rattle.std.specs.Char.{is_ascii_digit}
use Rattle.std.proofs.lemmas.Bool.{and_parts, not-true, cond-true, cond-false, eqb-true, eq-eqb}
use Rattle.std.proofs.lemmas.Bool.Decides.{nat_tests}
use Rattle.page_bytes.specs.Classes.{blank}
use Rattle.page_bytes.specs.Runs.{run_end}
use Rattle.page_bytes.proofs.Tabled.{same-values}
use Rattle.page_bytes.proofs.RunLaws.{run_end-more}
use Rattle.marks.specs.Places.{is_at, line_start, mark_run}
use Rattle.token.specs.Tokens.{Token, of, first_of}
use Rattle.marks.specs.AttrRef.{attr_ref_end}
use Rattle.marks.specs.Callout.{callout_end}
use Rattle.marks.specs.Delimiter.{delimits, delimiter_end}
use Rattle.marks.specs.Entity.{entity_end}
use Rattle.source_lexer.specs.Chosen.{rule_of, same_end, or_mark, by_rule}
use Rattle.source_lexer.specs.Marks.{repeated, same_marks, run_token, mark_kind, one_byte, mark_token}
use Rattle.marks.specs.Term.{term_end}
use Rattle.source_lexer.specs.Token.{candidates, token_at}
use Rattle.words.specs.Word.{word_token}
use Rattle.source_lexer.specs.declared.rule.Rule.{Rule}
use Rattle.source_lexer.specs.declared.rule.Rule.TheVariants.{OnlyWord, Blanks, Number, LineFeed, CarriageReturn, Run, LineOrRun, LineOrMark, MaybeEntity, MaybeCallout, MaybeAttrRef, MaybeTerm, Mark, MaybePunctuation, MaybePass}
use Rattle.token.specs.declared.kind.TokenKind.{TokenKind}
use Rattle.token.specs.declared.kind.TokenKind.TheVariants.{DelimiterLine, Newline, Entity, CalloutNumber, AttrRef, TermDelimiter, Whitespace, Digits, Ampersand, LessThan, OpenBrace}
use Rattle.source_lexer.proofs.RuledOut.{tries, covers, out, pick, only}

-- what a byte of the rule is known to be
abbrev sure : Rule → ℕ → Bool
sure OnlyWord b = true
sure Blanks b = blank b
sure Number b = is_ascii_digit b && not (blank b)
sure LineFeed b = eqb b 10
sure CarriageReturn b = true
sure (Run k) b = not (blank b) && not (is_ascii_digit b)
sure (LineOrRun k) b = not (blank b) && not (is_ascii_digit b)
sure (LineOrMark k) b = true
sure MaybeEntity b = eqb b 38
sure MaybeCallout b = eqb b 60
sure MaybeAttrRef b = eqb b 123
sure (MaybeTerm k) b = true
sure (Mark k) b = true
sure MaybePunctuation b = true
sure MaybePass b = true

-- the kind that a rule has, and what it is to be
abbrev kind_of : Rule → Option TokenKind
kind_of OnlyWord = None
kind_of Blanks = None
kind_of Number = None
kind_of LineFeed = None
kind_of CarriageReturn = None
kind_of (Run k) = Some k
kind_of (LineOrRun k) = Some k
kind_of (LineOrMark k) = Some k
kind_of MaybeEntity = None
kind_of MaybeCallout = None
kind_of MaybeAttrRef = None
kind_of (MaybeTerm k) = Some k
kind_of (Mark k) = Some k
kind_of MaybePunctuation = None
kind_of MaybePass = None

abbrev claimed : Rule → ℕ → Option TokenKind
claimed OnlyWord b = None
claimed Blanks b = None
claimed Number b = None
claimed LineFeed b = None
claimed CarriageReturn b = None
claimed (Run k) b = repeated b
claimed (LineOrRun k) b = repeated b
claimed (LineOrMark k) b = mark_kind b
claimed MaybeEntity b = None
claimed MaybeCallout b = None
claimed MaybeAttrRef b = None
claimed (MaybeTerm k) b = mark_kind b
claimed (Mark k) b = mark_kind b
claimed MaybePunctuation b = None
claimed MaybePass b = None

-- every byte's rule has the kind that it is to have: one list of values, which antt computes
rule-kind : (b : ℕ) → b < 256 → kind_of (rule_of b) ≡ claimed (rule_of b) b
rule-kind b h = same-values (λ m. kind_of (rule_of m)) (λ m. claimed (rule_of m) m) None 256 refl b h

abbrev right : Rule → ℕ → Bool
right l b = sure l b && covers (tries l) (out b)

-- every byte's rule is right
pub rule-right : (b : ℕ) → b < 256 → right (rule_of b) b ≡ true
rule-right b h = same-values (λ m. right (rule_of m) m) (λ m. true) true 256 refl b h

module _ (page : List ℕ) (p : ℕ) (on : p < length page) (b : ℕ) (here : get_or page p 0 ≡ b) where
  -- a run that is no blank and no digit is one of a mark
  mark-run : not (blank b) && not (is_ascii_digit b) ≡ true → run_token page p ≡ same_marks (repeated (get_or page p 0)) page p
  mark-run h =
      let ab = and_parts (not (blank b)) (not (is_ascii_digit b)) h in
      cond-false (blank (get_or page p 0)) (Some (Whitespace, run_end blank page p)) _ (ap blank here ∙ not-true (blank b) ab.0)
      ∙ cond-false (is_ascii_digit (get_or page p 0)) (Some (Digits, run_end is_ascii_digit page p)) _ (ap is_ascii_digit here ∙ not-true (is_ascii_digit b) ab.1)

  or-mark : (o : Option Token) (k : TokenKind) (t : Token) → first_of (o ∷ Some (k, p + 1) ∷ []) t ≡ or_mark k p o
  or-mark None k t = refl
  or-mark (Some u) k t = refl

  single : (k : TokenKind) → Some k ≡ mark_kind b → mark_token page p ≡ Some (k, p + 1)
  single k e = ap (λ x. one_byte (mark_kind x) p) here ∙ ap (λ o. one_byte o p) (sym e)

  mark_of : (m : ℕ) → eqb b m ≡ true → mark_token page p ≡ one_byte (mark_kind m) p
  mark_of m h = ap (λ x. one_byte (mark_kind x) p) (here ∙ eqb-true b m h)

  same-run : (k : TokenKind) → not (blank b) && not (is_ascii_digit b) ≡ true → Some k ≡ repeated b → run_token page p ≡ Some (k, same_end page p)
  same-run k h e =
      mark-run h ∙ ap (λ x. same_marks (repeated x) page p) here ∙ ap (λ o. same_marks o page p) (sym e)
      ∙ ap (λ n. Some (k, n)) (sym (run_end-more (λ x. eqb x (get_or page p 0)) page p on (eq-eqb (get_or page p 0) (get_or page p 0) refl)))

  reached : (l : Rule) (t : Token) → sure l b ≡ true → kind_of l ≡ claimed l b → first_of (pick (tries l) (candidates page p)) t ≡ first_of (by_rule l page p ∷ []) t
  reached OnlyWord t h e = refl
  reached Blanks t h e =
      ap (λ o. first_of (o ∷ []) t)
      (cond-true (blank (get_or page p 0)) (Some (Whitespace, run_end blank page p)) _ (ap blank here ∙ h)
      ∙ ap (λ n. Some (Whitespace, n)) (sym (run_end-more blank page p on (ap blank here ∙ h))))
  reached Number t h e =
      let ab = and_parts (is_ascii_digit b) (not (blank b)) h in
      ap (λ o. first_of (o ∷ []) t)
      (cond-false (blank (get_or page p 0)) (Some (Whitespace, run_end blank page p)) _ (ap blank here ∙ not-true (blank b) ab.1)
      ∙ cond-true (is_ascii_digit (get_or page p 0)) (Some (Digits, run_end is_ascii_digit page p)) _ (ap is_ascii_digit here ∙ ab.0)
      ∙ ap (λ n. Some (Digits, n)) (sym (run_end-more is_ascii_digit page p on (ap is_ascii_digit here ∙ ab.0))))
  reached LineFeed t h e =
      let lf : is_at page p 10 ≡ true = grind (arith, nat_tests) in
      ap (λ o. first_of (of Newline o ∷ []) t) (cond-true (is_at page p 10) (Some (p + 1)) _ lf)
  reached CarriageReturn t h e = refl
  reached (Run k) t h e = ap (λ o. first_of (o ∷ []) t) (same-run k h e)
  reached (LineOrRun k) t h e =
      ap (λ o. first_of (of DelimiterLine (delimiter_end page p) ∷ o ∷ []) t) (same-run k h e)
      ∙ ap (λ n. first_of (of DelimiterLine (cond (line_start page p && delimits page (get_or page p 0) (n - p) n) (Some n) None) ∷ Some (k, same_end page p) ∷ []) t) (sym whole_run)
      ∙ one_end (line_start page p && delimits page (get_or page p 0) (same_end page p - p) (same_end page p)) (same_end page p)
    where
      whole_run : same_end page p ≡ mark_run page p
      whole_run = run_end-more (λ x. eqb x (get_or page p 0)) page p on (eq-eqb (get_or page p 0) (get_or page p 0) refl)

      one_end : (b : Bool) (n : ℕ) → first_of (of DelimiterLine (cond b (Some n) None) ∷ Some (k, n) ∷ []) t ≡ (cond b DelimiterLine k, n)
      one_end true n = refl
      one_end false n = refl
  reached (LineOrMark k) t h e = ap (λ o. first_of (of DelimiterLine (delimiter_end page p) ∷ o ∷ []) t) (single k e) ∙ or-mark (of DelimiterLine (delimiter_end page p)) k t
  reached MaybeEntity t h e = ap (λ o. first_of (of Entity (entity_end page p) ∷ o ∷ []) t) (mark_of 38 h) ∙ or-mark (of Entity (entity_end page p)) Ampersand t
  reached MaybeCallout t h e = ap (λ o. first_of (of CalloutNumber (callout_end page p) ∷ o ∷ []) t) (mark_of 60 h) ∙ or-mark (of CalloutNumber (callout_end page p)) LessThan t
  reached MaybeAttrRef t h e = ap (λ o. first_of (of AttrRef (attr_ref_end page p) ∷ o ∷ []) t) (mark_of 123 h) ∙ or-mark (of AttrRef (attr_ref_end page p)) OpenBrace t
  reached (MaybeTerm k) t h e = ap (λ o. first_of (of TermDelimiter (term_end page p) ∷ o ∷ []) t) (single k e) ∙ or-mark (of TermDelimiter (term_end page p)) k t
  reached (Mark k) t h e = ap (λ o. first_of (o ∷ []) t) (single k e)
  reached MaybePunctuation t h e = refl
  reached MaybePass t h e = refl

-- the token by its first byte is the first that fits
pub token-by-rule : (known : List ℕ → Bool) (page : List ℕ) (p : ℕ) (l : Rule) → p < length page → l ≡ rule_of (get_or page p 0) → get_or page p 0 < 256 → first_of (by_rule l page p ∷ []) (word_token known page p) ≡ token_at known page p
token-by-rule known page p l on e h =
    let b = get_or page p 0 in
    let w = word_token known page p in
    let right = and_parts (sure (rule_of b) b) (covers (tries (rule_of b)) (out b)) (rule-right b h) in
    ap (λ m. first_of (by_rule m page p ∷ []) w) e
    ∙ sym (only known page p b refl (tries (rule_of b)) right.1 ∙ reached page p on b refl (rule_of b) w right.0 (rule-kind b h))
