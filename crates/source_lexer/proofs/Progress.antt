-- A token has a byte at least, and ends on the page. Assumes nothing.
use Rattle.std.proofs.Common.{◌≡◌, ℕ, ◌+◌, ◌-◌, ◌<◌, ◌≤◌, Bool, true, false, cond, not, ◌&&◌, ◌||◌, eqb, List, [], ◌∷◌, length, get_or, Some, None, codes, Option, refl, arith}
use Rattle.std.specs.Char.{is_ascii_digit, is_ascii_whitespace}
use Rattle.std.specs.Str.{bytes_eq}
use Rattle.std.proofs.lemmas.Bool.{and_parts, or_parts, cond_both, eq-eqb}
use Rattle.page_bytes.specs.Classes.{blank, word_byte, stem_byte, domain_byte}
use Rattle.page_bytes.specs.Runs.{run_end}
use Rattle.page_bytes.proofs.RunLaws.{run_end-ge, run_end-le, run_end-gt}
use Rattle.marks.specs.Places.{is_at, text_at, class_at, line_start, escaped, mark_run, part}
use Rattle.marks.specs.Shape.{text, one, upto, Shape}
use Rattle.marks.specs.Spelling.{spelt_end, first_end}
use Rattle.token.specs.Tokens.{Token, of}
use Rattle.marks.specs.AttrRef.{braced_name, attr_ref_end}
use Rattle.marks.specs.Callout.{callouts, callout_end}
use Rattle.marks.specs.Delimiter.{delimits, delimiter_end}
use Rattle.marks.specs.Entity.{references, entity_end}
use Rattle.marks.specs.Newline.{newline_end}
use Rattle.source_lexer.specs.Marks.{repeated, same_marks, run_token, mark_kind, one_byte}
use Rattle.marks.specs.Term.{term_marks, ends_term, stopped_end, opens_term, term_end}
use Rattle.marks.specs.Wide.{wide_marks, pass_mark, punctuation_end, pass_end}
use Rattle.words.specs.Word.{stem_end, among, ends_with, directive_names, directive_follows, directive_token, slash_schemes, scheme_end, builtin_macros, ending_start, colon_token, domain_end, domain_fits, mail_token, word_from, word_token}
use Rattle.source_lexer.specs.Token.{candidates, token_at}
use Rattle.source_lexer.specs.Laws.{Progress}
use Rattle.token.specs.declared.kind.TokenKind.{TokenKind}
use Rattle.token.specs.declared.kind.TokenKind.TheVariants.{DelimiterLine, Newline, Entity, CalloutNumber, AttrRef, TermDelimiter, Punctuation, AttrPassDbl, Word, Directive, UriScheme, MacroName, MaybeEmail}
use Rattle.marks.proofs.Spells.{inside, class-inside}
use Rattle.std.specs.Option.{option_or}
use Rattle.words.proofs.Endings.{ending-shorter, not-among, part_length}
use Rattle.source_lexer.proofs.Ends.{Ends, TokenEnds, of-ends, first_ends, or-ends, or-token-ends, unless-ends, when-ends, when-token-ends}

-- a text that stands on the page ends on it
pub text-fits : (w page : List ℕ) (p : ℕ) → p ≤ length page → text_at w page p ≡ true → p + length w ≤ length page
text-fits [] page p h t = omega arith
text-fits (b ∷ w) page p h t =
    let ab = and_parts (is_at page p b) (text_at w page (p + 1)) t in
    let l = (inside page p b ab.0).0 in
    omega (arith, text-fits w page (p + 1) (omega arith) ab.1)

-- the end is at least from, and on the page
abbrev pub From : List ℕ → ℕ → ℕ → Type 0
From page from e = (from ≤ e) × (e ≤ length page)

ends-later : (page : List ℕ) (m n : ℕ) (o : Option ℕ) → m ≤ n → Ends (From page n) o → Ends (From page m) o
ends-later page m n None h e = tt
ends-later page m n (Some x) h e = omega arith

-- a shape's end is not before its start
pub spelt-from : (s : Shape) (page : List ℕ) (p : ℕ) → p ≤ length page → Ends (From page p) (spelt_end s page p)
spelt-from [] page p h = omega arith
spelt-from (text w ∷ s) page p h =
    when-ends (From page p) (text_at w page p) (spelt_end s page (p + length w))
    (λ t. ends-later page p (p + length w) _ (omega arith) (spelt-from s page (p + length w) (text-fits w page p h t)))
spelt-from (one is ∷ s) page p h =
    when-ends (From page p) (class_at is page p) (spelt_end s page (p + 1))
    (λ t. let l = (class-inside is page p t).0 in ends-later page p (p + 1) _ (omega arith) (spelt-from s page (p + 1) (omega arith)))
spelt-from (upto is w ∷ s) page p h =
    let q = run_end is page p in
    when-ends (From page p) (text_at w page q) (spelt_end s page (q + length w))
    (λ t.
    let l = text-fits w page q (run_end-le is page p h) t in
    ends-later page p (q + length w) _ (omega (arith, run_end-ge is page p)) (spelt-from s page (q + length w) l))

abbrev Onward : List ℕ → ℕ → ℕ → Type 0
Onward page p e = (p < e) × (e ≤ length page)

-- shapes that begin with a text that is not empty
abbrev pub Solid : Shape → Type 0
Solid [] = ⊥
Solid (text [] ∷ s) = ⊥
Solid (text (b ∷ w) ∷ s) = Unit {0}
Solid (one is ∷ s) = Unit {0}
Solid (upto is w ∷ s) = ⊥

abbrev pub AllSolid : List Shape → Type 0
AllSolid [] = Unit {0}
AllSolid (s ∷ ss) = Solid s × AllSolid ss

-- texts that are not empty
abbrev Filled : List ℕ → Type 0
Filled [] = ⊥
Filled (b ∷ w) = Unit {0}

abbrev AllFilled : List (List ℕ) → Type 0
AllFilled [] = Unit {0}
AllFilled (w ∷ ws) = Filled w × AllFilled ws

onward-later : (page : List ℕ) (m n : ℕ) (o : Option ℕ) → m < n → Ends (From page n) o → Ends (Onward page m) o
onward-later page m n None h e = tt
onward-later page m n (Some x) h e = omega arith

module _ (page : List ℕ) (p : ℕ) (on : p < length page) where
  spelt-onward : (s : Shape) → Solid s → Ends (Onward page p) (spelt_end s page p)
  spelt-onward [] g = absurd g
  spelt-onward (text [] ∷ s) g = absurd g
  spelt-onward (text (b ∷ w) ∷ s) g =
      when-ends (Onward page p) (text_at (b ∷ w) page p) (spelt_end s page (p + length (b ∷ w)))
      (λ t. onward-later page p (p + length (b ∷ w)) _ (omega arith) (spelt-from s page (p + length (b ∷ w)) (text-fits (b ∷ w) page p (omega arith) t)))
  spelt-onward (one is ∷ s) g =
      when-ends (Onward page p) (class_at is page p) (spelt_end s page (p + 1))
      (λ t. onward-later page p (p + 1) _ (omega arith) (spelt-from s page (p + 1) (omega arith)))
  spelt-onward (upto is w ∷ s) g = absurd g

  first-onward : (ss : List Shape) → AllSolid ss → Ends (Onward page p) (first_end ss page p)
  first-onward [] g = tt
  first-onward (s ∷ ss) g =
      or-ends (Onward page p) (spelt_end s page p) (first_end ss page p) (spelt-onward s g.0) (first-onward ss g.1)

  run-onward : (is : ℕ → Bool) → is (get_or page p 0) ≡ true → Onward page p (run_end is page p)
  run-onward is h = (run_end-gt is page p on h, run_end-le is page p (omega arith))

  mark-run-onward : Onward page p (mark_run page p)
  mark-run-onward = run-onward (λ b. eqb b (get_or page p 0)) (eq-eqb (get_or page p 0) (get_or page p 0) refl)

  delimiter-onward : Ends (Onward page p) (delimiter_end page p)
  delimiter-onward = when-ends (Onward page p) (line_start page p && delimits page (get_or page p 0) (mark_run page p - p) (mark_run page p)) (Some (mark_run page p)) (λ t. mark-run-onward)

  same-marks-onward : (k : Option TokenKind) → TokenEnds (Onward page p) (same_marks k page p)
  same-marks-onward None = tt
  same-marks-onward (Some k) = mark-run-onward

  runs-onward : TokenEnds (Onward page p) (run_token page p)
  runs-onward =
      cond_both (blank (get_or page p 0)) _ _ (TokenEnds (Onward page p)) (λ t. run-onward blank t)
      (λ f. cond_both (is_ascii_digit (get_or page p 0)) _ _ (TokenEnds (Onward page p)) (λ t. run-onward is_ascii_digit t)
      (λ g. same-marks-onward (repeated (get_or page p 0))))

  newline-onward : Ends (Onward page p) (newline_end page p)
  newline-onward =
      cond_both (is_at page p 10) _ _ (Ends (Onward page p)) (λ t. omega arith)
      (λ f. when-ends (Onward page p) (is_at page p 13) _
      (λ t. when-ends (Onward page p) (is_at page (p + 1) 10) _ (λ u. omega (arith, (inside page (p + 1) 10 u).0))))

  stopped-onward : (ws : List (List ℕ)) → AllFilled ws → Ends (Onward page p) (stopped_end ws page p)
  stopped-onward [] f = tt
  stopped-onward ([] ∷ ws) f = absurd f.0
  stopped-onward ((b ∷ w) ∷ ws) f =
      cond_both (text_at (b ∷ w) page p && ends_term page (p + length (b ∷ w))) _ _ (Ends (Onward page p))
      (λ t. let fits = text-fits (b ∷ w) page p (omega arith) (and_parts (text_at (b ∷ w) page p) _ t).0 in omega arith)
      (λ _. stopped-onward ws f.1)

  term-onward : Ends (Onward page p) (term_end page p)
  term-onward = unless-ends (Onward page p) (line_start page p) (stopped_end term_marks page p) (stopped-onward term_marks (tt, (tt, (tt, (tt, tt)))))

  one-byte-onward : (k : Option TokenKind) → TokenEnds (Onward page p) (one_byte k p)
  one-byte-onward None = tt
  one-byte-onward (Some k) = omega arith

  module _ (q : ℕ) (from : p < q) (to : q ≤ length page) where
    directive-onward : TokenEnds (Onward page p) (directive_token page p q)
    directive-onward =
        when-token-ends (Onward page p) (among directive_names (part page p q) && directive_follows page p q) _
        (λ t.
        let follows = (and_parts (among directive_names (part page p q)) (directive_follows page p q) t).1 in
        let colons = text-fits (codes "::") page q to (and_parts (text_at (codes "::") page q) _ follows).0 in
        cond_both {A = Token} (is_ascii_whitespace (get_or page (q + 2) 0)) (Word, q) (Directive, q + 2) (λ u. Onward page p u.1) (λ _. omega arith) (λ _. omega arith))

    scheme-onward : Ends (Onward page p) (scheme_end page p q)
    scheme-onward =
        cond_both (among slash_schemes (part page p q) && text_at (codes "://") page q) _ _ (Ends (Onward page p))
        (λ t. let fits = text-fits (codes "://") page q to (and_parts (among slash_schemes (part page p q)) (text_at (codes "://") page q) t).1 in omega arith)
        (λ f. when-ends (Onward page p) (bytes_eq (part page p q) (codes "file") && text_at (codes ":///") page q) _
        (λ t. let fits = text-fits (codes ":///") page q to (and_parts (bytes_eq (part page p q) (codes "file")) (text_at (codes ":///") page q) t).1 in omega arith))

    ending-onward : among builtin_macros (part page p q) ≡ false → Ends (Onward page p) (ending_start page p q)
    ending-onward none =
        let long = part_length page p q (omega arith) to in
        cond_both (ends_with (codes "footnote") (part page p q)) _ _ (Ends (Onward page p))
        (λ t. omega (arith, ending-shorter (codes "footnote") (part page p q) t (not-among builtin_macros (part page p q) (codes "footnote") none refl)))
        (λ f. when-ends (Onward page p) (ends_with (codes "indexterm") (part page p q)) _
        (λ t. omega (arith, ending-shorter (codes "indexterm") (part page p q) t (not-among builtin_macros (part page p q) (codes "indexterm") none refl))))

    name-onward : q < length page → (b : Bool) (o : Option ℕ) → (b ≡ false → Ends (Onward page p) o) → TokenEnds (Onward page p) (option_or (of MacroName (cond b (Some (q + 1)) None)) (of Word o))
    name-onward l true o h = omega arith
    name-onward l false o h = of-ends (Onward page p) Word o (h refl)

    colon-onward : (known : List ℕ → Bool) → TokenEnds (Onward page p) (colon_token known page p q)
    colon-onward known =
        when-token-ends (Onward page p) (is_at page q 58 && not (opens_term page q)) _
        (λ t.
        let at = inside page q 58 (and_parts (is_at page q 58) (not (opens_term page q)) t).0 in
        or-token-ends (Onward page p) (of UriScheme (scheme_end page p q)) _ (of-ends (Onward page p) UriScheme (scheme_end page p q) scheme-onward)
        (name-onward at.0 (among builtin_macros (part page p q) || known (part page p q)) (ending_start page p q)
        (λ n. ending-onward (or_parts (among builtin_macros (part page p q)) (known (part page p q)) n).0)))

    mail-onward : TokenEnds (Onward page p) (mail_token page q)
    mail-onward =
        when-token-ends (Onward page p) (is_at page q 64) _
        (λ t.
        let at = (inside page q 64 t).0 in
        cond_both {A = Token} (domain_fits page q) (MaybeEmail, domain_end page q) (Word, run_end word_byte page (q + 1)) (λ u. Onward page p u.1)
        (λ _. omega (arith, run_end-ge domain_byte page (q + 1), run_end-le domain_byte page (q + 1) (omega arith)))
        (λ _. omega (arith, run_end-ge word_byte page (q + 1), run_end-le word_byte page (q + 1) (omega arith))))

    word-from-onward : (known : List ℕ → Bool) → Onward page p (word_from known page p q).1
    word-from-onward known =
        first_ends (Onward page p) (directive_token page p q ∷ colon_token known page p q ∷ mail_token page q ∷ []) (Word, q)
        (directive-onward, (colon-onward known, (mail-onward, tt))) (from, to)

  word-onward : (known : List ℕ → Bool) → Onward page p (word_token known page p).1
  unfolding word_token
  word-onward known =
      word-from-onward (stem_end page p) (omega (arith, run_end-ge stem_byte page (p + 1))) (run_end-le stem_byte page (p + 1) (omega arith)) known

  token-onward : (known : List ℕ → Bool) → Onward page p (token_at known page p).1
  unfolding token_at
  token-onward known =
      let Q = Onward page p in
      first_ends Q (candidates page p) (word_token known page p) (
        of-ends Q DelimiterLine (delimiter_end page p) delimiter-onward,
        (
          runs-onward,
          (
            of-ends Q Newline (newline_end page p) newline-onward,
            (
              of-ends Q Entity (entity_end page p) (unless-ends Q (escaped page p) (first_end references page p) (first-onward references (tt, (tt, (tt, tt))))),
              (
                of-ends Q CalloutNumber (callout_end page p) (first-onward callouts (tt, (tt, (tt, (tt, tt))))),
                (
                  of-ends Q AttrRef (attr_ref_end page p) (unless-ends Q (escaped page p) (spelt_end braced_name page p) (spelt-onward braced_name tt)),
                  (
                    of-ends Q TermDelimiter (term_end page p) term-onward,
                    (
                      one-byte-onward (mark_kind (get_or page p 0)),
                      (
                        of-ends Q Punctuation (punctuation_end page p) (first-onward wide_marks (tt, (tt, (tt, (tt, (tt, tt)))))),
                        (of-ends Q AttrPassDbl (pass_end page p) (spelt-onward pass_mark tt), tt),
                      ),
                    ),
                  ),
                ),
              ),
            ),
          ),
        ),
      )
      (word-onward known)

pub progress : Progress
progress known page p on = token-onward page p on known
