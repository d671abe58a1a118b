-- A token that begins where a text may be cut ends where it may be cut. Assumes nothing.
use Rattle.std.proofs.Common.{◌≡◌, ℕ, ◌+◌, ◌-◌, ◌<◌, ◌≤◌, Bool, true, false, cond, not, ◌&&◌, ◌||◌, eqb, ltb, leb, ◌⊎◌, List, [], ◌∷◌, ◌++◌, length, get_or, drop, Some, None, codes, IsUtf8, Option, sym, refl, ap, ◌∙◌, subst, inl, inr, ⊎_elim, arith, length-drop}
use lib.Utf8.{encode}
use Rattle.std.specs.Option.{option_or}
use Rattle.std.specs.Char.{is_ascii_digit, is_ascii_whitespace, len_utf8}
use Rattle.std.specs.Str.{IsCharBoundary, bytes_eq}
use Rattle.std.proofs.lemmas.Slice.Eq.{bytes_eq-Decides}
use Rattle.std.proofs.lemmas.List.{drop_more, get_or-drop, get_or-take}
use Rattle.std.proofs.lemmas.Bool.{and_parts, and_from, lt-ltb, eq-eqb, or_cases, cond_both, ltb-true, eqb-true, leb-true, cases_lt}
use Rattle.std.proofs.lemmas.Str.{IsCharBoundary-end, IsCharBoundary-before_ascii, IsCharBoundary-after_ascii, IsCharBoundary-past_char, IsUtf8-drop}
use Rattle.std.proofs.lemmas.Bool.Decides.{nat_tests}
use Rattle.page_bytes.specs.Classes.{blank, word_byte, stem_byte, domain_byte}
use Rattle.page_bytes.specs.Runs.{run_end}
use Rattle.page_bytes.proofs.RunLaws.{run_end-ge, run_end-le, run_end-gt, run_end-all, run_end-ends}
use Rattle.marks.specs.Places.{is_at, text_at, class_at, line_start, escaped, mark_run, part}
use Rattle.marks.specs.Shape.{text, one, upto, Shape}
use Rattle.marks.specs.Spelling.{spelt_end, first_end}
use Rattle.token.specs.Tokens.{Token, of}
use Rattle.marks.specs.AttrRef.{braced_name, attr_ref_end}
use Rattle.marks.specs.Callout.{callouts, callout_end}
use Rattle.marks.specs.Delimiter.{delimits, delimiter_end}
use Rattle.marks.specs.Entity.{references, entity_end}
use Rattle.marks.specs.Newline.{newline_end}
use Rattle.source_lexer.specs.Marks.{repeated, same_marks, run_token, mark_kind, one_byte}
use Rattle.marks.specs.Term.{term_marks, ends_term, stopped_end, opens_term, term_end}
use Rattle.marks.specs.Wide.{space_or_quote, pass_mark, punctuation_end, pass_end}
use Rattle.words.specs.Word.{stem_end, among, ends_with, directive_names, directive_follows, directive_token, slash_schemes, scheme_end, builtin_macros, ending_start, colon_token, domain_end, domain_fits, mail_token, word_from, word_token}
use Rattle.source_lexer.specs.Token.{candidates, token_at}
use Rattle.source_lexer.specs.Laws.{CutsCleanly}
use Rattle.token.specs.declared.kind.TokenKind.{TokenKind}
use Rattle.token.specs.declared.kind.TokenKind.TheVariants.{DelimiterLine, Newline, Entity, CalloutNumber, AttrRef, TermDelimiter, Punctuation, AttrPassDbl, Word, Directive, UriScheme, MacroName, MaybeEmail}
use Rattle.words.proofs.Endings.{part_length}
use Rattle.marks.proofs.Spells.{inside, class-inside}
use Rattle.source_lexer.proofs.Ends.{Ends, TokenEnds, of-ends, first_ends, or-ends, or-token-ends, unless-ends, when-ends, when-token-ends}

-- the last byte of the text is ASCII
abbrev pub closes : List ℕ → Bool
closes [] = false
closes (b ∷ []) = ltb b 128
closes (b ∷ c ∷ w) = closes (c ∷ w)

-- the shape ends in such a text
abbrev pub closing : Shape → Bool
closing [] = false
closing (text w ∷ []) = closes w
closing (text w ∷ y ∷ s) = closing (y ∷ s)
closing (one is ∷ []) = false
closing (one is ∷ y ∷ s) = closing (y ∷ s)
closing (upto is w ∷ []) = closes w
closing (upto is w ∷ y ∷ s) = closing (y ∷ s)

abbrev all_close : List (List ℕ) → Bool
all_close [] = true
all_close (w ∷ ws) = closes w && all_close ws

abbrev pub all_closing : List Shape → Bool
all_closing [] = true
all_closing (s ∷ ss) = closing s && all_closing ss

text-cut : (w page : List ℕ) (p : ℕ) → IsUtf8 page → closes w ≡ true → text_at w page p ≡ true → IsCharBoundary page (p + length w)
text-cut [] page p u c t = absurd (let z : ◌≡◌ {A = Bool} false true = c in let y : ◌≡◌ {A = ℕ} 0 1 = cc in omega arith)
text-cut (b ∷ []) page p u c t =
    let at = inside page p b (and_parts (is_at page p b) true t).0 in
    let low = ltb-true b 128 c in
    IsCharBoundary-after_ascii page p u at.0 (omega (arith, at.1))
text-cut (b ∷ c ∷ w) page p u k t =
    let z : p + 1 + length (c ∷ w) ≡ p + length (b ∷ c ∷ w) = omega arith in
    subst (IsCharBoundary page) z (text-cut (c ∷ w) page (p + 1) u k (and_parts (is_at page p b) (text_at (c ∷ w) page (p + 1)) t).1)

-- a text stands at a place: what follows the place begins with it
pub text-drop : (w page : List ℕ) (p : ℕ) → text_at w page p ≡ true → drop p page ≡ w ++ drop (p + length w) page
text-drop [] page p t = let z : p ≡ p + 0 = omega arith in ap (λ k. drop k page) z
text-drop (b ∷ w) page p t =
    let ab = and_parts (is_at page p b) (text_at w page (p + 1)) t in
    let at = inside page p b ab.0 in
    let z : p + 1 + length w ≡ p + length (b ∷ w) = omega arith in
    drop_more page p 0 at.0 ∙ ap (λ x. x ∷ drop (p + 1) page) at.1 ∙ ap (λ l. b ∷ l) (text-drop w page (p + 1) ab.1) ∙ ap (λ k. b ∷ w ++ drop k page) z

module _ (page : List ℕ) (whole : IsUtf8 page) where
  spelt-cut : (s : Shape) (p : ℕ) → closing s ≡ true → Ends (IsCharBoundary page) (spelt_end s page p)
  spelt-cut [] p c = absurd (let y : ◌≡◌ {A = ℕ} 0 1 = cc in omega arith)
  spelt-cut (text w ∷ []) p c = when-ends (IsCharBoundary page) (text_at w page p) _ (λ t. text-cut w page p whole c t)
  spelt-cut (text w ∷ y ∷ s) p c = when-ends (IsCharBoundary page) (text_at w page p) _ (λ t. spelt-cut (y ∷ s) (p + length w) c)
  spelt-cut (one is ∷ []) p c = absurd (let y : ◌≡◌ {A = ℕ} 0 1 = cc in omega arith)
  spelt-cut (one is ∷ y ∷ s) p c = when-ends (IsCharBoundary page) (class_at is page p) _ (λ t. spelt-cut (y ∷ s) (p + 1) c)
  spelt-cut (upto is w ∷ []) p c = when-ends (IsCharBoundary page) (text_at w page (run_end is page p)) _ (λ t. text-cut w page (run_end is page p) whole c t)
  spelt-cut (upto is w ∷ y ∷ s) p c =
      when-ends (IsCharBoundary page) (text_at w page (run_end is page p)) _ (λ t. spelt-cut (y ∷ s) (run_end is page p + length w) c)

  first-cut : (ss : List Shape) (p : ℕ) → all_closing ss ≡ true → Ends (IsCharBoundary page) (first_end ss page p)
  first-cut [] p c = tt
  first-cut (s ∷ ss) p c =
      let cs = and_parts (closing s) (all_closing ss) c in
      or-ends (IsCharBoundary page) (spelt_end s page p) (first_end ss page p) (spelt-cut s p cs.0) (first-cut ss p cs.1)

  -- a run of ASCII bytes, which is not empty
  run-cut : (is : ℕ → Bool) (p : ℕ) → p < length page → ((b : ℕ) → is b ≡ true → b < 128) → p < run_end is page p → IsCharBoundary page (run_end is page p)
  run-cut is p on low more =
      let e = run_end is page p in
      let back : e - 1 + 1 ≡ e = omega arith in
      let to = run_end-le is page p (omega arith) in
      subst (IsCharBoundary page) back (IsCharBoundary-after_ascii page (e - 1) whole (omega arith) (low _ (run_end-all is page p (e - 1) (omega arith) (omega arith))))

  -- a run that only an ASCII byte ends
  word_cut : (is : ℕ → Bool) (p : ℕ) → p ≤ length page → ((b : ℕ) → is b ≡ false → b < 128) → IsCharBoundary page (run_end is page p)
  word_cut is p on low =
      let to = run_end-le is page p on in
      ⊎_elim
      (λ l. IsCharBoundary-before_ascii page (run_end is page p) l (low _ (run_end-ends is page p l)))
      (λ l. let z : length page ≡ run_end is page p = omega arith in subst (IsCharBoundary page) z (IsCharBoundary-end page))
      (cases_lt (run_end is page p) (length page))

-- the classes

blank-low : (b : ℕ) → blank b ≡ true → b < 128
blank-low b h = grind (arith, nat_tests)

digit_low : (b : ℕ) → is_ascii_digit b ≡ true → b < 128
digit_low b h = grind (arith, nat_tests)

domain-low : (b : ℕ) → domain_byte b ≡ true → b < 128
domain-low b h = grind (arith, nat_tests)

stem-stop-low : (b : ℕ) → stem_byte b ≡ false → b < 128
stem-stop-low b h = grind (arith, nat_tests)

word-stop-low : (b : ℕ) → word_byte b ≡ false → b < 128
word-stop-low b h = grind (arith, nat_tests)

line_low : (page : List ℕ) (m n e : ℕ) → delimits page m n e ≡ true → m < 128
line_low page m n e h = grind (arith, nat_tests)

repeated-low : (m : ℕ) (k : TokenKind) → repeated m ≡ Some k → m < 128
repeated-low m k h = grind (arith, nat_tests)

mark-low : (m : ℕ) (k : TokenKind) → mark_kind m ≡ Some k → m < 128
mark-low m k h = grind (arith, nat_tests)

-- the marks past ASCII

text-three : (a b x : ℕ) (page : List ℕ) (p : ℕ) → text_at (a ∷ b ∷ []) page p ≡ true → is_at page (p + 2) x ≡ true → text_at (a ∷ b ∷ x ∷ []) page p ≡ true
text-three a b x page p t h =
    let ab = and_parts (is_at page p a) (text_at (b ∷ []) page (p + 1)) t in
    let bb = and_parts (is_at page (p + 1) b) true ab.1 in
    let z : p + 2 ≡ p + 1 + 1 = omega arith in
    and_from (is_at page p a) _ ab.0
    (and_from (is_at page (p + 1) b) _ bb.0 (and_from (is_at page (p + 1 + 1) x) true (subst (λ k. is_at page k x ≡ true) z h) refl))

module _ (page : List ℕ) (whole : IsUtf8 page) (p : ℕ) (on : p < length page) (cut : IsCharBoundary page p) where
  char-cut : (c : ℕ) (w : List ℕ) → encode c ≡ w → len_utf8 c ≡ length w → text_at w page p ≡ true → IsCharBoundary page (p + length w)
  char-cut c w e l t =
      let r = drop (p + length w) page in
      subst (λ n. IsCharBoundary page (p + n)) l
      (IsCharBoundary-past_char page r p c (omega arith) (IsUtf8-drop page p whole cut) (text-drop w page p t ∙ ap (λ v. v ++ r) (sym e)))

  third : (x c : ℕ) → encode c ≡ 0xe2 ∷ 0x80 ∷ x ∷ [] → len_utf8 c ≡ 3 → text_at (0xe2 ∷ 0x80 ∷ []) page p ≡ true → p + 2 < length page → eqb (get_or page (p + 2) 0) x ≡ true → IsCharBoundary page (p + 2 + 1)
  third x c e l t h k =
      let z : p + 3 ≡ p + 2 + 1 = omega arith in
      subst (IsCharBoundary page) z
      (char-cut c (0xe2 ∷ 0x80 ∷ x ∷ []) e l (text-three 0xe2 0x80 x page p t (and_from (ltb (p + 2) (length page)) (eqb (get_or page (p + 2) 0) x) (lt-ltb (p + 2) (length page) h) k)))

  quote-cut : text_at (0xe2 ∷ 0x80 ∷ []) page p ≡ true → class_at space_or_quote page (p + 2) ≡ true → IsCharBoundary page (p + 2 + 1)
  unfolding encode
  quote-cut t k =
      let at = class-inside space_or_quote page (p + 2) k in
      ⊎_elim
      (⊎_elim
      (⊎_elim (third 0x87 0x2007 refl refl t at.0) (third 0x98 0x2018 refl refl t at.0))
      (⊎_elim (third 0x99 0x2019 refl refl t at.0) (third 0x9c 0x201c refl refl t at.0)))
      (⊎_elim (third 0x9d 0x201d refl refl t at.0) (third 0xaf 0x202f refl refl t at.0))
      (parts (get_or page (p + 2) 0) at.1)
    where
      parts : (b : ℕ) → space_or_quote b ≡ true → (((eqb b 0x87 ≡ true) ⊎ (eqb b 0x98 ≡ true)) ⊎ ((eqb b 0x99 ≡ true) ⊎ (eqb b 0x9c ≡ true))) ⊎ ((eqb b 0x9d ≡ true) ⊎ (eqb b 0xaf ≡ true))
      parts b h =
          ⊎_elim
          (λ f. inl (⊎_elim (λ g. inl (or_cases _ _ g)) (λ g. inr (or_cases _ _ g)) (or_cases (eqb b 0x87 || eqb b 0x98) (eqb b 0x99 || eqb b 0x9c) f)))
          (λ f. inr (or_cases _ _ f))
          (or_cases ((eqb b 0x87 || eqb b 0x98) || (eqb b 0x99 || eqb b 0x9c)) (eqb b 0x9d || eqb b 0xaf) h)

  exact-cut : (c : ℕ) (w : List ℕ) → encode c ≡ w → len_utf8 c ≡ length w → Ends (IsCharBoundary page) (spelt_end (text w ∷ []) page p)
  exact-cut c w e l = when-ends (IsCharBoundary page) (text_at w page p) _ (char-cut c w e l)

  wide-cut : Ends (IsCharBoundary page) (punctuation_end page p)
  unfolding encode
  wide-cut =
      let Q = IsCharBoundary page in
      or-ends Q _ _ (exact-cut 0xa0 (0xc2 ∷ 0xa0 ∷ []) refl refl)
      (or-ends Q _ _ (when-ends Q (text_at (0xe2 ∷ 0x80 ∷ []) page p) _ (λ t. when-ends Q (class_at space_or_quote page (p + 2)) _ (quote-cut t)))
      (or-ends Q _ _ (exact-cut 0x2060 (0xe2 ∷ 0x81 ∷ 0xa0 ∷ []) refl refl)
      (or-ends Q _ _ (exact-cut 0x3000 (0xe3 ∷ 0x80 ∷ 0x80 ∷ []) refl refl)
      (or-ends Q _ _ (exact-cut 0xfeff (0xef ∷ 0xbb ∷ 0xbf ∷ []) refl refl) tt))))

  mark-run-cut : get_or page p 0 < 128 → IsCharBoundary page (mark_run page p)
  mark-run-cut low =
      let m = get_or page p 0 in
      run-cut page whole (λ b. eqb b m) p on (λ b e. omega (arith, eqb-true b m e)) (run_end-gt (λ b. eqb b m) page p on (eq-eqb m m refl))

  delimiter-cut : Ends (IsCharBoundary page) (delimiter_end page p)
  delimiter-cut =
      let m = get_or page p 0 in
      let e = mark_run page p in
      when-ends (IsCharBoundary page) (line_start page p && delimits page m (e - p) e) (Some e)
      (λ t. mark-run-cut (line_low page m (e - p) e (and_parts (line_start page p) (delimits page m (e - p) e) t).1))

  same-marks-cut : (k : Option TokenKind) → repeated (get_or page p 0) ≡ k → TokenEnds (IsCharBoundary page) (same_marks k page p)
  same-marks-cut None h = tt
  same-marks-cut (Some k) h = mark-run-cut (repeated-low (get_or page p 0) k h)

  runs-cut : TokenEnds (IsCharBoundary page) (run_token page p)
  runs-cut =
      let Q = IsCharBoundary page in
      cond_both (blank (get_or page p 0)) _ _ (TokenEnds Q) (λ t. run-cut page whole blank p on blank-low (run_end-gt blank page p on t))
      (λ f. cond_both (is_ascii_digit (get_or page p 0)) _ _ (TokenEnds Q) (λ t. run-cut page whole is_ascii_digit p on digit_low (run_end-gt is_ascii_digit page p on t))
      (λ g. same-marks-cut (repeated (get_or page p 0)) refl))

  -- behind an ASCII byte
  byte_cut : (i b : ℕ) → b < 128 → is_at page i b ≡ true → IsCharBoundary page (i + 1)
  byte_cut i b low t = let at = inside page i b t in IsCharBoundary-after_ascii page i whole at.0 (omega (arith, at.1))

  newline-cut : Ends (IsCharBoundary page) (newline_end page p)
  newline-cut =
      cond_both (is_at page p 10) _ _ (Ends (IsCharBoundary page)) (λ t. byte_cut p 10 (omega arith) t)
      (λ f. when-ends (IsCharBoundary page) (is_at page p 13) _
      (λ t. when-ends (IsCharBoundary page) (is_at page (p + 1) 10) _ (λ u. byte_cut (p + 1) 10 (omega arith) u)))

  stopped-cut : (ws : List (List ℕ)) → all_close ws ≡ true → Ends (IsCharBoundary page) (stopped_end ws page p)
  stopped-cut [] c = tt
  stopped-cut (w ∷ ws) c =
      let cs = and_parts (closes w) (all_close ws) c in
      cond_both (text_at w page p && ends_term page (p + length w)) _ _ (Ends (IsCharBoundary page))
      (λ t. text-cut w page p whole cs.0 (and_parts (text_at w page p) _ t).0)
      (λ _. stopped-cut ws cs.1)

  term-cut : Ends (IsCharBoundary page) (term_end page p)
  term-cut = unless-ends (IsCharBoundary page) (line_start page p) (stopped_end term_marks page p) (stopped-cut term_marks refl)

  one-byte-cut : (k : Option TokenKind) → mark_kind (get_or page p 0) ≡ k → TokenEnds (IsCharBoundary page) (one_byte k p)
  one-byte-cut None h = tt
  one-byte-cut (Some k) h = IsCharBoundary-after_ascii page p whole on (mark-low (get_or page p 0) k h)

  module _ (q : ℕ) (from : p < q) (to : q ≤ length page) (stem : IsCharBoundary page q) where
    directive-cut : TokenEnds (IsCharBoundary page) (directive_token page p q)
    directive-cut =
        when-token-ends (IsCharBoundary page) (among directive_names (part page p q) && directive_follows page p q) _
        (λ t.
        let follows = (and_parts (among directive_names (part page p q)) (directive_follows page p q) t).1 in
        cond_both {A = Token} (is_ascii_whitespace (get_or page (q + 2) 0)) (Word, q) (Directive, q + 2) (λ u. IsCharBoundary page u.1) (λ _. stem)
        (λ _. text-cut (codes "::") page q whole refl (and_parts (text_at (codes "::") page q) _ follows).0))

    scheme-cut : Ends (IsCharBoundary page) (scheme_end page p q)
    scheme-cut =
        cond_both (among slash_schemes (part page p q) && text_at (codes "://") page q) _ _ (Ends (IsCharBoundary page))
        (λ t. text-cut (codes "://") page q whole refl (and_parts (among slash_schemes (part page p q)) (text_at (codes "://") page q) t).1)
        (λ f. when-ends (IsCharBoundary page) (bytes_eq (part page p q) (codes "file") && text_at (codes ":///") page q) _
        (λ t. text-cut (codes ":///") page q whole refl (and_parts (bytes_eq (part page p q) (codes "file")) (text_at (codes ":///") page q) t).1))

    -- where an ending of ASCII begins
    ending-cut : (b : ℕ) (w : List ℕ) → b < 128 → ends_with (b ∷ w) (part page p q) ≡ true → IsCharBoundary page (q - length (b ∷ w))
    ending-cut b w low t =
        let v = part page p q in
        let n = length (b ∷ w) in
        let d = (bytes_eq-Decides (drop (length v - n) v) (b ∷ w)).0 t in
        let long = part_length page p q (omega arith) to in
        let l = ap length d in
        let i = length v - n in
        let read : get_or page (p + (i + 0)) 0 ≡ b =
        sym (get_or-drop p page (i + 0) 0) ∙ sym (get_or-take (q - p) (drop p page) (i + 0) 0 (omega (arith, length-drop i v))) ∙ sym (get_or-drop i v 0 0) ∙ ap (λ xs. get_or xs 0 0) d in
        let z : p + (i + 0) ≡ q - n = omega (arith, length-drop i v) in
        IsCharBoundary-before_ascii page (q - n) (omega (arith, length-drop i v)) (omega (arith, ap (λ k. get_or page k 0) z))

    name-cut : is_at page q 58 ≡ true → (b : Bool) → TokenEnds (IsCharBoundary page) (option_or (of MacroName (cond b (Some (q + 1)) None)) (of Word (ending_start page p q)))
    name-cut t true = byte_cut q 58 (omega arith) t
    name-cut t false =
        of-ends (IsCharBoundary page) Word (ending_start page p q)
        (cond_both (ends_with (codes "footnote") (part page p q)) _ _ (Ends (IsCharBoundary page)) (λ e. ending-cut 102 (codes "ootnote") (omega arith) e)
        (λ f. when-ends (IsCharBoundary page) (ends_with (codes "indexterm") (part page p q)) _ (λ e. ending-cut 105 (codes "ndexterm") (omega arith) e)))

    colon-cut : (known : List ℕ → Bool) → TokenEnds (IsCharBoundary page) (colon_token known page p q)
    colon-cut known =
        when-token-ends (IsCharBoundary page) (is_at page q 58 && not (opens_term page q)) _
        (λ t.
        or-token-ends (IsCharBoundary page) (of UriScheme (scheme_end page p q)) _ (of-ends (IsCharBoundary page) UriScheme (scheme_end page p q) scheme-cut)
        (name-cut (and_parts (is_at page q 58) (not (opens_term page q)) t).0 (among builtin_macros (part page p q) || known (part page p q))))

    mail-cut : TokenEnds (IsCharBoundary page) (mail_token page q)
    mail-cut =
        when-token-ends (IsCharBoundary page) (is_at page q 64) _
        (λ t.
        let at = (inside page q 64 t).0 in
        cond_both {A = Token} (domain_fits page q) (MaybeEmail, domain_end page q) (Word, run_end word_byte page (q + 1)) (λ u. IsCharBoundary page u.1)
        (λ f.
        let long = leb-true (q + 5) (domain_end page q) (and_parts (leb (q + 5) (domain_end page q)) _ f).0 in
        domain-cut at (omega arith))
        (λ _. word_cut page whole word_byte (q + 1) (omega arith) word-stop-low))
      where
        domain-cut : q < length page → q + 1 < domain_end page q → IsCharBoundary page (domain_end page q)
        domain-cut at more = run-cut page whole domain_byte (q + 1) (omega (arith, run_end-le domain_byte page (q + 1) (omega arith))) domain-low more

    word-from-cut : (known : List ℕ → Bool) → IsCharBoundary page (word_from known page p q).1
    word-from-cut known =
        first_ends (IsCharBoundary page) (directive_token page p q ∷ colon_token known page p q ∷ mail_token page q ∷ []) (Word, q)
        (directive-cut, (colon-cut known, (mail-cut, tt))) stem

  token-cut : (known : List ℕ → Bool) → IsCharBoundary page (token_at known page p).1
  unfolding token_at word_token
  token-cut known =
      let Q = IsCharBoundary page in
      first_ends Q (candidates page p) (word_token known page p) (
        of-ends Q DelimiterLine (delimiter_end page p) delimiter-cut,
        (
          runs-cut,
          (
            of-ends Q Newline (newline_end page p) newline-cut,
            (
              of-ends Q Entity (entity_end page p) (unless-ends (IsCharBoundary page) (escaped page p) (first_end references page p) (first-cut page whole references p refl)),
              (
                of-ends Q CalloutNumber (callout_end page p) (first-cut page whole callouts p refl),
                (
                  of-ends Q AttrRef (attr_ref_end page p) (unless-ends (IsCharBoundary page) (escaped page p) (spelt_end braced_name page p) (spelt-cut page whole braced_name p refl)),
                  (
                    of-ends Q TermDelimiter (term_end page p) term-cut,
                    (
                      one-byte-cut (mark_kind (get_or page p 0)) refl,
                      (
                        of-ends Q Punctuation (punctuation_end page p) wide-cut,
                        (of-ends Q AttrPassDbl (pass_end page p) (spelt-cut page whole pass_mark p refl), tt),
                      ),
                    ),
                  ),
                ),
              ),
            ),
          ),
        ),
      )
      (word-from-cut (stem_end page p) (omega (arith, run_end-ge stem_byte page (p + 1))) (run_end-le stem_byte page (p + 1) (omega arith)) (word_cut page whole stem_byte (p + 1) (omega arith) stem-stop-low) known)

pub cuts-cleanly : CutsCleanly
cuts-cleanly known page p whole on cut = token-cut page whole p on cut known
