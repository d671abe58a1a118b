-- Which candidates the byte at a place rules out. Assumes nothing.
use Rattle.std.proofs.Common.{◌≡◌, ℕ, ◌+◌, ◌-◌, Bool, true, false, cond, ◌&&◌, ◌||◌, eqb, List, [], ◌∷◌, length, get_or, Some, None, Option, refl, ap, ◌∙◌}
use Rattle.std.specs.Char.{is_ascii_digit}
use Rattle.std.proofs.lemmas.Bool.{cond-false, and_left, and_right, or_parts, true≢false}
use Rattle.page_bytes.specs.Classes.{blank}
use Rattle.page_bytes.specs.Runs.{run_end}
use Rattle.marks.specs.Places.{is_at, text_at, line_start, escaped, mark_run}
use Rattle.marks.specs.Spelling.{spelt_end, first_end}
use Rattle.marks.specs.AttrRef.{braced_name, attr_ref_end}
use Rattle.marks.specs.Callout.{callouts, callout_end}
use Rattle.marks.specs.Delimiter.{delimits, delimiter_end}
use Rattle.marks.specs.Entity.{references, entity_end}
use Rattle.marks.specs.Newline.{newline_end}
use Rattle.source_lexer.specs.Marks.{repeated, same_marks, run_token, mark_kind, one_byte, mark_token}
use Rattle.marks.specs.Term.{term_marks, ends_term, stopped_end, term_mark_end, term_end}
use Rattle.marks.specs.Wide.{wide_marks, pass_mark, punctuation_end, pass_end}
use Rattle.token.specs.declared.kind.TokenKind.TheVariants.{Whitespace, Digits}
use Rattle.marks.proofs.Spells.{not_at, exactly, apart, apart_from, leads, first-none, spelt-none}

-- a text of the list begins with the byte, or is empty
abbrev pub begins : ℕ → List (List ℕ) → Bool
begins m [] = false
begins m ([] ∷ ws) = true
begins m ((b ∷ w) ∷ ws) = eqb m b || begins m ws

pub unless-none : (b : Bool) (o : Option ℕ) → o ≡ None → cond b None o ≡ None
unless-none true o h = refl
unless-none false o h = h

module _ (page : List ℕ) (p m : ℕ) (here : get_or page p 0 ≡ m) where
  pub no-delimiter : ((n e : ℕ) → delimits page m n e ≡ false) → delimiter_end page p ≡ None
  no-delimiter h =
      let e = mark_run page p in
      cond-false (line_start page p && delimits page (get_or page p 0) (e - p) e) (Some e) None
      (and_right (line_start page p) _ (ap (λ x. delimits page x (e - p) e) here ∙ h (e - p) e))

  pub no_run : blank m ≡ false → is_ascii_digit m ≡ false → repeated m ≡ None → run_token page p ≡ None
  no_run b d r =
      cond-false (blank (get_or page p 0)) (Some (Whitespace, run_end blank page p)) _ (ap blank here ∙ b)
      ∙ cond-false (is_ascii_digit (get_or page p 0)) (Some (Digits, run_end is_ascii_digit page p)) _ (ap is_ascii_digit here ∙ d)
      ∙ ap (λ k. same_marks k page p) (ap repeated here ∙ r)

  pub no-newline : eqb m 10 ≡ false → eqb m 13 ≡ false → newline_end page p ≡ None
  no-newline l c =
      cond-false (is_at page p 10) (Some (p + 1)) _ (not_at page p m 10 here l) ∙ cond-false (is_at page p 13) _ None (not_at page p m 13 here c)

  pub no-entity : apart_from (exactly m ∷ []) references ≡ true → entity_end page p ≡ None
  no-entity a = unless-none (escaped page p) (first_end references page p) (first-none references m page p refl a here)

  pub no-callout : apart_from (exactly m ∷ []) callouts ≡ true → callout_end page p ≡ None
  no-callout a = first-none callouts m page p refl a here

  pub no-attr-ref : apart (exactly m ∷ []) (leads braced_name) ≡ true → attr_ref_end page p ≡ None
  no-attr-ref a = unless-none (escaped page p) (spelt_end braced_name page p) (spelt-none braced_name m page p refl a here)

  -- no text of the list begins with the byte
  pub no-stopped : (ws : List (List ℕ)) → begins m ws ≡ false → stopped_end ws page p ≡ None
  no-stopped [] h = refl
  no-stopped ([] ∷ ws) h = absurd (true≢false h)
  no-stopped ((b ∷ w) ∷ ws) h =
      let fs = or_parts (eqb m b) (begins m ws) h in
      cond-false (text_at (b ∷ w) page p && ends_term page (p + length (b ∷ w))) _ _
      (and_left (text_at (b ∷ w) page p) _ (and_left (is_at page p b) (text_at w page (p + 1)) (not_at page p m b here fs.0)))
      ∙ no-stopped ws fs.1

  pub no-term : begins m term_marks ≡ false → term_end page p ≡ None
  no-term h = unless-none (line_start page p) (term_mark_end page p) (no-stopped term_marks h)

  pub no-mark : mark_kind m ≡ None → mark_token page p ≡ None
  no-mark h = ap (λ k. one_byte k p) (ap mark_kind here ∙ h)

  pub no-punctuation : apart_from (exactly m ∷ []) wide_marks ≡ true → punctuation_end page p ≡ None
  no-punctuation a = first-none wide_marks m page p refl a here

  pub no-pass : apart (exactly m ∷ []) (leads pass_mark) ≡ true → pass_end page p ≡ None
  no-pass a = spelt-none pass_mark m page p refl a here
