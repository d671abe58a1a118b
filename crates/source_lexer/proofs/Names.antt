-- More names change a token only where a name is new. Assumes nothing.
use Rattle.std.proofs.Common.{◌≡◌, ℕ, ◌+◌, ◌-◌, ◌<◌, Bool, true, false, cond, not, ◌&&◌, ◌||◌, ◌⊎◌, List, [], ◌∷◌, length, get_or, take, drop, is_some, Some, None, codes, Option, sym, refl, ap, ◌∙◌, subst, inl, inr, ⊎_elim, arith, length-drop}
use Rattle.std.specs.Option.{option_or}
use Rattle.std.specs.Str.{bytes_eq}
use Rattle.std.proofs.lemmas.Slice.Eq.{bytes_eq-Decides}
use Rattle.std.proofs.lemmas.List.{get_or-drop, get_or-take, drop-drop, drop-take}
use Rattle.std.proofs.lemmas.Bool.{and_parts, and_from, and_left, or_parts, or_left, cond-true, cond-false, cases_Bool, not-true, not_from_false, true≢false}
use Rattle.page_bytes.specs.Classes.{stem_byte}
use Rattle.page_bytes.proofs.RunLaws.{run_end-ge, run_end-le, run_end-within}
use Rattle.marks.specs.Places.{is_at, text_at, line_start, part}
use Rattle.token.specs.Tokens.{Token, of, first_of}
use Rattle.source_lexer.specs.Marks.{mark_kind, one_byte, mark_token}
use Rattle.marks.specs.Term.{opens_term, term_mark_end, term_end}
use Rattle.words.specs.Word.{stem_end, among, ends_with, directive_names, directive_follows, directive_token, slash_schemes, scheme_end, builtin_macros, macro_end, ending_start, colon_token, mail_token, word_from, word_token}
use Rattle.source_lexer.specs.Token.{candidates, token_at}
use Rattle.source_lexer.specs.Laws.{NewName, MoreNames}
use Rattle.token.specs.declared.kind.TokenKind.TheVariants.{TermDelimiter, Colon, Word, UriScheme, MacroName}
use Rattle.source_lexer.proofs.Absent.{unless-none}
use Rattle.words.proofs.Endings.{part_length}
use Rattle.words.proofs.Firsts.{skip, found}
use Rattle.source_lexer.proofs.RuledOut.{tries, only, plain, plain-token}
use Rattle.source_lexer.specs.declared.rule.Rule.TheVariants.{MaybeTerm}
use Rattle.marks.proofs.Spells.{inside, not_at}

-- a list of candidates gives the same whatever stands behind it, or gives what stands behind it
same-or-last : (os : List (Option Token)) → ((t u : Token) → first_of os t ≡ first_of os u) ⊎ ((t : Token) → first_of os t ≡ t)
same-or-last [] = inr (λ t. refl)
same-or-last (None ∷ os) = same-or-last os
same-or-last (Some u ∷ os) = inl (λ t v. refl)

-- a word by its parts: the directive, whether a colon follows, the scheme, whether the name is known, the ending, the address
abbrev word_by : Option Token → Bool → Option ℕ → Bool → Option ℕ → Option Token → ℕ → Token
word_by d c s b e m q =
    first_of (d ∷ cond c (option_or (of UriScheme s) (option_or (of MacroName (cond b (Some (q + 1)) None)) (of Word e))) None ∷ m ∷ []) (Word, q)

record Changed (c b₁ b₂ : Bool) (e : Option ℕ) (m : Option Token) (q : ℕ) (poor rich : Token) : Type 0 where
  colon : c ≡ true
  unlisted : b₁ ≡ false
  listed : b₂ ≡ true
  richer : rich ≡ (MacroName, q + 1)
  poorer : poor ≡ first_of (of Word e ∷ m ∷ []) (Word, q)

by_names : (d : Option Token) (c : Bool) (s : Option ℕ) (b₁ b₂ : Bool) (e : Option ℕ) (m : Option Token) (q : ℕ) → (b₁ ≡ true → b₂ ≡ true) → (word_by d c s b₁ e m q ≡ word_by d c s b₂ e m q) ⊎ Changed c b₁ b₂ e m q (word_by d c s b₁ e m q) (word_by d c s b₂ e m q)
by_names (Some t) c s b₁ b₂ e m q h = inl refl
by_names None false s b₁ b₂ e m q h = inl refl
by_names None true (Some x) b₁ b₂ e m q h = inl refl
by_names None true None true true e m q h = inl refl
by_names None true None true false e m q h = absurd (true≢false (sym (h refl)))
by_names None true None false true (Some x) m q h =
    inr (record { colon = refl; unlisted = refl; listed = refl; richer = refl; poorer = refl })
by_names None true None false true None m q h =
    inr (record { colon = refl; unlisted = refl; listed = refl; richer = refl; poorer = refl })
by_names None true None false false e m q h = inl refl

module _ (known : List ℕ → Bool) (page : List ℕ) (p : ℕ) where
  none-by : (o : Option ℕ) → is_some o ≡ false → o ≡ None
  none-by None h = refl
  none-by (Some e) h = absurd (true≢false h)

  -- a colon that opens no term's mark
  colon-token : is_at page p 58 ≡ true → opens_term page p ≡ false → token_at known page p ≡ (Colon, p + 1)
  colon-token at lone =
      let here = (inside page p 58 at).1 in
      let t = word_token known page p in
      only known page p 58 here (tries (MaybeTerm Colon)) refl
      ∙ skip (of TermDelimiter (term_end page p)) _ t (ap (of TermDelimiter) (unless-none (line_start page p) (term_mark_end page p) (none-by (term_mark_end page p) lone)))
      ∙ found (mark_token page p) _ t (Colon, p + 1) (ap (λ b. one_byte (mark_kind b) p) here)

-- a built-in name before a colon that opens no term's mark
module _ (known : List ℕ → Bool) (page : List ℕ) (s q : ℕ) (w : List ℕ) (whole : part page s q ≡ w) (at : is_at page q 58 ≡ true) (lone : opens_term page q ≡ false) where
  builtin-word : among directive_names w ≡ false → among slash_schemes w ≡ false → bytes_eq w (codes "file") ≡ false → among builtin_macros w ≡ true → word_from known page s q ≡ (MacroName, q + 1)
  builtin-word nd ns nf yes₁ =
      let directive : directive_token page s q ≡ None =
      cond-false (among directive_names (part page s q) && directive_follows page s q) _ None
      (and_left (among directive_names (part page s q)) (directive_follows page s q) (ap (among directive_names) whole ∙ nd)) in
      let scheme : scheme_end page s q ≡ None =
      cond-false (among slash_schemes (part page s q) && text_at (codes "://") page q) (Some (q + 3)) _
      (and_left (among slash_schemes (part page s q)) (text_at (codes "://") page q) (ap (among slash_schemes) whole ∙ ns))
      ∙ cond-false (bytes_eq (part page s q) (codes "file") && text_at (codes ":///") page q) (Some (q + 4)) None
      (and_left (bytes_eq (part page s q) (codes "file")) (text_at (codes ":///") page q) (ap (λ v. bytes_eq v (codes "file")) whole ∙ nf)) in
      let name : macro_end known page s q ≡ Some (q + 1) =
      cond-true (among builtin_macros (part page s q) || known (part page s q)) (Some (q + 1)) None
      (or_left (among builtin_macros (part page s q)) (known (part page s q)) (ap (among builtin_macros) whole ∙ yes₁)) in
      let colon : colon_token known page s q ≡ Some (MacroName, q + 1) =
      cond-true (is_at page q 58 && not (opens_term page q)) _ None (and_from (is_at page q 58) (not (opens_term page q)) at (not_from_false (opens_term page q) lone))
      ∙ ap (λ o. option_or (of UriScheme o) (option_or (of MacroName (macro_end known page s q)) (of Word (ending_start page s q)))) scheme
      ∙ ap (λ o. option_or (of MacroName o) (of Word (ending_start page s q))) name in
      skip (directive_token page s q) _ (Word, q) directive ∙ found (colon_token known page s q) _ (Word, q) (MacroName, q + 1) colon

-- the stem that ends in a built-in name, and the token that begins there
module _ (known : List ℕ → Bool) (page : List ℕ) (p : ℕ) (on : p < length page) (at : is_at page (stem_end page p) 58 ≡ true) (lone : opens_term page (stem_end page p) ≡ false) where
  ending-token : (b : ℕ) (w : List ℕ) → plain b ≡ true → ends_with (b ∷ w) (part page p (stem_end page p)) ≡ true → among directive_names (b ∷ w) ≡ false → among slash_schemes (b ∷ w) ≡ false → bytes_eq (b ∷ w) (codes "file") ≡ false → among builtin_macros (b ∷ w) ≡ true → token_at known page (stem_end page p - length (b ∷ w)) ≡ (MacroName, stem_end page p + 1)
  unfolding word_token
  ending-token b w l t nd ns nf yes₁ =
      let q = stem_end page p in
      let n = length (b ∷ w) in
      let s = q - n in
      let v = part page p q in
      let i = length v - n in
      let from = run_end-ge stem_byte page (p + 1) in
      let to = run_end-le stem_byte page (p + 1) (omega arith) in
      let long = part_length page p q (omega arith) to in
      let d = (bytes_eq-Decides (drop i v) (b ∷ w)).0 t in
      let size : length v - i ≡ n = sym (length-drop i v) ∙ ap length d in
      let z₁ : q - s ≡ n = omega arith in
      let z₂ : s ≡ p + i = omega arith in
      let z₃ : i + n ≡ q - p = omega arith in
      let whole : part page s q ≡ b ∷ w =
      ap (λ k. take k (drop s page)) z₁ ∙ ap (λ k. take n (drop k page)) z₂ ∙ ap (take n) (sym (drop-drop i p page)) ∙ sym (drop-take i n (drop p page)) ∙ ap (λ k. drop i (take k (drop p page))) z₃ ∙ d in
      let z₄ : s + 0 ≡ s = omega arith in
      let here : get_or page s 0 ≡ b =
      ap (λ k. get_or page k 0) (sym z₄) ∙ sym (get_or-drop s page 0 0) ∙ sym (get_or-take (q - s) (drop s page) 0 0 (omega arith)) ∙ ap (λ xs. get_or xs 0 0) whole in
      let stem : stem_end page s ≡ q = run_end-within stem_byte page (p + 1) (s + 1) (omega arith) (omega arith) (omega arith) in
      plain-token known page s b here l ∙ ap (word_from known page s) stem ∙ builtin-word known page s q (b ∷ w) whole at lone nd ns nf yes₁

  -- the poorer reading's second token ends behind the colon
  second-end : (token_at known page (first_of (of Word (ending_start page p (stem_end page p)) ∷ mail_token page (stem_end page p) ∷ []) (Word, stem_end page p)).1).1 ≡ stem_end page p + 1
  second-end =
      let q = stem_end page p in
      let v = part page p q in
      let mail : mail_token page q ≡ None = cond-false (is_at page q 64) _ None (not_at page q 58 64 (inside page q 58 at).1 refl) in
      let f = ends_with (codes "footnote") v in
      let x = ends_with (codes "indexterm") v in
      ⊎_elim
      (λ t. ends (Some (q - 8)) (cond-true f (Some (q - 8)) _ t) (ap (λ u. u.1) (ending-token 102 (codes "ootnote") refl t refl refl refl refl)))
      (λ nf.
      ⊎_elim
      (λ t. ends (Some (q - 9)) (cond-false f (Some (q - 8)) _ nf ∙ cond-true x (Some (q - 9)) None t) (ap (λ u. u.1) (ending-token 105 (codes "ndexterm") refl t refl refl refl refl)))
      (λ nx.
      ap (λ o. (token_at known page (first_of (of Word o ∷ mail_token page q ∷ []) (Word, q)).1).1) (cond-false f (Some (q - 8)) _ nf ∙ cond-false x (Some (q - 9)) None nx)
      ∙ ap (λ o. (token_at known page (first_of (o ∷ []) (Word, q)).1).1) mail
      ∙ ap (λ u. u.1) (colon-token known page q at lone))
      (cases_Bool x))
      (cases_Bool f)
    where
      ends : (o : Option ℕ) → ending_start page p (stem_end page p) ≡ o → (token_at known page (first_of (of Word o ∷ mail_token page (stem_end page p) ∷ []) (Word, stem_end page p)).1).1 ≡ stem_end page p + 1 → (token_at known page (first_of (of Word (ending_start page p (stem_end page p)) ∷ mail_token page (stem_end page p) ∷ []) (Word, stem_end page p)).1).1 ≡ stem_end page p + 1
      ends o e h = ap (λ k. (token_at known page (first_of (of Word k ∷ mail_token page (stem_end page p) ∷ []) (Word, stem_end page p)).1).1) e ∙ h

  -- and its first ends no later than the stem
  first-end : (first_of (of Word (ending_start page p (stem_end page p)) ∷ mail_token page (stem_end page p) ∷ []) (Word, stem_end page p)).1 < stem_end page p + 1
  first-end =
      let q = stem_end page p in
      let v = part page p q in
      let mail : mail_token page q ≡ None = cond-false (is_at page q 64) _ None (not_at page q 58 64 (inside page q 58 at).1 refl) in
      subst (λ (m : Option Token). (first_of (of Word (ending_start page p q) ∷ m ∷ []) (Word, q)).1 < q + 1) (sym mail)
      (short q (ends_with (codes "footnote") v) (ends_with (codes "indexterm") v))
    where
      short : (q : ℕ) (f x : Bool) → (first_of (of Word (cond f (Some (q - 8)) (cond x (Some (q - 9)) None)) ∷ None ∷ []) (Word, q)).1 < q + 1
      short q true x = omega arith
      short q false true = omega arith
      short q false false = omega arith

module _ (poor rich : List ℕ → Bool) (more : (w : List ℕ) → poor w ≡ true → rich w ≡ true) (page : List ℕ) (p : ℕ) (on : p < length page) where
  wider : (b : Bool) (w : List ℕ) → (b || poor w) ≡ true → (b || rich w) ≡ true
  wider true w h = refl
  wider false w h = more w h

  names : (token_at poor page p ≡ token_at rich page p) ⊎ NewName poor rich page p
  unfolding token_at word_token
  names =
      let q = stem_end page p in
      let v = part page p q in
      let listed = among builtin_macros v in
      ⊎_elim
      (λ same. inl (same (word_token poor page p) (word_token rich page p)))
      (λ last.
      ⊎_elim
      (λ same. inl (last (word_token poor page p) ∙ same ∙ sym (last (word_token rich page p))))
      (λ new.
      let c = and_parts (is_at page q 58) (not (opens_term page q)) new.colon in
      let none = or_parts listed (poor v) new.unlisted in
      let back : q + 1 - 1 ≡ q = omega arith in
      inr (record {
        end = q + 1;
        richer = last (word_token rich page p) ∙ new.richer;
        known = ap (λ k. rich (part page p k)) back ∙ ap (λ b. b || rich v) (sym none.0) ∙ new.listed;
        unknown = ap (λ k. poor (part page p k)) back ∙ none.1;
        two = subst (λ (t : Token). t.1 < q + 1) (sym (last (word_token poor page p) ∙ new.poorer)) (first-end poor page p on c.0 (not-true (opens_term page q) c.1));
        colon = ap (λ k. is_at page k 58) back ∙ c.0;
        poorer = ap (λ t. (token_at poor page t.1).1) (last (word_token poor page p) ∙ new.poorer) ∙ second-end poor page p on c.0 (not-true (opens_term page q) c.1);
      }))
      (by_names (directive_token page p q) (is_at page q 58 && not (opens_term page q)) (scheme_end page p q) (listed || poor v) (listed || rich v) (ending_start page p q) (mail_token page q) q (wider listed v)))
      (same-or-last (candidates page p))

pub more-names : MoreNames
more-names poor rich more page p on = names poor rich more page p on
