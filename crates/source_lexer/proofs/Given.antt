-- What the page reader gives, in the words of the documentation. Assumes nothing.
use Rattle.std.proofs.Common.{◌≡◌, ℕ, ◌+◌, ◌<◌, ◌≤◌, Bool, true, false, eqb, ltb, leb, List, [], ◌∷◌, length, get_or, IfSome, Some, None, IsUtf8, Option, sym, refl, ap, ◌∙◌, subst, ⊎_elim, arith}
use Rattle.std.specs.Str.{IsCharBoundary}
use Rattle.std.proofs.lemmas.Bool.{and_parts, and_from, and_right, cond-true, cond-false, cases_Bool, cases_lt, lt-ltb, ltb-true, le-leb, le-ltb}
use Rattle.marks.specs.AttrRef.{AttrRefAt, braced_name}
use Rattle.marks.specs.Callout.{CalloutAt, callouts}
use Rattle.marks.specs.Delimiter.{DelimiterAt}
use Rattle.marks.specs.Entity.{EntityAt, references}
use Rattle.marks.specs.Places.{is_at, text_at}
use Rattle.marks.specs.Shape.{Shape, text, one, upto, Spelt, SpeltBy}
use Rattle.marks.proofs.Spells.{inside, class-inside}
use Rattle.words.specs.Directive.{DirectiveAt}
use Rattle.token.specs.Places.{most}
use Rattle.token.specs.Tokens.{Token, record_of}
use Rattle.token.specs.declared.kind.TokenKind.{TokenKind}
use Rattle.token.specs.declared.kind.TokenKind.TheVariants.{DelimiterLine, Entity, CalloutNumber, AttrRef, Directive}
use Rattle.token.specs.declared.token_record.TokenRecord.{TokenRecord}
use Rattle.source_lexer.specs.Reader.{readable, given_at, pos_after, InPage, Exactly}
use Rattle.source_lexer.specs.Token.{token_at}
use Rattle.source_lexer.proofs.Cuts.{cuts-cleanly}
use Rattle.source_lexer.proofs.Progress.{Solid, AllSolid, progress}
use Rattle.source_lexer.proofs.Told.{told-tokens}

-- such stretches begin within the page

line-begins : (page : List ℕ) (p e : ℕ) → DelimiterAt page p e → p < length page
line-begins page p e d = let on = d.onward in (class-inside (λ b. eqb b (get_or page p 0)) page p (d.marks p (omega arith) (omega arith))).0

-- a shape that begins with a byte of its own
spelt-begins : (s : Shape) (page : List ℕ) (p e : ℕ) → Solid s → Spelt s page p e → p < length page
spelt-begins [] page p e g h = absurd g
spelt-begins (text [] ∷ s) page p e g h = absurd g
spelt-begins (text (b ∷ w) ∷ s) page p e g h = (inside page p b (and_parts (is_at page p b) (text_at w page (p + 1)) h.0).0).0
spelt-begins (one is ∷ s) page p e g h = (class-inside is page p h.0).0
spelt-begins (upto is w ∷ s) page p e g h = absurd g

by-begins : (ss : List Shape) (page : List ℕ) (p e : ℕ) → AllSolid ss → SpeltBy ss page p e → p < length page
by-begins [] page p e g h = absurd h
by-begins (s ∷ ss) page p e g h = ⊎_elim (spelt-begins s page p e g.0) (by-begins ss page p e g.1) h

directive-begins : (page : List ℕ) (p e : ℕ) → DirectiveAt page p e → p < length page
directive-begins page p e d =
    omega (arith, (inside page (p + length d.name) 58 (and_parts (is_at page (p + length d.name) 58) _ d.colons).0).0)

-- two records that are equal, of tokens that begin at one place
same-token : (p : ℕ) (t : Token) (k : TokenKind) (e : ℕ) → p < t.1 → Some (record_of p t) ≡ Some (record_of p (k, e)) → t ≡ (k, e)
same-token p t k e on h =
    let records : record_of p t ≡ record_of p (k, e) = cc in
    let kinds = ap (λ (x : TokenRecord). x.kind) records in
    let lengths = ap (λ (x : TokenRecord). x.len) records in
    let ends : t.1 ≡ e = omega arith in
    ap (λ (j : TokenKind). (j, t.1)) kinds ∙ ap (λ (n : ℕ). (k, n)) ends

no-token : {t : TokenRecord} → ◌≡◌ {A = Option TokenRecord} None (Some t) → ⊥
no-token h = cc

module _ (known : List ℕ → Bool) (page : List ℕ) (p : ℕ) where
  readable-on : length page ≤ most → p < length page → readable page p ≡ true
  readable-on short on = and_from (leb (length page) most) (ltb p (length page)) (le-leb (length page) most short) (lt-ltb p (length page) on)

  readable-past : length page ≤ p → readable page p ≡ false
  readable-past past = and_right (leb (length page) most) (ltb p (length page)) (le-ltb p (length page) past)

  readable-in : readable page p ≡ true → p < length page
  readable-in h = ltb-true p (length page) (and_parts (leb (length page) most) (ltb p (length page)) h).1

  exactly : (k : TokenKind) (Stretch : List ℕ → ℕ → ℕ → Type 0) → ((e : ℕ) → p < length page → (token_at known page p ≡ (k, e) → Stretch page p e) × (Stretch page p e → token_at known page p ≡ (k, e))) → ((e : ℕ) → Stretch page p e → p < length page) → (given : Option TokenRecord) → given ≡ given_at known page p → length page ≤ most → Exactly k (Stretch page p) p given
  exactly k Stretch is begins given same short =
      ⊎_elim
      (λ on.
      let t = token_at known page p in
      let some : given ≡ Some (record_of p t) = same ∙ cond-true (readable page p) _ None (readable-on short on) in
      record {
        stands = λ e h. (is e on).0 (same-token p t k e (progress known page p on).0 (sym some ∙ h));
        gives = λ e s. some ∙ ap (λ (u : Token). Some (record_of p u)) ((is e on).1 s);
        one = λ e₁ e₂ s₁ s₂. ap (λ (u : Token). u.1) (sym ((is e₁ on).1 s₁) ∙ (is e₂ on).1 s₂);
      })
      (λ past.
      let none : given ≡ None = same ∙ cond-false (readable page p) _ None (readable-past past) in
      record {
        stands = λ e h. absurd (no-token (sym none ∙ h));
        gives = λ e s. let on = begins e s in absurd (omega arith);
        one = λ e₁ e₂ s₁ s₂. let on = begins e₁ s₁ in absurd (omega arith);
      })
      (cases_lt p (length page))

  module _ (given : Option TokenRecord) (same : given ≡ given_at known page p) (short : length page ≤ most) where
    pub lines : Exactly DelimiterLine (DelimiterAt page p) p given
    lines = exactly DelimiterLine DelimiterAt (λ e. told-tokens.delimiters known page p e) (line-begins page p) given same short

    pub entities : Exactly Entity (EntityAt page p) p given
    entities = exactly Entity EntityAt (λ e. told-tokens.references known page p e) (λ e s. by-begins references page p e (tt, (tt, (tt, tt))) s.1) given same short

    pub callouts-given : Exactly CalloutNumber (CalloutAt page p) p given
    callouts-given = exactly CalloutNumber CalloutAt (λ e. told-tokens.callouts known page p e) (λ e s. by-begins callouts page p e (tt, (tt, (tt, (tt, tt)))) s) given same short

    pub attributes : Exactly AttrRef (AttrRefAt page p) p given
    attributes = exactly AttrRef AttrRefAt (λ e. told-tokens.attributes known page p e) (λ e s. spelt-begins braced_name page p e tt s.1) given same short

    pub directives : Exactly Directive (DirectiveAt page p) p given
    directives = exactly Directive DirectiveAt (λ e. told-tokens.directives known page p e) (directive-begins page p) given same short

  module _ (after : ℕ) (moved : after ≡ pos_after known page p) where
    in-page : (given : Option TokenRecord) → given ≡ given_at known page p → IfSome given (InPage page p after)
    in-page given same =
        ⊎_elim
        (λ yes₁.
        let t = token_at known page p in
        let on = progress known page p (readable-in yes₁) in
        let end = moved ∙ cond-true (readable page p) t.1 p yes₁ in
        subst (λ (o : Option TokenRecord). IfSome o (InPage page p after)) (sym (same ∙ cond-true (readable page p) _ None yes₁))
        (record { begins = refl; some = omega arith; within = omega arith; behind = omega arith }))
        (λ no₁. subst (λ (o : Option TokenRecord). IfSome o (InPage page p after)) (sym (same ∙ cond-false (readable page p) _ None no₁)) tt)
        (cases_Bool (readable page p))

    pub whole : IsUtf8 page → IsCharBoundary page p → IsCharBoundary page after
    whole u b =
        ⊎_elim
        (λ yes₁. subst (IsCharBoundary page) (sym (moved ∙ cond-true (readable page p) (token_at known page p).1 p yes₁)) (cuts-cleanly known page p u (readable-in yes₁) b))
        (λ no₁. subst (IsCharBoundary page) (sym (moved ∙ cond-false (readable page p) (token_at known page p).1 p no₁)) b)
        (cases_Bool (readable page p))

pub given-in-page : (known : List ℕ → Bool) (page : List ℕ) (p after : ℕ) (given : Option TokenRecord) → after ≡ pos_after known page p → given ≡ given_at known page p → IfSome given (InPage page p after)
given-in-page known page p after given moved same = in-page known page p after moved given same

-- where nothing is given of a page whose bytes have places, the page is read to its end
pub ended_at : (known : List ℕ → Bool) (page : List ℕ) (p : ℕ) → None ≡ given_at known page p → length page ≤ most → length page ≤ p
ended_at known page p given short =
    ⊎_elim
    (λ on. absurd (no-token (given ∙ cond-true (readable page p) (Some (record_of p (token_at known page p))) None (readable-on known page p short on))))
    (λ past. past)
    (cases_lt p (length page))
