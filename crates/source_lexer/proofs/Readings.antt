-- A lone reading: token by token, what it spells, and by two sets of names. Assumes nothing.
use Rattle.std.proofs.Common.{◌≡◌, ℕ, zero, suc, ◌+◌, ◌-◌, ◌<◌, ◌≤◌, Bool, true, false, cond, ◌&&◌, ltb, leb, List, [], ◌∷◌, ◌++◌, length, get_or, take, drop, Some, None, Option, sym, refl, ap, ◌∙◌, subst, ⊎_elim, arith, length-drop}
use Rattle.std.proofs.lemmas.List.{take_more, get_or-drop, drop-drop, drop_all, take-append-drop}
use Rattle.std.proofs.lemmas.Bool.{and_parts, cases_Bool, cases_lt, lt-ltb, le-ltb, ltb-true, le-leb, cond-true, cond-false}
use Rattle.marks.proofs.Spells.{inside}
use Rattle.token.specs.Places.{most}
use Rattle.token.specs.Tokens.{Token, record_of}
use Rattle.token.specs.declared.token_record.TokenRecord.{TokenRecord}
use Rattle.source_lexer.specs.Laws.{NewName}
use Rattle.source_lexer.specs.Lone.{tokens_from, lone, tokens_of, spelled, Within, Finer, none, same, joins}
use Rattle.source_lexer.specs.Reader.{readable, given_at, pos_after}
use Rattle.source_lexer.specs.Token.{token_at}
use Rattle.source_lexer.proofs.Names.{more-names}
use Rattle.source_lexer.proofs.Progress.{progress}

module _ (known : List ℕ → Bool) (page : List ℕ) where
  -- one token more
  pub tokens-more : (n p : ℕ) → p < length page → tokens_from (suc n) known page p ≡ record_of p (token_at known page p) ∷ tokens_from n known page (token_at known page p).1
  tokens-more n p h =
      cond-true (ltb p (length page)) (record_of p (token_at known page p) ∷ tokens_from n known page (token_at known page p).1) [] (lt-ltb p (length page) h)

  pub tokens_none : (n p : ℕ) → length page ≤ p → tokens_from n known page p ≡ []
  tokens_none zero p h = refl
  tokens_none (suc n) p h =
      cond-false (ltb p (length page)) (record_of p (token_at known page p) ∷ tokens_from n known page (token_at known page p).1) [] (le-ltb p (length page) h)

  -- how many tokens are asked for does not count, where it is enough
  pub enough : (n m p : ℕ) → length page ≤ p + n → length page ≤ p + m → tokens_from n known page p ≡ tokens_from m known page p
  enough zero m p h k = sym (tokens_none m p (omega arith))
  enough (suc n) zero p h k = tokens_none (suc n) p (omega arith)
  enough (suc n) (suc m) p h k =
      ⊎_elim
      (λ on.
      let b = progress known page p on in
      tokens-more n p on ∙ ap (λ ts. record_of p (token_at known page p) ∷ ts) (enough n m (token_at known page p).1 (omega arith) (omega arith)) ∙ sym (tokens-more m p on))
      (λ past. tokens_none (suc n) p past ∙ sym (tokens_none (suc m) p past))
      (cases_lt p (length page))

  -- the tokens that are left
  abbrev pub left : ℕ → List TokenRecord
  left p = cond (leb (length page) most) (tokens_from (length page - p) known page p) []

  left-more : (p n : ℕ) → p < length page → length page - p ≡ suc n → tokens_from (length page - p) known page p ≡ record_of p (token_at known page p) ∷ tokens_from (length page - (token_at known page p).1) known page (token_at known page p).1
  left-more p n on e =
      let b = progress known page p on in
      let q = (token_at known page p).1 in
      ap (λ k. tokens_from k known page p) e ∙ tokens-more n p on ∙ ap (λ ts. record_of p (token_at known page p) ∷ ts) (enough n (length page - q) q (omega arith) (omega arith))

  pub next-left : (p : ℕ) → leb (length page) most ≡ true → p < length page → left p ≡ record_of p (token_at known page p) ∷ left (token_at known page p).1
  next-left p short on =
      let one : length page - p ≡ suc (length page - p - 1) = omega arith in
      cond-true (leb (length page) most) _ [] short ∙ left-more p (length page - p - 1) on one
      ∙ ap (λ ts. record_of p (token_at known page p) ∷ ts) (sym (cond-true (leb (length page) most) _ [] short))

  pub none_left : (p : ℕ) → (leb (length page) most && ltb p (length page)) ≡ false → left p ≡ []
  none_left p h = go (leb (length page) most) h
    where
      go : (b : Bool) → (b && ltb p (length page)) ≡ false → cond b (tokens_from (length page - p) known page p) [] ≡ []
      go false k = refl
      go true k =
          ⊎_elim (λ on. absurd (let z : ◌≡◌ {A = Bool} true false = sym (lt-ltb p (length page) on) ∙ k in let y : ◌≡◌ {A = ℕ} 0 1 = cc in omega arith))
          (λ past. tokens_none (length page - p) p past) (cases_lt p (length page))

  pub all_left : left 0 ≡ tokens_of known page
  all_left = let z : length page - 0 ≡ length page = omega arith in ap (λ n. cond (leb (length page) most) (tokens_from n known page 0) []) z

  -- a token given is the first of those that are left
  pub given-left : (p q : ℕ) (t : TokenRecord) → Some t ≡ given_at known page p → q ≡ pos_after known page p → left p ≡ t ∷ left q
  given-left p q t given after =
      ⊎_elim
      (λ yes₁.
      let parts = and_parts (leb (length page) most) (ltb p (length page)) yes₁ in
      let token : t ≡ record_of p (token_at known page p) = let e = given ∙ cond-true (readable page p) (Some (record_of p (token_at known page p))) None yes₁ in cc in
      let moved : q ≡ (token_at known page p).1 = after ∙ cond-true (readable page p) (token_at known page p).1 p yes₁ in
      next-left p parts.0 (ltb-true p (length page) parts.1)
      ∙ ap (λ u. u ∷ left (token_at known page p).1) (sym token)
      ∙ ap (λ k. t ∷ left k) (sym moved))
      (λ no₁. absurd (let e : ◌≡◌ {A = Option TokenRecord} (Some t) None = given ∙ cond-false (readable page p) _ None no₁ in let y : ◌≡◌ {A = ℕ} 0 1 = cc in omega arith))
      (cases_Bool (readable page p))

  -- where none is given, none is left
  pub ended-left : (p : ℕ) → None ≡ given_at known page p → left p ≡ []
  ended-left p given =
      ⊎_elim
      (λ yes₁. absurd (let e : ◌≡◌ {A = Option TokenRecord} None (Some (record_of p (token_at known page p))) = given ∙ cond-true (readable page p) _ None yes₁ in let y : ◌≡◌ {A = ℕ} 0 1 = cc in omega arith))
      (λ no₁. none_left p no₁)
      (cases_Bool (readable page p))

  -- the tokens spell the page
  pub spells-from : (n p : ℕ) → length page ≤ p + n → spelled page (tokens_from n known page p) ≡ drop p page
  spells-from zero p h = sym (drop_all p page (omega arith))
  spells-from (suc n) p h =
      ⊎_elim
      (λ on.
      let b = progress known page p on in
      let q = (token_at known page p).1 in
      let z : p + (q - p) ≡ q = omega arith in
      ap (spelled page) (tokens-more n p on)
      ∙ ap (λ xs. take (q - p) (drop p page) ++ xs) (spells-from n q (omega arith) ∙ sym (drop-drop (q - p) p page ∙ ap (λ k. drop k page) z))
      ∙ take-append-drop (q - p) (drop p page))
      (λ past. ap (spelled page) (tokens_none (suc n) p past) ∙ sym (drop_all p page past))
      (cases_lt p (length page))

  -- all of them spell the page
  pub whole-page : (items : List TokenRecord) → items ≡ tokens_of known page → length page ≤ most → spelled page items ≡ page
  whole-page items all short =
      ap (spelled page) (all ∙ cond-true (leb (length page) most) (lone known page) [] (le-leb (length page) most short))
      ∙ spells-from (length page) 0 (omega arith)

-- Two sets of names, one within the other

-- a stretch whose last byte is a colon
colon-last : (page : List ℕ) (p e : ℕ) → p < e → e ≤ length page → get_or page (e - 1) 0 ≡ 58 → take (e - p) (drop p page) ≡ take (e - 1 - p) (drop p page) ++ 58 ∷ []
colon-last page p e l m c =
    let i = e - 1 - p in
    let one : e - p ≡ i + 1 = omega arith in
    let at : p + i ≡ e - 1 = omega arith in
    let on : i < length (drop p page) = omega (arith, length-drop p page) in
    ap (λ n. take n (drop p page)) one
    ∙ take_more (drop p page) i 0 on
    ∙ ap (λ b. take i (drop p page) ++ b ∷ []) (get_or-drop p page i 0 ∙ ap (λ n. get_or page n 0) at ∙ c)

module _ (poor rich : List ℕ → Bool) (inside-it : Within poor rich) (page : List ℕ) where
  abbrev Goal : ℕ → ℕ → ℕ → Type 0
  Goal n m p = Finer poor rich page (tokens_from n poor page p) (tokens_from m rich page p)

  over : (n m p : ℕ) → length page ≤ p → Goal n m p
  over n m p h =
      subst (λ ts. Finer poor rich page ts (tokens_from m rich page p)) (sym (tokens_none poor page n p h))
      (subst (λ us. Finer poor rich page [] us) (sym (tokens_none rich page m p h)) none)

  begun : (n m p : ℕ) → p < length page → Finer poor rich page (record_of p (token_at poor page p) ∷ tokens_from n poor page (token_at poor page p).1) (record_of p (token_at rich page p) ∷ tokens_from m rich page (token_at rich page p).1) → Goal (suc n) (suc m) p
  begun n m p h f =
      subst (λ ts. Finer poor rich page ts (tokens_from (suc m) rich page p)) (sym (tokens-more poor page n p h))
      (subst (Finer poor rich page _) (sym (tokens-more rich page m p h)) f)

  alike : (n m p : ℕ) → p < length page → token_at poor page p ≡ token_at rich page p → Goal n m (token_at poor page p).1 → Goal (suc n) (suc m) p
  alike n m p h e tail =
      begun n m p h
      (subst (λ (t : Token). Finer poor rich page (record_of p (token_at poor page p) ∷ tokens_from n poor page (token_at poor page p).1) (record_of p t ∷ tokens_from m rich page t.1)) e (same tail))

  two : (n m p : ℕ) → p < length page → (w : NewName poor rich page p) → Goal n m w.end → Goal (suc (suc n)) (suc m) p
  two n m p h w tail =
      let q = (token_at poor page p).1 in
      let e = w.end in
      let b = progress poor page p h in
      let macro = ap (λ (t : Token). t.1) w.richer in
      let r = progress rich page p h in
      let before = w.two in
      let c = progress poor page q (omega arith) in
      let last = w.poorer in
      begun (suc n) m p h
      (subst (λ ts. Finer poor rich page (record_of p (token_at poor page p) ∷ ts) (record_of p (token_at rich page p) ∷ tokens_from m rich page (token_at rich page p).1)) (sym (tokens-more poor page n q (omega arith)))
      (subst (λ (t : Token). Finer poor rich page (record_of p (token_at poor page p) ∷ record_of q (token_at poor page q) ∷ tokens_from n poor page (token_at poor page q).1) (record_of p t ∷ tokens_from m rich page t.1)) (sym w.richer)
      (joins (take (e - 1 - p) (drop p page)) refl (colon-last page p e (omega arith) (omega arith) (inside page (e - 1) 58 w.colon).1) w.known w.unknown refl (omega arith) (omega arith)
      (subst (λ k. Finer poor rich page (tokens_from n poor page k) (tokens_from m rich page e)) (sym last) tail))))

  finer : (n m p : ℕ) → length page ≤ p + n → length page ≤ p + m → Goal n m p
  finer zero m p hn hm = over zero m p (omega arith)
  finer (suc n) zero p hn hm = over (suc n) zero p (omega arith)
  finer (suc zero) (suc m) p hn hm =
      ⊎_elim
      (λ on.
      let b = progress poor page p on in
      let r = progress rich page p on in
      ⊎_elim
      (λ e. alike zero m p on e (over zero m _ (omega arith)))
      (λ w. absurd (let before = w.two in let end = ap (λ (t : Token). t.1) w.richer in omega arith))
      (more-names poor rich inside-it page p on))
      (over (suc zero) (suc m) p)
      (cases_lt p (length page))
  finer (suc (suc n)) (suc m) p hn hm =
      ⊎_elim
      (λ on.
      let b = progress poor page p on in
      let r = progress rich page p on in
      ⊎_elim
      (λ e. alike (suc n) m p on e (finer (suc n) m _ (omega arith) (omega arith)))
      (λ w. let before = w.two in let end = ap (λ (t : Token). t.1) w.richer in two n m p on w (finer n m w.end (omega arith) (omega arith)))
      (more-names poor rich inside-it page p on))
      (over (suc (suc n)) (suc m) p)
      (cases_lt p (length page))

  pub lone-finer : Finer poor rich page (lone poor page) (lone rich page)
  lone-finer = finer (length page) (length page) 0 (omega arith) (omega arith)
