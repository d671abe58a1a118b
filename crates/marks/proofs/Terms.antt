-- A term delimiter of colons, from behind its second colon. Assumes nothing.
use Rattle.std.proofs.Common.{◌≡◌, ℕ, ◌+◌, Bool, true, false, cond, ◌&&◌, List, [], ◌∷◌, Some, None, codes, Option, sym, refl, ap, ◌∙◌, arith}
use Rattle.std.proofs.lemmas.Bool.{true≢false}
use Rattle.std.proofs.lemmas.Bool.Decides.{nat_tests}
use Rattle.marks.specs.Places.{is_at, text_at}
use Rattle.marks.specs.Term.{ends_term, stopped_end, term_mark_end}

no-semicolons : (page : List ℕ) (p : ℕ) → text_at (codes "::") page p ≡ true → text_at (codes ";;") page p ≡ false
no-semicolons page p h = grind (arith, nat_tests)

-- two colons, a third, a fourth and two semicolons, with a stop behind each
by-colons : (two third fourth semi : Bool) (a b c d e : Bool) (x y z : Option ℕ) → a && (b && true) ≡ true → semi ≡ false → cond two x (cond ((c && true) && third) y (cond ((c && (d && true)) && fourth) z None)) ≡ cond ((a && (b && true)) && two) x (cond ((a && (b && (c && true))) && third) y (cond ((a && (b && (c && (d && true)))) && fourth) z (cond (semi && e) x None)))
by-colons two third fourth semi false b c d e x y z h k = absurd (true≢false (sym h))
by-colons two third fourth semi true false c d e x y z h k = absurd (true≢false (sym h))
by-colons two third fourth true true true c d e x y z h k = absurd (true≢false k)
by-colons two third fourth false true true c d e x y z h k = refl

module _ (page : List ℕ) (p : ℕ) where
  -- the same by the places of a third and a fourth colon, and of the ends behind them
  abbrev shown : ℕ → ℕ → ℕ → ℕ → Option ℕ
  shown i j k m =
      cond (text_at (codes "::") page p && ends_term page (p + 2)) (Some (p + 2))
      (cond ((is_at page p 58 && (is_at page (p + 1) 58 && (is_at page i 58 && true))) && ends_term page k) (Some k)
      (cond ((is_at page p 58 && (is_at page (p + 1) 58 && (is_at page i 58 && (is_at page j 58 && true)))) && ends_term page m) (Some m)
      (cond (text_at (codes ";;") page p && ends_term page (p + 2)) (Some (p + 2)) None)))

  pub term-colons : text_at (codes "::") page p ≡ true → cond (ends_term page (p + 2)) (Some (p + 2)) (stopped_end (codes ":" ∷ codes "::" ∷ []) page (p + 2)) ≡ term_mark_end page p
  term-colons h =
      let q = p + 2 in
      by-colons (ends_term page q) (ends_term page (q + 1)) (ends_term page (q + 2)) (text_at (codes ";;") page p) (is_at page p 58) (is_at page (p + 1) 58) (is_at page q 58) (is_at page (q + 1) 58) (ends_term page q) (Some q) (Some (q + 1)) (Some (q + 2)) h (no-semicolons page p h)
      ∙ ap (λ i. shown i (q + 1) (q + 1) (q + 2)) (omega arith) ∙ ap (λ j. shown (p + 1 + 1) j (q + 1) (q + 2)) (omega arith)
      ∙ ap (λ k. shown (p + 1 + 1) (p + 1 + 1 + 1) k (q + 2)) (omega arith) ∙ ap (λ m. shown (p + 1 + 1) (p + 1 + 1 + 1) (p + 3) m) (omega arith)
