-- A text at a place, byte by byte. Assumes nothing.
use Rattle.std.proofs.Common.{◌≡◌, ℕ, ◌+◌, ◌<◌, ◌≤◌, ◌&&◌, eqb, ltb, List, [], ◌∷◌, length, get_or, take, drop, sym, refl, ap, ◌∙◌, ⊎_elim, arith}
use Rattle.std.specs.Cmp.Lexicographic.{pointwise}
use Rattle.std.proofs.lemmas.List.{at_drop_more, at_drop_all}
use Rattle.std.proofs.lemmas.Bool.{and_left, cases_lt, le-ltb, ne_eqb}
use Rattle.std.proofs.lemmas.Bool.Decides.{nat_tests}
use Rattle.marks.specs.Places.{is_at, text_at}

-- the byte that stands at a place of the page, the other way round
same-byte : (page : List ℕ) (p b : ℕ) → p < length page → eqb b (get_or page p 0) ≡ is_at page p b
same-byte page p b l = grind (arith, nat_tests)

-- what begins at a place of the page, compared with a text
pub text-front : (w page : List ℕ) (p : ℕ) → pointwise eqb w (take (length w) (drop p page)) ≡ text_at w page p
text-front [] page p = refl
text-front (b ∷ w) page p =
    ⊎_elim
    (λ l. at_drop_more (λ rest. pointwise eqb (b ∷ w) (take (length (b ∷ w)) rest)) page p 0 l
    ∙ ap (λ t. t && pointwise eqb w (take (length w) (drop (p + 1) page))) (same-byte page p b l)
    ∙ ap (λ t. is_at page p b && t) (text-front w page (p + 1)))
    (λ l. at_drop_all (λ rest. pointwise eqb (b ∷ w) (take (length (b ∷ w)) rest)) page p l
    ∙ sym (and_left (is_at page p b) (text_at w page (p + 1)) (and_left (ltb p (length page)) (eqb (get_or page p 0) b) (le-ltb p (length page) l))))
    (cases_lt p (length page))

-- past the page's end no text stands but the empty one
pub text-past : (w page : List ℕ) (p : ℕ) → length page ≤ p → text_at w page p ≡ eqb (length w) 0
text-past [] page p h = refl
text-past (b ∷ w) page p h =
    and_left (is_at page p b) (text_at w page (p + 1)) (and_left (ltb p (length page)) (eqb (get_or page p 0) b) (le-ltb p (length page) h))
    ∙ sym (ne_eqb (length (b ∷ w)) 0 (λ z. omega arith))
