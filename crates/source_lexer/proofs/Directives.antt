-- A directive's name and colons, and the token that they make. Assumes nothing.
use Rattle.std.proofs.Common.{◌≡◌, ℕ, zero, suc, ◌+◌, ◌-◌, ◌<◌, ◌≤◌, Bool, true, false, cond, ◌&&◌, ◌||◌, eqb, ltb, leb, List, [], ◌∷◌, length, get_or, take, drop, Some, None, codes, Option, sym, refl, ap, ◌∙◌, subst, inl, inr, ⊎_elim, arith}
use Rattle.std.specs.Char.{is_ascii_whitespace}
use Rattle.std.specs.Str.{bytes_eq}
use Rattle.std.proofs.lemmas.Slice.Eq.{bytes_eq-Decides}
use Rattle.std.proofs.lemmas.List.Prefix.{at_reads}
use Rattle.std.proofs.lemmas.List.{drop_more, take_at}
use Rattle.std.proofs.lemmas.Bool.{and_parts, and_from, or_cases, or_left, or_right, lt-ltb, le-leb, leb-true, eq-eqb, eqb-true, cond-true, false≢true}
use Rattle.page_bytes.specs.Classes.{stem_byte}
use Rattle.page_bytes.proofs.RunLaws.{run_end-is}
use Rattle.marks.specs.Places.{is_at, text_at, part}
use Rattle.token.specs.Tokens.{Token}
use Rattle.words.specs.Word.{stem_end, among, directive_names, directive_follows, directive_token, word_from, word_token}
use Rattle.words.specs.Directive.{DirectiveAt}
use Rattle.source_lexer.specs.Token.{token_at}
use Rattle.token.specs.declared.kind.TokenKind.TheVariants.{Word, Directive}
use Rattle.source_lexer.proofs.Cuts.{text-drop}
use Rattle.words.proofs.Endings.{part_length}
use Rattle.words.proofs.Firsts.{found}
use Rattle.source_lexer.proofs.RuledOut.{plain, plain-token}
use Rattle.marks.proofs.Spells.{inside}

-- a part of the page stands where it was taken from
part-stands : (n : ℕ) (page : List ℕ) (p : ℕ) → p + n ≤ length page → text_at (take n (drop p page)) page p ≡ true
part-stands zero page p h = refl
part-stands (suc n) page p h =
    let l : p < length page = omega arith in
    ap (λ xs. text_at (take (suc n) xs) page p) (drop_more page p 0 l)
    ∙ and_from (is_at page p (get_or page p 0)) _ (and_from (ltb p (length page)) _ (lt-ltb p (length page) l) (eq-eqb (get_or page p 0) (get_or page p 0) refl))
    (part-stands n page (p + 1) (omega arith))

text-reads : (w page : List ℕ) (p : ℕ) → text_at w page p ≡ true → (i : ℕ) → i < length w → get_or page (p + i) 0 ≡ get_or w i 0
text-reads w page p t i l = at_reads 0 page w p (drop (p + length w) page) (text-drop w page p t) i l

-- the names

abbrev all_stem : List ℕ → Bool
all_stem [] = true
all_stem (b ∷ w) = stem_byte b && all_stem w

all-stem : (w : List ℕ) → all_stem w ≡ true → (i : ℕ) → i < length w → stem_byte (get_or w i 0) ≡ true
all-stem [] a i l = absurd (omega arith)
all-stem (b ∷ w) a zero l = (and_parts (stem_byte b) (all_stem w) a).0
all-stem (b ∷ w) a (suc i) l = all-stem w (and_parts (stem_byte b) (all_stem w) a).1 i (omega arith)

record Nameable (w : List ℕ) : Type 0 where
  head : ℕ
  tail : List ℕ
  parts : w ≡ head ∷ tail
  begins : plain head ≡ true
  stem : all_stem w ≡ true

abbrev Each : (List ℕ → Type 0) → List (List ℕ) → Type 0
Each P [] = Unit {0}
Each P (v ∷ vs) = P v × Each P vs

among-each : (P : List ℕ → Type 0) (vs : List (List ℕ)) (w : List ℕ) → Each P vs → among vs w ≡ true → P w
among-each P [] w h a = absurd (false≢true a)
among-each P (v ∷ vs) w h a =
    ⊎_elim (λ s. subst P (sym ((bytes_eq-Decides w v).0 s)) h.0) (λ r. among-each P vs w h.1 r) (or_cases (bytes_eq w v) (among vs w) a)

nameable : Each Nameable directive_names
nameable = (
  record { head = 105; tail = codes "nclude"; parts = refl; begins = refl; stem = refl },
  (
    record { head = 105; tail = codes "fdef"; parts = refl; begins = refl; stem = refl },
    (
      record { head = 105; tail = codes "fndef"; parts = refl; begins = refl; stem = refl },
      (
        record { head = 101; tail = codes "ndif"; parts = refl; begins = refl; stem = refl },
        (
          record { head = 105; tail = codes "feval"; parts = refl; begins = refl; stem = refl },
          (record { head = 97; tail = codes "sciidorkinclude"; parts = refl; begins = refl; stem = refl }, tt),
        ),
      ),
    ),
  ),
)

colons-taken : (white : Bool) (q e : ℕ) → white ≡ false → e ≡ q + 2 → ◌≡◌ {A = Option Token} (Some (cond white (Word, q) (Directive, q + 2))) (Some (Directive, e))
colons-taken true q e h end = absurd (false≢true (sym h))
colons-taken false q e h end = ap (λ (k : ℕ). Some (Directive, k)) (sym end)

module _ (page : List ℕ) (p : ℕ) where
  pub directive-from : (q : ℕ) → p ≤ q → q ≤ length page → (among directive_names (part page p q) && directive_follows page p q) ≡ true → is_ascii_whitespace (get_or page (q + 2) 0) ≡ false → DirectiveAt page p (q + 2)
  directive-from q from to t tight =
      let v = part page p q in
      let size = part_length page p q from to in
      let here : p + length v ≡ q = omega arith in
      let ab = and_parts (among directive_names v) (directive_follows page p q) t in
      let cd = and_parts (text_at (codes "::") page q) _ ab.1 in
      let z : q + 1 + 1 ≡ q + 2 = omega arith in
      record {
        name = v;
        listed = ab.0;
        stands = part-stands (q - p) page p (omega arith);
        colons = subst (λ k. text_at (codes "::") page k ≡ true) (sym here) cd.0;
        ends = omega arith;
        enough =
            ⊎_elim
            (λ l. inl (omega (arith, leb-true (q + 5) (length page) l)))
            (λ r.
            let ef = and_parts (bytes_eq v (codes "endif")) _ r in
            let gh = and_parts (text_at (codes "::[]") page q) (eqb (length page) (q + 4)) ef.1 in
            let two = (and_parts (is_at page (q + 1) 58) (text_at (codes "[]") page (q + 1 + 1)) (and_parts (is_at page q 58) _ gh.0).1).1 in
            inr ((bytes_eq-Decides v (codes "endif")).0 ef.0, subst (λ k. text_at (codes "[]") page k ≡ true) z two, omega (arith, eqb-true (length page) (q + 4) gh.1)))
            (or_cases (leb (q + 5) (length page)) _ cd.1);
        tight = tight;
      }

  module _ (e : ℕ) (d : DirectiveAt page p e) where
    directive-word : (known : List ℕ → Bool) → token_at known page p ≡ (Directive, e)
    unfolding word_token
    directive-word known =
        let w = d.name in
        let q = p + length w in
        let end = d.ends in
        let n = among-each Nameable directive_names w nameable d.listed in
        let long : 0 < length w = omega (arith, ap length n.parts) in
        let on = inside page q 58 (and_parts (is_at page q 58) _ d.colons).0 in
        let read = text-reads w page p d.stands in
        let z₀ : p + 0 ≡ p = omega arith in
        let here : get_or page p 0 ≡ n.head = ap (λ k. get_or page k 0) (sym z₀) ∙ read 0 long ∙ ap (λ xs. get_or xs 0 0) n.parts in
        let stem : stem_end page p ≡ q =
        run_end-is stem_byte page (p + 1) q (omega arith) (omega (arith, on.0))
        (λ k a b.
        let zk : p + (k - p) ≡ k = omega arith in
        ap stem_byte (ap (λ j. get_or page j 0) (sym zk) ∙ read (k - p) (omega arith)) ∙ all-stem w n.stem (k - p) (omega arith))
        (λ _. ap stem_byte on.1) in
        let z₁ : q - p ≡ length w = omega arith in
        let v : part page p q ≡ w =
        ap (λ k. take k (drop p page)) z₁ ∙ ap (take (length w)) (text-drop w page p d.stands) ∙ take_at w (drop (p + length w) page) (length w) refl in
        let listed : among directive_names (part page p q) ≡ true = ap (among directive_names) v ∙ d.listed in
        let room : (leb (q + 5) (length page) || (bytes_eq (part page p q) (codes "endif") && (text_at (codes "::[]") page q && eqb (length page) (q + 4)))) ≡ true =
        ⊎_elim
        (λ l. or_left (leb (q + 5) (length page)) _ (le-leb (q + 5) (length page) (omega arith)))
        (λ r.
        or_right (leb (q + 5) (length page)) _
        (and_from (bytes_eq (part page p q) (codes "endif")) _ ((bytes_eq-Decides (part page p q) (codes "endif")).1 (v ∙ r.0))
        (and_from (text_at (codes "::[]") page q) _ (four q d.colons (subst (λ k. text_at (codes "[]") page k ≡ true) end r.1))
        (eq-eqb (length page) (q + 4) (omega (arith, r.2))))))
        d.enough in
        let token : directive_token page p q ≡ Some (Directive, e) =
        cond-true (among directive_names (part page p q) && directive_follows page p q) _ None
        (and_from (among directive_names (part page p q)) _ listed (and_from (text_at (codes "::") page q) _ d.colons room))
        ∙ colons-taken (is_ascii_whitespace (get_or page (q + 2) 0)) q e (ap (λ k. is_ascii_whitespace (get_or page k 0)) (sym end) ∙ d.tight) end in
        plain-token known page p n.head here n.begins ∙ ap (word_from known page p) stem ∙ found (directive_token page p q) _ (Word, q) (Directive, e) token
      where
        four : (q : ℕ) → text_at (codes "::") page q ≡ true → text_at (codes "[]") page (q + 2) ≡ true → text_at (codes "::[]") page q ≡ true
        four q a b =
            let ab = and_parts (is_at page q 58) (text_at (codes ":") page (q + 1)) a in
            let bc = and_parts (is_at page (q + 1) 58) true ab.1 in
            let z : q + 2 ≡ q + 1 + 1 = omega arith in
            and_from (is_at page q 58) _ ab.0 (and_from (is_at page (q + 1) 58) _ bc.0 (subst (λ k. text_at (codes "[]") page k ≡ true) z b))

pub directive-token : (known : List ℕ → Bool) (page : List ℕ) (p e : ℕ) → DirectiveAt page p e → token_at known page p ≡ (Directive, e)
directive-token known page p e d = directive-word page p e d known
