-- A stretch has a shape exactly when the place that is worked out for the shape is its end. Assumes nothing.
use Rattle.std.proofs.Common.{◌≡◌, ℕ, ◌+◌, ◌<◌, ◌≤◌, Bool, true, false, cond, not, ◌&&◌, ◌||◌, eqb, ltb, ◌⊎◌, List, [], ◌∷◌, length, get_or, Some, None, Option, sym, refl, ap, ◌∙◌, subst, inl, inr, ⊎_elim, arith}
use Rattle.std.specs.Option.{option_or}
use Rattle.std.proofs.lemmas.Bool.{and_parts, and_from, and_right, ltb-true, lt-ltb, eqb-true, cond-true, not-true, or_cases, both_ways, true≢false, false≢true, eq-eqb}
use Rattle.page_bytes.specs.Runs.{run_end}
use Rattle.page_bytes.proofs.RunLaws.{run_end-ge, run_end-all, run_end-is}
use Rattle.marks.specs.Places.{is_at, class_at, text_at}
use Rattle.marks.specs.Shape.{text, one, upto, Shape, AllOf, Spelt, SpeltBy}
use Rattle.marks.specs.Spelling.{spelt_end, first_end}

-- Which shapes are told by a reader that takes the longest run and does not go back. Each test computes.

-- a text whose first byte is not of the class
abbrev pub outside : (ℕ → Bool) → List ℕ → Bool
outside is [] = false
outside is (b ∷ bs) = not (is b)

-- no run of a shape goes over the text that ends it
abbrev pub clear : Shape → Bool
clear [] = true
clear (text w ∷ s) = clear s
clear (one is ∷ s) = clear s
clear (upto is w ∷ s) = outside is w && clear s

pub never : {e : ℕ} → ◌≡◌ {A = Option ℕ} None (Some e) → ⊥
never h = let z : ◌≡◌ {A = ℕ} 0 1 = cc in omega arith

-- a test that let an end through was true
pub passed : (b : Bool) (o : Option ℕ) (e : ℕ) → cond b o None ≡ Some e → (b ≡ true) × (o ≡ Some e)
passed true o e h = (refl, h)
passed false o e h = absurd (never h)

pub inside : (page : List ℕ) (i b : ℕ) → is_at page i b ≡ true → (i < length page) × (get_or page i 0 ≡ b)
inside page i b h =
    let ab = and_parts (ltb i (length page)) (eqb (get_or page i 0) b) h in
    (ltb-true i (length page) ab.0, eqb-true (get_or page i 0) b ab.1)

-- another byte stands there
pub not_at : (page : List ℕ) (p m b : ℕ) → get_or page p 0 ≡ m → eqb m b ≡ false → is_at page p b ≡ false
not_at page p m b here h = and_right (ltb p (length page)) (eqb (get_or page p 0) b) (ap (λ x. eqb x b) here ∙ h)

pub class-inside : (is : ℕ → Bool) (page : List ℕ) (i : ℕ) → class_at is page i ≡ true → (i < length page) × (is (get_or page i 0) ≡ true)
class-inside is page i h =
    let ab = and_parts (ltb i (length page)) (is (get_or page i 0)) h in
    (ltb-true i (length page) ab.0, ab.1)

-- the bytes of the run, as a run of places
pub run-all : (is : ℕ → Bool) (page : List ℕ) (p : ℕ) → run_end is page p ≤ length page → AllOf is page p (run_end is page p)
run-all is page p h k l u =
    and_from (ltb k (length page)) (is (get_or page k 0)) (lt-ltb k (length page) (omega arith)) (run_end-all is page p k l u)

-- a text that stands at a place begins on the page
text-begins : (is : ℕ → Bool) (w page : List ℕ) (q : ℕ) → outside is w ≡ true → text_at w page q ≡ true → (q < length page) × (is (get_or page q 0) ≡ false)
text-begins is [] page q o h = absurd (true≢false (sym o))
text-begins is (b ∷ bs) page q o h =
    let at = inside page q b (and_parts (is_at page q b) (text_at bs page (q + 1)) h).0 in
    (at.0, ap is at.1 ∙ not-true (is b) o)

pub reached-spelt : (s : Shape) (page : List ℕ) (p e : ℕ) → clear s ≡ true → spelt_end s page p ≡ Some e → Spelt s page p e
reached-spelt [] page p e c h = cc
reached-spelt (text w ∷ s) page p e c h =
    let b = passed (text_at w page p) (spelt_end s page (p + length w)) e h in
    (b.0, reached-spelt s page (p + length w) e c b.1)
reached-spelt (one is ∷ s) page p e c h =
    let b = passed (class_at is page p) (spelt_end s page (p + 1)) e h in
    (b.0, reached-spelt s page (p + 1) e c b.1)
reached-spelt (upto is w ∷ s) page p e c h =
    let q = run_end is page p in
    let cs = and_parts (outside is w) (clear s) c in
    let b = passed (text_at w page q) (spelt_end s page (q + length w)) e h in
    let at = text-begins is w page q cs.0 b.0 in
    (q, (run_end-ge is page p, run-all is page p (omega arith), b.0, reached-spelt s page (q + length w) e cs.1 b.1))

pub spelt-reached : (s : Shape) (page : List ℕ) (p e : ℕ) → clear s ≡ true → Spelt s page p e → spelt_end s page p ≡ Some e
spelt-reached [] page p e c h = cc
spelt-reached (text w ∷ s) page p e c h =
    cond-true (text_at w page p) (spelt_end s page (p + length w)) None h.0 ∙ spelt-reached s page (p + length w) e c h.1
spelt-reached (one is ∷ s) page p e c h =
    cond-true (class_at is page p) (spelt_end s page (p + 1)) None h.0 ∙ spelt-reached s page (p + 1) e c h.1
spelt-reached (upto is w ∷ s) page p e c (q, (l, all, at, more)) =
    let cs = and_parts (outside is w) (clear s) c in
    let here = text-begins is w page q cs.0 at in
    let on = here.0 in
    let same = run_end-is is page p q l (omega arith) (λ k a b. (class-inside is page k (all k a b)).1) (λ _. here.1) in
    subst (λ m. cond (text_at w page m) (spelt_end s page (m + length w)) None ≡ Some e) (sym same)
    (cond-true (text_at w page q) (spelt_end s page (q + length w)) None at ∙ spelt-reached s page (q + length w) e cs.1 more)

-- Several shapes, of which at most one fits at a place

pub data Lead : Type 0 where
  exactly : ℕ → Lead
  like : (ℕ → Bool) → Lead

abbrev pub text_leads : List ℕ → List Lead → List Lead
text_leads [] ls = ls
text_leads (b ∷ w) ls = exactly b ∷ text_leads w ls

-- what the first bytes of a shape are, up to its first run
abbrev pub leads : Shape → List Lead
leads [] = []
leads (text w ∷ s) = text_leads w (leads s)
leads (one is ∷ s) = like is ∷ leads s
leads (upto is w ∷ s) = []

abbrev pub differ : Lead → Lead → Bool
differ (exactly m) (exactly n) = not (eqb m n)
differ (exactly m) (like is) = not (is m)
differ (like is) (exactly n) = not (is n)
differ (like is) (like js) = false

-- two shapes that cannot both stand at one place
abbrev pub apart : List Lead → List Lead → Bool
apart [] ms = false
apart (l ∷ ls) [] = false
apart (l ∷ ls) (m ∷ ms) = differ l m || apart ls ms

abbrev pub apart_from : List Lead → List Shape → Bool
apart_from ls [] = true
apart_from ls (t ∷ ts) = apart ls (leads t) && apart_from ls ts

-- each shape is clear, and no two can stand at one place
abbrev pub distinct : List Shape → Bool
distinct [] = true
distinct (s ∷ ss) = clear s && (apart_from (leads s) ss && distinct ss)

abbrev pub IsLead : Lead → ℕ → Type 0
IsLead (exactly m) b = b ≡ m
IsLead (like is) b = is b ≡ true

abbrev pub Leading : List Lead → List ℕ → ℕ → Type 0
Leading [] page p = Unit {0}
Leading (l ∷ ls) page p = IsLead l (get_or page p 0) × Leading ls page (p + 1)

text-leading : (w : List ℕ) (ls : List Lead) (page : List ℕ) (p : ℕ) → text_at w page p ≡ true → Leading ls page (p + length w) → Leading (text_leads w ls) page p
text-leading [] ls page p t h = let z : p + 0 ≡ p = omega arith in subst (Leading ls page) z h
text-leading (b ∷ w) ls page p t h =
    let ab = and_parts (is_at page p b) (text_at w page (p + 1)) t in
    let z : p + length (b ∷ w) ≡ p + 1 + length w = omega arith in
    ((inside page p b ab.0).1, text-leading w ls page (p + 1) ab.1 (subst (Leading ls page) z h))

pub spelt-leading : (s : Shape) (page : List ℕ) (p e : ℕ) → Spelt s page p e → Leading (leads s) page p
spelt-leading [] page p e h = tt
spelt-leading (text w ∷ s) page p e h = text-leading w (leads s) page p h.0 (spelt-leading s page (p + length w) e h.1)
spelt-leading (one is ∷ s) page p e h = ((class-inside is page p h.0).1, spelt-leading s page (p + 1) e h.1)
spelt-leading (upto is w ∷ s) page p e h = tt

differ-clash : (l m : Lead) (b : ℕ) → differ l m ≡ true → IsLead l b → IsLead m b → ⊥
differ-clash (exactly m) (exactly n) b d h k = both_ways (eqb m n) (not-true (eqb m n) d) (eq-eqb m n (sym h ∙ k))
differ-clash (exactly m) (like is) b d h k = both_ways (is m) (not-true (is m) d) (ap is (sym h) ∙ k)
differ-clash (like is) (exactly n) b d h k = both_ways (is n) (not-true (is n) d) (ap is (sym k) ∙ h)
differ-clash (like is) (like js) b d h k = false≢true d

apart-clash : (ls ms : List Lead) (page : List ℕ) (p : ℕ) → apart ls ms ≡ true → Leading ls page p → Leading ms page p → ⊥
apart-clash [] ms page p a h k = false≢true a
apart-clash (l ∷ ls) [] page p a h k = false≢true a
apart-clash (l ∷ ls) (m ∷ ms) page p a h k =
    ⊎_elim (λ d. differ-clash l m (get_or page p 0) d h.0 k.0) (λ r. apart-clash ls ms page (p + 1) r h.1 k.1)
    (or_cases (differ l m) (apart ls ms) a)

apart_by : (ls : List Lead) (ts : List Shape) (page : List ℕ) (p e : ℕ) → apart_from ls ts ≡ true → Leading ls page p → SpeltBy ts page p e → ⊥
apart_by ls [] page p e a h k = k
apart_by ls (t ∷ ts) page p e a h k =
    let ab = and_parts (apart ls (leads t)) (apart_from ls ts) a in
    ⊎_elim
    (λ u. apart-clash ls (leads t) page p ab.0 h (spelt-leading t page p e u))
    (λ u. apart_by ls ts page p e ab.1 h u) k

second : (o r : Option ℕ) (e : ℕ) → ((d : ℕ) → o ≡ Some d → ⊥) → r ≡ Some e → option_or o r ≡ Some e
second None r e h k = k
second (Some d) r e h k = absurd (h d refl)

either : (o r : Option ℕ) (e : ℕ) → option_or o r ≡ Some e → (o ≡ Some e) ⊎ (r ≡ Some e)
either None r e h = inr h
either (Some d) r e h = inl h

pub first-spelt : (ss : List Shape) (page : List ℕ) (p e : ℕ) → distinct ss ≡ true → first_end ss page p ≡ Some e → SpeltBy ss page p e
first-spelt [] page p e c h = never h
first-spelt (s ∷ ss) page p e c h =
    let cs = and_parts (clear s) (apart_from (leads s) ss && distinct ss) c in
    let ds = and_parts (apart_from (leads s) ss) (distinct ss) cs.1 in
    ⊎_elim (λ u. inl (reached-spelt s page p e cs.0 u)) (λ u. inr (first-spelt ss page p e ds.1 u))
    (either (spelt_end s page p) (first_end ss page p) e h)

pub spelt-first : (ss : List Shape) (page : List ℕ) (p e : ℕ) → distinct ss ≡ true → SpeltBy ss page p e → first_end ss page p ≡ Some e
spelt-first [] page p e c h = absurd h
spelt-first (s ∷ ss) page p e c h =
    let cs = and_parts (clear s) (apart_from (leads s) ss && distinct ss) c in
    let ds = and_parts (apart_from (leads s) ss) (distinct ss) cs.1 in
    ⊎_elim
    (λ u. ap (λ o. option_or o (first_end ss page p)) (spelt-reached s page p e cs.0 u))
    (λ u. second (spelt_end s page p) (first_end ss page p) e (λ d k. apart_by (leads s) ss page p e ds.0 (spelt-leading s page p d (reached-spelt s page p d cs.0 k)) u) (spelt-first ss page p e ds.1 u))
    h

none : (o : Option ℕ) → ((e : ℕ) → o ≡ Some e → ⊥) → o ≡ None
none None h = refl
none (Some e) h = absurd (h e refl)

-- no shape of the list begins with the byte that stands there
pub first-none : (ss : List Shape) (m : ℕ) (page : List ℕ) (p : ℕ) → distinct ss ≡ true → apart_from (exactly m ∷ []) ss ≡ true → get_or page p 0 ≡ m → first_end ss page p ≡ None
first-none ss m page p d a h =
    none (first_end ss page p) (λ e k. apart_by (exactly m ∷ []) ss page p e a (h, tt) (first-spelt ss page p e d k))

pub spelt-none : (s : Shape) (m : ℕ) (page : List ℕ) (p : ℕ) → clear s ≡ true → apart (exactly m ∷ []) (leads s) ≡ true → get_or page p 0 ≡ m → spelt_end s page p ≡ None
spelt-none s m page p c a h =
    none (spelt_end s page p) (λ e k. apart-clash (exactly m ∷ []) (leads s) page p a (h, tt) (spelt-leading s page p e (reached-spelt s page p e c k)))
