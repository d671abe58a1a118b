-- A stem that ends in a name. Assumes nothing.
use Rattle.std.proofs.Common.{◌≡◌, ℕ, ◌+◌, ◌-◌, ◌<◌, ◌≤◌, true, false, List, length, get_or, Some, drop, sym, ap, ◌∙◌, subst, ⊎_elim, arith, length-drop, length-take}
use Rattle.std.specs.Str.{bytes_eq}
use Rattle.std.proofs.lemmas.Slice.Eq.{bytes_eq-Decides}
use Rattle.std.specs.List.{slice_get}
use Rattle.std.proofs.lemmas.List.{get_or-drop, get_or-take}
use Rattle.std.proofs.lemmas.Option.{get_or_from_slice_get, slice_get_within}
use Rattle.std.proofs.lemmas.Bool.{both_ways, cases_lt, cases_Bool}
use Rattle.marks.specs.Places.{part}
use Rattle.words.specs.Word.{among, ends_with}

-- where it is not that name, it is longer
pub ending-shorter : (w v : List ℕ) → ends_with w v ≡ true → bytes_eq v w ≡ false → length w < length v
ending-shorter w v e n =
    let d = (bytes_eq-Decides (drop (length v - length w) v) w).0 e in
    let l = ap length d in
    ⊎_elim (λ h. h)
    (λ h.
    let z : length v - length w ≡ 0 = omega arith in
    let same : v ≡ w = subst (λ k. drop k v ≡ w) z d in
    absurd (both_ways (bytes_eq v w) n ((bytes_eq-Decides v w).1 same)))
    (cases_lt (length w) (length v))

-- a name that is not listed is none of the list
pub not-among : (vs : List (List ℕ)) (w v : List ℕ) → among vs w ≡ false → among vs v ≡ true → bytes_eq w v ≡ false
not-among vs w v n y =
    ⊎_elim
    (λ t. absurd (both_ways (among vs w) n (ap (among vs) ((bytes_eq-Decides w v).0 t) ∙ y)))
    (λ f. f) (cases_Bool (bytes_eq w v))

pub part_length : (page : List ℕ) (p q : ℕ) → p ≤ q → q ≤ length page → length (part page p q) ≡ q - p
part_length page p q h l = omega (arith, length-take (q - p) (drop p page), length-drop p page)

-- its last byte is the name's
pub ending-last : (w page : List ℕ) (p q : ℕ) → p ≤ q → q ≤ length page → 0 < length w → ends_with w (part page p q) ≡ true → get_or page (q - 1) 0 ≡ get_or w (length w - 1) 0
ending-last w page p q h l some e =
    let v = part page p q in
    let n = length w in
    let i = length v - n in
    let long = part_length page p q h l in
    let d = (bytes_eq-Decides (drop i v) w).0 e in
    let size : length v - i ≡ n = sym (length-drop i v) ∙ ap length d in
    let z : p + (i + (n - 1)) ≡ q - 1 = omega arith in
    ap (λ k. get_or page k 0) (sym z)
    ∙ sym (get_or-drop p page (i + (n - 1)) 0)
    ∙ sym (get_or-take (q - p) (drop p page) (i + (n - 1)) 0 (omega arith))
    ∙ sym (get_or-drop i v (n - 1) 0)
    ∙ ap (λ xs. get_or xs (n - 1) 0) d

-- so a stem with another last byte has another ending
pub other_ending : (w page : List ℕ) (p q last : ℕ) → p ≤ q → q ≤ length page → slice_get w (length w - 1) ≡ Some last → (get_or page (q - 1) 0 ≡ last → ⊥) → ends_with w (part page p q) ≡ false
other_ending w page p q last h l is other =
    let some = slice_get_within w (length w - 1) last is in
    ⊎_elim
    (λ t. absurd (other (ending-last w page p q h l (omega arith) t ∙ get_or_from_slice_get w (length w - 1) last 0 is)))
    (λ f. f)
    (cases_Bool (ends_with w (part page p q)))
