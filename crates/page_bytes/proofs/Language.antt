-- What the machine accepts from each state, in the words of UTF-8, and the other way round. Assumes nothing.
use Rattle.std.proofs.Common.{Some, None, Option, ◌≡◌, ℕ, ◌+◌, ◌/◌, ◌<◌, ◌≤◌, Bool, true, cond, ◌||◌, eqb, leb, ◌⊎◌, List, [], ◌∷◌, ◌++◌, IsUtf8, Decides, refl, ap, ◌∙◌, subst, inl, inr, ⊎_elim, arith}
use lib.Utf8.{encode, encodes, scalar, scalars, scalar_cases}
use lib.Utf8 as utf8
use Rattle.std.specs.Int.{IsInRange, is_in_range}
use Rattle.std.proofs.lemmas.Str.{IsUtf8-nil, encode_ascii}
use Rattle.std.proofs.lemmas.Bool.{and_parts, eqb-true, false≢true}
use Rattle.std.proofs.lemmas.Bool.Decides.{nat_tests}
use Rattle.page_bytes.specs.declared.utf8_state.Utf8State.{Utf8State}
use Rattle.page_bytes.specs.declared.utf8_state.Utf8State.TheVariants.{Start, Due1, Due2, Due3, AfterE0, AfterEd, AfterF0, AfterF4}
use Rattle.page_bytes.specs.Machine.{first, next, accepts}
use Rattle.page_bytes.proofs.Cases.{by, below}
use Rattle.page_bytes.proofs.Encoded.{of-1, of-2, of-3, of-4, low, high, char3, char4, encode-2, encode-3, encode-4}

-- one byte of a range, and then what P says
abbrev Byte : ℕ → ℕ → (List ℕ → Type 0) → List ℕ → Type 0
Byte lo hi P [] = ⊥
Byte lo hi P (y ∷ ys) = IsInRange lo hi y × P ys

abbrev One : List ℕ → Type 0
One bs = Byte 128 191 IsUtf8 bs

abbrev Two : List ℕ → Type 0
Two bs = Byte 128 191 One bs

abbrev Lang : Option Utf8State → List ℕ → Type 0
Lang (Some Start) bs = IsUtf8 bs
Lang (Some Due1) bs = One bs
Lang (Some Due2) bs = Two bs
Lang (Some Due3) bs = Byte 128 191 Two bs
Lang (Some AfterE0) bs = Byte 160 191 One bs
Lang (Some AfterEd) bs = Byte 128 159 One bs
Lang (Some AfterF0) bs = Byte 144 191 Two bs
Lang (Some AfterF4) bs = Byte 128 143 Two bs
Lang None bs = ⊥

no-fault : (bs : List ℕ) → accepts None bs ≡ true → ⊥
no-fault [] e = false≢true e
no-fault (b ∷ bs) e = no-fault bs e

within_in : (lo hi b : ℕ) → is_in_range lo hi b ≡ true → IsInRange lo hi b
within_in lo hi b e = grind (arith, nat_tests)

in_within : (lo hi b : ℕ) → IsInRange lo hi b → is_in_range lo hi b ≡ true
in_within lo hi b (l, h) = grind (arith, nat_tests)

-- a byte that is due
due : (lo hi b : ℕ) (t : Option Utf8State) (bs : List ℕ) → (accepts t bs ≡ true → Lang t bs) → accepts (cond (is_in_range lo hi b) t None) bs ≡ true → IsInRange lo hi b × Lang t bs
due lo hi b t bs ih e =
    by (is_in_range lo hi b) (λ q. (within_in lo hi b q, ih (rw q at e))) (λ q. absurd (no-fault bs (rw q at e)))

-- a first byte, and what is due after it
from-2 : (x : ℕ) (bs : List ℕ) → IsInRange 194 223 x → One bs → IsUtf8 (x ∷ bs)
from-2 x [] i l = absurd l
from-2 x (y ∷ ys) i (j, u) = of-2 x y ys i j u

from-3 : (x lo hi : ℕ) (bs : List ℕ) → IsInRange 224 239 x → ((y z : ℕ) → IsInRange lo hi y → IsInRange 128 191 z → IsInRange 128 191 y × (2048 ≤ char3 x y z) × (scalar (char3 x y z) ≡ true)) → Byte lo hi One bs → IsUtf8 (x ∷ bs)
from-3 x lo hi [] i ok l = absurd l
from-3 x lo hi (y ∷ []) i ok (j, l) = absurd l
from-3 x lo hi (y ∷ z ∷ zs) i ok (j, (k, u)) = let f = ok y z j k in of-3 x y z zs i f.0 k f.1 f.2 u

from-4 : (x lo hi : ℕ) (bs : List ℕ) → IsInRange 240 244 x → ((y z w : ℕ) → IsInRange lo hi y → IsInRange 128 191 z → IsInRange 128 191 w → IsInRange 128 191 y × (65536 ≤ char4 x y z w) × (char4 x y z w < 1114112)) → Byte lo hi Two bs → IsUtf8 (x ∷ bs)
from-4 x lo hi [] i ok l = absurd l
from-4 x lo hi (y ∷ []) i ok (j, l) = absurd l
from-4 x lo hi (y ∷ z ∷ []) i ok (j, (k, l)) = absurd l
from-4 x lo hi (y ∷ z ∷ w ∷ ws) i ok (j, (k, (m, u))) = let f = ok y z w j k m in of-4 x y z w ws i f.0 k m f.1 f.2 u

two-ranges : (b : ℕ) → is_in_range 225 236 b || is_in_range 238 239 b ≡ true → IsInRange 225 236 b ⊎ IsInRange 238 239 b
two-ranges b e = by (is_in_range 225 236 b) (λ q. inl (within_in 225 236 b q)) (λ q. inr (within_in 238 239 b (rw q at e)))

start : (b : ℕ) (bs : List ℕ) → Lang (first b) bs → IsUtf8 (b ∷ bs)
start b bs l =
    by (leb b 127) (λ q. of-1 b bs (grind (arith, nat_tests)) (rw q at l)) (λ q1.
    let l1 = rw q1 at l in
    by (is_in_range 194 223 b) (λ q. from-2 b bs (within_in 194 223 b q) (rw q at l1)) (λ q2.
    let l2 = rw q2 at l1 in
    by (eqb b 224) (λ q. let e = eqb-true b 224 q in from-3 b 160 191 bs (omega arith, omega arith) (λ y z j k. ((omega arith, omega arith), omega arith, low (char3 b y z) (omega arith))) (rw q at l2)) (λ q3.
    let l3 = rw q3 at l2 in
    by (is_in_range 225 236 b || is_in_range 238 239 b) (λ q. ⊎_elim
    (λ i. from-3 b 128 191 bs (omega arith, omega arith) (λ y z j k. (j, omega arith, low (char3 b y z) (omega arith))) (rw q at l3))
    (λ i. from-3 b 128 191 bs (omega arith, omega arith) (λ y z j k. (j, omega arith, high (char3 b y z) (omega arith) (omega arith))) (rw q at l3))
    (two-ranges b q)) (λ q4.
    let l4 = rw q4 at l3 in
    by (eqb b 237) (λ q. let e = eqb-true b 237 q in from-3 b 128 159 bs (omega arith, omega arith) (λ y z j k. ((omega arith, omega arith), omega arith, low (char3 b y z) (omega arith))) (rw q at l4)) (λ q5.
    let l5 = rw q5 at l4 in
    by (eqb b 240) (λ q. let e = eqb-true b 240 q in from-4 b 144 191 bs (omega arith, omega arith) (λ y z w j k m. ((omega arith, omega arith), omega arith, omega arith)) (rw q at l5)) (λ q6.
    let l6 = rw q6 at l5 in
    by (is_in_range 241 243 b) (λ q. let e = within_in 241 243 b q in from-4 b 128 191 bs (omega arith, omega arith) (λ y z w j k m. (j, omega arith, omega arith)) (rw q at l6)) (λ q7.
    let l7 = rw q7 at l6 in
    by (eqb b 244) (λ q. let e = eqb-true b 244 q in from-4 b 128 143 bs (omega arith, omega arith) (λ y z w j k m. ((omega arith, omega arith), omega arith, omega arith)) (rw q at l7))
    (λ q8. absurd (rw q8 at l7)))))))))

pub sound : (s : Option Utf8State) (bs : List ℕ) → accepts s bs ≡ true → Lang s bs
sound (Some Start) [] e = IsUtf8-nil
sound (Some Due1) [] e = absurd (false≢true e)
sound (Some Due2) [] e = absurd (false≢true e)
sound (Some Due3) [] e = absurd (false≢true e)
sound (Some AfterE0) [] e = absurd (false≢true e)
sound (Some AfterEd) [] e = absurd (false≢true e)
sound (Some AfterF0) [] e = absurd (false≢true e)
sound (Some AfterF4) [] e = absurd (false≢true e)
sound None [] e = absurd (false≢true e)
sound (Some Start) (b ∷ bs) e = start b bs (sound (first b) bs e)
sound (Some Due1) (b ∷ bs) e = due 128 191 b (Some Start) bs (sound (Some Start) bs) e
sound (Some Due2) (b ∷ bs) e = due 128 191 b (Some Due1) bs (sound (Some Due1) bs) e
sound (Some Due3) (b ∷ bs) e = due 128 191 b (Some Due2) bs (sound (Some Due2) bs) e
sound (Some AfterE0) (b ∷ bs) e = due 160 191 b (Some Due1) bs (sound (Some Due1) bs) e
sound (Some AfterEd) (b ∷ bs) e = due 128 159 b (Some Due1) bs (sound (Some Due1) bs) e
sound (Some AfterF0) (b ∷ bs) e = due 144 191 b (Some Due2) bs (sound (Some Due2) bs) e
sound (Some AfterF4) (b ∷ bs) e = due 128 143 b (Some Due2) bs (sound (Some Due2) bs) e
sound None (b ∷ bs) e = no-fault bs e

-- the other way round: the machine goes through the bytes of a character
tail-in : (c : ℕ) → is_in_range 128 191 (utf8.next c) ≡ true
tail-in c = in_within 128 191 (utf8.next c) (omega arith, omega arith)

first-1 : (x : ℕ) → x < 128 → first x ≡ Some Start
first-1 x h = grind (arith, nat_tests)

first-2 : (x : ℕ) → IsInRange 194 223 x → first x ≡ Some Due1
first-2 x (l, h) = grind (arith, nat_tests)

first-3 : (x : ℕ) → IsInRange 225 236 x ⊎ IsInRange 238 239 x → first x ≡ Some Due2
first-3 x (inl (l, h)) = grind (arith, nat_tests)
first-3 x (inr (l, h)) = grind (arith, nat_tests)

first-4 : (x : ℕ) → IsInRange 241 243 x → first x ≡ Some Due3
first-4 x (l, h) = grind (arith, nat_tests)

second : (lo hi y : ℕ) (t : Option Utf8State) → IsInRange lo hi y → cond (is_in_range lo hi y) t None ≡ t
second lo hi y t i = rw (in_within lo hi y i)

second-tail : (c : ℕ) (t : Option Utf8State) → cond (is_in_range 128 191 (utf8.next c)) t None ≡ t
second-tail c t = rw (tail-in c)

pass-1 : (x : ℕ) (rest : List ℕ) → first x ≡ Some Start → accepts (Some Start) (x ∷ rest) ≡ accepts (Some Start) rest
pass-1 x rest p = rw p

pass-2 : (x y : ℕ) (rest : List ℕ) → first x ≡ Some Due1 → is_in_range 128 191 y ≡ true → accepts (Some Start) (x ∷ y ∷ rest) ≡ accepts (Some Start) rest
pass-2 x y rest p q = rw (p, q)

-- three bytes and four, where the state after the first one takes the second
pass-3 : (x y z : ℕ) (s : Option Utf8State) (rest : List ℕ) → first x ≡ s → next s y ≡ Some Due1 → is_in_range 128 191 z ≡ true → accepts (Some Start) (x ∷ y ∷ z ∷ rest) ≡ accepts (Some Start) rest
pass-3 x y z s rest p q r = rw (p, q, r)

pass-4 : (x y z w : ℕ) (s : Option Utf8State) (rest : List ℕ) → first x ≡ s → next s y ≡ Some Due2 → is_in_range 128 191 z ≡ true → is_in_range 128 191 w ≡ true → accepts (Some Start) (x ∷ y ∷ z ∷ w ∷ rest) ≡ accepts (Some Start) rest
pass-4 x y z w s rest p q r t = rw (p, q, r, t)

pass-char-3 : (c : ℕ) (rest : List ℕ) → 2048 ≤ c → c < 65536 → (c < 55296) ⊎ (57344 ≤ c) → accepts (Some Start) ((224 + c / 4096) ∷ utf8.next (c / 64) ∷ utf8.next c ∷ rest) ≡ accepts (Some Start) rest
pass-char-3 c rest l h (inl s) =
    below c 4096
    (λ t. let e : 224 + c / 4096 ≡ 224 = omega arith in pass-3 (224 + c / 4096) (utf8.next (c / 64)) (utf8.next c) (Some AfterE0) rest (ap first e) (second 160 191 (utf8.next (c / 64)) (Some Due1) (omega arith, omega arith)) (tail-in c))
    (λ t. below c 53248
    (λ u. pass-3 (224 + c / 4096) (utf8.next (c / 64)) (utf8.next c) (Some Due2) rest (first-3 (224 + c / 4096) (inl (omega arith, omega arith))) (second-tail (c / 64) (Some Due1)) (tail-in c))
    (λ u. let e : 224 + c / 4096 ≡ 237 = omega arith in pass-3 (224 + c / 4096) (utf8.next (c / 64)) (utf8.next c) (Some AfterEd) rest (ap first e) (second 128 159 (utf8.next (c / 64)) (Some Due1) (omega arith, omega arith)) (tail-in c)))
pass-char-3 c rest l h (inr s) = pass-3 (224 + c / 4096) (utf8.next (c / 64)) (utf8.next c) (Some Due2) rest (first-3 (224 + c / 4096) (inr (omega arith, omega arith))) (second-tail (c / 64) (Some Due1)) (tail-in c)

pass-char-4 : (c : ℕ) (rest : List ℕ) → 65536 ≤ c → c < 1114112 → accepts (Some Start) ((240 + c / 262144) ∷ utf8.next (c / 4096) ∷ utf8.next (c / 64) ∷ utf8.next c ∷ rest) ≡ accepts (Some Start) rest
pass-char-4 c rest l h =
    below c 262144
    (λ t. let e : 240 + c / 262144 ≡ 240 = omega arith in pass-4 (240 + c / 262144) (utf8.next (c / 4096)) (utf8.next (c / 64)) (utf8.next c) (Some AfterF0) rest (ap first e) (second 144 191 (utf8.next (c / 4096)) (Some Due2) (omega arith, omega arith)) (tail-in (c / 64)) (tail-in c))
    (λ t. below c 1048576
    (λ u. pass-4 (240 + c / 262144) (utf8.next (c / 4096)) (utf8.next (c / 64)) (utf8.next c) (Some Due3) rest (first-4 (240 + c / 262144) (omega arith, omega arith)) (second-tail (c / 4096) (Some Due2)) (tail-in (c / 64)) (tail-in c))
    (λ u. let e : 240 + c / 262144 ≡ 244 = omega arith in pass-4 (240 + c / 262144) (utf8.next (c / 4096)) (utf8.next (c / 64)) (utf8.next c) (Some AfterF4) rest (ap first e) (second 128 143 (utf8.next (c / 4096)) (Some Due2) (omega arith, omega arith)) (tail-in (c / 64)) (tail-in c)))

pass-char : (c : ℕ) (rest : List ℕ) → scalar c ≡ true → accepts (Some Start) (encode c ++ rest) ≡ accepts (Some Start) rest
pass-char c rest s =
    below c 128 (λ h. rw (encode_ascii c h) (pass-1 c rest (first-1 c h)))
    (λ l. below c 2048 (λ h. rw (encode-2 c l h) (pass-2 (192 + c / 64) (utf8.next c) rest (first-2 (192 + c / 64) (omega arith, omega arith)) (tail-in c)))
    (λ m. below c 65536 (λ h. rw (encode-3 c m h) (pass-char-3 c rest m h (⊎_elim inl (λ t. inr t.0) (scalar_cases c s))))
    (λ n. rw (encode-4 c n) (pass-char-4 c rest n (⊎_elim (λ t. omega arith) (λ t. t.1) (scalar_cases c s))))))

pub complete : (cs : List ℕ) → scalars cs ≡ true → accepts (Some Start) (encodes cs) ≡ true
complete [] s = refl
complete (c ∷ cs) s =
    let t = and_parts (scalar c) (scalars cs) s in pass-char c (encodes cs) t.0 ∙ complete cs t.1

-- the machine decides UTF-8
pub decides : (bs : List ℕ) → Decides (accepts (Some Start) bs) (IsUtf8 bs)
decides bs = (sound (Some Start) bs, λ (cs, (s, e)). subst (λ (l : List ℕ). accepts (Some Start) l ≡ true) e (complete cs s))

pub decided : (r : Bool) (bs : List ℕ) → r ≡ accepts (Some Start) bs → Decides r (IsUtf8 bs)
decided r bs e = rw e (decides bs)
