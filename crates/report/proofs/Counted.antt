-- A character has one byte that is no continuation byte: its first. Assumes nothing.
use Rattle.std.proofs.Common.{◌≡◌, ℕ, ◌+◌, ◌/◌, ◌<◌, ◌≤◌, Bool, true, false, cond, not, List, [], ◌∷◌, length, IsUtf8, count_by, sym, refl, ap, ◌∙◌, ⊎_elim, arith}
use lib.Utf8.{encode, encodes}
use lib.Utf8 as utf8
use Rattle.std.specs.Int.{IsInRange}
use Rattle.std.proofs.lemmas.List.Sums.{sum_by-append}
use Rattle.std.proofs.lemmas.Str.{encode_ascii}
use Rattle.std.proofs.lemmas.Bool.{cases_lt}
use Rattle.std.proofs.lemmas.Bool.Decides.{nat_tests}
use Rattle.page_bytes.specs.Classes.{continuation}
use Rattle.page_bytes.proofs.Encoded.{encode-2, encode-3, encode-4}
use Rattle.report.specs.Report.{Characters}

abbrev pub leads : ℕ → Bool
leads b = not (continuation b)

tail : (c : ℕ) → leads (utf8.next c) ≡ false
tail c = let h : IsInRange 128 191 (utf8.next c) = (omega arith, omega arith) in grind (arith, nat_tests)

first : (b : ℕ) → 192 ≤ b → leads b ≡ true
first b h = grind (arith, nat_tests)

small : (b : ℕ) → b < 128 → leads b ≡ true
small b h = grind (arith, nat_tests)

one : (c : ℕ) → count_by leads (encode c) ≡ 1
one c =
    ⊎_elim
    (λ h. rw (encode_ascii c h) (rw (small c h) refl))
    (λ l. ⊎_elim
    (λ h. rw (encode-2 c l h) (rw (first (192 + c / 64) (omega arith), tail c) refl))
    (λ m. ⊎_elim
    (λ h. rw (encode-3 c m h) (rw (first (224 + c / 4096) (omega arith), tail (c / 64), tail c) refl))
    (λ n. rw (encode-4 c n) (rw (first (240 + c / 262144) (omega arith), tail (c / 4096), tail (c / 64), tail c) refl))
    (cases_lt c 65536))
    (cases_lt c 2048))
    (cases_lt c 128)

counted : (cs : List ℕ) → count_by leads (encodes cs) ≡ length cs
counted [] = refl
counted (c ∷ cs) =
    let s = sum_by-append (λ b. cond (leads b) 1 0) (encode c) (encodes cs) in omega (arith, s, one c, counted cs)

-- the characters of a well-formed text are its bytes but for the continuation bytes
pub characters : (bs : List ℕ) (n : ℕ) → IsUtf8 bs → n ≡ count_by leads bs → Characters bs n
characters bs n (cs, (s, e)) h = (cs, s, e, h ∙ ap (count_by leads) (sym e) ∙ counted cs)
