-- How bytes are written out: LF, CR, tab, `"` and the backslash by a letter or themselves behind a backslash, the other bytes below 32
-- and DEL by two hexadecimal digits, and every other byte as it is. Assumes nothing.
use Rattle.std.specs.Prelude.{ℕ, ◌+◌, ◌-◌, ◌/◌, ◌%◌, cond, ◌||◌, List, [], ◌∷◌, ◌==◌, nat_lt}

-- `0` to `9`, `a` to `f`
abbrev pub hex_digit : ℕ → ℕ
hex_digit n = cond (nat_lt n 10) (48 + n) (97 + (n - 10))

-- 92 is the backslash, 110 `n`, 114 `r`, 116 `t`, 120 `x`
abbrev pub escaped_byte : ℕ → List ℕ
escaped_byte b =
    cond (b == 10) (92 ∷ 110 ∷ [])
    (cond (b == 13) (92 ∷ 114 ∷ [])
    (cond (b == 9) (92 ∷ 116 ∷ [])
    (cond (b == 34) (92 ∷ 34 ∷ [])
    (cond (b == 92) (92 ∷ 92 ∷ [])
    (cond (nat_lt b 32 || b == 127) (92 ∷ 120 ∷ hex_digit (b / 16) ∷ hex_digit (b % 16) ∷ []) (b ∷ []))))))
