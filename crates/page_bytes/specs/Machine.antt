-- The machine that reads UTF-8 byte by byte, by the table of RFC 3629, section 4. Assumes nothing.
use Rattle.std.specs.Prelude.{ℕ, Bool, true, false, cond, ◌||◌, List, fold, Some, None, Option, ◌==◌, nat_le}
use Rattle.std.specs.Int.{is_in_range}
use Rattle.page_bytes.specs.declared.utf8_state.Utf8State.{Utf8State}
use Rattle.page_bytes.specs.declared.utf8_state.Utf8State.TheVariants.{Start, Due1, Due2, Due3, AfterE0, AfterEd, AfterF0, AfterF4}

-- after the first byte of a character; none where no text begins with that byte
abbrev pub first : ℕ → Option Utf8State
first b =
    cond (nat_le b 127) (Some Start) (cond (is_in_range 194 223 b) (Some Due1) (cond (b == 224) (Some AfterE0) (cond (is_in_range 225 236 b || is_in_range 238 239 b) (Some Due2)
    (cond (b == 237) (Some AfterEd) (cond (b == 240) (Some AfterF0) (cond (is_in_range 241 243 b) (Some Due3) (cond (b == 244) (Some AfterF4) None)))))))

-- after one byte more; none from where no text goes on with it
abbrev pub next : Option Utf8State → ℕ → Option Utf8State
next (Some Start) b = first b
next (Some Due1) b = cond (is_in_range 128 191 b) (Some Start) None
next (Some Due2) b = cond (is_in_range 128 191 b) (Some Due1) None
next (Some Due3) b = cond (is_in_range 128 191 b) (Some Due2) None
next (Some AfterE0) b = cond (is_in_range 160 191 b) (Some Due1) None
next (Some AfterEd) b = cond (is_in_range 128 159 b) (Some Due1) None
next (Some AfterF0) b = cond (is_in_range 144 191 b) (Some Due2) None
next (Some AfterF4) b = cond (is_in_range 128 143 b) (Some Due2) None
next None b = None

-- after some bytes
abbrev pub after : Option Utf8State → List ℕ → Option Utf8State
after s bs = fold next s bs

-- the machine stands between characters
abbrev pub at_start : Option Utf8State → Bool
at_start (Some Start) = true
at_start (Some Due1) = false
at_start (Some Due2) = false
at_start (Some Due3) = false
at_start (Some AfterE0) = false
at_start (Some AfterEd) = false
at_start (Some AfterF0) = false
at_start (Some AfterF4) = false
at_start None = false

-- the bytes, read from a state, end between characters
abbrev pub accepts : Option Utf8State → List ℕ → Bool
accepts s bs = at_start (after s bs)
