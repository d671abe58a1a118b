-- What hexadecimal digits mean. Assumes nothing.
use Rattle.std.specs.Prelude.{◌≡◌, ℕ, ◌+◌, ◌-◌, ◌*◌, ◌%◌, ◌<◌, cond, ◌&&◌, List, length, Some, None, Option, nat_le, slice_index}
use Rattle.recorded.specs.declared.fault.Fault.{Fault}
use Rattle.recorded.specs.declared.fault.Fault.TheVariants.{Page, NotText, NoTab, UnknownWord, OddDigits, NotHex, BadCount, LineFeedInName, NoMemory}

-- the value of a digit: 0-9, A-F, a-f
abbrev pub value_of : ℕ → Option ℕ
value_of d =
    cond (nat_le 48 d && nat_le d 57) (Some (d - 48))
    (cond (nat_le 65 d && nat_le d 70) (Some (d - 55)) (cond (nat_le 97 d && nat_le d 102) (Some (d - 87)) None))

abbrev pub joined : Option ℕ → Option ℕ → Option ℕ
joined (Some high) (Some low) = Some (16 * high + low)
joined (Some high) None = None
joined None (Some low) = None
joined None None = None

-- the byte that two digits spell
abbrev pub byte_of : ℕ → ℕ → Option ℕ
byte_of high low = joined (value_of high) (value_of low)

-- the digits spell the byte at k
abbrev pub SpeltAt : List ℕ → List ℕ → ℕ → Type 0
SpeltAt digits bytes k = byte_of (slice_index digits (2 * k)) (slice_index digits (2 * k + 1)) ≡ Some (slice_index bytes k)

-- there are two digits for each byte, which spell it
abbrev pub Spells : List ℕ → List ℕ → Type 0
Spells digits bytes = (length digits ≡ 2 * length bytes) × ((k : ℕ) → k < length bytes → SpeltAt digits bytes k)

-- why digits spell nothing: one of them has no partner, or two that stand together spell no byte
abbrev pub Spoils : List ℕ → Fault → Type 0
Spoils digits OddDigits = length digits % 2 ≡ 1
Spoils digits NotHex = (k : ℕ) × (2 * k + 1 < length digits) × (byte_of (slice_index digits (2 * k)) (slice_index digits (2 * k + 1)) ≡ None)
Spoils digits NoMemory = Unit {0}
Spoils digits (Page refusal) = ⊥
Spoils digits NotText = ⊥
Spoils digits NoTab = ⊥
Spoils digits UnknownWord = ⊥
Spoils digits BadCount = ⊥
Spoils digits LineFeedInName = ⊥
