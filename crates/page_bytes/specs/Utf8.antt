-- Well-formed UTF-8, and where bytes cease to be it. `IsUtf8 bs` is the library's: bs encodes a list of scalar values.
-- Assumes nothing.
use Rattle.std.specs.Prelude.{◌≡◌, ℕ, ◌+◌, ◌<◌, Bool, true, false, List, ◌++◌, length, take, Some, Ok, Err, IsUtf8, Result, ◌≢◌}
use Rattle.page_bytes.specs.declared.utf8_state.Utf8State.{Utf8State}
use Rattle.page_bytes.specs.declared.utf8_state.Utf8State.TheVariants.{Start}
use Rattle.page_bytes.specs.declared.utf8_fault.Utf8Fault.{Utf8Fault}
use Rattle.page_bytes.specs.declared.utf8_fault.Utf8Fault.TheVariants.{Byte, End}
use Rattle.page_bytes.specs.Machine.{after, accepts}

-- the test that decides `IsUtf8`
unfoldable pub well_formed : List ℕ → Bool
well_formed bs = accepts (Some Start) bs

-- some well-formed text begins with these bytes
abbrev pub Completable : List ℕ → Type 0
Completable bs = (rest : List ℕ) × IsUtf8 (bs ++ rest)

-- what a fault says: the bytes before the place can still be completed, and with the byte there they cannot; or all of the bytes can be
-- completed, but are not well-formed as they are
abbrev pub FaultIn : List ℕ → Utf8Fault → Type 0
FaultIn bs (Byte place) = (place < length bs) × Completable (take place bs) × (Completable (take (place + 1) bs) → ⊥)
FaultIn bs (End len) = (len ≡ length bs) × Completable bs × (IsUtf8 bs → ⊥)

-- what a check's answer says: the bytes are well-formed, or have this fault
abbrev pub Verdict : List ℕ → Result (Unit {0}) Utf8Fault → Type 0
Verdict bs (Ok u) = IsUtf8 bs
Verdict bs (Err fault) = FaultIn bs fault

-- where a fault stands
abbrev pub place_of : Utf8Fault → ℕ
place_of (Byte place) = place
place_of (End len) = len

-- bytes that are not well-formed, with their fault
abbrev pub Faulty : List ℕ → Utf8Fault → Type 0
Faulty bs fault = (well_formed bs ≡ false) × (IsUtf8 bs → ⊥) × FaultIn bs fault

-- the second bytes are left of the first behind some that leave the machine in its state
abbrev pub Skips : Utf8State → List ℕ → List ℕ → Type 0
Skips s bs rest = (front : List ℕ) × (bs ≡ front ++ rest) × (after (Some s) front ≡ Some s)

-- where the machine stops: at the first fault, or in its state after all of the bytes, which says whether they end between characters
abbrev pub Scanned : List ℕ → Result Utf8State Utf8Fault → Type 0
Scanned bs (Ok s) =
    (Some s ≡ after (Some Start) bs)
    × (s ≡ Start → (well_formed bs ≡ true) × IsUtf8 bs)
    × ((s ≢ Start) → Faulty bs (End (length bs)))
Scanned bs (Err fault) = Faulty bs fault
