-- What the argument of `sheet` asks for. Assumes nothing.
use Rattle.std.specs.Prelude.{◌≡◌, ℕ, ◌<◌, List, length, Ok, Err, codes, Result, ◌≢◌, slice_index}
use Rattle.sheet.specs.declared.request.Request.{Request}
use Rattle.sheet.specs.declared.request.Request.TheVariants.{Help, StandardInput, File}
use Rattle.sheet.specs.declared.request.UnknownOption.{UnknownOption}

-- the first byte is `-`
abbrev pub Dashed : List ℕ → Type 0
Dashed argument = (0 < length argument) × (slice_index argument 0 ≡ 45)

-- an argument asks for one of three things: what begins with `-` and is neither of two is an unknown option
abbrev pub AsksFor : List ℕ → Result Request UnknownOption → Type 0
AsksFor argument (Ok Help) = argument ≡ codes "--help"
AsksFor argument (Ok StandardInput) = argument ≡ codes "-"
AsksFor argument (Err unknown) = Dashed argument × (argument ≢ codes "--help") × (argument ≢ codes "-")
AsksFor argument (Ok File) = Dashed argument → ⊥
