-- What the report of a page says. Assumes nothing.
use Rattle.std.specs.Prelude.{◌≡◌, ℕ, Bool, true, List, ◌++◌, length, Some, None, Ok, Err, encode_utf8_all, Option, Result}
use Rattle.std.specs.Str.{all_scalars}
use Rattle.page_bytes.specs.declared.refusal.Refusal.{Refusal}
use Rattle.page_bytes.specs.declared.refusal.Refusal.TheVariants.{AreaTooLong, PastArea, TextTooLong, NotUtf8}
use Rattle.page_bytes.specs.Refusals.{number_of, first_ground, area_grounds, text_grounds}
use Rattle.page_bytes.specs.Utf8.{FaultIn, place_of}
use Rattle.lines.specs.Lines.{line_of, column_of, line_count}
use Rattle.report.specs.declared.page_report.FaultReport.{FaultReport}
use Rattle.report.specs.declared.page_report.PageRefusal.{PageRefusal}
use Rattle.report.specs.declared.page_report.PageSize.{PageSize}

-- the grounds for refusing a page that is its whole area, in the order in which they are tried
abbrev pub whole_grounds : List ℕ → List (ℕ × Bool)
whole_grounds page = area_grounds page ++ text_grounds page

-- the page is the encoding of so many scalar values
abbrev pub Characters : List ℕ → ℕ → Type 0
Characters page n = (cs : List ℕ) × (all_scalars cs ≡ true) × (encode_utf8_all cs ≡ page) × (n ≡ length cs)

-- a fault is reported exactly where the refusal is `NotUtf8`, with the line and the column of its place
abbrev pub FaultReported : List ℕ → Refusal → Option FaultReport → Type 0
FaultReported page NotUtf8 None = ⊥
FaultReported page NotUtf8 (Some found) =
    FaultIn page found.fault
    × (found.line ≡ line_of page (place_of found.fault))
    × (found.column ≡ column_of page (place_of found.fault))
FaultReported page AreaTooLong fault = fault ≡ None
FaultReported page PastArea fault = fault ≡ None
FaultReported page TextTooLong fault = fault ≡ None

-- where no ground holds, the page's size; else the first ground, and the fault
abbrev pub Reported : List ℕ → Result PageSize PageRefusal → Type 0
Reported page (Ok size) =
    (first_ground (whole_grounds page) ≡ None)
    × (size.bytes ≡ length page)
    × (size.lines ≡ line_count page)
    × Characters page size.characters
Reported page (Err refused) =
    (first_ground (whole_grounds page) ≡ Some (number_of refused.refusal)) × FaultReported page refused.refusal refused.fault
