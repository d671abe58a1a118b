-- The words of a report. Assumes nothing.
use Rattle.std.specs.Prelude.{ℕ, List, ◌++◌, Some, None, codes, decimal, Option}
use Rattle.page_bytes.specs.declared.refusal.Refusal.{Refusal}
use Rattle.page_bytes.specs.declared.utf8_fault.Utf8Fault.{Utf8Fault}
use Rattle.page_bytes.specs.declared.utf8_fault.Utf8Fault.TheVariants.{Byte, End}
use Rattle.page_bytes.specs.Refusals.{number_of, reason_of}
use Rattle.page_bytes.specs.Utf8.{place_of}
use Rattle.report.specs.declared.page_report.FaultReport.{FaultReport}
use Rattle.report.specs.declared.page_report.PageRefusal.{PageRefusal}
use Rattle.report.specs.declared.page_report.PageSize.{PageSize}

abbrev pub fault_words : Utf8Fault → List ℕ
fault_words (Byte place) = codes "no character has this byte here"
fault_words (End len) = codes "the text ends inside a character"

abbrev pub fault_text : FaultReport → List ℕ
fault_text found =
    codes "place "
    ++ (decimal (place_of found.fault) ++ (codes ", line " ++ (decimal found.line ++ (codes ", column " ++ (decimal found.column ++ (codes ": " ++ fault_words found.fault))))))

abbrev pub size_text : PageSize → List ℕ
size_text size =
    codes "accepted: bytes "
    ++ (decimal size.bytes ++ (codes ", lines " ++ (decimal size.lines ++ (codes ", characters " ++ decimal size.characters))))

-- a fault stands behind the ground in words
abbrev pub ground_text : Refusal → Option FaultReport → List ℕ
ground_text refusal None = codes "refused, number " ++ (decimal (number_of refusal) ++ (codes ": " ++ reason_of refusal))
ground_text refusal (Some found) =
    codes "refused, number " ++ (decimal (number_of refusal) ++ (codes ": " ++ (reason_of refusal ++ (codes "; " ++ fault_text found))))

abbrev pub refusal_text : PageRefusal → List ℕ
refusal_text refused = ground_text refused.refusal refused.fault
