use Rattle.std.proofs.Common.{◌≡◌, length}
use Rattle.std.specs.Iterator.Adapters.{zip_first, zip_second}
use Rattle.std.specs.Slice.Iter.{iter_rest}
use Rattle.std.specs.Str.{bytes_eq}
use Rattle.page_bytes.specs.Names.{member, lines_of}
use Rattle.page_bytes.proofs.Listing.{left}
use Rattle.page_bytes.proofs.names.is_listed.Given as goal

-- the name stands in what is left of the list, if in the list at all
abbrev pub invariant-names : goal.invariant-names
invariant-names l = member l.name (left l.line-iterator) ≡ member l.name (lines_of l.list)

-- the bytes so far are the same
abbrev pub invariant-loop-a : goal.invariant-loop-a
invariant-loop-a l =
    (bytes_eq (iter_rest (zip_first l.a-iterator)) (iter_rest (zip_second l.a-iterator)) ≡ bytes_eq (iter_rest (zip_first l.initial.a-iterator)) (iter_rest (zip_second l.initial.a-iterator)))
    × (length (iter_rest (zip_first l.a-iterator)) ≡ length (iter_rest (zip_second l.a-iterator)))
