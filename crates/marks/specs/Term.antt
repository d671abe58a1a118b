-- What stands behind a term of a description list: two, three or four colons, or two semicolons, before a blank or a line end, and
-- not at a line start. Assumes nothing.
use Rattle.std.specs.Prelude.{ℕ, ◌+◌, Bool, cond, ◌&&◌, ◌||◌, List, [], ◌∷◌, length, is_some, Some, None, codes, Option, nat_le}
use Rattle.marks.specs.Places.{is_at, text_at, line_start}

abbrev pub term_marks : List (List ℕ)
term_marks = codes "::" ∷ codes ":::" ∷ codes "::::" ∷ codes ";;" ∷ []

-- space, tab, CR, LF or the page's end. No delimiter line goes by this test, which is another rule
abbrev pub ends_term : List ℕ → ℕ → Bool
ends_term page p = nat_le (length page) p || ((is_at page p 32 || is_at page p 9) || (is_at page p 10 || is_at page p 13))

-- the end of the first of the texts that stands at a place, with such a stop behind it
abbrev pub stopped_end : List (List ℕ) → List ℕ → ℕ → Option ℕ
stopped_end [] page p = None
stopped_end (w ∷ ws) page p =
    cond (text_at w page p && ends_term page (p + length w)) (Some (p + length w)) (stopped_end ws page p)

-- the end of the marks, wherever on the line they stand
abbrev pub term_mark_end : List ℕ → ℕ → Option ℕ
term_mark_end page p = stopped_end term_marks page p

abbrev pub opens_term : List ℕ → ℕ → Bool
opens_term page p = is_some (term_mark_end page p)

-- where the term delimiter that begins at p ends
abbrev pub term_end : List ℕ → ℕ → Option ℕ
term_end page p = cond (line_start page p) None (term_mark_end page p)
