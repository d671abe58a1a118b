-- What the listing of a page holds. Assumes nothing.
use Rattle.std.specs.Prelude.{ℕ, List, map}
use Rattle.lines.specs.Lines.{line_of, column_of}
use Rattle.source_lexer.specs.Lone.{start_of}
use Rattle.token.specs.declared.token_record.TokenRecord.{TokenRecord}
use Rattle.listing.specs.declared.listed.ListedToken.{ListedToken}

-- a token of the page with the line and the column of its start
abbrev pub listed_of : List ℕ → TokenRecord → ListedToken
listed_of page t = record { token = t; line = line_of page (start_of t); column = column_of page (start_of t) }

abbrev pub all_listed : List ℕ → List TokenRecord → List ListedToken
all_listed page ts = map (listed_of page) ts
