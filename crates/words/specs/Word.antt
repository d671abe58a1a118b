-- A word, and what else begins as one. The stem of a word is its first byte and all up to a byte that ends a word, or `@`.
-- Assumes nothing.
use Rattle.std.specs.Prelude.{ℕ, ◌+◌, ◌-◌, Bool, false, cond, not, ◌&&◌, ◌||◌, List, [], ◌∷◌, length, drop, Some, None, codes, Option, ◌==◌, nat_le, nat_lt, slice_index}
use Rattle.std.specs.Option.{option_or}
use Rattle.std.specs.Char.{is_ascii_whitespace}
use Rattle.std.specs.Str.{bytes_eq}
use Rattle.page_bytes.specs.Classes.{word_byte, stem_byte, domain_byte}
use Rattle.page_bytes.specs.Runs.{run_end}
use Rattle.marks.specs.Places.{is_at, text_at, part}
use Rattle.marks.specs.Term.{opens_term}
use Rattle.token.specs.Tokens.{Token, of, first_of}
use Rattle.token.specs.declared.kind.TokenKind.TheVariants.{Word, Directive, UriScheme, MacroName, MaybeEmail}

-- where the stem of the word that begins at p ends. In what follows q is that end
abbrev pub stem_end : List ℕ → ℕ → ℕ
stem_end page p = run_end stem_byte page (p + 1)

-- the name is one of these
abbrev pub among : List (List ℕ) → List ℕ → Bool
among [] w = false
among (v ∷ vs) w = bytes_eq w v || among vs w

-- the name ends so
abbrev pub ends_with : List ℕ → List ℕ → Bool
ends_with w v = bytes_eq (drop (length v - length w) v) w

-- Directives

abbrev pub directive_names : List (List ℕ)
directive_names =
    codes "include" ∷ codes "ifdef" ∷ codes "ifndef" ∷ codes "endif" ∷ codes "ifeval" ∷ codes "asciidorkinclude" ∷ []

-- what follows a directive's name: two colons and three bytes more at least; behind `endif` `::[]` up to the page's end will do
abbrev pub directive_follows : List ℕ → ℕ → ℕ → Bool
directive_follows page p q =
    text_at (codes "::") page q && (nat_le (q + 5) (length page) || (bytes_eq (part page p q) (codes "endif") && (text_at (codes "::[]") page q && length page == q + 4)))

-- a blank or a line end behind the colons makes it a word
abbrev pub directive_token : List ℕ → ℕ → ℕ → Option Token
directive_token page p q =
    cond (among directive_names (part page p q) && directive_follows page p q) (Some (cond (is_ascii_whitespace (slice_index page (q + 2))) (Word, q) (Directive, q + 2))) None

-- Names before a colon

abbrev pub slash_schemes : List (List ℕ)
slash_schemes = codes "http" ∷ codes "https" ∷ codes "ftp" ∷ codes "mailto" ∷ codes "irc" ∷ []

-- where the scheme of an address ends: the name and `://`, or `file:///`
abbrev pub scheme_end : List ℕ → ℕ → ℕ → Option ℕ
scheme_end page p q =
    cond (among slash_schemes (part page p q) && text_at (codes "://") page q) (Some (q + 3))
    (cond (bytes_eq (part page p q) (codes "file") && text_at (codes ":///") page q) (Some (q + 4)) None)

-- the names of macros that are always known
abbrev pub builtin_macros : List (List ℕ)
builtin_macros =
    codes "footnote" ∷ codes "image" ∷ codes "indexterm" ∷ codes "indexterm2" ∷ codes "anchor" ∷ codes "audio" ∷ codes "icon" ∷ codes "kbd" ∷ codes "link" ∷ codes "pass" ∷ codes "btn" ∷ codes "menu" ∷ codes "mailto" ∷ codes "toc" ∷ codes "xref" ∷ codes "video" ∷ []

-- where a macro's name with its colon ends, if the name is known
abbrev pub macro_end : (List ℕ → Bool) → List ℕ → ℕ → ℕ → Option ℕ
macro_end known page p q = cond (among builtin_macros (part page p q) || known (part page p q)) (Some (q + 1)) None

-- where `footnote` or `indexterm` begins, if the stem ends so
abbrev pub ending_start : List ℕ → ℕ → ℕ → Option ℕ
ending_start page p q =
    cond (ends_with (codes "footnote") (part page p q)) (Some (q - 8))
    (cond (ends_with (codes "indexterm") (part page p q)) (Some (q - 9)) None)

-- a stem before a colon that begins no term delimiter
abbrev pub colon_token : (List ℕ → Bool) → List ℕ → ℕ → ℕ → Option Token
colon_token known page p q =
    cond (is_at page q 58 && not (opens_term page q)) (option_or (of UriScheme (scheme_end page p q)) (option_or (of MacroName (macro_end known page p q)) (of Word (ending_start page p q)))) None

-- Mail addresses

-- the byte is among these
abbrev pub has_byte : ℕ → List ℕ → Bool
has_byte b [] = false
has_byte b (x ∷ xs) = x == b || has_byte b xs

-- where the domain behind `@` ends
abbrev pub domain_end : List ℕ → ℕ → ℕ
domain_end page q = run_end domain_byte page (q + 1)

-- a domain has four bytes or more and a dot, and no `@` behind it
abbrev pub domain_fits : List ℕ → ℕ → Bool
domain_fits page q =
    nat_le (q + 5) (domain_end page q) && (has_byte 46 (part page (q + 1) (domain_end page q)) && not (is_at page (domain_end page q) 64))

-- a stem before `@`: what may be an address, or else a word, in which `@` counts as a word byte
abbrev pub mail_token : List ℕ → ℕ → Option Token
mail_token page q =
    cond (is_at page q 64) (Some (cond (domain_fits page q) (MaybeEmail, domain_end page q) (Word, run_end word_byte page (q + 1)))) None

-- where a domain behind `@` ends, if it makes an address
abbrev pub email_end : List ℕ → ℕ → Option ℕ
email_end page q = cond (domain_fits page q) (Some (domain_end page q)) None

-- the word, or what begins as one, whose stem ends at q
abbrev pub word_from : (List ℕ → Bool) → List ℕ → ℕ → ℕ → Token
word_from known page p q = first_of (directive_token page p q ∷ colon_token known page p q ∷ mail_token page q ∷ []) (Word, q)

-- at a place where nothing else begins
unfoldable pub word_token : (List ℕ → Bool) → List ℕ → ℕ → Token
word_token known page p = word_from known page p (stem_end page p)

-- at every place: where no byte is left, a word of none
abbrev pub word_or_none : (List ℕ → Bool) → List ℕ → ℕ → Token
word_or_none known page p = cond (nat_lt p (length page)) (word_token known page p) (Word, p)
