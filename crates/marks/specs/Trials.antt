-- What a trial scan answers, and where it leaves the cursor. Assumes nothing.
use Rattle.std.specs.Prelude.{ℕ, Bool, true, false, Some, None, Option}

-- yes, and the cursor at the end; or no, and the cursor where it was
abbrev pub tried : Option ℕ → ℕ → Bool × ℕ
tried (Some e) from = (true, e)
tried None from = (false, from)
