use Rattle.std.proofs.Common.{◌≤◌, ◌<◌, ◌≢◌, ◌≡◌, ℕ, ◌+◌, true, List, [], ◌∷◌, Some, None, codes, Option, sym, refl, ap, ◌∙◌, arith}
use Rattle.std.specs.Char.{is_ascii_digit}
use Rattle.std.specs.List.{slice_get}
use Rattle.std.specs.Option.{option_or}
use Rattle.std.proofs.lemmas.Bool.Decides.{nat_tests}
use Rattle.marks.specs.Callout.{numbered, callout_end}
use Rattle.marks.specs.Places.{is_at}
use Rattle.marks.specs.Shape.{text}
use Rattle.marks.specs.Spelling.{spelt_end}
use Rattle.marks.specs.Trials.{tried}
use Rattle.marks.proofs.Bytes.{is_at-read, class_at-read}
use Rattle.marks.proofs.cursor.Cursor.callout.Goals as goal

-- of four, the last two, where the first two do not fit
last-two : (a b c d : Option ℕ) → a ≡ None → b ≡ None → option_or c d ≡ option_or a (option_or b (option_or c (option_or d None)))
last-two a b c d h k =
    ap (option_or c) (or-none d) ∙ ap (λ o. option_or o (option_or c (option_or d None))) (sym k) ∙ ap (λ o. option_or o (option_or b (option_or c (option_or d None)))) (sym h)
  where
    or-none : (o : Option ℕ) → o ≡ option_or o None
    or-none None = refl
    or-none (Some e) = refl

module _ (page : List ℕ) (p : ℕ) (bang : is_at page (p + 1) 33 ≡ true) where
  no_number : spelt_end (numbered (codes "<") (codes ">")) page p ≡ None
  no_number = grind (arith, nat_tests)

  no-dot : spelt_end (text (codes "<.>") ∷ []) page p ≡ None
  no-dot = grind (arith, nat_tests)

  comment : option_or (spelt_end (numbered (codes "<!--") (codes "-->")) page p) (spelt_end (text (codes "<!--.-->") ∷ []) page p) ≡ callout_end page p
  comment = last-two _ _ (spelt_end (numbered (codes "<!--") (codes "-->")) page p) (spelt_end (text (codes "<!--.-->") ∷ []) page p) no_number no-dot

pub returns-in-33-clause-passed : goal.returns-in-33-clause-passed
returns-in-33-clause-passed c =
    let page = c.args.self.now.page.now in
    let p = c.args.self.now.pos in
    let read : slice_get page (p + 1) ≡ Some 33 = rw c.with_pos.ensures at (sym c.byte-2.ensures ∙ c.in_ok-byte-2.was ∙ ap Some c.in-33.is) in
    c.numbered_or.ensures.passed ∙ ap (λ o. tried o p) (comment page p (is_at-read page (p + 1) 33 read 33))

module _ (page : List ℕ) (p b : ℕ) (read : slice_get page (p + 1) ≡ Some b) where
  digit : (48 ≤ b) → (b ≤ 57) → callout_end page p ≡ spelt_end (numbered (codes "<") (codes ">")) page p
  digit low high = grind (arith, nat_tests, is_at-read page (p + 1) b read 33, is_at-read page (p + 1) b read 46)

  no-callout : b ≢ 33 → b ≢ 46 → (48 ≤ b → 57 < b) → callout_end page p ≡ None
  no-callout h k l = grind (arith, nat_tests, is_at-read page (p + 1) b read 33, is_at-read page (p + 1) b read 46, class_at-read page (p + 1) b read is_ascii_digit)

pub returns-in-48-to-57-clause-passed : goal.returns-in-48-to-57-clause-passed
returns-in-48-to-57-clause-passed c =
    let page = c.args.self.now.page.now in
    let p = c.args.self.now.pos in
    let read : slice_get page (p + 1) ≡ Some c.in_ok-byte-2.field-0 = rw c.with_pos.ensures at (sym c.byte-2.ensures ∙ c.in_ok-byte-2.was) in
    c.numbered.ensures.passed ∙ ap (λ o. tried o p) (sym (digit page p _ read (omega arith) (omega arith)))

pub returns-in_default-clause-passed : goal.returns-in_default-clause-passed
returns-in_default-clause-passed c =
    let page = c.args.self.now.page.now in
    let p = c.args.self.now.pos in
    let read : slice_get page (p + 1) ≡ Some c.in_ok-byte-2.field-0 = rw c.with_pos.ensures at (sym c.byte-2.ensures ∙ c.in_ok-byte-2.was) in
    ap (λ o. tried o p) (sym (no-callout page p _ read (omega arith) (omega arith) (omega arith)))

pub returns-in_default-2-clause-passed : goal.returns-in_default-2-clause-passed
returns-in_default-2-clause-passed c =
    let page = c.args.self.now.page.now in
    let p = c.args.self.now.pos in
    let read : slice_get page (p + 1) ≡ Some c.in_ok-byte-2.field-0 = rw c.with_pos.ensures at (sym c.byte-2.ensures ∙ c.in_ok-byte-2.was) in
    ap (λ o. tried o p) (sym (no-callout page p _ read (omega arith) (omega arith) (λ h. omega arith)))
