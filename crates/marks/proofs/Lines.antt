-- A delimiter line is the run of a mark that the rule has it to be. Assumes nothing.
use Rattle.std.proofs.Common.{◌≡◌, ℕ, ◌-◌, ◌<◌, ◌≤◌, Bool, true, false, cond, not, ◌&&◌, ◌||◌, eqb, List, length, get_or, Some, None, sym, refl, ap, ◌∙◌, subst, ⊎_elim, arith}
use Rattle.std.proofs.lemmas.List.{get_or_past}
use Rattle.std.proofs.lemmas.Bool.Decides.{nat_tests}
use Rattle.std.proofs.lemmas.Bool.{cond-true, cond-false, and_right, cases_Bool, cases_lt, both_ways, eq-eqb, and_parts, and_from, true≢false}
use Rattle.page_bytes.proofs.RunLaws.{run_end-le, run_end-ends, run_end-is, run_end-gt}
use Rattle.marks.specs.Places.{is_at, line_start, mark_run}
use Rattle.marks.specs.Delimiter.{fence, code_fence, line_ends, closed, delimits, DelimiterAt, delimiter_end}
use Rattle.marks.proofs.Spells.{passed, run-all, inside, class-inside}
use Rattle.marks.proofs.Exact.{Exact}

no_more : (page : List ℕ) (p : ℕ) → is_at page (mark_run page p) (get_or page p 0) ≡ false
no_more page p =
    ⊎_elim
    (λ t. let at = inside page (mark_run page p) (get_or page p 0) t in
    absurd (both_ways _ (run_end-ends (λ b. eqb b (get_or page p 0)) page p at.0) (eq-eqb _ _ at.1)))
    (λ f. f) (cases_Bool (is_at page (mark_run page p) (get_or page p 0)))

-- a whole run of marks that delimits is closed, and the other way round
to-closed : (a b c d : Bool) → d ≡ false → ((a && b) || c) ≡ true → ((a && b) || (c && not d)) ≡ true
to-closed true true c d e h = refl
to-closed true false true false e h = refl
to-closed true false true true e h = absurd (true≢false e)
to-closed true false false d e h = h
to-closed false b true false e h = refl
to-closed false b true true e h = absurd (true≢false e)
to-closed false b false d e h = h

from-closed : (a b c d : Bool) → ((a && b) || (c && not d)) ≡ true → ((a && b) || c) ≡ true
from-closed true true c d h = refl
from-closed true false true d h = refl
from-closed true false false d h = h
from-closed false b true d h = refl
from-closed false b false d h = h

-- neither a line end nor the stop of a fence of backticks is a mark of the line
unmarked : (page : List ℕ) (m n e : ℕ) → closed page m n e ≡ true → is_at page e m ≡ false
unmarked page m n e h = grind (arith, nat_tests)

stops : (page : List ℕ) (m e : ℕ) → is_at page e m ≡ false → e < length page → eqb (get_or page e 0) m ≡ false
stops page m e h l = grind (arith, nat_tests)

-- a delimiter line begins on the page
line_on : (page : List ℕ) (p n e : ℕ) → delimits page (get_or page p 0) n e ≡ true → p < length page
line_on page p n e h =
    ⊎_elim (λ l. l)
    (λ l. absurd (true≢false (sym h ∙ ap (λ m. delimits page m n e) (get_or_past page p 0 l))))
    (cases_lt p (length page))

-- so none begins past the page's end
pub no-line-past : (page : List ℕ) (p : ℕ) → length page ≤ p → delimiter_end page p ≡ None
no-line-past page p l =
    let q = mark_run page p in
    cond-false (line_start page p && delimits page (get_or page p 0) (q - p) q) (Some q) None
    (and_right (line_start page p) _ (ap (λ m. delimits page m (q - p) q) (get_or_past page p 0 l)))

pub delimiter-exact : Exact delimiter_end DelimiterAt
delimiter-exact page p e = (
  λ h.
      let m = get_or page p 0 in
      let q = mark_run page p in
      let u = passed (line_start page p && delimits page m (q - p) q) (Some q) e h in
      let t = and_parts (line_start page p) (delimits page m (q - p) q) u.0 in
      let on = line_on page p (q - p) q t.1 in
      let same : q ≡ e = let s = u.1 in cc in
      subst (DelimiterAt page p) same (record {
        starts = t.0;
        onward = run_end-gt (λ b. eqb b m) page p on (eq-eqb m m refl);
        marks = run-all (λ b. eqb b m) page p (run_end-le (λ b. eqb b m) page p (omega arith));
        enough = to-closed (fence m (q - p)) (line_ends page q) (code_fence m (q - p)) (is_at page q m) (no_more page p) t.1;
      }),
  λ r.
      let m = get_or page p 0 in
      let onward = r.onward in
      let last = (class-inside (λ b. eqb b m) page (e - 1) (r.marks (e - 1) (omega arith) (omega arith))).0 in
      let same : mark_run page p ≡ e =
      run_end-is (λ b. eqb b m) page p e (omega arith) (omega arith) (λ k a b. (class-inside (λ b. eqb b m) page k (r.marks k a b)).1)
      (λ on. stops page m e (unmarked page m (e - p) e r.enough) on) in
      subst (λ q. cond (line_start page p && delimits page m (q - p) q) (Some q) None ≡ Some e) (sym same)
      (cond-true (line_start page p && delimits page m (e - p) e) (Some e) None
      (and_from (line_start page p) (delimits page m (e - p) e) r.starts
      (from-closed (fence m (e - p)) (line_ends page e) (code_fence m (e - p)) (is_at page e m) r.enough))),
)
