-- The run of a set, one step on and at its end, and that it is the longest. Assumes nothing.
use Rattle.std.proofs.Common.{◌≡◌, ℕ, ◌+◌, ◌-◌, ◌<◌, ◌≤◌, Bool, true, false, List, length, get_or, drop, sym, ◌∙◌, subst, ⊎_elim, arith, length-drop, get_or-drop}
use Rattle.std.specs.List.{prefix_len, slice_range}
use Rattle.std.proofs.lemmas.List.{take_all}
use Rattle.std.proofs.lemmas.List.Sums.{prefix_len-drop_yes, prefix_len-drop_all, prefix_len-le-length, prefix_len_passes, prefix_len_stops}
use Rattle.std.proofs.lemmas.Bool.{cases_order, true≢false}
use Rattle.page_bytes.specs.Runs.{run_end, LongestRun}

module _ (is : ℕ → Bool) (page : List ℕ) (p : ℕ) where
  pub run_end-ge : p ≤ run_end is page p
  unfolding run_end
  run_end-ge = omega arith

  pub run_end-le : p ≤ length page → run_end is page p ≤ length page
  unfolding run_end
  run_end-le h = omega (arith, prefix_len-le-length is (drop p page), length-drop p page)

  pub run_end-more : p < length page → is (get_or page p 0) ≡ true → run_end is page (p + 1) ≡ run_end is page p
  unfolding run_end
  run_end-more h e = omega (arith, prefix_len-drop_yes is page p 0 h e)

  pub run_end-past : length page ≤ p → run_end is page p ≡ p
  unfolding run_end
  run_end-past h = omega (arith, prefix_len-drop_all is page p h)

  pub run_end-all : (k : ℕ) → p ≤ k → k < run_end is page p → is (get_or page k 0) ≡ true
  unfolding run_end
  run_end-all k l h =
      let r : p + (k - p) ≡ k = omega arith in
      subst (λ i. is (get_or page i 0) ≡ true) r
      (subst (λ b. is b ≡ true) (get_or-drop p page (k - p) 0) (prefix_len_passes is (drop p page) (k - p) 0 (omega arith)))

  pub run_end-ends : run_end is page p < length page → is (get_or page (run_end is page p) 0) ≡ false
  unfolding run_end
  run_end-ends h =
      subst (λ b. is b ≡ false) (get_or-drop p page _ 0) (prefix_len_stops is (drop p page) 0 (omega (arith, length-drop p page)))

  -- the run ends at a place, if all up to it are members and what stands there is none
  pub run_end-is : (e : ℕ) → p ≤ e → e ≤ length page → ((k : ℕ) → p ≤ k → k < e → is (get_or page k 0) ≡ true) → (e < length page → is (get_or page e 0) ≡ false) → run_end is page p ≡ e
  run_end-is e l h all stop =
      ⊎_elim
      (λ same. same)
      (⊎_elim
      (λ below. absurd (true≢false (sym (all (run_end is page p) run_end-ge below) ∙ run_end-ends (omega arith))))
      (λ above. absurd (true≢false (sym (run_end-all e l above) ∙ stop (omega (arith, run_end-le (omega arith)))))))
      (cases_order (run_end is page p) e)

  -- where the run ends, the longest ends
  pub longest : (end : ℕ) → end ≡ run_end is page p → LongestRun is page p end
  longest end e =
      subst (λ m. LongestRun is page p m) (sym e)
      (record { onward = run_end-ge; members = run_end-all; within = run_end-le; stops = run_end-ends; past = run_end-past })

-- a run that begins with a member goes on
pub run_end-gt : (is : ℕ → Bool) (page : List ℕ) (p : ℕ) → p < length page → is (get_or page p 0) ≡ true → p < run_end is page p
run_end-gt is page p h e = omega (arith, run_end-more is page p h e, run_end-ge is page (p + 1))

-- a run ends in one place, wherever in it one begins
pub run_end-within : (is : ℕ → Bool) (page : List ℕ) (p s : ℕ) → p ≤ length page → p ≤ s → s ≤ run_end is page p → run_end is page s ≡ run_end is page p
run_end-within is page p s on l h =
    run_end-is is page s (run_end is page p) h (run_end-le is page p on) (λ k a b. run_end-all is page p k (omega arith) b) (run_end-ends is page p)

-- the run of what stands from a place on
pub run_end-rest : (is : ℕ → Bool) (page rest : List ℕ) (from len : ℕ) → from ≤ length page → rest ≡ slice_range page from (length page) → len ≡ prefix_len is rest → from + len ≡ run_end is page from
unfolding run_end
run_end-rest is page rest from len h r e = let all : slice_range page from (length page) ≡ drop from page = take_all (length page - from) (drop from page) (omega (arith, length-drop from page)) in rw (e, r, all)
