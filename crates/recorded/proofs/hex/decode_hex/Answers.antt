use Rattle.std.proofs.Common.{◌≡◌, ℕ, zero, suc, ◌+◌, ◌*◌, ◌/◌, ◌<◌, List, [], length, get_or, take, drop, refl, ap, ◌∙◌, add-zero, arith, rules, below_more}
use Rattle.std.proofs.lemmas.List.{get_or-take, get_or-drop, drop-drop}
use Rattle.std.proofs.lemmas.Grind.{common_steps}
use Rattle.std.specs.Simd.{first_chunks}
use Rattle.recorded.specs.Hex.{byte_of}
use Rattle.recorded.proofs.hex.decode_hex.Goals as goal

-- the pair at a place
pair_at : (k : ℕ) (xs : List ℕ) (i : ℕ) → i < k → get_or (first_chunks 2 k xs) i [] ≡ take 2 (drop (2 * i) xs)
pair_at zero xs i h = absurd (omega arith)
pair_at (suc k) xs zero h = refl
pair_at (suc k) xs (suc i) h =
    let on : 2 + 2 * i ≡ 2 * suc i = omega arith in
    pair_at k (drop 2 xs) i (omega arith) ∙ ap (take 2) (drop-drop (2 * i) 2 xs ∙ ap (λ n. drop n xs) on)

-- the byte that its two digits spell
byte_at : (xs : List ℕ) (pairs : List (List ℕ)) (i : ℕ) → pairs ≡ first_chunks 2 (length xs / 2) xs → i < length xs / 2 → byte_of (get_or (get_or pairs i []) 0 0) (get_or (get_or pairs i []) 1 0) ≡ byte_of (get_or xs (2 * i) 0) (get_or xs (2 * i + 1) 0)
byte_at xs pairs i are on =
    let rest = drop (2 * i) xs in
    let two : get_or pairs i [] ≡ take 2 rest = ap (λ ps. get_or ps i []) are ∙ pair_at (length xs / 2) xs i on in
    let high = get_or-take 2 rest 0 0 (omega arith) ∙ get_or-drop (2 * i) xs 0 0 in
    let low = get_or-take 2 rest 1 0 (omega arith) ∙ get_or-drop (2 * i) xs 1 0 in
    rw (two, high, low, add-zero)

pub returns-in_err-ok_or : goal.returns-in_err-ok_or
returns-in_err-ok_or c =
    let digits = c.args.digits.now in
    let pairs = c.as_chunks in
    let i = c.loop-high.high-index in
    let byte = c.byte_of.ensures ∙ byte_at digits pairs.result.0.now i pairs.ensures.front (omega (arith, pairs.ensures.front_len)) in
    search (rules, byte)

pub loop-high-preserved : goal.loop-high-preserved
loop-high-preserved c =
    let digits = c.args.digits.now in
    let pairs = c.as_chunks in
    let i = c.loop-high.high-index in
    let byte = c.byte_of.ensures ∙ byte_at digits pairs.result.0.now i pairs.ensures.front (omega (arith, pairs.ensures.front_len)) in
    record {
      count = search rules;
      spelt = below_more _ _ (λ k h. grind (arith, common_steps, c.loop-high.invariant.spelt k h)) (search (rules, byte));
    }
