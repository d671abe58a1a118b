-- The machine byte by byte: what it passes, what its states say of the bytes so far, and what a fault means. Assumes nothing.
use Rattle.std.proofs.Common.{Some, None, Option, ◌≡◌, ℕ, suc, ◌+◌, ◌-◌, ◌<◌, ◌≤◌, true, false, List, [], ◌∷◌, ◌++◌, length, get_or, take, drop, Ok, IsUtf8, sym, refl, ap, ◌∙◌, arith, take-append-drop, append_assoc, length-drop}
use Rattle.std.proofs.lemmas.Bool.{false≢true}
use Rattle.std.proofs.lemmas.Bool.Decides.{nat_tests, not_from_Decides}
use Rattle.std.proofs.lemmas.Grind.{common_steps}
use Rattle.std.proofs.lemmas.List.{take_all}
use Rattle.std.specs.List.{slice_range}
use Rattle.page_bytes.specs.declared.utf8_state.Utf8State.{Utf8State}
use Rattle.page_bytes.specs.declared.utf8_state.Utf8State.TheVariants.{Start, Due1, Due2, Due3, AfterE0, AfterEd, AfterF0, AfterF4}
use Rattle.page_bytes.specs.Classes.{ascii}
use Rattle.page_bytes.specs.Machine.{next, after, accepts, at_start}
use Rattle.page_bytes.specs.Runs.{LongestRun}
use Rattle.page_bytes.specs.declared.utf8_fault.Utf8Fault.TheVariants.{Byte}
use Rattle.page_bytes.specs.Utf8.{well_formed, Completable, Faulty, Skips, Scanned}
use Rattle.page_bytes.proofs.Language.{decides, decided}

after-append : (s : Option Utf8State) (xs ys : List ℕ) → after s (xs ++ ys) ≡ after (after s xs) ys
after-append s [] ys = refl
after-append s (x ∷ xs) ys = after-append (next s x) xs ys

after-fault : (bs : List ℕ) → after None bs ≡ None
after-fault [] = refl
after-fault (b ∷ bs) = after-fault bs

-- ASCII bytes, where nothing is due
ascii-run : (bs : List ℕ) → ((k : ℕ) → k < length bs → ascii (get_or bs k 0) ≡ true) → after (Some Start) bs ≡ Some Start
ascii-run [] all = refl
ascii-run (b ∷ bs) all =
    let here : next (Some Start) b ≡ Some Start = let q = all 0 (omega arith) in grind (arith, nat_tests) in
    ap (λ s. after s bs) here ∙ ascii-run bs (λ k h. all (suc k) (omega arith))

-- the longest run of them at the front
pub skips : (bs : List ℕ) (n : ℕ) (s : Utf8State) → s ≡ Start → LongestRun ascii bs 0 n → Skips s bs (slice_range bs n (length bs))
skips bs n s e run =
    let h : n ≤ length bs = run.within (omega arith) in
    let rest : slice_range bs n (length bs) ≡ drop n bs = take_all (length bs - n) (drop n bs) (omega (arith, length-drop n bs)) in
    rw (e, rest) (take n bs, sym (take-append-drop n bs), ascii-run (take n bs) (λ k l. grind (arith, common_steps, run.members k)))

-- the machine has read the front of the bytes, and this is left
pub record Reads (bs rest : List ℕ) (s : Utf8State) : Type 0 where
  pub front : List ℕ
  pub whole : bs ≡ front ++ rest
  pub state : Some s ≡ after (Some Start) front

-- bytes that leave the machine in its state
pub on : (bs rest rest' : List ℕ) (s : Utf8State) → Reads bs rest s → Skips s rest rest' → Reads bs rest' s
on bs rest rest' s r (skipped, w, k) = record {
  front = r.front ++ skipped;
  whole = r.whole ∙ ap (λ xs. r.front ++ xs) w ∙ sym (append_assoc r.front skipped rest');
  state = sym (after-append (Some Start) r.front skipped ∙ ap (λ t. after t skipped) (sym r.state) ∙ k);
}

-- one byte more
pub more : (bs rest rest' : List ℕ) (s t : Utf8State) (b : ℕ) → Reads bs rest s → rest ≡ b ∷ rest' → Some t ≡ next (Some s) b → Reads bs rest' t
more bs rest rest' s t b r w k = record {
  front = r.front ++ b ∷ [];
  whole = r.whole ∙ ap (λ xs. r.front ++ xs) w ∙ sym (append_assoc r.front (b ∷ []) rest');
  state = k ∙ ap (λ x. next x b) r.state ∙ sym (after-append (Some Start) r.front (b ∷ []));
}

-- bytes that complete a text from a state
abbrev completion : Utf8State → List ℕ
completion Start = []
completion Due1 = 128 ∷ []
completion Due2 = 128 ∷ 128 ∷ []
completion Due3 = 128 ∷ 128 ∷ 128 ∷ []
completion AfterE0 = 160 ∷ 128 ∷ []
completion AfterEd = 128 ∷ 128 ∷ []
completion AfterF0 = 144 ∷ 128 ∷ 128 ∷ []
completion AfterF4 = 128 ∷ 128 ∷ 128 ∷ []

completes : (s : Utf8State) → accepts (Some s) (completion s) ≡ true
completes Start = refl
completes Due1 = refl
completes Due2 = refl
completes Due3 = refl
completes AfterE0 = refl
completes AfterEd = refl
completes AfterF0 = refl
completes AfterF4 = refl

-- where there is no fault, the bytes so far can be completed
completable : (s : Utf8State) (bs : List ℕ) → Some s ≡ after (Some Start) bs → Completable bs
completable s bs e =
    (completion s, (decides (bs ++ completion s)).0 (ap at_start (after-append (Some Start) bs (completion s) ∙ ap (λ t. after t (completion s)) (sym e)) ∙ completes s))

-- where there is one, they cannot
not-completable : (bs : List ℕ) → None ≡ after (Some Start) bs → Completable bs → ⊥
not-completable bs e (rest, u) =
    false≢true (sym (ap at_start (after-append (Some Start) bs rest ∙ ap (λ t. after t rest) (sym e) ∙ after-fault rest)) ∙ (decides (bs ++ rest)).1 u)

-- a fault on the way is a fault of the whole text
rejected : (front rest : List ℕ) → None ≡ after (Some Start) front → false ≡ accepts (Some Start) (front ++ rest)
rejected front rest e = sym (ap at_start (after-append (Some Start) front rest ∙ ap (λ t. after t rest) (sym e) ∙ after-fault rest))

-- only where nothing is due does a text end
not_start : (s : Utf8State) → (s ≡ Start → ⊥) → false ≡ at_start (Some s)
not_start Start h = absurd (h refl)
not_start Due1 h = refl
not_start Due2 h = refl
not_start Due3 h = refl
not_start AfterE0 h = refl
not_start AfterEd h = refl
not_start AfterF0 h = refl
not_start AfterF4 h = refl

-- the machine decides UTF-8, as the shut test
no : (bs : List ℕ) → false ≡ accepts (Some Start) bs → (well_formed bs ≡ false) × (IsUtf8 bs → ⊥)
unfolding well_formed
no bs e = (sym e, not_from_Decides false (decided false bs e) refl)

yes-text : (bs : List ℕ) → true ≡ accepts (Some Start) bs → (well_formed bs ≡ true) × IsUtf8 bs
unfolding well_formed
yes-text bs e = (sym e, (decided true bs e).0 refl)

-- a fault at a byte
pub fault-on-the-way : (bs rest rest' : List ℕ) (s : Utf8State) (b place : ℕ) → Reads bs rest s → rest ≡ b ∷ rest' → None ≡ next (Some s) b → place ≡ length bs - length rest → Faulty bs (Byte place)
fault-on-the-way bs rest rest' s b place r w k p =
    let e : bs ≡ r.front ++ (b ∷ rest') = r.whole ∙ ap (λ xs. r.front ++ xs) w in
    let f : bs ≡ (r.front ++ b ∷ []) ++ rest' = e ∙ sym (append_assoc r.front (b ∷ []) rest') in
    let at_front : place ≡ length r.front = p ∙ (grind (arith, common_steps)) in
    let before : take place bs ≡ r.front = rw (e, at_front) (grind (arith, common_steps)) in
    let with : take (place + 1) bs ≡ r.front ++ b ∷ [] = rw (e, at_front) (grind (arith, common_steps)) in
    let fault : None ≡ after (Some Start) (r.front ++ b ∷ []) = k ∙ ap (λ x. next x b) r.state ∙ sym (after-append (Some Start) r.front (b ∷ [])) in
    let n = no bs (rejected (r.front ++ b ∷ []) rest' fault ∙ ap (accepts (Some Start)) (sym f)) in
    (n.0, n.1, (grind (arith, common_steps), completable s (take place bs) (r.state ∙ ap (after (Some Start)) (sym before)), not-completable (take (place + 1) bs) (fault ∙ ap (after (Some Start)) (sym with))))

-- the state at the end
pub stopped : (bs rest : List ℕ) (s : Utf8State) → Reads bs rest s → length rest ≡ 0 → Scanned bs (Ok s)
stopped bs rest s r z =
    let all : r.front ≡ bs = let w = r.whole in grind (arith, common_steps) in
    let e : Some s ≡ after (Some Start) bs = r.state ∙ ap (after (Some Start)) all in (
      e,
      λ start. yes-text bs (sym (ap (λ t. at_start (Some t)) start) ∙ ap at_start e),
      λ due. let n = no bs (not_start s due ∙ ap at_start e) in (n.0, n.1, (refl, completable s bs e, n.1)),
    )
