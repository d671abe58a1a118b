-- The lines of a list one by one, and two names byte by byte. Assumes nothing.
use Rattle.std.proofs.Common.{◌≡◌, ℕ, suc, ne_eqb, ◌<◌, Bool, true, false, cond, eqb, List, [], ◌∷◌, ◌++◌, length, sym, refl, ap, ◌∙◌, arith}
use Rattle.std.proofs.lemmas.Bool.Decides.{nat_tests}
use Rattle.std.proofs.lemmas.Grind.{common_steps}
use Rattle.std.proofs.lemmas.List.Splits.{slice_split_none, slice_split_at}
use Rattle.std.specs.Bool.{MatchBool}
use Rattle.std.specs.List.{All, slice_split, IsFirstMatchOrLen}
use Rattle.std.specs.Slice.Iter.{split_done, split_rest}
use Rattle.std.specs.Str.{bytes_eq}
use Rattle.std.specs.declared.slice.Split.{Split}
use Rattle.page_bytes.proofs.Cases.{by}
use Rattle.page_bytes.specs.Names.{lines_of, member, listed}

abbrev pub is_lf : ℕ → Bool
is_lf b = eqb b 10

-- the lines that an iterator over them has left
abbrev pub left : {P : Type 0} → Split ℕ P → List (List ℕ)
left s = cond (split_done s) [] (slice_split is_lf (split_rest s))

-- one line, and what is left behind it
next_line : (xs x rest : List ℕ) (done : Bool) → MatchBool done (xs ≡ x) ((y : ℕ) × (xs ≡ x ++ (y ∷ rest))) → IsFirstMatchOrLen is_lf xs (length x) → slice_split is_lf xs ≡ x ∷ cond done [] (slice_split is_lf rest)
next_line xs x rest true e h =
    ap (slice_split is_lf) e ∙ slice_split_none is_lf x (λ k d l. let a = h.0 k d (omega arith) l in grind (arith, common_steps))
next_line xs x rest false e h =
    let front : All (λ z. is_lf z ≡ false) x = λ k d l. let a = h.0 k d (omega arith) l in let b = e.1 in grind (arith, common_steps) in
    let hit : is_lf e.0 ≡ true = let b = e.1 in let a = h.1 (grind (arith, common_steps)) e.0 in grind (arith, common_steps) in
    ap (slice_split is_lf) e.1 ∙ slice_split_at is_lf x e.0 rest front hit

pub left_more : {P : Type 0} (s t : Split ℕ P) (x : List ℕ) → split_done s ≡ false → MatchBool (split_done t) (split_rest s ≡ x) ((y : ℕ) × (split_rest s ≡ x ++ (y ∷ split_rest t))) → IsFirstMatchOrLen is_lf (split_rest s) (length x) → left s ≡ x ∷ left t
left_more s t x d e h = ap (λ b. cond b [] (slice_split is_lf (split_rest s))) d ∙ next_line _ x _ (split_done t) e h

-- another line than the name is passed
pub passed : (name line : List ℕ) (lines more : List (List ℕ)) (v : Bool) → lines ≡ line ∷ more → bytes_eq line name ≡ false → member name lines ≡ v → member name more ≡ v
passed name line lines more v e q m = sym (ap (member name) e ∙ simp q) ∙ m

-- a line that is the name ends the search
pub hit : (name line : List ℕ) (lines more : List (List ℕ)) → lines ≡ line ∷ more → bytes_eq line name ≡ true → member name lines ≡ true
hit name line lines more e q = ap (member name) e ∙ simp q

-- the list knows a name that is not empty as its lines do
pub knows : (list name : List ℕ) (v : Bool) → 0 < length name → member name (lines_of list) ≡ v → v ≡ listed list name
knows list name v h e = let q : eqb (length name) 0 ≡ false = grind (arith, nat_tests) in rw (q, e)

-- two names byte by byte
pub same-long : (a b : List ℕ) → (length a ≡ length b → ⊥) → bytes_eq a b ≡ false
same-long [] [] h = absurd (h refl)
same-long [] (y ∷ ys) h = refl
same-long (x ∷ xs) [] h = refl
same-long (x ∷ xs) (y ∷ ys) h =
    by (eqb x y) (λ q. rw q (same-long xs ys (λ e. h (ap suc e)))) (λ q. rw q)

-- a byte that is another
pub same-off : (a b : List ℕ) (x y : ℕ) (xs ys : List ℕ) → a ≡ x ∷ xs → b ≡ y ∷ ys → (x ≡ y → ⊥) → bytes_eq a b ≡ false
same-off a b x y xs ys p q e = let t : eqb x y ≡ false = ne_eqb x y e in ap (λ l. bytes_eq l b) p ∙ ap (bytes_eq (x ∷ xs)) q ∙ simp t

-- no byte is left of either
pub same-empty : (a b : List ℕ) → length a ≡ length b → length a ≡ 0 → bytes_eq a b ≡ true
same-empty [] [] h e = refl
same-empty [] (y ∷ ys) h e = absurd (omega arith)
same-empty (x ∷ xs) b h e = absurd (omega arith)
