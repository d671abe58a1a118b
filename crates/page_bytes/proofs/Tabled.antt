-- A rule at all 256 bytes, by one test that antt computes. Assumes nothing.
use Rattle.std.proofs.Common.{◌≡◌, ℕ, ◌<◌, Bool, false, List, get_or, map, sym, refl, ap, ◌∙◌, arith}
use Rattle.std.proofs.lemmas.List.FromFn.{get_or-map-range_with_len}
use Rattle.std.specs.List.{range_with_len}
use Rattle.page_bytes.specs.Classes.{class_bits, has_bit}

-- the values of f at the first n numbers
abbrev pub values : {A : Type 0} → (ℕ → A) → ℕ → List A
values f n = map f (range_with_len 0 n)

-- what stands in a table of the values of f
pub table_at : {A : Type 0} (f : ℕ → A) (d : A) (table : List A) (n : ℕ) → table ≡ values f n → (k : ℕ) → k < n → get_or table k d ≡ f k
table_at f d table n e k h = ap (λ xs. get_or xs k d) e ∙ get_or-map-range_with_len f 0 n k k d h (omega arith)

-- two functions whose values are one list are equal there
pub same-values : {A : Type 0} (f g : ℕ → A) (d : A) (n : ℕ) → values f n ≡ values g n → (k : ℕ) → k < n → f k ≡ g k
same-values f g d n e k h = sym (table_at f d (values f n) n refl k h) ∙ table_at g d (values f n) n e k h

-- a bit that stands in `class_bits` at the members of a set, and at no other of the 256 bytes
pub bit_at : (bit : ℕ) (is : ℕ → Bool) → values (λ b. has_bit (class_bits b) bit) 256 ≡ values is 256 → (b n : ℕ) → b < 256 → n ≡ class_bits b → has_bit n bit ≡ is b
bit_at bit is e b n h m = ap (λ k. has_bit k bit) m ∙ same-values (λ k. has_bit (class_bits k) bit) is false 256 e b h
