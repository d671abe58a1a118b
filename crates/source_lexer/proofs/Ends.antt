-- What holds of the end of each candidate holds of the end of the first that fits. Assumes nothing.
use Rattle.std.proofs.Common.{◌≡◌, ℕ, Bool, true, false, cond, List, [], ◌∷◌, Some, None, Option}
use Rattle.std.specs.Option.{option_or}
use Rattle.token.specs.Tokens.{Token, of, first_of}
use Rattle.token.specs.declared.kind.TokenKind.{TokenKind}

-- where there is an end, Q holds of it
abbrev pub Ends : (ℕ → Type 0) → Option ℕ → Type 0
Ends Q None = Unit {0}
Ends Q (Some e) = Q e

-- where there is a token, P holds of it
abbrev pub Tokens : (Token → Type 0) → Option Token → Type 0
Tokens P None = Unit {0}
Tokens P (Some t) = P t

abbrev pub AllTokens : (Token → Type 0) → List (Option Token) → Type 0
AllTokens P [] = Unit {0}
AllTokens P (o ∷ os) = Tokens P o × AllTokens P os

pub first-tokens : (P : Token → Type 0) (os : List (Option Token)) (t : Token) → AllTokens P os → P t → P (first_of os t)
first-tokens P [] t h q = q
first-tokens P (None ∷ os) t h q = first-tokens P os t h.1 q
first-tokens P (Some u ∷ os) t h q = h.0

abbrev pub TokenEnds : (ℕ → Type 0) → Option Token → Type 0
TokenEnds Q = Tokens (λ t. Q t.1)

module _ (Q : ℕ → Type 0) where
  pub of-ends : (k : TokenKind) (o : Option ℕ) → Ends Q o → TokenEnds Q (of k o)
  of-ends k None h = tt
  of-ends k (Some e) h = h

  pub first_ends : (os : List (Option Token)) (t : Token) → AllTokens (λ u. Q u.1) os → Q t.1 → Q (first_of os t).1
  first_ends os t h q = first-tokens (λ u. Q u.1) os t h q

  pub or-ends : (o r : Option ℕ) → Ends Q o → Ends Q r → Ends Q (option_or o r)
  or-ends None r h q = q
  or-ends (Some e) r h q = h

  -- an end behind a test that keeps it back
  pub unless-ends : (b : Bool) (o : Option ℕ) → Ends Q o → Ends Q (cond b None o)
  unless-ends true o h = tt
  unless-ends false o h = h

  -- an end behind a test
  pub when-ends : (b : Bool) (o : Option ℕ) → (b ≡ true → Ends Q o) → Ends Q (cond b o None)
  when-ends true o h = h (λ i. true)
  when-ends false o h = tt

pub or-tokens : (P : Token → Type 0) (o r : Option Token) → Tokens P o → Tokens P r → Tokens P (option_or o r)
or-tokens P None r h q = q
or-tokens P (Some e) r h q = h

pub when-tokens : (P : Token → Type 0) (b : Bool) (o : Option Token) → (b ≡ true → Tokens P o) → Tokens P (cond b o None)
when-tokens P true o h = h (λ i. true)
when-tokens P false o h = tt

pub or-token-ends : (Q : ℕ → Type 0) (o r : Option Token) → TokenEnds Q o → TokenEnds Q r → TokenEnds Q (option_or o r)
or-token-ends Q = or-tokens (λ t. Q t.1)

pub when-token-ends : (Q : ℕ → Type 0) (b : Bool) (o : Option Token) → (b ≡ true → TokenEnds Q o) → TokenEnds Q (cond b o None)
when-token-ends Q = when-tokens (λ t. Q t.1)
