-- The first candidate that fits, one after the other. Assumes nothing.
use Rattle.std.proofs.Common.{◌≡◌, List, ◌∷◌, Some, None, Option, ap}
use Rattle.token.specs.Tokens.{Token, first_of}

pub skip : (o : Option Token) (os : List (Option Token)) (t : Token) → o ≡ None → first_of (o ∷ os) t ≡ first_of os t
skip o os t h = ap (λ x. first_of (x ∷ os) t) h

pub found : (o : Option Token) (os : List (Option Token)) (t u : Token) → o ≡ Some u → first_of (o ∷ os) t ≡ u
found o os t u h = ap (λ x. first_of (x ∷ os) t) h
