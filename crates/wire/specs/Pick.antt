-- A choice by a test, at any type; the tests that two lists of bytes are equal, and that bytes are zero.
use Rattle.std.specs.Prelude.{Bool, true, false, ◌&&◌, List, [], ◌∷◌, ℕ, zero, suc, eqb, get_or}

-- x where the test holds, else y
unfoldable pub pick : {A : Type 0} → Bool → A → A → A
pick true x y = x
pick false x y = y

-- are the lists equal
unfoldable pub same : List ℕ → List ℕ → Bool
same [] [] = true
same [] (b ∷ m) = false
same (a ∷ n) [] = false
same (a ∷ n) (b ∷ m) = pick (eqb a b) (same n m) false

-- are the k bytes from index p on zero
unfoldable pub zero_from : List ℕ → ℕ → ℕ → Bool
zero_from l p zero = true
zero_from l p (suc k) = eqb (get_or l p 0) 0 && zero_from l (suc p) k
