-- What the library's slices say of the bytes from n on.
use mathlib.Core.Path.{◌≡◌, ap, ◌∙◌}
use mathlib.Core.Bool.{Bool}
use mathlib.Core.List.{List}
use Prim.Native.Nat.{ℕ, ◌-◌}
use lib.Dec.{eqb}
use lib.ListN.{length, take, drop}
use Rattle.std.specs.List.{list_any}
use Rattle.text.specs.Text.{is_text, has_byte}
use Rattle.text.proofs.Along.{has_is, rest_is}

pub has_rest : (a : ℕ) (l : List ℕ) (n : ℕ) (t : Bool) → t ≡ list_any (λ y. eqb y a) (take (length l - n) (drop n l))
    → t ≡ has_byte a (drop n l)
has_rest a l n t e = e ∙ ap (list_any (λ y. eqb y a)) (rest_is l n) ∙ has_is a (drop n l)

pub text_rest : (l : List ℕ) (n : ℕ) (r : Bool) → r ≡ is_text (take (length l - n) (drop n l)) → r ≡ is_text (drop n l)
text_rest l n r e = e ∙ ap is_text (rest_is l n)
