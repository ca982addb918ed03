use Rattle.std.proofs.Common.{◌≡◌, ℕ, ◌+◌, ◌-◌, ◌≤◌, List, ◌++◌, rules, length, take, drop, sym, ap, ◌∙◌, subst, drop_at, length-take-le}
use Rattle.std.specs.Io.KnownBytes.{Consumes}
use Rattle.std.proofs.KnownBytes.{Consumes-trans}
use borrow.Rule.Slice.PartMut.{put_mid, post_of}
use lib.Seq.{take-add, take-append-le, take_at}
use Rattle.input.proofs.read_full.Goals as goal

-- a filled front, and the n bytes that a read put behind it, are the front of the new buffer
filled : (front room n : ℕ) (old part : List ℕ) → front ≤ length old → n ≤ length part → take front old ++ take n part ≡ take (front + n) (put_mid front room old part)
filled front room n old part within fits =
    let past : List ℕ = post_of front room old in
    let long : length (take front old) ≡ front = length-take-le front old within in
    sym
    (take-add front n (take front old ++ (part ++ past))
    ∙ ap (λ (l : List ℕ). l ++ take n (drop front (take front old ++ (part ++ past)))) (take_at (take front old) (part ++ past) front long)
    ∙ ap (λ (l : List ℕ). take front old ++ take n l) (drop_at (take front old) (part ++ past) front long)
    ∙ ap (λ (l : List ℕ). take front old ++ l) (take-append-le n part past fits))

pub loop-done-preserved : goal.loop-done-preserved
loop-done-preserved g c =
    let l = c.loop-done in
    let read = c.in_ok-n.ensures in
    let joined = filled l.done (length l.buf - l.done) c.in_ok-n.n l.buf c.read.new.buf l.invariant.1 read.bound.0 in
    (search rules, search rules, subst (Consumes _ _) joined (Consumes-trans _ _ _ _ _ l.invariant.2 read.bytes.0))
