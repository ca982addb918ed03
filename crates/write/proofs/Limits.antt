-- The limit of a file (F13) by numbers.
use mathlib.Core.Path.{◌≡◌}
use mathlib.Core.Bool.{true, false}
use Prim.Native.Nat.{◌+◌}
use native.Mathlib.Omega.{arith}
use borrow.Author.Tests.{lt-ltb, le-ltb}
use Rattle.model.specs.Volume.{file_limit}
use Rattle.handle.specs.declared.Handle.{Handle}
use Rattle.write.specs.Writing.{too_long}

-- From position 2,147,483,646 on, a write of 1 byte ends at the limit, and one of 2 bytes one past it.
pub at_limit : (h : Handle) → h.position ≡ 2147483646 → (too_long h 1 ≡ false) × (too_long h 2 ≡ true)
unfolding too_long
at_limit h e = (le-ltb file_limit (h.position + 1) (omega arith), lt-ltb file_limit (h.position + 2) (omega arith))
