-- That a number is a block's size holds in one way alone, as a struct that keeps it asks.
use Rattle.std.specs.Prelude.{ℕ}
use Rattle.std.specs.Coded.{le_prop}
use Rattle.block.specs.Block.{BlockSize}

pub size_is_one : (B : ℕ) → IsProp (BlockSize B)
size_is_one B = hlevel le_prop
