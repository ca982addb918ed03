-- The number of each refusal. Definitions alone.
use Rattle.std.specs.Prelude.{ℕ}
use Rattle.limits.specs.declared.Refusal.{Refusal}
use Rattle.limits.specs.declared.Refusal.TheVariants.{BadImage, NotMfs, BadCount, BadPath, NotFound, WrongKind, Exists, BadName, NoRoom, TooLarge, Stale, BadSeek, EmptyWrite, NotEmpty, TooDeep, ShortWork, Damaged, PastEnd}

-- Each refusal has the number of its rule: R1 is 1. (18 is no refusal's.)
abbrev pub refusal_number : Refusal → ℕ
refusal_number BadImage = 1
refusal_number NotMfs = 2
refusal_number BadCount = 3
refusal_number BadPath = 4
refusal_number NotFound = 5
refusal_number WrongKind = 6
refusal_number Exists = 7
refusal_number BadName = 8
refusal_number NoRoom = 9
refusal_number TooLarge = 10
refusal_number Stale = 11
refusal_number BadSeek = 12
refusal_number EmptyWrite = 13
refusal_number NotEmpty = 14
refusal_number TooDeep = 15
refusal_number ShortWork = 16
refusal_number Damaged = 17
refusal_number PastEnd = 19
