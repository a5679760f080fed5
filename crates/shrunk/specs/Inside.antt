-- What the contracts of private functions cite; a reader of the public ones need not know it. Assumes nothing.
use Rattle.std.specs.Prelude.{ℕ, ◌%◌, Bool, not, ◌||◌, ltb, eqb}

-- the last two tests of `misfits`
unfoldable pub bad_base : ℕ → Bool
bad_base base = not (eqb (base % 4) 0) || ltb 4194272 base
