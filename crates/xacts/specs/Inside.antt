-- What the contracts of private functions cite; a reader of the public ones need not know it. Assumes nothing.
use Rattle.std.specs.Prelude.{ℕ, List, [], ◌∷◌}
use Rattle.clog.specs.Slots.{bits_of}

-- the four slots of a byte
abbrev pub four_of : ℕ → List ℕ
four_of b = bits_of 0 b ∷ bits_of 1 b ∷ bits_of 2 b ∷ bits_of 3 b ∷ []
