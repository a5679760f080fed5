-- What a host gets of an answer: its number, and four values that are always written, refused calls too. Assumes nothing.
use Rattle.std.specs.Prelude.{ℕ, List, [], ◌∷◌, get_or}
use Rattle.fields.specs.Answers.{Told}

abbrev pub said : ℕ → List ℕ → Told
said number values = record { number = number; values = values }

-- the first four of a list, zeros after its end
unfoldable pub four : List ℕ → List ℕ
four l = get_or l 0 0 ∷ get_or l 1 0 ∷ get_or l 2 0 ∷ get_or l 3 0 ∷ []
