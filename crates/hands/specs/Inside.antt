-- What the contract of a private function cites: what is told of a hand-out before the entries are laid; a reader of the public ones need not know it. N is the table's
-- limit. Assumes nothing.
use Rattle.std.specs.Prelude.{ℕ, zero, suc, [], ◌∷◌}
use Rattle.fields.specs.Answers.{Told}
use Rattle.table.specs.declared.Table.{Table}
use Rattle.hands.specs.Handing.{hand_no}

-- n entries, where the number is 0
abbrev pub told_if : ℕ → ℕ → Told
told_if n zero = record { number = 0; values = n ∷ [] }
told_if n (suc k) = record { number = suc k; values = [] }

unfoldable pub hand_told : ℕ → Table → ℕ → ℕ → Told
hand_told N t room before = told_if t.count (hand_no N t room before)
