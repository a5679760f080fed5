-- What a call leaves in a host's store says which answer it is: the number, every word of the head, the three arrays, and every byte of the four buffers. Assumes
-- nothing.
use Prim.Native.Nat.{ℕ}
use mathlib.Core.Path.{◌≡◌, sym, ap, ◌∙◌}
use mathlib.Core.List.{List}
use Rattle.fields.specs.Answers.{Told}
use Rattle.words.specs.Values.{said}
use Rattle.words.specs.Words.{Standing, standing}

-- the words of the store
pub record SameWords (h h' : List ℕ) (a a' : List (List ℕ)) (b b' c c' : List ℕ) : Type 0 where
  pub head : h ≡ h'
  pub rows : a ≡ a'
  pub resident : b ≡ b'
  pub touched : c ≡ c'

pub standing-same : (n n' : ℕ) (head head' : List ℕ) (rows rows' : List (List ℕ)) (resident resident' touched touched' log log' db db' clog clog' frames frames' : List ℕ)
    (o : Standing) → standing n head rows resident touched log db clog frames ≡ o → standing n' head' rows' resident' touched' log' db' clog' frames' ≡ o →
    (n ≡ n') × SameWords head head' rows rows' resident resident' touched touched' × (log ≡ log') × (db ≡ db') × (clog ≡ clog') × (frames ≡ frames')
standing-same n n' head head' rows rows' resident resident' touched touched' log log' db db' clog clog' frames frames' o e f =
    let p = e ∙ sym f in (
      ap (λ (s : Standing). s.number) p,
      record {
        head = ap (λ (s : Standing). s.head) p;
        rows = ap (λ (s : Standing). s.rows) p;
        resident = ap (λ (s : Standing). s.resident) p;
        touched = ap (λ (s : Standing). s.touched) p;
      },
      ap (λ (s : Standing). s.log) p,
      ap (λ (s : Standing). s.db) p,
      ap (λ (s : Standing). s.clog) p,
      ap (λ (s : Standing). s.frames) p,
    )

-- a number, and the values that a host gets with it
pub said_same : (n n' : ℕ) (values values' : List ℕ) (o : Told) → said n values ≡ o → said n' values' ≡ o → (n ≡ n') × (values ≡ values')
said_same n n' values values' o e f =
    let p = e ∙ sym f in (ap (λ (t : Told). t.number) p, ap (λ (t : Told). t.values) p)
