-- What a host gets of a cut says which answer it is: the number, the values, and every byte of the three files. Assumes nothing.
use mathlib.Core.Path.{◌≡◌, ap}
use mathlib.Core.List.{List}
use Prim.Native.Nat.{ℕ}
use Rattle.words.specs.Values.{said}
use Rattle.hostcuts.specs.Cuts.{Stopped, stopped}

pub stopped-same : (n m : ℕ) (v w log log' db db' clog clog' : List ℕ) → stopped (said n v) log db clog ≡ stopped (said m w) log' db' clog'
    → (n ≡ m) × (v ≡ w) × (log ≡ log') × (db ≡ db') × (clog ≡ clog')
stopped-same n m v w log log' db db' clog clog' e = (
  ap (λ (x : Stopped). x.answer.number) e,
  ap (λ (x : Stopped). x.answer.values) e,
  ap (λ (x : Stopped). x.log) e,
  ap (λ (x : Stopped). x.db) e,
  ap (λ (x : Stopped). x.clog) e,
)
