-- What a call leaves says which answer it is: two replies that leave the same are the same, and so are the three arrays and every byte of the four buffers. Assumes
-- nothing.
use Prim.Native.Nat.{ℕ}
use mathlib.Core.Path.{◌≡◌, sym, ap, ◌∙◌}
use mathlib.Core.List.{List}
use Rattle.lent.specs.Lent.{Reply, lent, Left, leaving}

-- the three arrays
pub record SameArrays (a a' : List (List ℕ)) (b b' c c' : List ℕ) : Type 0 where
  pub rows : a ≡ a'
  pub resident : b ≡ b'
  pub touched : c ≡ c'

abbrev reply_of : Left → Reply
reply_of l = record { number = l.number; head = l.store.head }

pub leaving-same : (rows rows' : List (List ℕ)) (resident resident' touched touched' log log' db db' clog clog' frames frames' : List ℕ) (a b : Reply) (o : Left) →
    leaving a.number (lent a.head rows resident touched) log db clog frames ≡ o →
    leaving b.number (lent b.head rows' resident' touched') log' db' clog' frames' ≡ o →
    (a ≡ b) × SameArrays rows rows' resident resident' touched touched' × (log ≡ log') × (db ≡ db') × (clog ≡ clog') × (frames ≡ frames')
leaving-same rows rows' resident resident' touched touched' log log' db db' clog clog' frames frames' a b o e f =
    let p = e ∙ sym f in (
      ap reply_of p,
      record {
        rows = ap (λ (l : Left). l.store.rows) p;
        resident = ap (λ (l : Left). l.store.resident) p;
        touched = ap (λ (l : Left). l.store.touched) p;
      },
      ap (λ (l : Left). l.log) p,
      ap (λ (l : Left). l.db) p,
      ap (λ (l : Left). l.clog) p,
      ap (λ (l : Left). l.frames) p,
    )
