-- What is told of a changed table says which answer it is: the number and the count, and every row of the array. Assumes nothing.
use Prim.Native.Nat.{ℕ}
use native.Mathlib.Omega.{arith}
use mathlib.Core.Path.{◌≡◌, refl, sym, ap, ◌∙◌}
use mathlib.Core.List.{List}
use Rattle.std.specs.Prelude.{Result, Ok, Err}
use Rattle.fields.specs.declared.refusal.Refusal.{Refusal}
use Rattle.fields.proofs.AnswerLaws.{number-positive, number-same}
use Rattle.rows.specs.declared.Filled.{Filled}
use Rattle.rows.specs.Rows.{Rowed, rowed, rowed_in, row_kept, Counted, counted_in}

pub rowed-same : (a b : Filled) (rows rows' : List (List ℕ)) (o : Rowed) → rowed a rows ≡ o → rowed b rows' ≡ o → (a ≡ b) × (rows ≡ rows')
rowed-same a b rows rows' o e f =
    let p = e ∙ sym f in
    let s : a.number ≡ b.number = ap (λ (r : Rowed). r.number) p in
    let n : a.count ≡ b.count = ap (λ (r : Rowed). r.count) p in
    let q : a ≡ b = ap (λ (x : ℕ). record { number = x; count = a.count }) s ∙ ap (λ (k : ℕ). record { number = b.number; count = k }) n in
    (q, ap (λ (r : Rowed). r.rows) p)

pub counted-same : (n : ℕ) (a b : Result ℕ Refusal) → counted_in n a ≡ counted_in n b → a ≡ b
counted-same n (Ok m) (Ok k) e = ap (λ (c : Counted). Ok c.count) e
counted-same n (Ok m) (Err s) e = absurd (omega (arith, number-positive s, ap (λ (c : Counted). c.number) e))
counted-same n (Err r) (Ok k) e = absurd (omega (arith, number-positive r, ap (λ (c : Counted). c.number) e))
counted-same n (Err r) (Err s) e = ap (λ q. Err q) (number-same r s (ap (λ (c : Counted). c.number) e))

kept : (n : ℕ) (a : Result ℕ Refusal) (rows : List (List ℕ)) → counted_in n a ≡ row_kept (rowed_in n a rows)
kept n (Ok m) rows = refl
kept n (Err r) rows = refl

laid : (n : ℕ) (a : Result ℕ Refusal) (rows : List (List ℕ)) → rows ≡ (rowed_in n a rows).rows
laid n (Ok m) rows = refl
laid n (Err r) rows = refl

pub rowed_in-same : (n : ℕ) (a b : Result ℕ Refusal) (rows rows' : List (List ℕ)) (o : Rowed) → rowed_in n a rows ≡ o → rowed_in n b rows' ≡ o → (a ≡ b) × (rows ≡ rows')
rowed_in-same n a b rows rows' o e f =
    let p = e ∙ sym f in (
      counted-same n a b (kept n a rows ∙ ap row_kept p ∙ sym (kept n b rows')),
      laid n a rows ∙ ap (λ (r : Rowed). r.rows) p ∙ sym (laid n b rows'),
    )
