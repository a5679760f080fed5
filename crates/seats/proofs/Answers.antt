-- What is told of a seat and of a mark says which answer it is: the number and the count, and every page of the array. Assumes nothing.
use Prim.Native.Nat.{ℕ}
use native.Mathlib.Omega.{arith}
use mathlib.Core.Path.{◌≡◌, refl, sym, ap, ◌∙◌}
use mathlib.Core.List.{List}
use Rattle.std.specs.Prelude.{Result, Ok, Err}
use Rattle.std.specs.Result.{result_unwrap_or}
use Rattle.fields.specs.declared.refusal.Refusal.{Refusal}
use Rattle.fields.specs.Refusals.{number_in}
use Rattle.fields.proofs.AnswerLaws.{number-positive, number-same}
use Rattle.frames.specs.Pages.{Seated, Marked}
use Rattle.seats.specs.Seats.{seated_in, marked_in, seat_kept, mark_kept, Kept, kept_in, seated_by, marked_by}

-- an answer's number, and its count where n pages were held
pub kept-parts : (n : ℕ) (a : Result ℕ Refusal) → kept_in n a ≡ record { number = number_in a; count = result_unwrap_or a n }
kept-parts n (Ok m) = refl
kept-parts n (Err r) = refl

pub seated-parts : (n : ℕ) (a : Result ℕ Refusal) (pages : List ℕ) → seated_by n a pages ≡ seated_in (number_in a) pages (result_unwrap_or a n)
seated-parts n (Ok m) pages = refl
seated-parts n (Err r) pages = refl

pub marked-parts : (n : ℕ) (a : Result ℕ Refusal) (pages : List ℕ) → marked_by n a pages ≡ marked_in (number_in a) pages (result_unwrap_or a n)
marked-parts n (Ok m) pages = refl
marked-parts n (Err r) pages = refl

pub kept-same : (n : ℕ) (a b : Result ℕ Refusal) → kept_in n a ≡ kept_in n b → a ≡ b
kept-same n (Ok m) (Ok k) e = ap (λ (x : Kept). Ok x.count) e
kept-same n (Ok m) (Err s) e = absurd (omega (arith, number-positive s, ap (λ (x : Kept). x.number) e))
kept-same n (Err r) (Ok k) e = absurd (omega (arith, number-positive r, ap (λ (x : Kept). x.number) e))
kept-same n (Err r) (Err s) e = ap (λ q. Err q) (number-same r s (ap (λ (x : Kept). x.number) e))

pub seated-same : (n : ℕ) (a b : Result ℕ Refusal) (pages pages' : List ℕ) (o : Seated) → seated_by n a pages ≡ o → seated_by n b pages' ≡ o → (a ≡ b) × (pages ≡ pages')
seated-same n a b pages pages' o e f =
    let p = sym (seated-parts n a pages) ∙ e ∙ sym f ∙ seated-parts n b pages' in
    (kept-same n a b (kept-parts n a ∙ ap seat_kept p ∙ sym (kept-parts n b)), ap (λ (s : Seated). s.frames.pages) p)

pub marked-same : (n : ℕ) (a b : Result ℕ Refusal) (pages pages' : List ℕ) (o : Marked) → marked_by n a pages ≡ o → marked_by n b pages' ≡ o → (a ≡ b) × (pages ≡ pages')
marked-same n a b pages pages' o e f =
    let p = sym (marked-parts n a pages) ∙ e ∙ sym f ∙ marked-parts n b pages' in
    (kept-same n a b (kept-parts n a ∙ ap mark_kept p ∙ sym (kept-parts n b)), ap (λ (m : Marked). m.touched.pages) p)
