-- Laws of a call that is cut, counted or told for a host: the call's answer is given. Assumes nothing.
use Prim.Native.Nat.{ℕ}
use mathlib.Core.Path.{◌≡◌, refl, ap, ◌∙◌}
use mathlib.Core.List.{List, [], ◌∷◌}
use Rattle.std.specs.Prelude.{Option, None, Result, Ok, Err}
use Rattle.std.specs.Result.{result_unwrap_or}
use Rattle.fields.specs.declared.refusal.Refusal.{Refusal}
use Rattle.fields.specs.Refusals.{number_in}
use Rattle.fields.specs.Answers as answers
use Rattle.world.specs.declared.Lens.{Lens}
use Rattle.stores.specs.declared.Telling.{Telling}
use Rattle.stores.specs.Room.{Carried, Cut, cut, cut_of}
use Rattle.stores.specs.Told.{telling_told}
use Rattle.ready.specs.Ready.{Counted, counted, ToldCall, told_by}
use Rattle.lent.specs.declared.Head.{Head}
use Rattle.words.specs.Values.{said, four}
use Rattle.hostcuts.specs.Cuts.{stopped, lens_given, stopped_at, count_given, told_given}

-- ---- the values of an answer, by its number and by what it has where it is accepted

pub cut-values : (n : Lens) (a : Result Lens Refusal) → (let m = result_unwrap_or a n in
    said (number_in a) (m.log ∷ m.db ∷ m.clog ∷ 0 ∷ []) ≡ lens_given (cut n a).number (cut n a).lens)
unfolding lens_given four
cut-values n (Ok m) = refl
cut-values n (Err r) = refl

pub count-values : (a : Result ℕ Refusal) → said (number_in a) (result_unwrap_or a 0 ∷ 0 ∷ 0 ∷ 0 ∷ []) ≡ count_given (counted a)
unfolding count_given four
count-values (Ok n) = refl
count-values (Err r) = refl

pub told-values : (a : Result (Option Telling) Refusal) (t : Option Telling) → t ≡ result_unwrap_or a None → said (number_in a) (four (telling_told t)) ≡ told_given (told_by a)
unfolding told_given told_by
told-values a t e = rw e (go a)
  where
    go : (a : Result (Option Telling) Refusal) → said (number_in a) (four (telling_told (result_unwrap_or a None))) ≡ told_given (told_by a)
    go (Ok t) = refl
    go (Err r) = refl

-- ---- a call for a host

-- f is what comes of the call for a head, which is read from words
pub cut-given : (f : Head → Carried) (h₀ h : Head) (r : Cut) (n : ℕ) (v log db clog : List ℕ) → h₀ ≡ h → cut_of r log db clog ≡ f h₀ →
    said n v ≡ lens_given r.number r.lens → stopped (said n v) log db clog ≡ stopped_at (f h)
unfolding stopped_at
cut-given f h₀ h r n v log db clog e p q = ap (λ (a : answers.Told). stopped a log db clog) q ∙ ap stopped_at (p ∙ ap f e)

pub count-given : (f : Head → Counted) (h₀ h : Head) (r : Counted) (n : ℕ) (v : List ℕ) → h₀ ≡ h → r ≡ f h₀ → said n v ≡ count_given r →
    said n v ≡ count_given (f h)
count-given f h₀ h r n v e p q = q ∙ ap count_given (p ∙ ap f e)

pub told-given : (f : Head → ToldCall) (h₀ h : Head) (r : Result (Option Telling) Refusal) (n : ℕ) (v : List ℕ) → h₀ ≡ h → told_by r ≡ f h₀ → said n v ≡ told_given (told_by r) →
    said n v ≡ told_given (f h)
told-given f h₀ h r n v e p q = q ∙ ap told_given (p ∙ ap f e)
