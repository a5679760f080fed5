-- Each contract lets one answer through: two results of a call carried out, cut, counted or told that meet the same equation are the same, and so is every byte that
-- was lent to be changed. Assumes nothing.
use Prim.Native.Nat.{ℕ}
use native.Mathlib.Omega.{arith}
use mathlib.Core.Path.{◌≡◌, refl, sym, ap, ◌∙◌}
use mathlib.Core.List.{List}
use Rattle.std.specs.Prelude.{Option, Result, Ok, Err}
use Rattle.fields.specs.declared.refusal.Refusal.{Refusal}
use Rattle.fields.specs.Refusals.{number_in}
use Rattle.fields.proofs.AnswerLaws.{number-positive, number-same}
use Rattle.world.specs.declared.Lens.{Lens}
use Rattle.world.specs.World.{lens_of}
use Rattle.stores.specs.declared.Telling.{Telling}
use Rattle.stores.specs.Room.{Carried, Cut, cut, cut_of}
use Rattle.stores.proofs.TellLaws.{telling-same}
use Rattle.form.specs.declared.Store.{Store}
use Rattle.form.specs.Store.{Changed, changed, Outcome, outcome}
use Rattle.ready.specs.declared.Numbered.{Numbered}
use Rattle.ready.specs.Ready.{changed_as, cut_as, Counted, counted_as, counted, ToldCall, told_as, told_by}

-- two answers of one number that agree where they are accepted
answer-same : {A : Type 0} (a b : Result A Refusal) → number_in a ≡ number_in b → ((x y : A) → a ≡ Ok x → b ≡ Ok y → x ≡ y) → a ≡ b
answer-same {A} (Ok x) (Ok y) e h = ap (λ (z : A). Ok z) (h x y refl refl)
answer-same (Ok x) (Err s) e h = absurd (omega (arith, number-positive s))
answer-same (Err r) (Ok y) e h = absurd (omega (arith, number-positive r))
answer-same (Err r) (Err s) e h = ap (λ q. Err q) (number-same r s e)

number-changed : (s : Store) (a : Result Store Refusal) → number_in a ≡ (changed s a).number
number-changed s (Ok u) = refl
number-changed s (Err r) = refl

number-cut : (n : Lens) (a : Result Lens Refusal) → number_in a ≡ (cut n a).number
number-cut n (Ok at) = refl
number-cut n (Err r) = refl

number-counted : (a : Result ℕ Refusal) → number_in a ≡ (counted a).number
number-counted (Ok n) = refl
number-counted (Err r) = refl

number-told : (a : Result (Option Telling) Refusal) → number_in a ≡ (told_by a).number
unfolding told_by
number-told (Ok t) = refl
number-told (Err r) = refl

abbrev changed_of : Outcome → Changed
changed_of o = record { number = o.number; store = o.store }

abbrev cut_in : Carried → Cut
cut_in c = record { number = c.number; lens = lens_of c.files }

pub changed-same : (s t : Store) (a b : Result Store Refusal) → changed s a ≡ changed t b → a ≡ b
changed-same s t a b e =
    answer-same a b (number-changed s a ∙ ap (λ (x : Changed). x.number) e ∙ sym (number-changed t b))
    (λ x y p q. ap (λ (u : Changed). u.store) (sym (ap (changed s) p) ∙ e ∙ ap (changed t) q))

-- carried out, and cut; s and t, m and n are what a refusal leaves
module _ (log db clog log' db' clog' : List ℕ) where
  pub whole_same : (s t : Store) (a b : Result Store Refusal) (frames frames' : List ℕ) (o : Outcome) →
      outcome (changed s a) log db clog frames ≡ o → outcome (changed t b) log' db' clog' frames' ≡ o →
      (a ≡ b) × (log ≡ log') × (db ≡ db') × (clog ≡ clog') × (frames ≡ frames')
  whole_same s t a b frames frames' o e f =
      let p = e ∙ sym f in (
        changed-same s t a b (ap changed_of p),
        ap (λ (x : Outcome). x.log) p,
        ap (λ (x : Outcome). x.db) p,
        ap (λ (x : Outcome). x.clog) p,
        ap (λ (x : Outcome). x.frames) p,
      )

  pub cut-same : (m n : Lens) (a b : Result Lens Refusal) (c : Carried) → cut_of (cut m a) log db clog ≡ c → cut_of (cut n b) log' db' clog' ≡ c →
      (a ≡ b) × (log ≡ log') × (db ≡ db') × (clog ≡ clog')
  cut-same m n a b c e f =
      let p = e ∙ sym f in
      let q : cut m a ≡ cut n b = ap cut_in p in (
        answer-same a b (number-cut m a ∙ ap (λ (x : Cut). x.number) q ∙ sym (number-cut n b))
            (λ x y g h. ap (λ (u : Cut). u.lens) (sym (ap (cut m) g) ∙ q ∙ ap (cut n) h)),
        ap (λ (x : Carried). x.files.log.bytes) p,
        ap (λ (x : Carried). x.files.db.bytes) p,
        ap (λ (x : Carried). x.files.clog.bytes) p,
      )

-- counted, and told
pub counted-same : (a b : Result ℕ Refusal) → counted a ≡ counted b → a ≡ b
counted-same a b e =
    answer-same a b (number-counted a ∙ ap (λ (x : Counted). x.number) e ∙ sym (number-counted b))
    (λ x y p q. ap (λ (u : Counted). u.stores) (sym (ap counted p) ∙ e ∙ ap counted q))

pub told_same : (a b : Result (Option Telling) Refusal) (c : ToldCall) → told_by a ≡ c → told_by b ≡ c → a ≡ b
unfolding told_by
told_same a b c f g =
    let e = f ∙ sym g in
    answer-same a b (number-told a ∙ ap (λ (x : ToldCall). x.number) e ∙ sym (number-told b))
    (λ x y p q. telling-same x y (ap (λ (u : ToldCall). u.values) (sym (ap told_by p) ∙ e ∙ ap told_by q)))

-- the same of a call of any number, as it was made ready
module _ (log db clog log' db' clog' : List ℕ) where
  pub carried-same : (a b : Numbered Store) (frames frames' : List ℕ) (o : Outcome) →
      outcome (changed_as a) log db clog frames ≡ o → outcome (changed_as b) log' db' clog' frames' ≡ o →
      (a ≡ b) × (log ≡ log') × (db ≡ db') × (clog ≡ clog') × (frames ≡ frames')
  carried-same a b frames frames' o e f =
      let p = e ∙ sym f in (
        ap (λ (x : Outcome). record { number = x.number; value = x.store }) p,
        ap (λ (x : Outcome). x.log) p,
        ap (λ (x : Outcome). x.db) p,
        ap (λ (x : Outcome). x.clog) p,
        ap (λ (x : Outcome). x.frames) p,
      )

  pub halted-same : (a b : Numbered Lens) (c : Carried) → cut_of (cut_as a) log db clog ≡ c → cut_of (cut_as b) log' db' clog' ≡ c →
      (a ≡ b) × (log ≡ log') × (db ≡ db') × (clog ≡ clog')
  halted-same a b c e f =
      let p = e ∙ sym f in (
        ap (λ (x : Carried). record { number = x.number; value = lens_of x.files }) p,
        ap (λ (x : Carried). x.files.log.bytes) p,
        ap (λ (x : Carried). x.files.db.bytes) p,
        ap (λ (x : Carried). x.files.clog.bytes) p,
      )

pub tallied-same : (a b : Numbered ℕ) → counted_as a ≡ counted_as b → a ≡ b
tallied-same a b e = ap (λ (x : Counted). record { number = x.number; value = x.stores }) e

pub retold-same : (a b : Numbered (Option Telling)) (c : ToldCall) → told_as a ≡ c → told_as b ≡ c → a ≡ b
unfolding told_as
retold-same a b c f g =
    let e = f ∙ sym g in
    ap (λ (n : ℕ). record { number = n; value = a.value }) (ap (λ (x : ToldCall). x.number) e)
    ∙ ap (λ (t : Option Telling). record { number = b.number; value = t }) (telling-same a.value b.value (ap (λ (x : ToldCall). x.values) e))
