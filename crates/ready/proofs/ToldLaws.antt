-- What is told of a store of a call that was made ready is what is told of the call's. P is the page size. Assumes nothing.
use Prim.Native.Nat.{ℕ, zero, suc, ◌≤◌}
use native.Mathlib.Omega.{arith}
use mathlib.Core.Path.{◌≡◌, refl, sym, ap, ◌∙◌}
use mathlib.Core.List.{List, []}
use mathlib.Core.Bool.{Bool, true, false, cond}
use lib.Dec.{ltb}
use borrow.Author.Tests.{le-ltb}
use Rattle.std.specs.Prelude.{Option, Result, Ok, Err}
use Rattle.fields.specs.declared.refusal.Refusal.{Refusal}
use Rattle.fields.specs.Refusals.{number_of}
use Rattle.world.proofs.CallLaws.{both_zero}
use Rattle.world.specs.World.{World, files_of}
use Rattle.world.specs.Steps as world
use Rattle.world.specs.Steps.{tell_all}
use Rattle.world.specs.Calls.{Call, steps, keeps}
use Rattle.world.specs.Refusals.{call_no, front_no, refuses}
use Rattle.world.specs.Run.{decided, tellings}
use Rattle.stores.specs.declared.Telling.{Telling}
use Rattle.stores.specs.Plans.{steps_of, meant}
use Rattle.stores.specs.Told.{first_told, told_at, told_in}
use Rattle.stores.proofs.TellLaws.{told-any}
use Rattle.form.specs.declared.Store.{Store}
use Rattle.form.specs.Store.{world_of, laid_store}
use Rattle.form.proofs.Front.{front-means}
use Rattle.plans.specs.Planned.{plan_of}
use Rattle.ready.specs.declared.Ready.{Ready}
use Rattle.ready.specs.declared.Numbered.{Numbered}
use Rattle.ready.specs.Ready.{Prepared, prepared, accepted, readied, idle, ToldCall, told_as, told_by, told_for, told_of}
use Rattle.ready.specs.Inside.{remembered, ready_for}

abbrev told_call : ℕ → List ℕ → ToldCall
told_call n vs = record { number = n; values = vs }

-- of no stores nothing is told
none_told : (k : ℕ) → told_at k [] ≡ []
unfolding told_at first_told
none_told zero = refl
none_told (suc zero) = refl
none_told (suc (suc k)) = refl

-- nothing, whichever way a test goes
same-either : (b : Bool) → ◌≡◌ {A = List ℕ} (cond b [] []) []
same-either true = refl
same-either false = refl

module _ (P : ℕ) (big : 36 ≤ P) (k : ℕ) (c : Call) (s : Store) (log db clog frames : List ℕ) where
  abbrev now : World
  now = world_of s log db clog frames

  -- of what was made ready, on the files that it is made ready for
  abbrev values_in : Prepared → List ℕ
  values_in p = cond (ltb 16777216 p.store.lens.log) [] (told_at k (tell_all P p.steps (files_of p.store.lens log db clog)))

  plan-told : (r : Ready) → told_in P r.plan k r.store.lens ≡ values_in (readied P r log db clog frames)
  unfolding told_in readied
  plan-told r =
      let n = r.store.lens in
      ap (λ (ts : List world.Telling). cond (ltb 16777216 n.log) [] (told_at k ts)) (sym (told-any P big frames r.plan (files_of n log db clog) n refl refl))

  -- an accepted call's log is no longer than a buffer may be
  short-log : refuses P c now ≡ 0 → ltb 16777216 s.lens.log ≡ false
  unfolding refuses
  short-log e =
      let a = both_zero (front_no P now) (call_no P c now) e in
      let i = front-means P s log db clog frames a.0 in
      let l = i.log-limit in
      let f = i.log-fits in
      le-ltb 16777216 s.lens.log (omega arith)

  ready-told : values_in (ready_for P c s log db clog frames) ≡ told_at k (tellings P c now)
  unfolding ready_for tellings laid_store world_of tell_all
  ready-told = go (refuses P c now) refl
    where
      go : (n : ℕ) → refuses P c now ≡ n →
          values_in (prepared n (decided n (steps P c now) []) (decided n (remembered P c s now) s) (decided n (keeps P c now).frames frames)) ≡
          told_at k (decided n (tell_all P (steps P c now) now.files) [])
      go zero e = rw (short-log e)
      go (suc n) e = rw (none_told k, same-either (ltb 16777216 s.lens.log))

  pub told-done : (r : Ready) (t : Result (Option Telling) Refusal) → readied P r log db clog frames ≡ ready_for P c s log db clog frames → told_by t ≡ told_of P k r →
      told_by t ≡ told_for P k c s log db clog frames
  unfolding told_of told_for readied ready_for
  told-done r t e q =
      q
      ∙ ap (told_call r.number) (plan-told r ∙ ap values_in e ∙ ready-told)
      ∙ ap (λ (p : Prepared). told_call p.number (told_at k (tellings P c now))) e

  -- refused: what `?` hands on
  pub refused-told : (e : Refusal) (a : Result (Option Telling) Refusal) → readied P (idle (number_of e) s) log db clog frames ≡ ready_for P c s log db clog frames →
      a ≡ Err e → told_by a ≡ told_for P k c s log db clog frames
  unfolding told_by told_of told_in idle plan_of meant steps_of tell_all
  refused-told e a is h =
      told-done (idle (number_of e) s) a is (ap told_by h ∙ ap (told_call (number_of e)) (rw (none_told k, same-either (ltb 16777216 s.lens.log))))

  -- not refused: the number is 0, whatever the value says
  module _ (r : Ready) (is : readied P (accepted r) log db clog frames ≡ ready_for P c s log db clog frames) where
    pub accepted-told : (x : Numbered (Option Telling)) → told_as x ≡ told_of P k r → told_by (Ok x.value) ≡ told_for P k c s log db clog frames
    unfolding told_as told_by told_of
    accepted-told x e = told-done (accepted r) (Ok x.value) is (ap (λ (y : ToldCall). told_call 0 y.values) e)
