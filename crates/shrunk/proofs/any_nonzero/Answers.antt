-- `shrunk::any_nonzero` meets its contract: it is true exactly where a byte is not 0. Assumes nothing.
use Rattle.std.proofs.Common.{◌≡◌, ℕ, ◌<◌, Bool, true, false, not, eqb, List, length, Decides, MatchBool, refl, arith, rules, tests}
use Rattle.std.specs.List.{HoldsAt, AllWithin}
use Rattle.std.proofs.lemmas.Iterator.{cases_from_any, YieldsList-from_slice}
use Rattle.std.proofs.lemmas.Bool.{false≢true}
use Rattle.std.proofs.lemmas.Bool.Decides.{same_from_decides, Decides-by_or}
use Rattle.shrunk.specs.Form.{any_nonzero}
use Rattle.shrunk.proofs.any_nonzero.Goals as goal

abbrev HasNonzero : List ℕ → Type 0
HasNonzero xs = (k : ℕ) × (k < length xs) × HoldsAt (λ x. x ≡ 0 → ⊥) xs k

Decides-from_cases : (r : Bool) (xs : List ℕ) → MatchBool r (HasNonzero xs) (AllWithin (λ x. x ≡ 0) xs 0 (length xs)) → Decides r (HasNonzero xs)
Decides-from_cases true xs h = (λ _. h, λ _. refl)
Decides-from_cases false xs h = (λ e. absurd (false≢true e), λ w. absurd (w.2 0 (h w.0 0 (omega arith) w.1)))

pub returns : goal.returns
unfolding any_nonzero
returns c =
    let xs = c.args.s.now in
    let by_call = cases_from_any _ _ _ (λ x. x ≡ 0 → ⊥) (λ x. x ≡ 0) c.any.ensures.ran (YieldsList-from_slice xs cc) (λ x q k. search (rules, tests)) (λ x q k. search (rules, tests)) in
    let by_spec = Decides-by_or (λ x. not (eqb x 0)) (λ x. x ≡ 0 → ⊥) any_nonzero (λ x. search (rules, tests)) refl (λ _ _. refl) xs in
    same_from_decides _ (any_nonzero xs) (Decides-from_cases _ xs by_call) by_spec
