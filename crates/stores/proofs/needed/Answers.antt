-- `stores::needed` meets its contract. The invariant: what is counted and what the rest needs make up the whole; the sum stays small. Assumes nothing.
use Rattle.stores.proofs.RoomLaws.{cost-most, log-turn, db-turn, clog-turn, needs-none}
use Rattle.stores.proofs.PlanLaws.{most-steps}
use Rattle.stores.specs.Plans.{steps_of, meant}
use Rattle.stores.specs.declared.Needs.{Needs}
use Rattle.world.specs.Steps.{log_bytes, db_end, clog_end, sum_of, most_of}
use lib.ListN.{length, drop}
use lib.Dec.{lit≤}
use native.Mathlib.Omega.{arith}
use Prim.Native.Nat.{◌+◌, ◌*◌, ◌≤◌, ◌<◌}
use mathlib.Core.List.{[]}
use mathlib.Core.Path.{◌≡◌, ap, ◌∙◌}
use Rattle.stores.proofs.needed.Goals as goal

pub loop-i-init : goal.loop-i-init
loop-i-init c = (omega arith, omega arith, omega arith, omega arith)

pub overflow_add-log : goal.overflow_add-log
overflow_add-log c =
    let more : c.loop-i.log + c.cost-w.result.log ≤ (c.loop-i.i + 1) * 4113 = omega (arith, ap (λ (n : Needs). n.log) c.cost-w.ensures, cost-most 4096 c.step_at-s.result, c.loop-i.invariant.0) in
    let below : c.loop-i.i < length (steps_of c.args.plan) = omega arith in
    record { fits = omega (arith, more, most-steps c.args.plan, below) }

pub loop-i-preserved : goal.loop-i-preserved
loop-i-preserved c =
    let l = c.loop-i in
    let p = c.args.plan in
    let b : c.loop-i.i < length (steps_of c.args.plan) = omega arith in
    let s = c.step_at-s in (
      (omega (arith, ap (λ (n : Needs). n.log) c.cost-w.ensures, cost-most 4096 c.step_at-s.result, c.loop-i.invariant.0)),
      log-turn 4096 (lit≤ tt) p l.i s.result c.cost-w.result b s.ensures c.cost-w.ensures l.log ∙ l.invariant.1,
      db-turn 4096 (lit≤ tt) p l.i s.result c.cost-w.result b s.ensures c.cost-w.ensures l.db c.max-db.result c.max-db.ensures ∙ l.invariant.2,
      clog-turn 4096 (lit≤ tt) p l.i s.result c.cost-w.result b s.ensures c.cost-w.ensures l.clog c.max-clog.result c.max-clog.ensures ∙ l.invariant.3,
    )

pub returns : goal.returns
returns c =
    let l = c.loop-i in
    let p = c.args.plan in
    let z = needs-none 4096 p l.i (omega arith) in
    let f = c.args.from in
    let u : l.log ≡ sum_of log_bytes (drop f (meant 4096 [] p)) = omega (arith, l.invariant.1, ap (λ (n : Needs). n.log) z) in
    let v : l.db ≡ most_of (db_end 4096) (drop f (meant 4096 [] p)) = omega (arith, l.invariant.2, ap (λ (n : Needs). n.db) z) in
    let w : l.clog ≡ most_of clog_end (drop f (meant 4096 [] p)) = omega (arith, l.invariant.3, ap (λ (n : Needs). n.clog) z) in
    λ j. record { log = u j; db = v j; clog = w j }
