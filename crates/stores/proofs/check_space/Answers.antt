-- `stores::check_space` meets its contract: test by test. Assumes nothing.
use Rattle.stores.specs.Inside.{short_no}
use borrow.Author.Tests.{le-ltb, lt-ltb}
use native.Mathlib.Omega.{arith}
use Prim.Native.Nat.{◌+◌}
use Rattle.stores.proofs.check_space.Goals as goal

pub returns-then-log-len : goal.returns-then-log-len
unfolding short_no
returns-then-log-len c = let a = c.args in simp (lt-ltb a.log (a.len + a.w.log) (omega arith))

pub returns-then-db-w : goal.returns-then-db-w
unfolding short_no
returns-then-db-w c = let a = c.args in simp (le-ltb a.log (a.len + a.w.log) (omega arith), lt-ltb a.db a.w.db (omega arith))

pub returns-then-clog-w : goal.returns-then-clog-w
unfolding short_no
returns-then-clog-w c = let a = c.args in simp (le-ltb a.log (a.len + a.w.log) (omega arith), le-ltb a.db a.w.db (omega arith), lt-ltb a.clog a.w.clog (omega arith))

pub returns : goal.returns
unfolding short_no
returns c = let a = c.args in simp (le-ltb a.log (a.len + a.w.log) (omega arith), le-ltb a.db a.w.db (omega arith), le-ltb a.clog a.w.clog (omega arith))
