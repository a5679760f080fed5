-- `acts::lay_meta` meets its contract: nothing is asked, the slot lies past the buffer, or the page stands in it. Assumes nothing.
use mathlib.Core.Path.{◌≡◌, sym}
use mathlib.Core.Bool.{true, false}
use Prim.Native.Nat.{◌*◌}
use native.Mathlib.Omega.{arith}
use Rattle.fields.proofs.Stored.{sets-out}
use borrow.Author.Rules.{rules}
use Rattle.ready.specs.Ready.{meta_of}
use Rattle.acts.proofs.lay_meta.Goals as goal

pub returns-then-not-meta : goal.returns-then-not-meta
returns-then-not-meta c = let e : c.args.meta ≡ false = search rules in rw e

pub returns-then-frames-slot : goal.returns-then-frames-slot
returns-then-frames-slot c =
    let a = c.args in
    let e : a.meta ≡ true = search rules in
    rw e (sym (sets-out (meta_of 4096 a.m) a.frames.now (a.slot * 4096) (omega arith)))

pub returns : goal.returns
returns c = let e : c.args.meta ≡ true = search rules in rw e c.put_meta.ensures
