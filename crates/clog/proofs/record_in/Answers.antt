-- `clog::record_in` meets its contract: the status goes in as its code. Assumes nothing.
use mathlib.Core.Path.{ap, ◌∙◌}
use Prim.Native.Nat.{ℕ}
use Rattle.fields.specs.Files.{file_of}
use Rattle.clog.specs.Calls.{recorded}
use Rattle.clog.proofs.record_in.Goals as goal

pub returns : goal.returns
returns c =
    let a = c.args in
    c.put_in.ensures ∙ ap (λ (x : ℕ). recorded a.h a.base (file_of a.clog.now a.len) a.id.0 x) c.code_of-code.ensures.0
