-- `wal::body_len` meets its contract: each arm of the match is a case of `body_of`. Assumes nothing.
use mathlib.Core.Path.{sym}
use Rattle.wal.specs.Records.{body_of}
use Rattle.wal.proofs.ReadLaws.{body-other}
use Rattle.wal.proofs.body_len.Goals as goal

pub returns-in-1 : goal.returns-in-1
unfolding body_of
returns-in-1 c = rw c.in-1.is

pub returns-in-3 : goal.returns-in-3
unfolding body_of
returns-in-3 c = rw c.in-3.is

pub returns-in-5 : goal.returns-in-5
unfolding body_of
returns-in-5 c = rw c.in-5.is

pub returns-in_default : goal.returns-in_default
returns-in_default c =
    let r = c.in_default.in_default-own.rest in
    sym (body-other 4096 _ r.0.0.1 r.0.1 r.1)
