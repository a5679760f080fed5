-- `sweeps::note_byte` meets its contract: slot by slot. Assumes nothing.
use Rattle.rows.specs.Rows.{rowed}
use Rattle.sweeps.proofs.Laws.{byte-set}
use Rattle.sweeps.proofs.note_byte.Goals as goal

pub returns : goal.returns
returns c =
    let s3 = c.note_slot in
    let s2 = c.note_slot-h2 in
    let s1 = c.note_slot-h1 in
    let s0 = c.note_slot-h0 in
    let a = c.args in
    byte-set a.b a.id (rowed a.h a.rows.now) _ _ _ _ s0.ensures s1.ensures s2.ensures s3.ensures
