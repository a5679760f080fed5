-- `hostpages::nyotmelang_pager_table` meets its contract: refused by 1 or 14, by 13, or all rows are handed out. Assumes nothing.
use Rattle.std.proofs.Common.{refl, arith}
use Rattle.lent.specs.Lent.{lent}
use Rattle.fields.proofs.AnswerLaws.{number-positive}
use Rattle.still.specs.Entries.{entries_counted}
use Rattle.words.specs.Words.{head_in}
use Rattle.hostpages.proofs.Laws.{counted-at, table-no, table-short, table-all}
use Rattle.hostpages.proofs.nyotmelang_pager_table.Goals as goal

pub returns-in-Err : goal.returns-in-Err
returns-in-Err c =
    let a = c.args in
    let e = counted-at (λ h. entries_counted 4096 (lent h a.rows.now a.resident.now a.touched.now) a.log.now a.db.now a.clog.now a.frames.now) c.head_in-h.result (head_in a.head.now) _ c.head_in-h.ensures c.in-Err.ensures in
    rw c.number.ensures (table-no 4096 a.out.now (lent (head_in a.head.now) a.rows.now a.resident.now a.touched.now) a.log.now a.db.now a.clog.now a.frames.now _ e (λ z. omega (arith, number-positive c.in-Err.refusal, z)))

pub returns-then-out-n : goal.returns-then-out-n
returns-then-out-n c =
    let a = c.args in
    let e = counted-at (λ h. entries_counted 4096 (lent h a.rows.now a.resident.now a.touched.now) a.log.now a.db.now a.clog.now a.frames.now) c.head_in-h.result (head_in a.head.now) _ c.head_in-h.ensures c.in-Ok.ensures in
    rw c.number-then-out-n.ensures (table-short 4096 a.out.now (lent (head_in a.head.now) a.rows.now a.resident.now a.touched.now) a.log.now a.db.now a.clog.now a.frames.now _ e refl c.if-out-n.true)

pub returns : goal.returns
returns c =
    let a = c.args in
    let e = counted-at (λ h. entries_counted 4096 (lent h a.rows.now a.resident.now a.touched.now) a.log.now a.db.now a.clog.now a.frames.now) c.head_in-h.result (head_in a.head.now) _ c.head_in-h.ensures c.in-Ok.ensures in
    table-all 4096 a.out.now (lent (head_in a.head.now) a.rows.now a.resident.now a.touched.now) a.log.now a.db.now a.clog.now a.frames.now _ e refl c.if-out-n.false _ c.hand_out.ensures
