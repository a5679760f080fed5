-- `wal::append_commit` meets its contract: a law of proofs/WriteLaws.antt for each way out. Assumes nothing.
use Rattle.std.proofs.Common.{arith, refl, ap, ◌∙◌}
use Rattle.fields.specs.Answers.{outcome}
use Rattle.fields.proofs.AnswerLaws.{handed-on}
use Rattle.wal.specs.Records.{encode, commit}
use Rattle.wal.specs.Writing.{appended}
use Rattle.wal.proofs.WriteLaws.{bytes-refused, bytes-accepted, has_room, commit-size, commit-laid}
use Rattle.wal.proofs.append_commit.Goals as goal

pub returns-in_err-check_append : goal.returns-in_err-check_append
unfolding appended
returns-in_err-check_append c =
    let a = c.args in
    let e = c.in_err-check_append in
    ap (λ r. outcome r a.log.now) (handed-on _ _ c.from_residual.ensures) ∙ bytes-refused _ (encode (commit a.id.0 a.time.0)) a.log.now a.len 17 _ (commit-size a.id.0 a.time.0) e.ensures _ refl

pub put_id-requires : goal.put_id-requires
put_id-requires c =
    let a = c.args in
    omega (arith, has_room _ (encode (commit a.id.0 a.time.0)) a.log.now a.len 17 0 (commit-size a.id.0 a.time.0) c.in_ok-check_append.ensures refl)

pub overflow_add-len : goal.overflow_add-len
overflow_add-len c =
    let a = c.args in
    omega (arith, has_room _ (encode (commit a.id.0 a.time.0)) a.log.now a.len 17 0 (commit-size a.id.0 a.time.0) c.in_ok-check_append.ensures refl)

pub overflow_add-result : goal.overflow_add-result
overflow_add-result c =
    let a = c.args in
    omega (arith, has_room _ (encode (commit a.id.0 a.time.0)) a.log.now a.len 17 0 (commit-size a.id.0 a.time.0) c.in_ok-check_append.ensures refl)

pub returns : goal.returns
unfolding appended
returns c =
    let a = c.args in
    bytes-accepted _ (encode (commit a.id.0 a.time.0)) a.log.now a.len 17 0 (commit-size a.id.0 a.time.0) c.in_ok-check_append.ensures _ c.put_u64.new.b refl refl (commit-laid a.len a.id.0 a.time.0 a.log.now c.put_id.new.log c.put_u64.new.b c.put_id.ensures c.put_u64.ensures)
