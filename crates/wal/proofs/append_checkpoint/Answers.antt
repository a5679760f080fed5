-- `wal::append_checkpoint` meets its contract: a law of proofs/WriteLaws.antt for each way out. Assumes nothing.
use Rattle.std.proofs.Common.{arith, refl, ap, ◌∙◌}
use Rattle.fields.specs.Answers.{outcome}
use Rattle.fields.proofs.AnswerLaws.{handed-on}
use Rattle.wal.specs.Records.{encode, checkpoint}
use Rattle.wal.specs.Writing.{appended}
use Rattle.wal.proofs.WriteLaws.{bytes-refused, bytes-accepted, has_room}
use Rattle.wal.proofs.append_checkpoint.Goals as goal

pub returns-in_err-check_append : goal.returns-in_err-check_append
unfolding appended encode
returns-in_err-check_append c =
    let a = c.args in
    let e = c.in_err-check_append in
    ap (λ r. outcome r a.log.now) (handed-on _ _ c.from_residual.ensures) ∙ bytes-refused _ (encode checkpoint) a.log.now a.len 1 _ refl e.ensures _ refl

pub bounds-log-len : goal.bounds-log-len
unfolding encode
bounds-log-len c =
    let a = c.args in
    omega (arith, has_room _ (encode checkpoint) a.log.now a.len 1 0 refl c.in_ok-check_append.ensures refl)

pub overflow_add-result : goal.overflow_add-result
unfolding encode
overflow_add-result c =
    let a = c.args in
    omega (arith, has_room _ (encode checkpoint) a.log.now a.len 1 0 refl c.in_ok-check_append.ensures refl)

pub returns : goal.returns
unfolding appended encode
returns c =
    let a = c.args in
    bytes-accepted _ (encode checkpoint) a.log.now a.len 1 0 refl c.in_ok-check_append.ensures _ _ refl refl refl
