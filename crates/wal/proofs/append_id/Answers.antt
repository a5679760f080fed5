-- `wal::append_id` meets its contract: a law of proofs/WriteLaws.antt for each way out. Assumes nothing.
use Rattle.std.proofs.Common.{◌∷◌, arith, refl, ap, ◌∙◌}
use Rattle.fields.specs.Answers.{outcome}
use Rattle.fields.proofs.AnswerLaws.{handed-on}
use Rattle.fields.specs.Bytes.{bytes_of}
use Rattle.wal.proofs.WriteLaws.{bytes-refused, bytes-accepted, has_room, id-size}
use Rattle.wal.proofs.append_id.Goals as goal

pub returns-in_err-check_append : goal.returns-in_err-check_append
returns-in_err-check_append c =
    let a = c.args in
    let e = c.in_err-check_append in
    ap (λ r. outcome r a.log.now) (handed-on _ _ c.from_residual.ensures) ∙ bytes-refused _ (a.tag ∷ bytes_of 8 a.id.0) a.log.now a.len 9 _ (id-size a.tag a.id.0) e.ensures _ refl

pub put_id-requires : goal.put_id-requires
put_id-requires c =
    let a = c.args in
    omega (arith, has_room _ (a.tag ∷ bytes_of 8 a.id.0) a.log.now a.len 9 0 (id-size a.tag a.id.0) c.in_ok-check_append.ensures refl)

pub overflow_add-result : goal.overflow_add-result
overflow_add-result c =
    let a = c.args in
    omega (arith, has_room _ (a.tag ∷ bytes_of 8 a.id.0) a.log.now a.len 9 0 (id-size a.tag a.id.0) c.in_ok-check_append.ensures refl)

pub returns : goal.returns
returns c =
    let a = c.args in
    bytes-accepted _ (a.tag ∷ bytes_of 8 a.id.0) a.log.now a.len 9 0 (id-size a.tag a.id.0) c.in_ok-check_append.ensures _ c.put_id.new.log refl refl c.put_id.ensures
