-- `wal::append_page` meets its contract: a law of proofs/WriteLaws.antt for each way out. Assumes nothing.
use Rattle.std.proofs.Common.{rules, arith, refl, ap, ◌∙◌}
use Rattle.fields.specs.Answers.{outcome}
use Rattle.fields.proofs.AnswerLaws.{handed-on}
use Rattle.wal.specs.Records.{encode, image}
use Rattle.wal.specs.Writing.{appended}
use Rattle.wal.proofs.WriteLaws.{bytes-refused, bytes-accepted, has_room, page-size}
use Rattle.wal.proofs.append_page.Goals as goal

pub returns-in_err-check_append : goal.returns-in_err-check_append
unfolding appended
returns-in_err-check_append c =
    let a = c.args in
    let e = c.in_err-check_append in
    ap (λ r. outcome r a.log.now) (handed-on _ _ c.from_residual.ensures) ∙ bytes-refused _ (encode (image a.page a.bytes.now)) a.log.now a.len 4101 _ (page-size 4096 a.page a.bytes.now (search rules)) e.ensures _ refl

pub put_page-requires : goal.put_page-requires
put_page-requires c =
    let a = c.args in
    omega (arith, has_room _ (encode (image a.page a.bytes.now)) a.log.now a.len 4101 0 (page-size 4096 a.page a.bytes.now (search rules)) c.in_ok-check_append.ensures refl)

pub overflow_add-result : goal.overflow_add-result
overflow_add-result c =
    let a = c.args in
    omega (arith, has_room _ (encode (image a.page a.bytes.now)) a.log.now a.len 4101 0 (page-size 4096 a.page a.bytes.now (search rules)) c.in_ok-check_append.ensures refl)

pub returns : goal.returns
unfolding appended
returns c =
    let a = c.args in
    bytes-accepted _ (encode (image a.page a.bytes.now)) a.log.now a.len 4101 0 (page-size 4096 a.page a.bytes.now (search rules)) c.in_ok-check_append.ensures _ c.put_page.new.log refl refl c.put_page.ensures
