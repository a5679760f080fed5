-- `opens::open` meets its contract: one law for each way out, and what the calls promise as its premises. Assumes nothing.
use mathlib.Core.Path.{sym, ap, ◌∙◌}
use Rattle.fields.specs.Answers.{length_of}
use Rattle.fields.specs.Files.{file_of}
use Rattle.opening.specs.Opening.{opened_in, opened_as}
use Rattle.scan.specs.Surveys.{Surveyed, surveyed}
use Rattle.opens.specs.Stops.{Stopped}
use Rattle.std.specs.Prelude.{Err}
use Rattle.opens.proofs.Ways.{told-by, tables-by, out-stopped, logged-is, full_is, ready, is_cut, db-small, out-accepted}
use Rattle.opens.proofs.open.Goals as goal

pub returns-in-Some : goal.returns-in-Some
unfolding surveyed
returns-in-Some c =
    let a = c.args in
    let n = told-by _ c.in-Some.r _ (sym c.refusal_in.ensures ∙ c.in-Some.is) c.survey-found.ensures in
    ap (λ (s : Stopped). opened_as (opened_in (Err s.why)) a.log.now s.db a.clog.now a.frames.now) c.stop.ensures
    ∙ out-stopped 4096 a.lens a.log.now a.db.now a.clog.now a.frames.now _ n

pub clog_by-c-requires : goal.clog_by-c-requires
unfolding surveyed
clog_by-c-requires c =
    let a = c.args in
    let s = tables-by _ _ c.unwrap_or-tables.result _ _ c.refusal_in.ensures c.in_default.not-Some c.unwrap_or-tables.ensures c.survey-found.ensures in
    let z = sym (ap (λ (x : Surveyed). x.number) s) in
    ready 4096 a.lens a.log.now a.db.now a.clog.now a.frames.now z _ (logged-is 4096 a.lens a.log.now a.db.now a.clog.now a.frames.now z _ s)

pub store_by-requires : goal.store_by-requires
unfolding surveyed
store_by-requires c =
    let a = c.args in
    let z = sym (ap (λ (x : Surveyed). x.number) (tables-by _ _ c.unwrap_or-tables.result _ _ c.refusal_in.ensures c.in_default.not-Some c.unwrap_or-tables.ensures c.survey-found.ensures)) in
    db-small 4096 a.lens a.log.now a.db.now a.clog.now a.frames.now z (file_of c.lay_images-n.new.db c.lay_images-n.result) c.lay_images-n.ensures

pub returns : goal.returns
unfolding surveyed
returns c =
    let a = c.args in
    let s = tables-by _ _ c.unwrap_or-tables.result _ _ c.refusal_in.ensures c.in_default.not-Some c.unwrap_or-tables.ensures c.survey-found.ensures in
    let z = sym (ap (λ (x : Surveyed). x.number) s) in
    let l = logged-is 4096 a.lens a.log.now a.db.now a.clog.now a.frames.now z _ s in
    let f = full_is 4096 a.lens a.log.now a.db.now a.clog.now a.frames.now z _ s in
    let u = c.truncate in
    let x = is_cut 4096 a.lens a.log.now a.db.now a.clog.now a.frames.now z u.result u.new.log u.ensures in
    out-accepted 4096 a.lens a.log.now a.db.now a.clog.now a.frames.now z (file_of c.lay_images-n.new.db c.lay_images-n.result) c.lay_images-n.ensures
    c.read_meta.result c.read_meta.ensures c.unwrap_or-stored.result c.unwrap_or-stored.ensures c.unwrap_or-tables.result.logged c.unwrap_or-tables.result.full l f (file_of c.clog_by-c.new.clog c.clog_by-c.result)
    (file_of u.new.log (length_of u.result)) c.clog_by-c.ensures x c.store_by.result
    (c.store_by.ensures ∙ rw c.unwrap_or-l.ensures)
