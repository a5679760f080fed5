-- `acts::change_arrays` meets its contract: rows, resident pages, touched pages. Assumes nothing.
use mathlib.Core.Path.{sym, ◌∙◌}
use Rattle.std.specs.Result.{result_unwrap_or}
use Rattle.fields.specs.Refusals.{number_in}
use Rattle.seats.proofs.Answers.{seated-parts, marked-parts}
use Rattle.acts.specs.Made.{counted_head}
use Rattle.acts.proofs.Records.{set-parts, arrays-out}
use Rattle.acts.proofs.change_arrays.Goals as goal

pub returns : goal.returns
unfolding counted_head
returns c =
    let a = c.args in
    let t = c.change_rows-t in
    let f = c.change_resident-f in
    let x = c.change_touched-x in
    rw (c.unwrap_or.ensures, c.unwrap_or-2.ensures, c.unwrap_or-3.ensures)
    (arrays-out 4096 a.size a.m a.rows.now t.new.rows a.resident.now a.touched.now f.new.resident x.new.touched
    (number_in t.result) (result_unwrap_or t.result a.m.head.entries) (number_in f.result) (result_unwrap_or f.result a.m.head.resident) (number_in x.result) (result_unwrap_or x.result a.m.head.touched) (set-parts _ t.result t.new.rows _ t.ensures)
    (sym (seated-parts a.m.head.resident f.result f.new.resident) ∙ f.ensures) (sym (marked-parts a.m.head.touched x.result x.new.touched) ∙ x.ensures))
