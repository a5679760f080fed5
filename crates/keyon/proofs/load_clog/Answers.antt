-- `keyon::load_clog` meets its contract: opened, settled, recorded. Assumes nothing.
use mathlib.Core.Path.{sym, ap, ◌∙◌}
use mathlib.Core.List.{List, map}
use lib.ListN.{take}
use Rattle.fields.specs.Files.{file_of}
use Rattle.table.specs.declared.Entry.{Entry}
use Rattle.rows.specs.Rows.{entry_of}
use Rattle.rows.proofs.Laws.{map_first}
use Rattle.clog.specs.Slots.{open_clog, record_all, settled}
use Rattle.opens.proofs.Clogs.{fit-len, is_open, loads}
use Rattle.keyon.proofs.Tables.{settled-file}
use Rattle.keyon.proofs.load_clog.Goals as goal

pub record_all-requires : goal.record_all-requires
record_all-requires c =
    let a = c.args in
    let n = c.settle.auto.clog ∙ c.open.auto.clog in
    let m = loads (file_of c.args.clog.now c.args.len) c.requires.0 c.requires.1 c.settle.new.clog _ (let g = is_open (file_of c.args.clog.now c.args.len) c.requires.0 c.requires.1 c.open.result c.open.new.clog c.open.ensures in settled-file c.open.new.clog c.settle.new.clog c.unwrap_or-end.result c.settle.ensures ∙ ap (settled 8) (rw c.unwrap_or-end.ensures g)) in
    rw n (fit-len _ _ _ _ c.requires.0 m.within, m.head, rw (map_first a.n a.logged.now) at c.requires.3)

pub returns : goal.returns
returns c =
    let a = c.args in
    let f = settled 8 (open_clog (file_of c.args.clog.now c.args.len)) in
    c.record_all.ensures ∙ ap (record_all 8 0 (take a.n (map entry_of a.logged.now))) (let g = is_open (file_of c.args.clog.now c.args.len) c.requires.0 c.requires.1 c.open.result c.open.new.clog c.open.ensures in settled-file c.open.new.clog c.settle.new.clog c.unwrap_or-end.result c.settle.ensures ∙ ap (settled 8) (rw c.unwrap_or-end.ensures g)) ∙ ap (λ (x : List Entry). record_all 8 0 x f) (sym (map_first a.n a.logged.now))
