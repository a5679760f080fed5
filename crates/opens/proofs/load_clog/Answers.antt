-- `opens::load_clog` meets its contract: opened, loaded, recorded. Assumes nothing.
use mathlib.Core.Path.{◌∙◌}
use Rattle.fields.specs.Files.{file_of}
use Rattle.opens.proofs.Clogs.{fit-len, is_open, is-loaded, loads}
use Rattle.opens.proofs.load_clog.Goals as goal

pub record_all-requires : goal.record_all-requires
record_all-requires c =
    let f = file_of c.args.clog.now c.args.len in
    let g = is_open f c.requires.0 c.requires.1 c.open.result c.open.new.clog c.open.ensures in
    let s = is-loaded f c.requires.0 c.requires.1 c.requires.2 c.unwrap_or-end.result c.load.result c.load.new.clog (c.load.ensures ∙ rw (c.unwrap_or-end.ensures, g)) in
    let m = loads f c.requires.0 c.requires.1 c.load.new.clog _ s in
    let n = c.load.auto.clog ∙ c.open.auto.clog in
    rw n (fit-len _ _ _ _ c.requires.0 m.within, m.head, c.requires.3)

pub returns : goal.returns
returns c =
    let f = file_of c.args.clog.now c.args.len in
    let g = is_open f c.requires.0 c.requires.1 c.open.result c.open.new.clog c.open.ensures in
    let s = is-loaded f c.requires.0 c.requires.1 c.requires.2 c.unwrap_or-end.result c.load.result c.load.new.clog (c.load.ensures ∙ rw (c.unwrap_or-end.ensures, g)) in
    c.record_all.ensures ∙ rw s
