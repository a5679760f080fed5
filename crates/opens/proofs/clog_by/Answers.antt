-- `opens::clog_by` meets its contract, arm by arm. Assumes nothing.
use mathlib.Core.Path.{◌∙◌}
use Rattle.fields.specs.Files.{file_of}
use Rattle.opens.proofs.Clogs.{is-reset}
use Rattle.opens.proofs.clog_by.Goals as goal

pub returns-in-Some : goal.returns-in-Some
returns-in-Some c = c.load_clog.ensures ∙ rw c.in-Some.is

pub returns-in-None : goal.returns-in-None
returns-in-None c =
    let a = c.args in
    rw (c.unwrap_or.ensures, c.in-None.is)
    (is-reset (file_of a.clog.now a.len) c.requires.0 c.requires.1 c.reset.result c.reset.new.clog c.reset.ensures)
