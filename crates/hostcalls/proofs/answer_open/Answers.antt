-- `hostcalls::answer_open` meets its contract: the head after the opening is written, or every word stays. Assumes nothing.
use mathlib.Core.Path.{sym}
use Rattle.words.proofs.Laws.{words_back}
use Rattle.hostcalls.proofs.answer_open.Goals as goal

pub returns-in-Err-Refused-clause-words : goal.returns-in-Err-Refused-clause-words
returns-in-Err-Refused-clause-words c = rw c.in-Err-Refused.is (sym (words_back c.args.head.now c.told-head))

pub returns-in-Err-Torn-clause-words : goal.returns-in-Err-Torn-clause-words
returns-in-Err-Torn-clause-words c = rw c.in-Err-Torn.is (sym (words_back c.args.head.now c.told-head))

pub returns-in-Err-Unknown-clause-words : goal.returns-in-Err-Unknown-clause-words
returns-in-Err-Unknown-clause-words c = rw c.in-Err-Unknown.is (sym (words_back c.args.head.now c.told-head))
