-- `words::answer` meets its contract: the words of the head after the call, or the words that stand there. Assumes nothing.
use Rattle.std.proofs.Common.{rules, sym}
use Rattle.words.proofs.Laws.{words_back}
use Rattle.words.proofs.answer.Goals as goal

pub returns-in-Ok : goal.returns-in-Ok
returns-in-Ok c = rw c.in-Ok.is (record { number = search rules; words = c.put_head.ensures })

pub returns-in-Err : goal.returns-in-Err
returns-in-Err c = rw c.in-Err.is (record { number = c.number.ensures; words = sym (words_back c.args.head.now (search rules)) })
