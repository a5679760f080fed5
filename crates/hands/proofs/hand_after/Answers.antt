-- `hands::hand_after` meets its contract: a number of the tests before is the answer's; else it is a hand-out. Assumes nothing.
use Rattle.hands.proofs.HandLaws.{hand-before}
use Rattle.hands.proofs.hand_after.Goals as goal

pub returns-then-before-ne-ACCEPTED : goal.returns-then-before-ne-ACCEPTED
returns-then-before-ne-ACCEPTED c = let a = c.args in hand-before 256 a.t a.out.now a.before c.if-before-ne-ACCEPTED.true
