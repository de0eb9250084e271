use Rattle.fsfs_final.proofs.PutTexts.{own_put, none_put}
use Rattle.fsfs_final.proofs.pieces.lists.put_own_list.Goals as goal

pub returns-in_ok-rep-in-Some : goal.returns-in_ok-rep-in-Some
returns-in_ok-rep-in-Some c = λ list are. own_put _ _ _ _ _ list c.args.text.now c.in-Some.text c.deref.result.now c.in-Some.is c.deref.ensures.value are c.in_ok-rep-in-Some.ensures

pub returns-in_ok-rep-in-None : goal.returns-in_ok-rep-in-None
returns-in_ok-rep-in-None c = λ list are. none_put _ _ _ _ _ list c.args.text.now c.in-None.is are c.in_ok-rep-in-None.ensures
