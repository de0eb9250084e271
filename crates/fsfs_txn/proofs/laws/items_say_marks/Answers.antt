use Rattle.fsfs_txn.proofs.Saying.{say_marks}
use Rattle.fsfs_txn.proofs.laws.items_say_marks.Goals as goal

pub returns : goal.returns
returns c = λ look trees top base txn f tree marks stands. say_marks f.items marks stands.shows.0.shows.items
