use Rattle.std.proofs.Common.{◌≡◌, ◌+◌, ◌≤◌, ◌++◌, length}
use Rattle.std.specs.Prelude.{vec_len}
use Rattle.std.specs.Vec.{vec_capacity}
use Rattle.std.specs.Vec.Iter.{into_iter_items, into_iter_len}
use Rattle.fsfs_workers.specs.InTurn.{in_turn, AreDealt}
use Rattle.fsfs_workers.proofs.answers.in_order.Given as goal

-- what is put so far, and then what is left of both in turn
abbrev pub invariant-loop-answer : goal.invariant-loop-answer
invariant-loop-answer l = record {
  turn : l.answers.items ++ in_turn (into_iter_items l.answer-iterator) (into_iter_items l.others) ≡ in_turn l.fn.firsts.items l.fn.seconds.items;
  ones : into_iter_len l.answer-iterator ≡ length (into_iter_items l.answer-iterator);
  others : into_iter_len l.others ≡ length (into_iter_items l.others);
  dealt : AreDealt (length (into_iter_items l.answer-iterator)) (length (into_iter_items l.others));
  room : vec_len l.answers + length (into_iter_items l.answer-iterator) + length (into_iter_items l.others) ≤ vec_capacity l.answers;
}
