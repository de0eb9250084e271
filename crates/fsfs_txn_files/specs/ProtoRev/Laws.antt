-- Texts in a prototype revision file are read by their representations, and stay so.
use Rattle.std.specs.Prelude.{ℕ, List, ◌++◌, length, Ok}
use Rattle.fsfs_base.specs.declared.fields.txn_name.TxnName.{TxnName}
use Rattle.fsfs_base.specs.declared.grammar.base36.B36.{B36}
use Rattle.fsfs_noderev.specs.declared.rep.Rep.{Rep}
use Rattle.fsfs_revision.specs.Rep.Frames.{RepIn, framed_text}
use Rattle.fsfs_txn_files.specs.ProtoRev.Reps.{IsRepOf}

-- a text that was put at the end of the file
abbrev pub TextsAreRead : Type 0
TextsAreRead = (rep : Rep) (proto text : List ℕ) (txn : TxnName) (number : B36) → IsRepOf rep (length proto) text txn number → RepIn rep (proto ++ framed_text text) (Ok text)

-- whatever is put behind it, a refused text too
abbrev pub TextsStay : Type 0
TextsStay = (rep : Rep) (bytes more text : List ℕ) → RepIn rep bytes (Ok text) → RepIn rep (bytes ++ more) (Ok text)
