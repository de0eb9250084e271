-- The representation of a text that stands in a prototype revision file.
use Rattle.std.specs.Prelude.{◌≡◌, ℕ, List, length, Some, None}
use Rattle.md5.specs.Md5.{md5}
use Rattle.sha1.specs.Sha1.{sha1}
use Rattle.fsfs_base.specs.declared.fields.txn_name.TxnName.{TxnName}
use Rattle.fsfs_base.specs.declared.grammar.base36.B36.{B36}
use Rattle.fsfs_noderev.specs.declared.rep.Rep.{Rep}
use Rattle.fsfs_noderev.specs.declared.rep.Uniquifier.{Uniquifier}

-- the representation is of the transaction, begins at this offset of its prototype file, and tells this text
pub record IsRepOf (rep : Rep) (offset : ℕ) (text : List ℕ) (txn : TxnName) (number : B36) : Type 0 where
  pub rev : rep.rev ≡ None
  pub offset_is : rep.offset ≡ offset
  pub length_is : rep.length ≡ length text
  pub size : rep.size ≡ length text
  pub md5_is : rep.md5.bytes ≡ md5 text
  pub unique : Uniquifier
  pub unique_is : rep.unique ≡ Some unique
  pub sha1_is : unique.sha1.bytes ≡ sha1 text
  pub txn_is : unique.txn ≡ txn
  pub number_is : unique.number ≡ number
