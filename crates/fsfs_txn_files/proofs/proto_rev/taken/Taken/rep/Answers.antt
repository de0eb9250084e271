use Rattle.std.proofs.Common.{refl}
use Rattle.fsfs_txn_files.proofs.proto_rev.taken.Taken.rep.Goals as goal

pub returns : goal.returns
returns c = λ text h. record {
  rev = refl;
  offset_is = refl;
  length_is = h.length_is;
  size = h.length_is;
  md5_is = c.finish.ensures.md5 text h.seen;
  unique = record { sha1 = c.finish.result.1; txn = c.args.txn.now; number = c.args.number.now };
  unique_is = refl;
  sha1_is = c.finish.ensures.sha1 text h.seen;
  txn_is = refl;
  number_is = refl;
}
