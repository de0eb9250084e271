use Rattle.std.proofs.Common.{ℕ, List, subst}
use Rattle.std.proofs.lemmas.Result.{err_from_is_err_and}
use Rattle.std.specs.declared.vec.Vec.{Vec}
use Rattle.std.specs.declared.alloc.Global.{Global}
use Rattle.fsfs_revision.specs.Damage.Readings.{Answers}
use Rattle.fsfs_look.specs.Revprops.Files.{Pairs, RevPropsIn}
use Rattle.fsfs_look.proofs.RevpropsFileLemmas.{unread, props_read}
use Rattle.fsfs_look.proofs.revprops.reading.rev_props.Goals as goal

abbrev items : Vec ℕ Global → List ℕ
items v = v.items

abbrev same : Pairs → Pairs
same pairs = pairs

pub returns-in_err-bytes-clause-read : goal.returns-in_err-bytes-clause-read
returns-in_err-bytes-clause-read g c =
    let p = err_from_is_err_and c.from_residual.result c.from_residual.ensures.1 in
    rw (p.1, p.2) (unread (g.B.RevProps.may_read c.args.book.now) c.args.rev items same c.in_err-bytes.field-0.0 c.in_err-bytes.ensures.read)

pub returns-clause-read : goal.returns-clause-read
returns-clause-read g c =
    props_read (g.B.RevProps.may_read c.args.book.now) c.args.rev c.in_ok-bytes.bytes.items same c.pairs_in.result c.in_ok-bytes.ensures.read
    (subst (λ (bytes : List ℕ). Answers same (RevPropsIn c.args.rev bytes) c.pairs_in.result) c.deref.ensures.value c.pairs_in.ensures.told)
