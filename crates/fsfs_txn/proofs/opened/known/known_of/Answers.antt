use Rattle.std.proofs.lemmas.Result.{err_from_is_err_and}
use Rattle.std.proofs.Common.{◌≤◌, Ok, Err, sym, subst, arith}
use Rattle.fsfs_revision.specs.Told.{Knows}
use Rattle.fsfs_revision.proofs.Keeping.{keeps_trans}
use Rattle.fsfs_noderev.specs.declared.node_id.NodeId.{NodeId}
use Rattle.fsfs_revision.specs.Shows.Reading.{OfId, Pairs, PropsOf, offset_of}
use Rattle.fsfs_dag.specs.Views.{home_of}
use Rattle.fsfs_dag.specs.Listing.Views.{listed}
use Rattle.fsfs_txn.specs.Opened.Knowing.{IsListOf, IsWhole}
use Rattle.fsfs_revision.specs.Told.{RevisionBytes}
use Rattle.fsfs_noderev.specs.declared.node_rev.NodeRev.{NodeRev}
use Rattle.fsfs_revision.specs.declared.wrong.Wrong.{Wrong}
use Rattle.fsfs_revision.specs.declared.wrong.ReadError.{ReadError}
use Rattle.fsfs_revision.specs.declared.wrong.ReadError.TheVariants as reads
use Rattle.fsfs_revision.specs.Damage.Readings.{Answers, IfWrong}
use Rattle.fsfs_draft.specs.Entries.{OfIdEntries}
use Rattle.fsfs_dag.specs.declared.node.PlacedNode.{PlacedNode}
use Rattle.fsfs_txn.proofs.opened.known.known_of.Goals as goal

never : (P : (w : Wrong) → Type 0) → ((w : Wrong) → P w → ⊥) → (e : ReadError) → IfWrong P e → IfWrong (λ w. ⊥) e
never P not reads.OutOfMemory h = tt
never P not reads.DiskFault h = tt
never P not (reads.Wrong w) h = not w h

node_never : (look : RevisionBytes) (id : NodeId) → IsWhole look id → (e : ReadError) → Answers (λ (found : PlacedNode). found.node) (OfId look id) (Err e) → IfWrong (λ w. ⊥) e
node_never look id whole reads.OutOfMemory h = tt
node_never look id whole reads.DiskFault h = tt
node_never look id whole (reads.Wrong w) h = whole.node w h

props_never : (look : RevisionBytes) (id : NodeId) → IsWhole look id → (v : NodeRev) → OfId look id (Ok v) → (e : ReadError) → Answers (λ (pairs : Pairs). pairs) (PropsOf look v) (Err e) → IfWrong (λ w. ⊥) e
props_never look id whole v of reads.OutOfMemory h = tt
props_never look id whole v of reads.DiskFault h = tt
props_never look id whole v of (reads.Wrong w) h = whole.props v w of h

pub returns-in_err-found-clause-whole : goal.returns-in_err-found-clause-whole
returns-in_err-found-clause-whole g c = λ look top knows within whole.
    let r = err_from_is_err_and c.from_residual.result c.from_residual.ensures.1 in
    rw (r.1, r.2) (node_never look c.args.id.now whole c.in_err-found.field-0.0 (c.in_err-found.ensures.told look (λ n h. knows n (omega (arith, h, within)))))

pub returns-in_err-props-clause-whole : goal.returns-in_err-props-clause-whole
returns-in_err-props-clause-whole g c = λ look top knows within whole.
    let v = c.in_ok-found.found.node in
    let same = c.in_ok-found.ensures.id in
    let low : Knows (g.B.Book.told c.args.book.now).revs (offset_of c.args.id.now.place).rev look = λ n h. knows n (omega (arith, h, within)) in
    let mid : Knows (g.B.Book.told c.named_node.new.book).revs (home_of v).rev look = subst (λ (id : NodeId). Knows (g.B.Book.told c.named_node.new.book).revs (offset_of id.place).rev look) (sym same) (λ n h. c.in_ok-found.ensures.kept.revs n (look n) (low n h)) in
    let r = err_from_is_err_and c.from_residual-in_err-props.result c.from_residual-in_err-props.ensures.1 in
    rw (r.1, r.2) (props_never look c.args.id.now whole v (c.in_ok-found.ensures.told look low) c.in_err-props.field-0.0 (c.in_err-props.ensures.told look mid))

pub returns-in_err-entries-clause-whole : goal.returns-in_err-entries-clause-whole
returns-in_err-entries-clause-whole g c = λ look top knows within whole.
    let low : Knows (g.B.Book.told c.args.book.now).revs (offset_of c.args.id.now.place).rev look = λ n h. knows n (omega (arith, h, within)) in
    let later : Knows (g.B.Book.told c.props.new.book).revs (offset_of c.args.id.now.place).rev look = λ n h. c.in_ok-props.ensures.kept.revs n (look n) (c.in_ok-found.ensures.kept.revs n (look n) (low n h)) in
    let r = err_from_is_err_and c.from_residual-in_err-entries.result c.from_residual-in_err-entries.ensures.1 in
    rw (r.1, r.2) (never (λ w. OfIdEntries look c.args.id.now (Err w)) whole.entries c.in_err-entries.field-0.0 (c.in_err-entries.ensures.wrong look later))

pub returns-clause-id : goal.returns-clause-id
returns-clause-id g c = c.in_ok-found.ensures.id

pub returns-clause-known : goal.returns-clause-known
returns-clause-known g c = λ look top knows within.
    let v = c.in_ok-found.found.node in
    let same = c.in_ok-found.ensures.id in
    let le : (offset_of c.args.id.now.place).rev ≤ top = subst (λ (id : NodeId). (offset_of id.place).rev ≤ top) same within in
    let low : Knows (g.B.Book.told c.args.book.now).revs (offset_of c.args.id.now.place).rev look = λ n h. knows n (omega (arith, h, le)) in
    let mid : Knows (g.B.Book.told c.named_node.new.book).revs (home_of v).rev look = λ n h. c.in_ok-found.ensures.kept.revs n (look n) (knows n (omega (arith, h, within))) in
    let later : Knows (g.B.Book.told c.props.new.book).revs (offset_of c.args.id.now.place).rev look = λ n h. c.in_ok-props.ensures.kept.revs n (look n) (c.in_ok-found.ensures.kept.revs n (look n) (low n h)) in
    record {
      node = subst (λ (id : NodeId). OfId look id (Ok v)) (sym same) (c.in_ok-found.ensures.told look low);
      entries = subst (λ (id : NodeId). IsListOf look id (listed c.in_ok-entries.entries)) (sym same) (c.in_ok-entries.ensures.told look later);
      props = c.in_ok-props.ensures.told look mid;
    }

pub returns-clause-kept : goal.returns-clause-kept
returns-clause-kept g c = keeps_trans _ _ _ (keeps_trans _ _ _ c.in_ok-found.ensures.kept c.in_ok-props.ensures.kept) c.in_ok-entries.ensures.kept

pub returns-in_err-props-clause-kept : goal.returns-in_err-props-clause-kept
returns-in_err-props-clause-kept g c = keeps_trans _ _ _ c.in_ok-found.ensures.kept c.in_err-props.ensures.kept

pub returns-in_err-entries-clause-kept : goal.returns-in_err-entries-clause-kept
returns-in_err-entries-clause-kept g c = keeps_trans _ _ _ (keeps_trans _ _ _ c.in_ok-found.ensures.kept c.in_ok-props.ensures.kept) c.in_err-entries.ensures.kept
