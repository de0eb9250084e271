use Rattle.std.proofs.Common.{refl, sym, subst, arith}
use Rattle.fsfs_layout.specs.Small.{IsUuid, IsRevLine, IsBase36Line}
use Rattle.std.proofs.lemmas.Result.{err_from_is_err_and}
use Rattle.fsfs_create.specs.OpenFaults.{texts_of}
use Rattle.fsfs_create.proofs.OpeningLemmas.{refused_uuid, refused_current, refused_floor, refused_past, refused_txn}
use Rattle.fsfs_create.proofs.opening.judge_sharded.Goals as goal

pub returns-in_err-min_unpacked_rev-clause-refused : goal.returns-in_err-min_unpacked_rev-clause-refused
returns-in_err-min_unpacked_rev-clause-refused c =
    let p = err_from_is_err_and c.from_residual-in_err-min_unpacked_rev.result c.from_residual-in_err-min_unpacked_rev.ensures.1 in
    rw (p.1, p.2) (refused_floor c.args.layout (texts_of c.args.files.now) c.deref.result.now c.deref-2.result.now c.deref-3.result.now c.in_ok-uuid.uuid c.in_ok-youngest.youngest _
    c.deref.ensures.value c.in_ok-uuid.ensures.found c.deref-2.ensures.value c.in_ok-youngest.ensures.found c.deref-3.ensures.value c.in_err-min_unpacked_rev.ensures.fault)

pub returns-then-get-clause-refused : goal.returns-then-get-clause-refused
returns-then-get-clause-refused c =
    refused_past c.args.layout (texts_of c.args.files.now) c.deref.result.now c.deref-2.result.now c.deref-3.result.now c.in_ok-uuid.uuid c.in_ok-youngest.youngest c.in_ok-min_unpacked_rev.min_unpacked_rev _
    c.deref.ensures.value c.in_ok-uuid.ensures.found c.deref-2.ensures.value c.in_ok-youngest.ensures.found c.deref-3.ensures.value c.in_ok-min_unpacked_rev.ensures.found (omega arith) refl refl

pub returns-in_err-next_txn-clause-refused : goal.returns-in_err-next_txn-clause-refused
returns-in_err-next_txn-clause-refused c =
    let p = err_from_is_err_and c.from_residual-in_err-next_txn.result c.from_residual-in_err-next_txn.ensures.1 in
    rw (p.1, p.2) (refused_txn c.args.layout (texts_of c.args.files.now) c.deref.result.now c.deref-2.result.now c.deref-3.result.now c.deref-4.result.now c.in_ok-uuid.uuid c.in_ok-youngest.youngest c.in_ok-min_unpacked_rev.min_unpacked_rev _
    c.deref.ensures.value c.in_ok-uuid.ensures.found c.deref-2.ensures.value c.in_ok-youngest.ensures.found c.deref-3.ensures.value c.in_ok-min_unpacked_rev.ensures.found (omega arith) c.deref-4.ensures.value (λ x w. c.in_err-next_txn.ensures.only x w, c.in_err-next_txn.ensures.fault))

pub returns-in_err-uuid-clause-only : goal.returns-in_err-uuid-clause-only
returns-in_err-uuid-clause-only c = λ o e w. absurd (let h = c.in_err-uuid.ensures.only o.uuid (subst (λ t. IsUuid t o.uuid) (sym c.deref.ensures.value) w.uuid) in cc)

pub returns-in_err-youngest-clause-only : goal.returns-in_err-youngest-clause-only
returns-in_err-youngest-clause-only c = λ o e w. absurd (let h = c.in_err-youngest.ensures.only o.youngest (subst (λ t. IsRevLine t o.youngest) (sym c.deref-2.ensures.value) w.youngest) in cc)

pub returns-in_err-next_txn-clause-only : goal.returns-in_err-next_txn-clause-only
returns-in_err-next_txn-clause-only c = λ o e w. absurd (c.in_err-next_txn.ensures.only o.next_txn.number (subst (λ t. IsBase36Line t o.next_txn.number) (sym c.deref-4.ensures.value) w.next_txn))

pub returns-in_err-uuid-clause-refused : goal.returns-in_err-uuid-clause-refused
returns-in_err-uuid-clause-refused c =
    let p = err_from_is_err_and c.from_residual.result c.from_residual.ensures.1 in
    rw (p.1, p.2) (refused_uuid c.args.layout (texts_of c.args.files.now) c.deref.result.now _ c.deref.ensures.value (λ x w. (let h = c.in_err-uuid.ensures.only x w in cc), c.in_err-uuid.ensures.fault))

pub returns-in_err-youngest-clause-refused : goal.returns-in_err-youngest-clause-refused
returns-in_err-youngest-clause-refused c =
    let p = err_from_is_err_and c.from_residual-in_err-youngest.result c.from_residual-in_err-youngest.ensures.1 in
    rw (p.1, p.2) (refused_current c.args.layout (texts_of c.args.files.now) c.deref.result.now c.deref-2.result.now c.in_ok-uuid.uuid _
    c.deref.ensures.value c.in_ok-uuid.ensures.found c.deref-2.ensures.value (λ x w. (let h = c.in_err-youngest.ensures.only x w in cc), c.in_err-youngest.ensures.fault))
