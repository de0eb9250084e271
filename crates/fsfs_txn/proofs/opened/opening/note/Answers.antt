use Rattle.std.proofs.Common.{◌≡◌, ◌≤◌, ◌++◌, ◌∷◌, [], ℕ, List, sym, subst}
use Rattle.std.specs.Prelude.{Option, Result, Ok, Err, OnOk}
use Rattle.std.proofs.lemmas.List.Elements.{All-push}
use Rattle.fsfs_revision.specs.Told.{RevisionBytes}
use Rattle.fsfs_noderev.specs.declared.node_id.NodeId.{NodeId}
use Rattle.fsfs_revision.specs.Shows.Reading.{offset_of}
use Rattle.fsfs_revision.specs.declared.wrong.ReadError.{ReadError}
use Rattle.fsfs_revision.specs.Damage.Readings.{IfWrong}
use Rattle.fsfs_draft.specs.declared.error.EditError.{EditError}
use Rattle.fsfs_txn.specs.declared.opened.known.Known.{Known}
use Rattle.fsfs_txn.specs.Opened.Knowing.{IsKnownUpTo, AreKnown, IsWhole}
use Rattle.fsfs_txn.specs.Opened.Leading.{IsAmong}
use Rattle.fsfs_txn.specs.Opened.Stepping.{StillKnown, BecomesKnown}
use Rattle.fsfs_txn.proofs.Walked.{among_old, among_new}
use Rattle.fsfs_txn.proofs.opened.opening.note.Goals as goal

-- one more is known
known_more : (look : RevisionBytes) (top : ℕ) (ks now : List Known) (one : Known) (r : Result (Unit {0}) EditError) → OnOk r (now ≡ ks ++ one ∷ []) → AreKnown look top ks → IsKnownUpTo look top one → OnOk r (AreKnown look top now)
known_more look top ks now one (Ok u) is are known = subst (λ (l : List Known). AreKnown look top l) (sym is) (All-push (λ (k : Known). IsKnownUpTo look top k) ks one are known)
known_more look top ks now one (Err e) is are known = tt

still_more : (ks now : List Known) (one : Known) (r : Result (Unit {0}) EditError) → OnOk r (now ≡ ks ++ one ∷ []) → StillKnown ks now r
still_more ks now one (Ok u) is = λ id h. subst (λ (l : List Known). IsAmong id l) (sym is) (among_old ks one id h)
still_more ks now one (Err e) is = λ id h. tt

becomes_more : (look : RevisionBytes) (top : ℕ) (ks now : List Known) (one : Known) (id : NodeId) (r : Result (Unit {0}) EditError) → OnOk r (now ≡ ks ++ one ∷ []) → one.node.id ≡ id → OnOk r (IsAmong id now)
becomes_more look top ks now one id (Ok u) is same = subst (λ (l : List Known). IsAmong id l) (sym is) (among_new ks one id same)
becomes_more look top ks now one id (Err e) is same = tt

pub returns-in-Ok-clause-known : goal.returns-in-Ok-clause-known
returns-in-Ok-clause-known g c = λ look top knows are. known_more look top c.args.known.now.items c.add.new.known.items c.in-Ok.one c.add.result c.add.ensures.done are (c.in-Ok.ensures.known look top knows)

pub returns-in-Ok-clause-still : goal.returns-in-Ok-clause-still
returns-in-Ok-clause-still g c = still_more c.args.known.now.items c.add.new.known.items c.in-Ok.one c.add.result c.add.ensures.done

pub returns-in-Ok-clause-becomes : goal.returns-in-Ok-clause-becomes
returns-in-Ok-clause-becomes g c = λ look top knows. subst (λ (o : Option NodeId). BecomesKnown look top o c.add.new.known.items c.add.result) (sym c.in-Some.is)
    (λ within whole. becomes_more look top c.args.known.now.items c.add.new.known.items c.in-Ok.one c.in-Some.source c.add.result c.add.ensures.done c.in-Ok.ensures.id)

pub returns-in-Err-Wrong-clause-becomes : goal.returns-in-Err-Wrong-clause-becomes
returns-in-Err-Wrong-clause-becomes g c = λ look top knows.
    let done : Result (Unit {0}) EditError = Ok tt in
    let never : (offset_of c.in-Some.source.place).rev ≤ top → IsWhole look c.in-Some.source → OnOk done (IsAmong c.in-Some.source c.args.known.now.items) = λ within whole.
    (let not : ⊥ = subst (λ (e : ReadError). IfWrong (λ w. ⊥) e) c.in-Err-Wrong.field-0-is (c.in-Err-Wrong.ensures.whole look top knows within whole) in absurd not) in
    subst (λ (o : Option NodeId). BecomesKnown look top o c.args.known.now.items done) (sym c.in-Some.is) never
