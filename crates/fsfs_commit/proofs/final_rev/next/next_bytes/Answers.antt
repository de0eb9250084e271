use Rattle.std.proofs.Common.{◌∙◌, List, ℕ, ap, subst}
use Rattle.std.specs.Prelude.{IfErr}
use Rattle.fsfs_base.specs.declared.fields.txn_name.TxnName.{TxnName}
use Rattle.fsfs_draft.specs.Drafts.{Folder}
use Rattle.fsfs_commit.specs.FinalRev.Rooms.{IsWithinRoom}
use Rattle.fsfs_commit.specs.FinalRev.Texts.{IsHandedOver, IsFinalText, IsWrittenText, HasPathPast, IfPastLimit}
use Rattle.fsfs_commit.proofs.final_rev.next.next_bytes.Goals as goal

pub returns-clause-written : goal.returns-clause-written
returns-clause-written g c = λ look trees tree marks is.
    let base = c.args.txn.base in
    let items = c.args.items.now in
    let Says = (λ (t : TxnName) (f : Folder). (handed : IsHandedOver look trees base t f tree marks c.args.rev c.args.start items)
    → IsWrittenText (λ (text : List ℕ). IsFinalText look trees base f.proto tree marks items text × IsWithinRoom handed.draft.shows.own items text) (g.S.Sink.written c.args.sink.now) (g.S.Sink.written c.final_bytes-done.new.sink) c.final_bytes-done.result) in
    let name = c.forget.ensures.name ∙ ap (λ own. g.N.Own.txn own) c.into_own-own.ensures in
    let folder = c.forget.ensures.back ∙ ap (λ own. g.N.Own.settled own) c.into_own-own.ensures in
    subst (λ (t : TxnName). Says t (g.N.Own.settled c.args.txn.own)) name
    (subst (λ (f : Folder). Says (g.N.Own.txn c.forget.new.self) f) folder (c.final_bytes-done.ensures.written look trees base tree marks))
    (record { shows = is.shows; youngest = is.youngest; edits = is.stands.edits; draft = is.stands.shows.0; rev_is = is.rev_is; start_is = is.start_is; items_are = is.items_are })

pub returns-clause-settled : goal.returns-clause-settled
returns-clause-settled g c = c.forget.ensures.settled ∙ ap (λ own. g.N.Own.settled own) c.into_own-own.ensures

pub returns-clause-name : goal.returns-clause-name
returns-clause-name g c = c.forget.ensures.name ∙ ap (λ own. g.N.Own.txn own) c.into_own-own.ensures

pub returns-clause-limit : goal.returns-clause-limit
returns-clause-limit g c =
    let folder = c.forget.ensures.back ∙ ap (λ own. g.N.Own.settled own) c.into_own-own.ensures in
    subst (λ (f : Folder). IfErr c.final_bytes-done.result (IfPastLimit (HasPathPast f c.args.items.now))) folder c.final_bytes-done.ensures.limit
