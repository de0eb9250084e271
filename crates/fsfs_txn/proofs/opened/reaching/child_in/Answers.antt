use Rattle.std.proofs.Common.{◌≡◌, ◌≤◌, true, false, [], List, Some, Ok, refl, sym, ap, subst, ◌∙◌}
use Rattle.std.specs.Prelude.{Option, IfOk, IfErr, IfSome}
use Rattle.fsfs_base.specs.Paths.{PathName}
use Rattle.fsfs_base.proofs.ResultLemmas.{not_none}
use Rattle.fsfs_noderev.specs.declared.node_id.NodeId.{NodeId}
use Rattle.fsfs_revision.specs.Nodes.{is_revision_id}
use Rattle.fsfs_revision.specs.Shows.Reading.{DirEntry, named, offset_of, OfId}
use Rattle.fsfs_dag.specs.Views.{entry_value}
use Rattle.fsfs_dag.specs.Listing.Views.{listed}
use Rattle.fsfs_draft.specs.Drafts.{Kept}
use Rattle.fsfs_draft.specs.Entries.{IsListedAs, IsWithin}
use Rattle.fsfs_draft.specs.Errors.{IsWant}
use Rattle.fsfs_draft.specs.Views.{kept_value}
use Rattle.fsfs_edit.specs.DagEdits.Mutable.{IsAmiss, IsChildChanged}
use Rattle.fsfs_draft.proofs.EditLaw.{edits_keep_drafts}
use Rattle.fsfs_edit.proofs.Alike.{changed_as}
use Rattle.fsfs_edit.proofs.Steps.{changed_proto}
use Rattle.fsfs_draft.proofs.OwnEntries.{kept_same, pred_within, entries_here, own_entry, lasting_entry}
use Rattle.fsfs_edit.proofs.Making.{lasting_leaves}
use Rattle.fsfs_draft.proofs.HeldLists.{own_listed}
use Rattle.fsfs_draft.specs.Drafts.{kept_of}
use Rattle.fsfs_draft.specs.Steps.{kept_at}
use Rattle.fsfs_draft.specs.Entries.{OfKept, OfPredecessor, OfListed}
use Rattle.fsfs_txn.specs.Opened.Leading.{LeadsDown}
use Rattle.fsfs_txn.proofs.Following.{own_id, same_some, kept_one, known_there}
use Rattle.fsfs_txn.proofs.Leaving.{own_has, child_on, still_all}
use Rattle.fsfs_txn.proofs.ReachLemmas.{child_reached}
use Rattle.fsfs_txn.proofs.opened.reaching.child_in.Goals as goal

pub returns-then-not-is_revision_id-clause-draft : goal.returns-then-not-is_revision_id-clause-draft
returns-then-not-is_revision_id-clause-draft g c = λ look trees top base nodes p d known shown le draft here same dir.
    let txn = g.N.Own.txn c.args.own.now in
    let f = g.N.Own.folder c.args.own.now in
    let k = kept_same look top base trees shown le txn f nodes draft p d here dir c.args.dir.now (kept_value c.in-Some.kept.now) same (sym c.in-Some.ensures) in
    let within : IsWithin top c.in-Some.kept.now.node.predecessor = subst (λ (x : Kept). IsWithin top x.node.predecessor) (sym k) (pred_within look top base trees shown le txn f nodes draft p d here dir) in
    let t = subst (λ (x : Kept). IsListedAs look x (listed c.in-Some-listed_known.entries.now)) k (c.in-Some-listed_known.ensures.told look top known within) in
    let all = entries_here look top base trees shown le txn f nodes draft p d here dir t.entries t.of in
    let x = entry_value c.in-Some-get.entry.now in
    let is : named c.args.name.now t.entries ≡ Some x = sym (c.in-Some-get.ensures ∙ t.alike c.args.name.now) in
    let v = own_entry look top base trees shown le txn f nodes draft p d here dir c.args.name.now t.entries all x is (sym c.if-not-is_revision_id.ensures) in
    (nodes, draft, λ q. refl, v.0, v.1, v.2, λ tree marks first o. edits_keep_drafts.has look trees top base txn f tree marks first nodes p c.args.name.now v.0 o v.1)

pub returns-clause-draft : goal.returns-clause-draft
returns-clause-draft g c = λ look trees top base nodes p d known shown le draft here same dir.
    let txn = g.N.Own.txn c.args.own.now in
    let f = g.N.Own.folder c.args.own.now in
    let name = c.args.name.now in
    let k = kept_same look top base trees shown le txn f nodes draft p d here dir c.args.dir.now (kept_value c.in-Some.kept.now) same (sym c.in-Some.ensures) in
    let within : IsWithin top c.in-Some.kept.now.node.predecessor = subst (λ (x : Kept). IsWithin top x.node.predecessor) (sym k) (pred_within look top base trees shown le txn f nodes draft p d here dir) in
    let found = listed c.in-Some-listed_known.entries.now in
    let shared = listed c.in_ok-all.all in
    let t = subst (λ (x : Kept). IsListedAs look x found) k (c.in-Some-listed_known.ensures.told look top known within) in
    let all = entries_here look top base trees shown le txn f nodes draft p d here dir t.entries t.of in
    let x = entry_value c.in-Some-get.entry.now in
    let is : named name t.entries ≡ Some x = sym (c.in-Some-get.ensures ∙ t.alike name) in
    let lasts : is_revision_id x.id ≡ true = sym c.if-not-is_revision_id.ensures in
    let low : (offset_of x.id.place).rev ≤ top = (lasting_entry look top base trees shown le txn f nodes draft p d here dir name t.entries all x is lasts).2 in
    let one = c.in-Some-find.old.now in
    let u = one.node in
    let same_id = c.in-Some-find.ensures.id in
    let is_known = c.in-Some-find.ensures.known look top known (subst (λ (i : NodeId). (offset_of i.place).rev ≤ top) (sym same_id) low) in
    let read : OfId look x.id (Ok u) = subst (λ (i : NodeId). OfId look i (Ok u)) same_id is_known.node in
    let alike : (y : PathName) → named y shared ≡ named y t.entries = λ y. ap (λ (l : List DirEntry). named y l) c.in_ok-all.ensures ∙ t.alike y in
    let after = g.N.Own.folder c.change_child.new.own in
    let done : IfOk c.change_child.result (IsChildChanged f after txn d.node.id t.entries name x.kind u) =
    subst (λ (i : NodeId). IfOk c.change_child.result (IsChildChanged f after txn i t.entries name x.kind u)) (sym same)
    (changed_as shared t.entries alike f after txn c.args.dir.now name x.kind u c.change_child.result c.change_child.ensures.done) in
    let cause : IfErr c.change_child.result (λ y. IsWant y (IsAmiss f d.node.id u.id)) =
    subst (λ (i : NodeId). IfErr c.change_child.result (λ y. IsWant y (IsAmiss f i u.id))) (sym same) c.change_child.ensures.cause in
    child_reached look trees top base txn f nodes p name after c.change_child.result (IsAmiss f d.node.id u.id)
    (lasting_leaves look top base trees shown le txn f nodes draft p d here dir name t.entries all x is lasts u read after c.change_child.result done cause) cause

pub returns-clause-proto : goal.returns-clause-proto
returns-clause-proto g c = changed_proto (g.N.Own.folder c.args.own.now) (g.N.Own.folder c.change_child.new.own) (g.N.Own.txn c.args.own.now) c.args.dir.now (listed c.in_ok-all.all) c.args.name.now c.in-Some-get.entry.now.kind c.in-Some-find.old.now.node c.change_child.result c.change_child.ensures.done

pub change_child-requires : goal.change_child-requires
change_child-requires g c =
    let found = kept_value c.in-Some.kept.now in
    own_listed (g.N.Own.folder c.args.own.now) c.args.dir.now found (listed c.in_ok-all.all) c.in-Some.ensures
    (subst (λ (l : List DirEntry). IfSome found.entries (λ entries. l ≡ entries)) (sym c.in_ok-all.ensures) c.in-Some-listed_known.ensures.own)

-- ---- what leads on

pub returns-in_default-clause-leads : goal.returns-in_default-clause-leads
returns-in_default-clause-leads g c = λ look trees top base nodes p d known shown le draft here same dir rest leads.
    let there : kept_at (g.N.Own.folder c.args.own.now).nodes c.args.dir.now ≡ Some (kept_of d) = ap (λ (i : NodeId). kept_at (g.N.Own.folder c.args.own.now).nodes i) (sym same) ∙ draft.kept p d here in
    not_none _ (kept_of d) there (sym c.in_default.ensures)

pub returns-in_default-listed_known-clause-leads : goal.returns-in_default-listed_known-clause-leads
returns-in_default-listed_known-clause-leads g c = λ look trees top base nodes p d known shown le draft here same dir rest leads.
    let txn = g.N.Own.txn c.args.own.now in
    let f = g.N.Own.folder c.args.own.now in
    let found = kept_value c.in-Some.kept.now in
    let own = subst (λ (i : NodeId). is_revision_id i ≡ false) same (own_id d.node.id txn (draft.places p d here)) in
    let has = own_has look f.nodes c.args.known.now c.args.dir.now found leads.0 own (sym c.in-Some.ensures) leads.2 in
    let none = c.in_default-listed_known.ensures.none has.0 in
    let empty : OfKept look found (Ok []) = subst (λ (o : Option (List DirEntry)). OfListed look o found.node.predecessor (Ok [])) (sym none.0) (subst (λ (o : Option NodeId). OfPredecessor look o (Ok [])) (sym none.1) refl) in
    not_none (named c.args.name.now leads.0) leads.1 leads.3 (ap (λ (l : List DirEntry). named c.args.name.now l) (kept_one look found leads.0 [] has.1 empty))

pub returns-in_default-get-clause-leads : goal.returns-in_default-get-clause-leads
returns-in_default-get-clause-leads g c = λ look trees top base nodes p d known shown le draft here same dir rest leads.
    let txn = g.N.Own.txn c.args.own.now in
    let f = g.N.Own.folder c.args.own.now in
    let found = kept_value c.in-Some.kept.now in
    let own = subst (λ (i : NodeId). is_revision_id i ≡ false) same (own_id d.node.id txn (draft.places p d here)) in
    let has = own_has look f.nodes c.args.known.now c.args.dir.now found leads.0 own (sym c.in-Some.ensures) leads.2 in
    let k = kept_same look top base trees shown le txn f nodes draft p d here dir c.args.dir.now found same (sym c.in-Some.ensures) in
    let within : IsWithin top c.in-Some.kept.now.node.predecessor = subst (λ (x : Kept). IsWithin top x.node.predecessor) (sym k) (pred_within look top base trees shown le txn f nodes draft p d here dir) in
    let t = c.in-Some-listed_known.ensures.told look top known within in
    not_none (named c.args.name.now leads.0) leads.1 leads.3 (ap (λ (l : List DirEntry). named c.args.name.now l) (kept_one look found leads.0 t.entries has.1 t.of) ∙ sym (t.alike c.args.name.now) ∙ sym c.in_default-get.ensures)

pub returns-then-not-is_revision_id-clause-leads : goal.returns-then-not-is_revision_id-clause-leads
returns-then-not-is_revision_id-clause-leads g c = λ look trees top base nodes p d known shown le draft here same dir rest leads.
    let txn = g.N.Own.txn c.args.own.now in
    let f = g.N.Own.folder c.args.own.now in
    let found = kept_value c.in-Some.kept.now in
    let own = subst (λ (i : NodeId). is_revision_id i ≡ false) same (own_id d.node.id txn (draft.places p d here)) in
    let has = own_has look f.nodes c.args.known.now c.args.dir.now found leads.0 own (sym c.in-Some.ensures) leads.2 in
    let k = kept_same look top base trees shown le txn f nodes draft p d here dir c.args.dir.now found same (sym c.in-Some.ensures) in
    let within : IsWithin top c.in-Some.kept.now.node.predecessor = subst (λ (x : Kept). IsWithin top x.node.predecessor) (sym k) (pred_within look top base trees shown le txn f nodes draft p d here dir) in
    let t = c.in-Some-listed_known.ensures.told look top known within in
    let x = entry_value c.in-Some-get.entry.now in
    let is : x ≡ leads.1 = same_some x leads.1 (c.in-Some-get.ensures ∙ t.alike c.args.name.now ∙ ap (λ (l : List DirEntry). named c.args.name.now l) (sym (kept_one look found leads.0 t.entries has.1 t.of)) ∙ leads.3) in
    subst (λ (e : DirEntry). LeadsDown look f.nodes c.args.known.now rest e.id) (sym is) leads.4

pub returns-in_default-find-clause-leads : goal.returns-in_default-find-clause-leads
returns-in_default-find-clause-leads g c = λ look trees top base nodes p d known shown le draft here same dir rest leads.
    let txn = g.N.Own.txn c.args.own.now in
    let f = g.N.Own.folder c.args.own.now in
    let found = kept_value c.in-Some.kept.now in
    let own = subst (λ (i : NodeId). is_revision_id i ≡ false) same (own_id d.node.id txn (draft.places p d here)) in
    let has = own_has look f.nodes c.args.known.now c.args.dir.now found leads.0 own (sym c.in-Some.ensures) leads.2 in
    let k = kept_same look top base trees shown le txn f nodes draft p d here dir c.args.dir.now found same (sym c.in-Some.ensures) in
    let within : IsWithin top c.in-Some.kept.now.node.predecessor = subst (λ (x : Kept). IsWithin top x.node.predecessor) (sym k) (pred_within look top base trees shown le txn f nodes draft p d here dir) in
    let t = c.in-Some-listed_known.ensures.told look top known within in
    let x = entry_value c.in-Some-get.entry.now in
    let is : x ≡ leads.1 = same_some x leads.1 (c.in-Some-get.ensures ∙ t.alike c.args.name.now ∙ ap (λ (l : List DirEntry). named c.args.name.now l) (sym (kept_one look found leads.0 t.entries has.1 t.of)) ∙ leads.3) in
    let lasts : is_revision_id x.id ≡ true = sym c.if-not-is_revision_id.ensures in
    let among = known_there look f.nodes c.args.known.now rest x.id lasts (subst (λ (e : DirEntry). LeadsDown look f.nodes c.args.known.now rest e.id) (sym is) leads.4) in
    let e = c.in_default-find.ensures.found among in
    absurd cc

pub returns-clause-leads : goal.returns-clause-leads
returns-clause-leads g c = λ look trees top base nodes p d known shown le draft here same dir rest leads.
    let txn = g.N.Own.txn c.args.own.now in
    let f = g.N.Own.folder c.args.own.now in
    let name = c.args.name.now in
    let found = kept_value c.in-Some.kept.now in
    let own = subst (λ (i : NodeId). is_revision_id i ≡ false) same (own_id d.node.id txn (draft.places p d here)) in
    let has = own_has look f.nodes c.args.known.now c.args.dir.now found leads.0 own (sym c.in-Some.ensures) leads.2 in
    let k = kept_same look top base trees shown le txn f nodes draft p d here dir c.args.dir.now found same (sym c.in-Some.ensures) in
    let within : IsWithin top c.in-Some.kept.now.node.predecessor = subst (λ (x : Kept). IsWithin top x.node.predecessor) (sym k) (pred_within look top base trees shown le txn f nodes draft p d here dir) in
    let shared = listed c.in_ok-all.all in
    let t = subst (λ (x : Kept). IsListedAs look x (listed c.in-Some-listed_known.entries.now)) k (c.in-Some-listed_known.ensures.told look top known within) in
    let of : OfKept look found (Ok t.entries) = subst (λ (x : Kept). OfKept look x (Ok t.entries)) (sym k) t.of in
    let x = entry_value c.in-Some-get.entry.now in
    let at : named name t.entries ≡ Some x = sym (c.in-Some-get.ensures ∙ t.alike name) in
    let is : x ≡ leads.1 = same_some x leads.1 (sym at ∙ ap (λ (l : List DirEntry). named name l) (sym (kept_one look found leads.0 t.entries has.1 of)) ∙ leads.3) in
    let lasts : is_revision_id x.id ≡ true = sym c.if-not-is_revision_id.ensures in
    let on = subst (λ (e : DirEntry). LeadsDown look f.nodes c.args.known.now rest e.id) (sym is) leads.4 in
    let all = entries_here look top base trees shown le txn f nodes draft p d here dir t.entries t.of in
    let low : (offset_of x.id.place).rev ≤ top = (lasting_entry look top base trees shown le txn f nodes draft p d here dir name t.entries all x at lasts).2 in
    let u = c.in-Some-find.old.now.node in
    let same_id = c.in-Some-find.ensures.id in
    let is_known = c.in-Some-find.ensures.known look top known (subst (λ (i : NodeId). (offset_of i.place).rev ≤ top) (sym same_id) low) in
    let alike : (y : PathName) → named y shared ≡ named y t.entries = λ y. ap (λ (l : List DirEntry). named y l) c.in_ok-all.ensures ∙ t.alike y in
    let after = g.N.Own.folder c.change_child.new.own in
    let done = changed_as shared t.entries alike f after txn c.args.dir.now name x.kind u c.change_child.result c.change_child.ensures.done in
    child_on look trees top base shown le txn f nodes draft p d here dir c.args.dir.now same t.entries t.of name x at lasts u same_id is_known.node after c.change_child.result done c.change_child.ensures.cause c.args.known.now rest on

pub returns-clause-still : goal.returns-clause-still
returns-clause-still g c = λ look trees top base nodes p d known shown le draft here same dir.
    let txn = g.N.Own.txn c.args.own.now in
    let f = g.N.Own.folder c.args.own.now in
    let name = c.args.name.now in
    let found = kept_value c.in-Some.kept.now in
    let k = kept_same look top base trees shown le txn f nodes draft p d here dir c.args.dir.now found same (sym c.in-Some.ensures) in
    let within : IsWithin top c.in-Some.kept.now.node.predecessor = subst (λ (x : Kept). IsWithin top x.node.predecessor) (sym k) (pred_within look top base trees shown le txn f nodes draft p d here dir) in
    let shared = listed c.in_ok-all.all in
    let t = subst (λ (x : Kept). IsListedAs look x (listed c.in-Some-listed_known.entries.now)) k (c.in-Some-listed_known.ensures.told look top known within) in
    let x = entry_value c.in-Some-get.entry.now in
    let at : named name t.entries ≡ Some x = sym (c.in-Some-get.ensures ∙ t.alike name) in
    let lasts : is_revision_id x.id ≡ true = sym c.if-not-is_revision_id.ensures in
    let all = entries_here look top base trees shown le txn f nodes draft p d here dir t.entries t.of in
    let low : (offset_of x.id.place).rev ≤ top = (lasting_entry look top base trees shown le txn f nodes draft p d here dir name t.entries all x at lasts).2 in
    let u = c.in-Some-find.old.now.node in
    let same_id = c.in-Some-find.ensures.id in
    let is_known = c.in-Some-find.ensures.known look top known (subst (λ (i : NodeId). (offset_of i.place).rev ≤ top) (sym same_id) low) in
    let alike : (y : PathName) → named y shared ≡ named y t.entries = λ y. ap (λ (l : List DirEntry). named y l) c.in_ok-all.ensures ∙ t.alike y in
    let after = g.N.Own.folder c.change_child.new.own in
    let done = changed_as shared t.entries alike f after txn c.args.dir.now name x.kind u c.change_child.result c.change_child.ensures.done in
    still_all look trees top base shown le txn f nodes draft p d here dir c.args.dir.now same t.entries t.of name x at lasts u same_id is_known.node after c.change_child.result done

pub returns-then-not-is_revision_id-clause-still : goal.returns-then-not-is_revision_id-clause-still
returns-then-not-is_revision_id-clause-still g c = λ look trees top base nodes p d known shown le draft here same dir all path id leads. leads
