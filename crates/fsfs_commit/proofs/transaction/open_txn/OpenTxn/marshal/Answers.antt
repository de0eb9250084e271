use Rattle.std.proofs.Common.{◌∙◌, ◌+◌, refl, sym, ap}
use Rattle.std.specs.Prelude.{length}
use Rattle.std.specs.FinMap.{get}
use Rattle.fsfs_base.proofs.ResultLemmas.{none_of}
use Rattle.fsfs_tree.specs.Revisions.{tree_of}
use Rattle.fsfs_draft.specs.Drafts.{Folder}
use Rattle.fsfs_txn_nodes.specs.Memory.Lists.{files_of, with_steps}
use Rattle.fsfs_txn_nodes.specs.Memory.Views.{folder_of}
use Rattle.fsfs_machine.specs.Machine.{revisions}
use Rattle.fsfs_turn.specs.Bytes.{bytes_of}
use Rattle.fsfs_commit.proofs.Coming.{handed, handed_as, final_as}
use Rattle.fsfs_commit.proofs.Merging.{made_refuses, some_failed, made_found, unspent_lives, made_blamed}
use Rattle.fsfs_commit.proofs.DraftWriting.{where_told, txn_as, means_as}
use Rattle.fsfs_commit.proofs.transaction.open_txn.OpenTxn.marshal.Goals as goal

pub returns-in-Ok-final_text-clause-made : goal.returns-in-Ok-final_text-clause-made
returns-in-Ok-final_text-clause-made g c = λ h x tells means youngest.
    let was = c.args.self.now.txn in
    let now = c.proto_length.new.self in
    let contents = g.B.Bench.contents in
    let own = c.own-own.result.now in
    let look = bytes_of h in
    let trees = tree_of (revisions h) in
    let none = none_of was.spent (sym c.is_spent.ensures ∙ c.if-is_spent.false) in
    let is = means none in
    let name = ap (λ o. o.txn) c.own-own.ensures ∙ c.proto_length.ensures.name ∙ c.forget.ensures.name in
    let folder = ap (λ o. folder_of (with_steps o.steps.list.items (files_of o.settled)) o.next o.items.items (contents o.bench) o.proto) c.own-own.ensures ∙ c.proto_length.ensures.folder ∙ c.forget.ensures.folder in
    let settled = c.proto_length.ensures.settled ∙ c.forget.ensures.settled in
    let items = c.items.ensures ∙ ap (λ o. (folder_of (files_of o.settled) o.settled_next o.items.items (contents o.bench) o.proto).items) c.own-own.ensures in
    let start = where_told (contents c.forget.new.self.own.bench) _ (tells c.forget.new.self.own.bench) c.in-Ok.ensures.length ∙ ap (λ (f : Folder). length f.proto) c.forget.ensures.settled in
    let given = handed h _ was.base _ x is youngest.shown (youngest.long ∙ sym youngest.next ∙ ap (λ n. n + 1) is.on) c.args.rev c.in-Ok.start c.items.result.now (sym youngest.next ∙ ap (λ n. n + 1) is.on) start (items ∙ ap (λ (f : Folder). f.items) settled) in
    let over = handed_as look trees was.base _ _ _ _ (get x.tree) x.marks c.args.rev c.in-Ok.start c.items.result.now name folder given in
    let final = c.in-Ok-final_text.ensures.next look trees was.base (get x.tree) x.marks over in
    let base = ap (λ t. t.base) c.proto_length.ensures.rest ∙ ap (λ t. t.base) c.forget.ensures.rest in
    let here = txn_as h was.own.txn _ was.base _ _ _ x (c.proto_length.ensures.name ∙ c.forget.ensures.name) base settled is in
    let text = c.in-Ok-final_text.text.items in
    (here, record { behind = text; text_is = refl; final = final_as look trees was.base x.base _ _ (get x.tree) x.marks c.items.result.now _ text is.on (ap (λ (f : Folder). f.proto) (settled ∙ sym folder)) (sym items) final })

pub returns-in-Err-clause-means : goal.returns-in-Err-clause-means
returns-in-Err-clause-means g c = λ h x means.
    means_as c.args.self.now.txn.spent c.proto_length.new.self.spent h _ _ _ _ _ _ x (ap (λ t. t.spent) c.proto_length.ensures.rest ∙ ap (λ t. t.spent) c.forget.ensures.rest) (c.proto_length.ensures.name ∙ c.forget.ensures.name)
    (ap (λ t. t.base) c.proto_length.ensures.rest ∙ ap (λ t. t.base) c.forget.ensures.rest) (c.proto_length.ensures.settled ∙ c.forget.ensures.settled) means

pub returns-in-Ok-final_text-clause-means : goal.returns-in-Ok-final_text-clause-means
returns-in-Ok-final_text-clause-means g c = λ h x means.
    means_as c.args.self.now.txn.spent c.proto_length.new.self.spent h _ _ _ _ _ _ x (ap (λ t. t.spent) c.proto_length.ensures.rest ∙ ap (λ t. t.spent) c.forget.ensures.rest) (c.proto_length.ensures.name ∙ c.forget.ensures.name)
    (ap (λ t. t.base) c.proto_length.ensures.rest ∙ ap (λ t. t.base) c.forget.ensures.rest) (c.proto_length.ensures.settled ∙ c.forget.ensures.settled) means

pub returns-in-Err-final_text-clause-means : goal.returns-in-Err-final_text-clause-means
returns-in-Err-final_text-clause-means g c = λ h x means.
    means_as c.args.self.now.txn.spent c.proto_length.new.self.spent h _ _ _ _ _ _ x (ap (λ t. t.spent) c.proto_length.ensures.rest ∙ ap (λ t. t.spent) c.forget.ensures.rest) (c.proto_length.ensures.name ∙ c.forget.ensures.name)
    (ap (λ t. t.base) c.proto_length.ensures.rest ∙ ap (λ t. t.base) c.forget.ensures.rest) (c.proto_length.ensures.settled ∙ c.forget.ensures.settled) means

pub returns-in-Err-final_text-clause-refused : goal.returns-in-Err-final_text-clause-refused
returns-in-Err-final_text-clause-refused g c = λ h x tells means youngest head more.
    let was = c.args.self.now.txn in
    let contents = g.B.Bench.contents in
    let look = bytes_of h in
    let trees = tree_of (revisions h) in
    let none = none_of was.spent (sym c.is_spent.ensures ∙ c.if-is_spent.false) in
    let is = means none in
    let name = ap (λ o. o.txn) c.own-own.ensures ∙ c.proto_length.ensures.name ∙ c.forget.ensures.name in
    let folder = ap (λ o. folder_of (with_steps o.steps.list.items (files_of o.settled)) o.next o.items.items (contents o.bench) o.proto) c.own-own.ensures ∙ c.proto_length.ensures.folder ∙ c.forget.ensures.folder in
    let settled = c.proto_length.ensures.settled ∙ c.forget.ensures.settled in
    let items = c.items.ensures ∙ ap (λ o. (folder_of (files_of o.settled) o.settled_next o.items.items (contents o.bench) o.proto).items) c.own-own.ensures in
    let start = where_told (contents c.forget.new.self.own.bench) _ (tells c.forget.new.self.own.bench) c.in-Ok.ensures.length ∙ ap (λ (f : Folder). length f.proto) c.forget.ensures.settled in
    let given = handed h _ was.base _ x is youngest.shown (youngest.long ∙ sym youngest.next ∙ ap (λ n. n + 1) is.on) c.args.rev c.in-Ok.start c.items.result.now (sym youngest.next ∙ ap (λ n. n + 1) is.on) start (items ∙ ap (λ (f : Folder). f.items) settled) in
    let over = handed_as look trees was.base _ _ _ _ (get x.tree) x.marks c.args.rev c.in-Ok.start c.items.result.now name folder given in
    made_refuses c.in-Err-final_text.error _ _ head more x c.not_made.ensures (c.in-Err-final_text.ensures.whole look trees was.base (get x.tree) x.marks over)

-- ---- what the transaction holds then

pub returns-then-is_spent-clause-found : goal.returns-then-is_spent-clause-found
returns-then-is_spent-clause-found g c = sym c.is_spent.ensures ∙ c.if-is_spent.true

pub returns-in-Err-clause-found : goal.returns-in-Err-clause-found
returns-in-Err-clause-found g c = some_failed _ _ c.in-Err.ensures.cause.failed

pub returns-in-Err-final_text-clause-found : goal.returns-in-Err-final_text-clause-found
returns-in-Err-final_text-clause-found g c =
    let contents = g.B.Bench.contents in
    let folder = ap (λ o. folder_of (with_steps o.steps.list.items (files_of o.settled)) o.next o.items.items (contents o.bench) o.proto) c.own-own.ensures ∙ c.proto_length.ensures.folder ∙ c.forget.ensures.folder in
    let settled = c.proto_length.ensures.settled ∙ c.forget.ensures.settled in
    let items = c.items.ensures ∙ ap (λ o. (folder_of (files_of o.settled) o.settled_next o.items.items (contents o.bench) o.proto).items) c.own-own.ensures in
    made_found c.in-Err-final_text.error _ _ _ _ _ c.items.result.now c.not_made.ensures (folder ∙ sym settled) items c.in-Err-final_text.ensures.refused

-- ---- its name stays

pub returns-in-Err-clause-name : goal.returns-in-Err-clause-name
returns-in-Err-clause-name g c = c.proto_length.ensures.name ∙ c.forget.ensures.name

pub returns-in-Ok-final_text-clause-name : goal.returns-in-Ok-final_text-clause-name
returns-in-Ok-final_text-clause-name g c = c.proto_length.ensures.name ∙ c.forget.ensures.name

pub returns-in-Err-final_text-clause-name : goal.returns-in-Err-final_text-clause-name
returns-in-Err-final_text-clause-name g c = c.proto_length.ensures.name ∙ c.forget.ensures.name

-- ---- what it says of its bench

pub returns-then-is_spent-clause-blamed : goal.returns-then-is_spent-clause-blamed
returns-then-is_spent-clause-blamed g c = λ by. (by, by (sym c.is_spent.ensures ∙ c.if-is_spent.true))

pub returns-in-Ok-final_text-clause-lives : goal.returns-in-Ok-final_text-clause-lives
returns-in-Ok-final_text-clause-lives g c = λ by. (unspent_lives c.proto_length.new.self.spent _ (ap (λ t. t.spent) c.proto_length.ensures.rest ∙ ap (λ t. t.spent) c.forget.ensures.rest ∙ none_of c.args.self.now.txn.spent (sym c.is_spent.ensures ∙ c.if-is_spent.false)), refl)

pub returns-in-Err-clause-blamed : goal.returns-in-Err-clause-blamed
returns-in-Err-clause-blamed g c = λ by. (unspent_lives c.proto_length.new.self.spent _ (ap (λ t. t.spent) c.proto_length.ensures.rest ∙ ap (λ t. t.spent) c.forget.ensures.rest ∙ none_of c.args.self.now.txn.spent (sym c.is_spent.ensures ∙ c.if-is_spent.false)), some_failed _ _ c.in-Err.ensures.cause.failed)

pub returns-in-Err-final_text-clause-blamed : goal.returns-in-Err-final_text-clause-blamed
returns-in-Err-final_text-clause-blamed g c = λ by. made_blamed c.in-Err-final_text.error _ _ _ c.proto_length.new.self.spent c.not_made.ensures c.in-Err-final_text.ensures.refused (ap (λ t. t.spent) c.proto_length.ensures.rest ∙ ap (λ t. t.spent) c.forget.ensures.rest ∙ none_of c.args.self.now.txn.spent (sym c.is_spent.ensures ∙ c.if-is_spent.false))
