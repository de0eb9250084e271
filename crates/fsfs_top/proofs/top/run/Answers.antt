use Rattle.std.proofs.Common.{◌≡◌, ℕ, List, map, sym, ap, subst, inl, refl}
use Rattle.std.specs.Prelude.{string_bytes, option_map, Some, OnOk}
use Rattle.fsfs_create.specs.Creation.{IsUnpublished, HasRepository}
use Rattle.fsfs_disk.specs.Crash.{AllImages, IsFirm}
use Rattle.fsfs_disk.specs.Trace.{Trace, files_now, labels_now}
use Rattle.fsfs_cli.specs.declared.request.Task.TheVariants.{Create, ListTxns, RemoveTxns, Pack, Look}
use Rattle.fsfs_cli.specs.Readings.{Asks}
use Rattle.fsfs_cli.proofs.TaskLemmas.{asks_task}
use Rattle.fsfs_disk.proofs.CrashLemmas.{same_leaves}
use Rattle.fsfs_top.specs.Command.{LeavesNoneOrCreated}
use Rattle.fsfs_top.specs.Packing.{HoldsHistory}
use Rattle.fsfs_top.proofs.CreationTold.{same_files, some_drawn}
use Rattle.fsfs_create.proofs.OpeningLemmas.{firm_same}
use Rattle.fsfs_top.specs.Transactions.{LeavesRemoval}
use Rattle.fsfs_top.proofs.TaskDone.{at_creation, at_pack, at_removal, looks_alone, others_alone}
use Rattle.fsfs_top.proofs.TxnsTold.{labels_firm, same_labels}
use Rattle.fsfs_top.proofs.top.run.Goals as goal

pub returns-in-Create-clause-did : goal.returns-in-Create-clause-did
returns-in-Create-clause-did g c = λ input.
    let words = map string_bytes c.args.words.now in
    let repos = c.in_ok-request.request.repos.now in
    let asks = subst (Asks c.args.tool words repos) c.in-Create.is c.in_ok-request.ensures in
    inl (repos, Create c.in-Create.shard, asks, (c.create_at.ensures.created, refl, refl), λ path none. c.create_at.ensures.others path none.0)

pub returns-in-Create-clause-there_same : goal.returns-in-Create-clause-there_same
returns-in-Create-clause-there_same g c = λ r n t also here has.
    let words = map string_bytes c.args.words.now in
    let repos = c.in_ok-request.request.repos.now in
    let asks = subst (Asks c.args.tool words repos) c.in-Create.is c.in_ok-request.ensures in
    let old = g.H.Host.disk_at c.args.host.now in
    let new = g.H.Host.disk_at c.create_at.new.host in
    at_creation (λ p k. (t : Trace) → old p ≡ Some t → HasRepository t → new p ≡ old p) c.args.tool words repos c.in-Create.shard asks c.create_at.ensures.there_same r n also t here has

pub returns-in-Create-clause-any_moment : goal.returns-in-Create-clause-any_moment
returns-in-Create-clause-any_moment g c = λ r n also.
    let words = map string_bytes c.args.words.now in
    let repos = c.in_ok-request.request.repos.now in
    let asks = subst (Asks c.args.tool words repos) c.in-Create.is c.in_ok-request.ensures in
    let old = g.H.Host.disk_at c.args.host.now in
    let new = g.H.Host.disk_at c.create_at.new.host in
    at_creation (λ p k. AllImages (old p) IsUnpublished → LeavesNoneOrCreated k (g.C.Clock.next c.args.clock.now) (g.R.Dice.next c.args.dice.now) (old p) (new p))
    c.args.tool words repos c.in-Create.shard asks c.create_at.ensures.any_moment r n also

pub returns-in-Create-clause-firm : goal.returns-in-Create-clause-firm
returns-in-Create-clause-firm g c = λ r n also.
    let words = map string_bytes c.args.words.now in
    let repos = c.in_ok-request.request.repos.now in
    let asks = subst (Asks c.args.tool words repos) c.in-Create.is c.in_ok-request.ensures in
    at_creation (λ p k. OnOk c.create_at.result (IsFirm (g.H.Host.disk_at c.create_at.new.host p))) c.args.tool words repos c.in-Create.shard asks c.create_at.ensures.firm r n also

pub returns-in-Create-clause-files : goal.returns-in-Create-clause-files
returns-in-Create-clause-files g c = λ path none unpacked.
    let words = map string_bytes c.args.words.now in
    let repos = c.in_ok-request.request.repos.now in
    let asks = subst (Asks c.args.tool words repos) c.in-Create.is c.in_ok-request.ensures in
    ap (option_map files_now) (c.create_at.ensures.others path (λ e. none c.in-Create.shard (subst (λ (p : List ℕ). Asks c.args.tool words p (Create c.in-Create.shard)) (sym e) asks)))

pub returns-in-Look-clause-did : goal.returns-in-Look-clause-did
returns-in-Look-clause-did g c = λ input.
    let words = map string_bytes c.args.words.now in
    let repos = c.in_ok-request.request.repos.now in
    let asks = subst (Asks c.args.tool words repos) c.in-Look.is c.in_ok-request.ensures in
    inl (repos, Look c.in-Look.look, asks, (c.look_at.ensures.printed input, c.look_at.ensures.decided, refl), λ path none. c.look_at.ensures.others path none.0)

pub returns-in-Look-clause-there_same : goal.returns-in-Look-clause-there_same
returns-in-Look-clause-there_same g c = λ r n t also here has.
    let words = map string_bytes c.args.words.now in
    let repos = c.in_ok-request.request.repos.now in
    absurd (looks_alone c.args.tool words repos r c.in-Look.look n (subst (Asks c.args.tool words repos) c.in-Look.is c.in_ok-request.ensures) also)

pub returns-in-Look-clause-any_moment : goal.returns-in-Look-clause-any_moment
returns-in-Look-clause-any_moment g c = λ r n also.
    let words = map string_bytes c.args.words.now in
    let repos = c.in_ok-request.request.repos.now in
    absurd (looks_alone c.args.tool words repos r c.in-Look.look n (subst (Asks c.args.tool words repos) c.in-Look.is c.in_ok-request.ensures) also)

pub returns-in-Look-clause-firm : goal.returns-in-Look-clause-firm
returns-in-Look-clause-firm g c = λ r n also.
    let words = map string_bytes c.args.words.now in
    let repos = c.in_ok-request.request.repos.now in
    absurd (looks_alone c.args.tool words repos r c.in-Look.look n (subst (Asks c.args.tool words repos) c.in-Look.is c.in_ok-request.ensures) also)

pub returns-in-Look-clause-files : goal.returns-in-Look-clause-files
returns-in-Look-clause-files g c = λ path none unpacked.
    same_files (g.H.Host.disk_at c.args.host.now) (g.H.Host.disk_at c.look_at.new.host) c.in_ok-request.request.repos.now path c.look_at.ensures.same c.look_at.ensures.others

pub create_at-requires : goal.create_at-requires
create_at-requires g c =
    let words = map string_bytes c.args.words.now in
    let repos = c.in_ok-request.request.repos.now in
    (asks_task c.args.tool words repos (Create c.in-Create.shard) (subst (Asks c.args.tool words repos) c.in-Create.is c.in_ok-request.ensures)).1

pub returns-in-Create-clause-removal : goal.returns-in-Create-clause-removal
returns-in-Create-clause-removal g c = λ r txns also.
    let words = map string_bytes c.args.words.now in
    let repos = c.in_ok-request.request.repos.now in
    absurd (others_alone c.args.tool words repos r (Create c.in-Create.shard) (RemoveTxns txns) (λ e. cc) (subst (Asks c.args.tool words repos) c.in-Create.is c.in_ok-request.ensures) also)

pub returns-in-Create-clause-labels : goal.returns-in-Create-clause-labels
returns-in-Create-clause-labels g c = λ path none nor unpacked.
    let words = map string_bytes c.args.words.now in
    let repos = c.in_ok-request.request.repos.now in
    let asks = subst (Asks c.args.tool words repos) c.in-Create.is c.in_ok-request.ensures in
    ap (option_map labels_now) (c.create_at.ensures.others path (λ e. none c.in-Create.shard (subst (λ (p : List ℕ). Asks c.args.tool words p (Create c.in-Create.shard)) (sym e) asks)))

pub returns-in-Look-clause-removal : goal.returns-in-Look-clause-removal
returns-in-Look-clause-removal g c = λ r txns also.
    let words = map string_bytes c.args.words.now in
    let repos = c.in_ok-request.request.repos.now in
    absurd (others_alone c.args.tool words repos r (Look c.in-Look.look) (RemoveTxns txns) (λ e. cc) (subst (Asks c.args.tool words repos) c.in-Look.is c.in_ok-request.ensures) also)

pub returns-in-Look-clause-labels : goal.returns-in-Look-clause-labels
returns-in-Look-clause-labels g c = λ path none nor unpacked.
    let old = g.H.Host.disk_at c.args.host.now in
    let new = g.H.Host.disk_at c.look_at.new.host in
    let repos = c.in_ok-request.request.repos.now in
    same_labels old new repos path (labels_firm (old repos) (new repos) c.look_at.ensures.ended) c.look_at.ensures.others

-- ---- a listing

pub returns-in-ListTxns-clause-did : goal.returns-in-ListTxns-clause-did
returns-in-ListTxns-clause-did g c = λ input.
    let words = map string_bytes c.args.words.now in
    let repos = c.in_ok-request.request.repos.now in
    let asks = subst (Asks c.args.tool words repos) c.in-ListTxns.is c.in_ok-request.ensures in
    inl (repos, ListTxns, asks, (c.list_at.ensures.listed input, c.list_at.ensures.decided, refl), λ path none. c.list_at.ensures.others path none.0)

pub returns-in-ListTxns-clause-files : goal.returns-in-ListTxns-clause-files
returns-in-ListTxns-clause-files g c = λ path none unpacked.
    let old = g.H.Host.disk_at c.args.host.now in
    let new = g.H.Host.disk_at c.list_at.new.host in
    let repos = c.in_ok-request.request.repos.now in
    same_files old new repos path (firm_same (old repos) (new repos) c.list_at.ensures.ended) c.list_at.ensures.others

pub returns-in-ListTxns-clause-labels : goal.returns-in-ListTxns-clause-labels
returns-in-ListTxns-clause-labels g c = λ path none nor unpacked.
    let old = g.H.Host.disk_at c.args.host.now in
    let new = g.H.Host.disk_at c.list_at.new.host in
    let repos = c.in_ok-request.request.repos.now in
    same_labels old new repos path (labels_firm (old repos) (new repos) c.list_at.ensures.ended) c.list_at.ensures.others

pub returns-in-ListTxns-clause-there_same : goal.returns-in-ListTxns-clause-there_same
returns-in-ListTxns-clause-there_same g c = λ r n t also here has.
    let words = map string_bytes c.args.words.now in
    let repos = c.in_ok-request.request.repos.now in
    absurd (others_alone c.args.tool words repos r ListTxns (Create n) (λ e. cc) (subst (Asks c.args.tool words repos) c.in-ListTxns.is c.in_ok-request.ensures) also)

pub returns-in-ListTxns-clause-any_moment : goal.returns-in-ListTxns-clause-any_moment
returns-in-ListTxns-clause-any_moment g c = λ r n also.
    let words = map string_bytes c.args.words.now in
    let repos = c.in_ok-request.request.repos.now in
    absurd (others_alone c.args.tool words repos r ListTxns (Create n) (λ e. cc) (subst (Asks c.args.tool words repos) c.in-ListTxns.is c.in_ok-request.ensures) also)

pub returns-in-ListTxns-clause-firm : goal.returns-in-ListTxns-clause-firm
returns-in-ListTxns-clause-firm g c = λ r n also.
    let words = map string_bytes c.args.words.now in
    let repos = c.in_ok-request.request.repos.now in
    absurd (others_alone c.args.tool words repos r ListTxns (Create n) (λ e. cc) (subst (Asks c.args.tool words repos) c.in-ListTxns.is c.in_ok-request.ensures) also)

pub returns-in-ListTxns-clause-removal : goal.returns-in-ListTxns-clause-removal
returns-in-ListTxns-clause-removal g c = λ r txns also.
    let words = map string_bytes c.args.words.now in
    let repos = c.in_ok-request.request.repos.now in
    absurd (others_alone c.args.tool words repos r ListTxns (RemoveTxns txns) (λ e. cc) (subst (Asks c.args.tool words repos) c.in-ListTxns.is c.in_ok-request.ensures) also)

pub returns-in-RemoveTxns-clause-there_same : goal.returns-in-RemoveTxns-clause-there_same
returns-in-RemoveTxns-clause-there_same g c = λ r n t also here has.
    let words = map string_bytes c.args.words.now in
    let repos = c.in_ok-request.request.repos.now in
    absurd (others_alone c.args.tool words repos r (RemoveTxns c.in-RemoveTxns.names) (Create n) (λ e. cc) (subst (Asks c.args.tool words repos) c.in-RemoveTxns.is c.in_ok-request.ensures) also)

pub returns-in-RemoveTxns-clause-any_moment : goal.returns-in-RemoveTxns-clause-any_moment
returns-in-RemoveTxns-clause-any_moment g c = λ r n also.
    let words = map string_bytes c.args.words.now in
    let repos = c.in_ok-request.request.repos.now in
    absurd (others_alone c.args.tool words repos r (RemoveTxns c.in-RemoveTxns.names) (Create n) (λ e. cc) (subst (Asks c.args.tool words repos) c.in-RemoveTxns.is c.in_ok-request.ensures) also)

pub returns-in-RemoveTxns-clause-firm : goal.returns-in-RemoveTxns-clause-firm
returns-in-RemoveTxns-clause-firm g c = λ r n also.
    let words = map string_bytes c.args.words.now in
    let repos = c.in_ok-request.request.repos.now in
    absurd (others_alone c.args.tool words repos r (RemoveTxns c.in-RemoveTxns.names) (Create n) (λ e. cc) (subst (Asks c.args.tool words repos) c.in-RemoveTxns.is c.in_ok-request.ensures) also)

-- ---- a removal

pub returns-in-RemoveTxns-clause-did : goal.returns-in-RemoveTxns-clause-did
returns-in-RemoveTxns-clause-did g c = λ input.
    let words = map string_bytes c.args.words.now in
    let repos = c.in_ok-request.request.repos.now in
    let asks = subst (Asks c.args.tool words repos) c.in-RemoveTxns.is c.in_ok-request.ensures in
    inl (repos, RemoveTxns c.in-RemoveTxns.names, asks, (c.remove_at.ensures.removed, c.remove_at.ensures.decided, refl, refl), λ path none. c.remove_at.ensures.others path none.0)

pub returns-in-RemoveTxns-clause-files : goal.returns-in-RemoveTxns-clause-files
returns-in-RemoveTxns-clause-files g c = λ path none unpacked.
    same_files (g.H.Host.disk_at c.args.host.now) (g.H.Host.disk_at c.remove_at.new.host) c.in_ok-request.request.repos.now path c.remove_at.ensures.same c.remove_at.ensures.others

pub returns-in-RemoveTxns-clause-removal : goal.returns-in-RemoveTxns-clause-removal
returns-in-RemoveTxns-clause-removal g c = λ r txns also.
    let words = map string_bytes c.args.words.now in
    let repos = c.in_ok-request.request.repos.now in
    let asks = subst (Asks c.args.tool words repos) c.in-RemoveTxns.is c.in_ok-request.ensures in
    at_removal (λ p. LeavesRemoval (g.H.Host.disk_at c.args.host.now p) (g.H.Host.disk_at c.remove_at.new.host p)) c.args.tool words repos c.in-RemoveTxns.names asks (c.remove_at.ensures.any_moment, c.remove_at.ensures.labels) r txns also

pub returns-in-RemoveTxns-clause-labels : goal.returns-in-RemoveTxns-clause-labels
returns-in-RemoveTxns-clause-labels g c = λ path none nor unpacked.
    let words = map string_bytes c.args.words.now in
    let repos = c.in_ok-request.request.repos.now in
    let asks = subst (Asks c.args.tool words repos) c.in-RemoveTxns.is c.in_ok-request.ensures in
    ap (option_map labels_now) (c.remove_at.ensures.others path (λ e. nor c.in-RemoveTxns.names (subst (λ (p : List ℕ). Asks c.args.tool words p (RemoveTxns c.in-RemoveTxns.names)) (sym e) asks)))

-- ---- packing

pub returns-in-Pack-clause-did : goal.returns-in-Pack-clause-did
returns-in-Pack-clause-did g c = λ input.
    let words = map string_bytes c.args.words.now in
    let repos = c.in_ok-request.request.repos.now in
    let asks = subst (Asks c.args.tool words repos) c.in-Pack.is c.in_ok-request.ensures in
    inl (repos, Pack, asks, (c.pack_at.ensures.packed input, c.pack_at.ensures.decided, refl), λ path none. c.pack_at.ensures.others path none.0)

pub returns-in-Pack-clause-files : goal.returns-in-Pack-clause-files
returns-in-Pack-clause-files g c = λ path none unpacked.
    let words = map string_bytes c.args.words.now in
    let repos = c.in_ok-request.request.repos.now in
    let asks = subst (Asks c.args.tool words repos) c.in-Pack.is c.in_ok-request.ensures in
    ap (option_map files_now) (c.pack_at.ensures.others path (λ e. unpacked (subst (λ (p : List ℕ). Asks c.args.tool words p Pack) (sym e) asks)))

pub returns-in-Pack-clause-labels : goal.returns-in-Pack-clause-labels
returns-in-Pack-clause-labels g c = λ path none nor unpacked.
    let words = map string_bytes c.args.words.now in
    let repos = c.in_ok-request.request.repos.now in
    let asks = subst (Asks c.args.tool words repos) c.in-Pack.is c.in_ok-request.ensures in
    ap (option_map labels_now) (c.pack_at.ensures.others path (λ e. unpacked (subst (λ (p : List ℕ). Asks c.args.tool words p Pack) (sym e) asks)))

pub returns-in-Pack-clause-packed : goal.returns-in-Pack-clause-packed
returns-in-Pack-clause-packed g c = λ r h also.
    let words = map string_bytes c.args.words.now in
    let repos = c.in_ok-request.request.repos.now in
    let asks = subst (Asks c.args.tool words repos) c.in-Pack.is c.in_ok-request.ensures in
    at_pack (λ p. HoldsHistory h (g.H.Host.disk_at c.args.host.now p) → HoldsHistory h (g.H.Host.disk_at c.pack_at.new.host p)) c.args.tool words repos asks (c.pack_at.ensures.kept h) r also

pub returns-in-Pack-clause-there_same : goal.returns-in-Pack-clause-there_same
returns-in-Pack-clause-there_same g c = λ r n t also here has.
    let words = map string_bytes c.args.words.now in
    let repos = c.in_ok-request.request.repos.now in
    absurd (others_alone c.args.tool words repos r Pack (Create n) (λ e. cc) (subst (Asks c.args.tool words repos) c.in-Pack.is c.in_ok-request.ensures) also)

pub returns-in-Pack-clause-any_moment : goal.returns-in-Pack-clause-any_moment
returns-in-Pack-clause-any_moment g c = λ r n also.
    let words = map string_bytes c.args.words.now in
    let repos = c.in_ok-request.request.repos.now in
    absurd (others_alone c.args.tool words repos r Pack (Create n) (λ e. cc) (subst (Asks c.args.tool words repos) c.in-Pack.is c.in_ok-request.ensures) also)

pub returns-in-Pack-clause-firm : goal.returns-in-Pack-clause-firm
returns-in-Pack-clause-firm g c = λ r n also.
    let words = map string_bytes c.args.words.now in
    let repos = c.in_ok-request.request.repos.now in
    absurd (others_alone c.args.tool words repos r Pack (Create n) (λ e. cc) (subst (Asks c.args.tool words repos) c.in-Pack.is c.in_ok-request.ensures) also)

pub returns-in-Pack-clause-removal : goal.returns-in-Pack-clause-removal
returns-in-Pack-clause-removal g c = λ r txns also.
    let words = map string_bytes c.args.words.now in
    let repos = c.in_ok-request.request.repos.now in
    absurd (others_alone c.args.tool words repos r Pack (RemoveTxns txns) (λ e. cc) (subst (Asks c.args.tool words repos) c.in-Pack.is c.in_ok-request.ensures) also)

pub returns-in-Create-clause-packed : goal.returns-in-Create-clause-packed
returns-in-Create-clause-packed g c = λ r h also.
    let words = map string_bytes c.args.words.now in
    let repos = c.in_ok-request.request.repos.now in
    absurd (others_alone c.args.tool words repos r (Create c.in-Create.shard) Pack (λ e. cc) (subst (Asks c.args.tool words repos) c.in-Create.is c.in_ok-request.ensures) also)

pub returns-in-Look-clause-packed : goal.returns-in-Look-clause-packed
returns-in-Look-clause-packed g c = λ r h also.
    let words = map string_bytes c.args.words.now in
    let repos = c.in_ok-request.request.repos.now in
    absurd (others_alone c.args.tool words repos r (Look c.in-Look.look) Pack (λ e. cc) (subst (Asks c.args.tool words repos) c.in-Look.is c.in_ok-request.ensures) also)

pub returns-in-ListTxns-clause-packed : goal.returns-in-ListTxns-clause-packed
returns-in-ListTxns-clause-packed g c = λ r h also.
    let words = map string_bytes c.args.words.now in
    let repos = c.in_ok-request.request.repos.now in
    absurd (others_alone c.args.tool words repos r ListTxns Pack (λ e. cc) (subst (Asks c.args.tool words repos) c.in-ListTxns.is c.in_ok-request.ensures) also)

pub returns-in-RemoveTxns-clause-packed : goal.returns-in-RemoveTxns-clause-packed
returns-in-RemoveTxns-clause-packed g c = λ r h also.
    let words = map string_bytes c.args.words.now in
    let repos = c.in_ok-request.request.repos.now in
    absurd (others_alone c.args.tool words repos r (RemoveTxns c.in-RemoveTxns.names) Pack (λ e. cc) (subst (Asks c.args.tool words repos) c.in-RemoveTxns.is c.in_ok-request.ensures) also)

-- ---- a script is svnjobs' own

pub unreachable-requires : goal.unreachable-requires
unreachable-requires g c =
    let words = map string_bytes c.args.words.now in
    let repos = c.in_ok-request.request.repos.now in
    c.requires (asks_task c.args.tool words repos _ (subst (Asks c.args.tool words repos) c.in-RunJobs.is c.in_ok-request.ensures)).0

pub returns-in_err-request-clause-any_moment : goal.returns-in_err-request-clause-any_moment
returns-in_err-request-clause-any_moment g c = λ repos shard asks all.
    let disk = g.H.Host.disk_at c.args.host.now repos in
    (some_drawn (g.C.Clock.next c.args.clock.now) (g.R.Dice.next c.args.dice.now), same_leaves disk disk _ refl)
