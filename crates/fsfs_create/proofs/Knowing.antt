-- What the laws of turns say of a store that was just opened.
use Rattle.std.proofs.Common.{◌≡◌, ℕ, List, ◌∷◌, length, refl, ap, sym, subst, ◌∙◌, arith}
use Rattle.std.specs.Prelude.{Option, Some, None, IfSome, Ok}
use Rattle.fsfs_tree.specs.Revisions.{Revision}
use Rattle.fsfs_layout.specs.Opening.{small_texts, IsOpened, SaysFormat}
use Rattle.fsfs_layout.specs.Small.{IsMinUnpackedRev}
use Rattle.fsfs_layout.specs.declared.layout.Layout.{Layout}
use Rattle.fsfs_layout.specs.declared.small_files.format_file.FormatFile.TheVariants.{Known}
use Rattle.fsfs_layout.specs.declared.opened.Opened.{Opened}
use Rattle.fsfs_layout.proofs.OpeningLemmas.{one_youngest, one_layout, says_one}
use Rattle.fsfs_revision.specs.RevBytes.{rev_bytes}
use Rattle.fsfs_disk.specs.Trace.{Trace, Done, FirmNames, files_now, add_operation, Performs}
use Rattle.fsfs_disk.proofs.CrashLemmas.{files_are_image}
use Rattle.fsfs_stands.specs.Files.{StandsFor}
use Rattle.fsfs_machine.specs.declared.machine.Lock.{Lock}
use Rattle.fsfs_machine.specs.declared.machine.Lock.TheVariants.{Free, Held, Stuck, StuckFloor, Down, DownDoubtful, DownFloor}
use Rattle.fsfs_machine.specs.Machine.{revisions, stuck_place}
use Rattle.fsfs_machine.proofs.Growing.{revisions_length}
use Rattle.fsfs_turn.specs.Views.{View}
use Rattle.fsfs_turn.specs.Alone.{KnowsAlone}
use Rattle.fsfs_turn.specs.Standing.{Knows}
use Rattle.fsfs_turn.specs.Past.{stuck_with}
use Rattle.fsfs_turn.proofs.Openings.{store_is_known}
use Rattle.fsfs_turn.proofs.Wholeness.{seen_is_whole}
use Rattle.fsfs_create.specs.Known.{HasSeenAll, HoldBytes}
use Rattle.fsfs_create.proofs.NewStoreLemmas.{one_floor}

-- the files then had the bytes beside each revision
hold_bytes : (layout : Layout) (low young : ℕ) (t : Trace) (v : View) → Knows layout low young None (Some (add_operation (Done FirmNames) t)) v → SaysFormat (small_texts (files_now t)) (Known layout) → HoldBytes (files_now t) v.seen
hold_bytes layout low young t v known says at said r x there =
    let same : layout ≡ at = (let e = says_one (small_texts (files_now t)) (Known layout) (Known at) says said in cc) in
    let whole = (seen_is_whole layout low young None (add_operation (Done FirmNames) t) v known (files_now t) (files_are_image t.first (Done FirmNames ∷ t.operations))).0 in
    subst (λ l. rev_bytes l (files_now t) r ≡ Ok x.bytes) same (whole r x there).bytes

-- a lock that is not stuck leaves none in doubt
free_left : (lock : Lock) → stuck_place lock ≡ None → stuck_with lock ≡ None
free_left Free free = refl
free_left (Held q s) free = refl
free_left (Stuck place x) free = absurd cc
free_left (StuckFloor place) free = absurd cc
free_left Down free = refl
free_left (DownDoubtful x) free = refl
free_left DownFloor free = refl

none_left : (layout : Layout) (low young : ℕ) (t : Trace) (v : View) → Knows layout low young None (Some (add_operation (Done FirmNames) t)) v → v.left ≡ None
none_left layout low young t v known = sym known.7 ∙ free_left known.0.lock known.1.stuck_is

-- the names were made firm, and the small files said so: a pass that has seen the history is known by what they said
pub known_now : (old new : Option Trace) (said : Opened) (knows : View → Type 0) → Performs FirmNames old new → IfSome old (λ t. IsOpened (small_texts (files_now t)) said)
    → ((v : View) → KnowsAlone said.layout said.min_unpacked_rev said.youngest None new v → knows v)
    → IfSome old (λ t. (h : List Revision) (stands : StandsFor (files_now t) h) → HasSeenAll knows t stands.opened.min_unpacked_rev stands.opened.next_txn.number h)
known_now None new said knows firm opened known = tt
known_now (Some t) new said knows firm opened known = λ h stands.
    let k = store_is_known t.first t.labels t.operations h stands in
    let layout : stands.opened.layout ≡ said.layout = one_layout (small_texts (files_now t)) stands.opened said stands.small opened in
    let youngest : stands.opened.youngest ≡ said.youngest = one_youngest (small_texts (files_now t)) stands.opened said stands.small opened in
    let floor : stands.opened.min_unpacked_rev ≡ said.min_unpacked_rev = one_floor said.layout (files_now t) stands.opened.min_unpacked_rev said.min_unpacked_rev
    (subst (λ (l : Layout). IsMinUnpackedRev l (small_texts (files_now t)).min_unpacked_rev stands.opened.min_unpacked_rev) layout stands.small.behind.min_unpacked_rev) opened.behind.min_unpacked_rev in
    let at_layout = subst (λ l. KnowsAlone l stands.opened.min_unpacked_rev stands.opened.youngest None (Some (record { first = t.first; labels = t.labels; operations = Done FirmNames ∷ t.operations })) k.0) layout k.1 in
    let at_floor = subst (λ f. KnowsAlone said.layout f stands.opened.youngest None (Some (record { first = t.first; labels = t.labels; operations = Done FirmNames ∷ t.operations })) k.0) floor at_layout in
    let at_youngest = subst (λ y. KnowsAlone said.layout said.min_unpacked_rev y None (Some (record { first = t.first; labels = t.labels; operations = Done FirmNames ∷ t.operations })) k.0) youngest at_floor in
    let mine : length k.0.pass.mine ≡ 0 = ap (λ p. length p.mine) k.3 in
    let long : length (revisions k.0.seen) ≡ length h = ap length k.4 in
    let floor_is = stands.opened.min_unpacked_rev in
    let held = hold_bytes stands.opened.layout floor_is stands.opened.youngest t k.0 k.1.0 stands.small.format in
    (k.0, known k.0 (subst (λ o. KnowsAlone said.layout said.min_unpacked_rev said.youngest None o k.0) (sym firm) at_youngest), k.2, k.3, k.4, k.5, omega (arith, k.1.1.own, mine, long, revisions_length k.0.seen), k.6, held, none_left stands.opened.layout floor_is stands.opened.youngest t k.0 k.1.0)
