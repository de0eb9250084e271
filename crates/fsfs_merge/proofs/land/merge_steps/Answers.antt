use Rattle.std.proofs.Common.{◌≡◌, refl, sym, subst, arith}
use Rattle.std.specs.Prelude.{Ok, Err}
use Rattle.std.proofs.lemmas.Result.{err_from_is_err_and}
use Rattle.fsfs_revision.specs.Damage.Readings.{Answers}
use Rattle.fsfs_draft.specs.Drafts.{Folder}
use Rattle.fsfs_draft.specs.Edits.{IsDraftAfter}
use Rattle.fsfs_merge.specs.declared.clash.walk.Merge.{Merge}
use Rattle.fsfs_merge.specs.declared.clash.walk.Merge.TheVariants as merges
use Rattle.fsfs_merge.specs.Clash.Merges.{FindsMerge, MergeOf}
use Rattle.fsfs_merge.specs.Relinked.{AreHere, AreRelinked, IsUnwritten}
use Rattle.fsfs_merge.proofs.Answering.{this, read_stays, write_stays, write_quiet, read_told, write_told}
use Rattle.fsfs_merge.proofs.Planned.{plans_land}
use Rattle.fsfs_merge.proofs.land.merge_steps.Goals as goal

-- ---- the reading failed

pub returns-in_err-found-clause-draft : goal.returns-in_err-found-clause-draft
returns-in_err-found-clause-draft g c = λ look top trees tree marks knows shows less within is whole.
    let d : IsDraftAfter look trees top c.args.base (g.N.Own.txn c.args.own.now) (g.N.Own.folder c.args.own.now) tree marks =
    subst (λ (f : Folder). IsDraftAfter look trees top c.args.base (g.N.Own.txn c.args.own.now) f tree marks) (sym c.requires.whole) whole in
    let r = err_from_is_err_and c.from_residual.result c.from_residual.ensures.1 in
    rw (r.1, r.2) (read_stays c.in_err-found.field-0.0 _ (c.in_err-found.ensures.draft look top trees tree marks knows shows (omega (arith, less)) within is d.0) refl)

pub returns-in_err-found-clause-told : goal.returns-in_err-found-clause-told
returns-in_err-found-clause-told g c = λ look top see knows le_b le_h.
    let txn = g.N.Own.txn c.args.own.now in
    let settled = g.N.Own.settled c.args.own.now in
    let e = c.in_err-found.field-0.0 in
    let r = err_from_is_err_and c.from_residual.result c.from_residual.ensures.1 in
    let told = subst (λ (f : Folder). Answers this (MergeOf look top txn f c.args.base c.args.head see) (Err e)) c.requires.whole (c.in_err-found.ensures.told look top see knows le_b le_h) in
    rw (r.1, r.2) (read_told look top txn c.args.base c.args.head see settled settled e told refl)

-- ---- a clash

pub returns-in-Clash-clause-draft : goal.returns-in-Clash-clause-draft
returns-in-Clash-clause-draft g c = λ look top trees tree marks knows shows less within is whole.
    let d : IsDraftAfter look trees top c.args.base (g.N.Own.txn c.args.own.now) (g.N.Own.folder c.args.own.now) tree marks =
    subst (λ (f : Folder). IsDraftAfter look trees top c.args.base (g.N.Own.txn c.args.own.now) f tree marks) (sym c.requires.whole) whole in
    let first = subst (λ (m : Merge). FindsMerge look top trees c.args.base c.args.head d.0.shows.own tree marks (Ok m)) c.in-Clash.is (c.in_ok-found.ensures.draft look top trees tree marks knows shows (omega (arith, less)) within is d.0) in
    (first, refl)

pub returns-in-Clash-clause-told : goal.returns-in-Clash-clause-told
returns-in-Clash-clause-told g c = λ look top see knows le_b le_h.
    let txn = g.N.Own.txn c.args.own.now in
    let of_folder = subst (λ (m : Merge). MergeOf look top txn (g.N.Own.folder c.args.own.now) c.args.base c.args.head see (Ok m)) c.in-Clash.is (c.in_ok-found.ensures.told look top see knows le_b le_h) in
    (subst (λ (f : Folder). MergeOf look top txn f c.args.base c.args.head see (Ok (merges.Clash c.in-Clash.path))) c.requires.whole of_folder, refl)

-- ---- the directories were not written

pub returns-in_err-write-in-Dirs-clause-draft : goal.returns-in_err-write-in-Dirs-clause-draft
returns-in_err-write-in-Dirs-clause-draft g c = λ look top trees tree marks knows shows less within is whole.
    let txn = g.N.Own.txn c.args.own.now in
    let folder = g.N.Own.folder c.args.own.now in
    let dirs = c.in-Dirs.dirs in
    let d : IsDraftAfter look trees top c.args.base txn folder tree marks = subst (λ (f : Folder). IsDraftAfter look trees top c.args.base txn f tree marks) (sym c.requires.whole) whole in
    let found = subst (λ (m : Merge). FindsMerge look top trees c.args.base c.args.head d.0.shows.own tree marks (Ok m)) c.in-Dirs.is (c.in_ok-found.ensures.draft look top trees tree marks knows shows (omega (arith, less)) within is d.0) in
    let here = plans_land.here look trees top c.args.base c.args.head txn folder tree marks dirs.items shows less within is d.0 found.0 found.1 in
    let r = err_from_is_err_and c.from_residual-in_err-write-in-Dirs.result c.from_residual-in_err-write-in-Dirs.ensures.1 in
    rw (r.1, r.2) (write_stays c.in_err-write-in-Dirs.field-0.0 _ _ (λ never. never here) c.in_err-write-in-Dirs.ensures.not_done)

pub returns-in_err-write-in-Dirs-clause-told : goal.returns-in_err-write-in-Dirs-clause-told
returns-in_err-write-in-Dirs-clause-told g c = λ look top see knows le_b le_h.
    let txn = g.N.Own.txn c.args.own.now in
    let settled = g.N.Own.settled c.args.own.now in
    let after = g.N.Own.settled c.write.new.own in
    let dirs = c.in-Dirs.dirs in
    let e = c.in_err-write-in-Dirs.field-0.0 in
    let of_folder = subst (λ (m : Merge). MergeOf look top txn (g.N.Own.folder c.args.own.now) c.args.base c.args.head see (Ok m)) c.in-Dirs.is (c.in_ok-found.ensures.told look top see knows le_b le_h) in
    let found = subst (λ (f : Folder). MergeOf look top txn f c.args.base c.args.head see (Ok (merges.Dirs dirs))) c.requires.whole of_folder in
    let not_done = subst (λ (f : Folder). IsUnwritten e (AreHere f dirs.items → ⊥) (after ≡ settled)) c.requires.whole c.in_err-write-in-Dirs.ensures.not_done in
    let r = err_from_is_err_and c.from_residual-in_err-write-in-Dirs.result c.from_residual-in_err-write-in-Dirs.ensures.1 in
    rw (r.1, r.2) (write_told look top txn c.args.base c.args.head see settled after e dirs found not_done)

pub returns-in_err-write-in-Dirs-clause-cause : goal.returns-in_err-write-in-Dirs-clause-cause
returns-in_err-write-in-Dirs-clause-cause g c =
    let r = err_from_is_err_and c.from_residual-in_err-write-in-Dirs.result c.from_residual-in_err-write-in-Dirs.ensures.1 in
    rw (r.1, r.2) (record { later = c.in_ok-found.ensures.cause.later; failed = write_quiet c.in_err-write-in-Dirs.field-0.0 _ _ _ c.in_err-write-in-Dirs.ensures.not_done })

-- ---- they were

pub returns-in_ok-write-in-Dirs-clause-draft : goal.returns-in_ok-write-in-Dirs-clause-draft
returns-in_ok-write-in-Dirs-clause-draft g c = λ look top trees tree marks knows shows less within is whole.
    let txn = g.N.Own.txn c.args.own.now in
    let folder = g.N.Own.folder c.args.own.now in
    let dirs = c.in-Dirs.dirs in
    let d : IsDraftAfter look trees top c.args.base txn folder tree marks = subst (λ (f : Folder). IsDraftAfter look trees top c.args.base txn f tree marks) (sym c.requires.whole) whole in
    let found = subst (λ (m : Merge). FindsMerge look top trees c.args.base c.args.head d.0.shows.own tree marks (Ok m)) c.in-Dirs.is (c.in_ok-found.ensures.draft look top trees tree marks knows shows (omega (arith, less)) within is d.0) in
    (found.0, plans_land.lands look trees top c.args.base c.args.head txn folder (g.N.Own.settled c.write.new.own) tree marks dirs.items shows less within is d found.0 found.1 c.in_ok-write-in-Dirs.ensures.done)

pub returns-in_ok-write-in-Dirs-clause-told : goal.returns-in_ok-write-in-Dirs-clause-told
returns-in_ok-write-in-Dirs-clause-told g c = λ look top see knows le_b le_h.
    let txn = g.N.Own.txn c.args.own.now in
    let after = g.N.Own.settled c.write.new.own in
    let dirs = c.in-Dirs.dirs in
    let of_folder = subst (λ (m : Merge). MergeOf look top txn (g.N.Own.folder c.args.own.now) c.args.base c.args.head see (Ok m)) c.in-Dirs.is (c.in_ok-found.ensures.told look top see knows le_b le_h) in
    (dirs, subst (λ (f : Folder). MergeOf look top txn f c.args.base c.args.head see (Ok (merges.Dirs dirs))) c.requires.whole of_folder, subst (λ (f : Folder). AreRelinked f after dirs.items) c.requires.whole c.in_ok-write-in-Dirs.ensures.done)
