use Rattle.std.proofs.Common.{◌≡◌, map, ap, ◌∙◌, arith, refl}
use Rattle.std.specs.Prelude.{option_map}
use Rattle.fsfs_disk.proofs.CrashLemmas.{firm_after}
use Rattle.fsfs_create.specs.Creation.{after_firm, after_rename}
use Rattle.fsfs_base.specs.Failures.{Rose}
use Rattle.fsfs_layout.specs.Layouts.{shard_size}
use Rattle.fsfs_stands.proofs.NewRepository.{format_is}
use Rattle.fsfs_layout.specs.CreatedFiles.{identifier_text, unpublished_files, format_text}
use Rattle.fsfs_create.specs.NewFiles.{named}
use Rattle.fsfs_create.proofs.CrashLemmas.{last_done, leaves_done, leaves_stopped, leaves_whole, ended_so, stopped_so}
use Rattle.fsfs_create.proofs.CreatedFilesLemmas.{created_files_now, not_there, not_both, no_format}
use Rattle.fsfs_create.proofs.NewStoreLemmas.{none_or_new, all_new}
use Rattle.fsfs_create.proofs.creation.create.Goals as goal

pub returns-in-Ok-clause-created : goal.returns-in-Ok-clause-created
returns-in-Ok-clause-created g c =
    let told = g.D.Disk.trace in
    let old = told c.args.disk.now in
    let new = told c.write_files.new.disk in
    let date = c.in_ok-date.date.items in
    let id = identifier_text c.args.identifier in
    let files : map named c.deref-2.result.now ≡ unpublished_files id date = ap (map named) c.deref-2.ensures.value ∙ c.in_ok-files.ensures ∙ ap (unpublished_files id) c.deref.ensures.value in
    let format : c.deref-3.result.now ≡ format_text (shard_size c.args.layout) = c.deref-3.ensures.value ∙ c.in_ok-format.ensures.text ∙ format_is c.args.layout c.requires.packs in
    let done = ended_so (shard_size c.args.layout) id date (map named c.deref-2.result.now) c.deref-3.result.now old (told c.size.new.self) new files format c.in-Ok-None.ensures.same c.in-Ok.ensures.done in
    (date, c.in_ok-date.ensures, created_files_now (shard_size c.args.layout) id date old new done)

pub returns-in-Ok-clause-fresh : goal.returns-in-Ok-clause-fresh
returns-in-Ok-clause-fresh g c = not_there (g.D.Disk.trace c.args.disk.now) c.name.result c.in-Ok-None.field-0 c.name.ensures c.in-Ok-None.field-0-is c.in-Ok-None.ensures.length

pub returns-in-Ok-clause-there_same : goal.returns-in-Ok-clause-there_same
returns-in-Ok-clause-there_same g c = λ t is here. absurd (not_both (g.D.Disk.trace c.args.disk.now) t (not_there (g.D.Disk.trace c.args.disk.now) c.name.result c.in-Ok-None.field-0 c.name.ensures c.in-Ok-None.field-0-is c.in-Ok-None.ensures.length) is here)

pub returns-in-Ok-clause-any_moment : goal.returns-in-Ok-clause-any_moment
returns-in-Ok-clause-any_moment g c = λ all.
    let told = g.D.Disk.trace in
    let old = told c.args.disk.now in
    let new = told c.write_files.new.disk in
    let date = c.in_ok-date.date.items in
    let id = identifier_text c.args.identifier in
    let files : map named c.deref-2.result.now ≡ unpublished_files id date = ap (map named) c.deref-2.ensures.value ∙ c.in_ok-files.ensures ∙ ap (unpublished_files id) c.deref.ensures.value in
    let format : c.deref-3.result.now ≡ format_text (shard_size c.args.layout) = c.deref-3.ensures.value ∙ c.in_ok-format.ensures.text ∙ format_is c.args.layout c.requires.packs in
    let done = ended_so (shard_size c.args.layout) id date (map named c.deref-2.result.now) c.deref-3.result.now old (told c.size.new.self) new files format c.in-Ok-None.ensures.same c.in-Ok.ensures.done in
    leaves_whole (shard_size c.args.layout) id date c.args.moment old new c.in_ok-date.ensures (leaves_done (unpublished_files id date) (format_text (shard_size c.args.layout)) old new (no_format id date) done all)

pub returns-clause-refused : goal.returns-clause-refused
returns-clause-refused g c =
    let rose : Rose (g.D.Disk.faults c.args.disk.now) (g.D.Disk.faults c.write_files.new.disk) = omega (arith, c.in-Ok-None.ensures.cause.later, c.in-Err-write_files.ensures.failed) in
    let told = g.D.Disk.trace in
    let old = told c.args.disk.now in
    let new = told c.write_files.new.disk in
    let date = c.in_ok-date.date.items in
    let id = identifier_text c.args.identifier in
    let files : map named c.deref-2.result.now ≡ unpublished_files id date = ap (map named) c.deref-2.ensures.value ∙ c.in_ok-files.ensures ∙ ap (unpublished_files id) c.deref.ensures.value in
    let format : c.deref-3.result.now ≡ format_text (shard_size c.args.layout) = c.deref-3.ensures.value ∙ c.in_ok-format.ensures.text ∙ format_is c.args.layout c.requires.packs in
    let stopped = stopped_so c.in-Err-write_files.place (shard_size c.args.layout) id date (map named c.deref-2.result.now) c.deref-3.result.now old (told c.size.new.self) new files format c.in-Ok-None.ensures.same c.in-Err-write_files.ensures.stopped in
    (rose, (date, c.in_ok-date.ensures, stopped))

pub returns-clause-there_same : goal.returns-clause-there_same
returns-clause-there_same g c = λ t is here. absurd (not_both (g.D.Disk.trace c.args.disk.now) t (not_there (g.D.Disk.trace c.args.disk.now) c.name.result c.in-Ok-None.field-0 c.name.ensures c.in-Ok-None.field-0-is c.in-Ok-None.ensures.length) is here)

pub returns-clause-any_moment : goal.returns-clause-any_moment
returns-clause-any_moment g c = λ all.
    let told = g.D.Disk.trace in
    let old = told c.args.disk.now in
    let new = told c.write_files.new.disk in
    let date = c.in_ok-date.date.items in
    let id = identifier_text c.args.identifier in
    let files : map named c.deref-2.result.now ≡ unpublished_files id date = ap (map named) c.deref-2.ensures.value ∙ c.in_ok-files.ensures ∙ ap (unpublished_files id) c.deref.ensures.value in
    let format : c.deref-3.result.now ≡ format_text (shard_size c.args.layout) = c.deref-3.ensures.value ∙ c.in_ok-format.ensures.text ∙ format_is c.args.layout c.requires.packs in
    let stopped = stopped_so c.in-Err-write_files.place (shard_size c.args.layout) id date (map named c.deref-2.result.now) c.deref-3.result.now old (told c.size.new.self) new files format c.in-Ok-None.ensures.same c.in-Err-write_files.ensures.stopped in
    leaves_whole (shard_size c.args.layout) id date c.args.moment old new c.in_ok-date.ensures
    (leaves_stopped c.in-Err-write_files.place (unpublished_files id date) (format_text (shard_size c.args.layout)) old new (no_format id date) stopped all)

pub returns-in-Ok-clause-firm : goal.returns-in-Ok-clause-firm
returns-in-Ok-clause-firm g c =
    let told = g.D.Disk.trace in
    let old = told c.args.disk.now in
    let new = told c.write_files.new.disk in
    let date = c.in_ok-date.date.items in
    let id = identifier_text c.args.identifier in
    let files : map named c.deref-2.result.now ≡ unpublished_files id date = ap (map named) c.deref-2.ensures.value ∙ c.in_ok-files.ensures ∙ ap (unpublished_files id) c.deref.ensures.value in
    let format : c.deref-3.result.now ≡ format_text (shard_size c.args.layout) = c.deref-3.ensures.value ∙ c.in_ok-format.ensures.text ∙ format_is c.args.layout c.requires.packs in
    let done = ended_so (shard_size c.args.layout) id date (map named c.deref-2.result.now) c.deref-3.result.now old (told c.size.new.self) new files format c.in-Ok-None.ensures.same c.in-Ok.ensures.done in
    let firm = option_map (after_firm (unpublished_files id date)) old in
    firm_after (option_map (after_rename (format_text (shard_size c.args.layout))) firm) new (last_done (unpublished_files id date) (format_text (shard_size c.args.layout)) old new firm done refl)

pub returns-in-Ok-clause-stands_or_none : goal.returns-in-Ok-clause-stands_or_none
returns-in-Ok-clause-stands_or_none g c = none_or_new c.args.layout c.args.moment c.args.identifier (g.D.Disk.trace c.args.disk.now) (g.D.Disk.trace c.write_files.new.disk) c.requires.packs (returns-in-Ok-clause-any_moment g c)

pub returns-clause-stands_or_none : goal.returns-clause-stands_or_none
returns-clause-stands_or_none g c = none_or_new c.args.layout c.args.moment c.args.identifier (g.D.Disk.trace c.args.disk.now) (g.D.Disk.trace c.write_files.new.disk) c.requires.packs (returns-clause-any_moment g c)

pub returns-in-Ok-clause-stands : goal.returns-in-Ok-clause-stands
returns-in-Ok-clause-stands g c = all_new c.args.layout c.args.moment c.args.identifier (g.D.Disk.trace c.args.disk.now) (g.D.Disk.trace c.write_files.new.disk) c.requires.packs (returns-in-Ok-clause-created g c) (returns-in-Ok-clause-firm g c)
