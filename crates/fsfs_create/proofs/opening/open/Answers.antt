use Rattle.std.proofs.Common.{◌≡◌, Option, option_map, sym, subst, ◌∙◌}
use Rattle.fsfs_disk.specs.Trace.{Trace, files_now, FailsAt, FirmNames}
use Rattle.fsfs_disk.proofs.TraceLemmas.{ended}
use Rattle.fsfs_base.specs.Failures.{Rose}
use Rattle.fsfs_create.specs.OpenFaults.{texts_of}
use Rattle.fsfs_create.proofs.OpeningLemmas.{all_because, same_texts, firm_same, firm_then}
use Rattle.fsfs_create.proofs.DecidingLemmas.{decides_now, opened_now}
use Rattle.fsfs_create.proofs.opening.open.Goals as goal

pub returns-clause-refused : goal.returns-clause-refused
returns-clause-refused g c =
    let told = g.D.Disk.trace in
    let firm : option_map files_now (told c.firm_names.new.self) ≡ option_map files_now (told c.args.disk.now) =
    firm_same (told c.args.disk.now) (told c.firm_names.new.self) (ended FirmNames (told c.args.disk.now) (told c.firm_names.new.self) c.firm_names.result c.firm_names.ensures.ok c.firm_names.ensures.err) in
    all_because (Rose (g.D.Disk.faults c.args.disk.now) (g.D.Disk.faults c.read_small_files.new.disk)) (told c.args.disk.now) (texts_of c.in_ok-files.files) c.judge.result
    (same_texts (told c.args.disk.now) (told c.firm_names.new.self) (texts_of c.in_ok-files.files) firm c.in_ok-files.ensures.texts) c.judge.ensures.refused

pub returns-clause-decided : goal.returns-clause-decided
returns-clause-decided g c =
    let told = g.D.Disk.trace in
    let firm : option_map files_now (told c.firm_names.new.self) ≡ option_map files_now (told c.args.disk.now) =
    firm_same (told c.args.disk.now) (told c.firm_names.new.self) (ended FirmNames (told c.args.disk.now) (told c.firm_names.new.self) c.firm_names.result c.firm_names.ensures.ok c.firm_names.ensures.err) in
    decides_now (told c.args.disk.now) (texts_of c.in_ok-files.files) c.judge.result
    (same_texts (told c.args.disk.now) (told c.firm_names.new.self) (texts_of c.in_ok-files.files) firm c.in_ok-files.ensures.texts) c.judge.ensures.decided

pub returns-clause-opened : goal.returns-clause-opened
returns-clause-opened g c =
    let told = g.D.Disk.trace in
    let firm : option_map files_now (told c.firm_names.new.self) ≡ option_map files_now (told c.args.disk.now) =
    firm_same (told c.args.disk.now) (told c.firm_names.new.self) (ended FirmNames (told c.args.disk.now) (told c.firm_names.new.self) c.firm_names.result c.firm_names.ensures.ok c.firm_names.ensures.err) in
    opened_now (told c.args.disk.now) (texts_of c.in_ok-files.files) c.judge.result
    (same_texts (told c.args.disk.now) (told c.firm_names.new.self) (texts_of c.in_ok-files.files) firm c.in_ok-files.ensures.texts) c.judge.ensures.opened

pub returns-clause-ended : goal.returns-clause-ended
returns-clause-ended g c =
    let told = g.D.Disk.trace in
    subst (λ (o : Option Trace). FailsAt FirmNames (told c.args.disk.now) o) (sym c.in_ok-files.ensures.same)
    (ended FirmNames (told c.args.disk.now) (told c.firm_names.new.self) c.firm_names.result c.firm_names.ensures.ok c.firm_names.ensures.err)

pub returns-clause-firm : goal.returns-clause-firm
returns-clause-firm g c =
    let told = g.D.Disk.trace in
    firm_then (told c.args.disk.now) (told c.firm_names.new.self) (told c.read_small_files.new.disk) c.firm_names.result c.judge.result (sym c.is_err.ensures.value ∙ c.if-is_err.false) c.firm_names.ensures.ok c.in_ok-files.ensures.same
